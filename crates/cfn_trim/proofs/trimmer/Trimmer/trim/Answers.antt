use Rattle.std.proofs.Common.{length, sym, ◌∙◌, subst}
use Rattle.std.specs.Prelude.{IfSome, ◌<◌}
use Rattle.cfn_model.specs.Network.{Network}
use Rattle.cfn_trim.specs.Making.{AreInRange}
use Rattle.cfn_trim.specs.Trimming.{AreSome}
use Rattle.cfn_trim.proofs.Ranges.{run_range}
use Rattle.cfn_trim.proofs.Parts.{some_all}
use Rattle.cfn_trim.proofs.Marks.{begin_behind, undone_beside, undone_room, beside_then}
use Rattle.cfn_trim.proofs.Closing.{closes_behind}
use Rattle.cfn_trim.proofs.trimmer.Trimmer.trim.Goals as goal

pub returns-then-block_len-lt-FEWEST_STEPS-clause-some : goal.returns-then-block_len-lt-FEWEST_STEPS-clause-some
returns-then-block_len-lt-FEWEST_STEPS-clause-some c = subst (λ whole. AreSome whole c.args.store.now.block) (sym c.in_ok-whole.ensures) (some_all c.args.store.now.block)

pub emptied-empty-requires : goal.emptied-empty-requires
emptied-empty-requires c = record {
  range = subst (λ (P : Network). AreInRange P c.args.store.now.block) (sym c.requires.network) (run_range c.args.self.now c.args.store.now.base c.args.store.now.block c.args.threshold c.requires.runs);
}

pub choose-requires-clause-range : goal.choose-requires-clause-range
choose-requires-clause-range c = run_range c.args.self.now c.args.store.now.base c.args.store.now.block c.args.threshold c.requires.runs

pub undo-requires : goal.undo-requires
undo-requires c = begin_behind c.args.begin.now c.args.store.now c.requires.begins

pub run-requires-clause-range : goal.run-requires-clause-range
run-requires-clause-range c =
    subst (λ (P : Network). AreInRange P c.in_ok-whole.whole) (sym ((undone_beside c.args.begin.now c.args.store.now c.undo.new.self c.requires.begins c.undo.ensures).network ∙ c.requires.network))
    (subst (AreInRange c.args.self.now) (sym c.in_ok-whole.ensures) (run_range c.args.self.now c.args.store.now.base c.args.store.now.block c.args.threshold c.requires.runs))

pub run-requires-clause-room : goal.run-requires-clause-room
run-requires-clause-room c = undone_room c.args.begin.now c.args.store.now c.undo.new.self c.in_ok-whole.whole c.requires.begins c.undo.ensures c.in_ok-whole.ensures

pub closes-requires : goal.closes-requires
closes-requires c = record {
  variable = subst (λ (P : Network). IfSome c.emptied-empty.result (λ x. x < length P.sizes)) (sym (c.run.ensures.beside.network ∙ (undone_beside c.args.begin.now c.args.store.now c.undo.new.self c.requires.begins c.undo.ensures).network)) c.emptied-empty.ensures;
}

pub returns-then-not-run-clause-some : goal.returns-then-not-run-clause-some
returns-then-not-run-clause-some c = subst (λ whole. AreSome whole c.args.store.now.block) (sym c.in_ok-whole.ensures) (some_all c.args.store.now.block)

pub returns-then-not-run-clause-beside : goal.returns-then-not-run-clause-beside
returns-then-not-run-clause-beside c = beside_then c.args.store.now c.undo.new.self c.run.new.store (undone_beside c.args.begin.now c.args.store.now c.undo.new.self c.requires.begins c.undo.ensures) c.run.ensures.beside

pub returns-clause-closes : goal.returns-clause-closes
returns-clause-closes c =
    closes_behind c.args.self.now c.args.store.now c.run.new.store c.args.threshold c.block-2.result c.requires.network
    (beside_then c.args.store.now c.undo.new.self c.run.new.store (undone_beside c.args.begin.now c.args.store.now c.undo.new.self c.requires.begins c.undo.ensures) c.run.ensures.beside)
    (c.closes.ensures c.if-not-closes.false) c.block-2.ensures

pub returns-clause-beside : goal.returns-clause-beside
returns-clause-beside c = beside_then c.args.store.now c.undo.new.self c.run.new.store (undone_beside c.args.begin.now c.args.store.now c.undo.new.self c.requires.begins c.undo.ensures) c.run.ensures.beside

pub returns-then-not-branch-clause-some : goal.returns-then-not-branch-clause-some
returns-then-not-branch-clause-some c = subst (λ whole. AreSome whole c.args.store.now.block) (sym c.in_ok-whole.ensures) (some_all c.args.store.now.block)
