use Rattle.std.proofs.Common.{◌≤◌, length, ◌∙◌}
use Rattle.std.proofs.lemmas.Result.{IfOk-weaker}
use Rattle.cfn_trim.specs.Trimming.{AreSome}
use Rattle.cfn_trim.proofs.Parts.{some_length}
use Rattle.cfn_trim.proofs.Marks.{begin_behind, begin_beside, back_same}
use Rattle.cfn_trim.proofs.trimmer.Trimmer.closing_block.Goals as goal

pub undo-requires : goal.undo-requires
undo-requires c = begin_behind c.args.mark.now c.trim-result.new.store (begin_beside c.args.mark.now c.args.store.now c.trim-result.new.store c.requires.begins c.trim-result.ensures.beside)

pub returns-clause-no_longer : goal.returns-clause-no_longer
returns-clause-no_longer c =
    IfOk-weaker c.trim-result.result (λ block. AreSome block c.args.store.now.block) (λ block. length block ≤ length c.args.store.now.block)
    (λ block some. some_length block c.args.store.now.block some) c.trim-result.ensures.some

pub returns-clause-store : goal.returns-clause-store
returns-clause-store c = c.undo.ensures ∙ back_same c.args.mark.now c.args.store.now c.trim-result.new.store c.requires.begins c.trim-result.ensures.beside
