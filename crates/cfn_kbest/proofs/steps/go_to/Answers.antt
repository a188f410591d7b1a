use Rattle.std.proofs.Common.{sym, ap, ◌∙◌, subst}
use Rattle.cfn_proof.specs.Nodes.{Before}
use Rattle.cfn_leaves.specs.Ways.{IsPathOf}
use Rattle.cfn_model.specs.Steps.{after}
use Rattle.cfn_kbest.proofs.Marks.{stands_behind}
use Rattle.cfn_kbest.proofs.Turns.{path_is, path_runs, path_tame}
use Rattle.cfn_kbest.proofs.steps.go_to.Goals as goal

pub replay-requires-clause-runs : goal.replay-requires-clause-runs
replay-requires-clause-runs c =
    let r = c.args.ranking.now in
    let i = c.args.leaf.number in
    let path = c.in_ok-path.path in
    let before : Before r.nodes i path = path_is c.args.network.now r i path c.requires.ranked c.requires.waits (subst (λ n. IsPathOf n i path) c.tree.ensures c.in_ok-path.ensures) in
    path_runs c.args.network.now c.args.parts.now.store.network r i path c.requires.of.network c.requires.ranked before

pub replay-requires-clause-tame : goal.replay-requires-clause-tame
replay-requires-clause-tame c =
    let r = c.args.ranking.now in
    let i = c.args.leaf.number in
    let path = c.in_ok-path.path in
    let before : Before r.nodes i path = path_is c.args.network.now r i path c.requires.ranked c.requires.waits (subst (λ n. IsPathOf n i path) c.tree.ensures c.in_ok-path.ensures) in
    path_tame c.args.network.now c.args.parts.now.store.network r i path c.requires.of.network c.requires.ranked before

pub returns-clause-at : goal.returns-clause-at
returns-clause-at c =
    let r = c.args.ranking.now in
    let i = c.args.leaf.number in
    let path = c.in_ok-path.path in
    let before : Before r.nodes i path = path_is c.args.network.now r i path c.requires.ranked c.requires.waits (subst (λ n. IsPathOf n i path) c.tree.ensures c.in_ok-path.ensures) in
    record {
      waits = c.requires.waits;
      only = λ other is. c.law_same_before.ensures.once r.nodes i other path c.requires.ranked.kept.linked is before ∙ sym c.in_ok-replay.ensures.ok.0;
      block = c.in_ok-replay.ensures.ok.1;
      since = stands_behind c.args.network.now c.since_at.result path c.replay.new.self (c.in_ok-replay.ensures.network ∙ c.requires.of.network) (ap (λ b. after b c.replay.new.self.base) c.in_ok-replay.ensures.ok.1 ∙ c.in_ok-replay.ensures.ok.0) c.since_at.ensures;
    }

pub since_at-requires-clause-before : goal.since_at-requires-clause-before
since_at-requires-clause-before c =
    path_is c.args.network.now c.args.ranking.now c.args.leaf.number c.in_ok-path.path c.requires.ranked c.requires.waits (subst (λ n. IsPathOf n c.args.leaf.number c.in_ok-path.path) c.tree.ensures c.in_ok-path.ensures)
