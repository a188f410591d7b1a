use Rattle.std.proofs.Common.{sym, ap, ◌∙◌, subst}
use Rattle.cfn_model.specs.declared.step.Decision.TheVariants.{Is}
use Rattle.cfn_proof.specs.Nodes.{split_at, tree_of}
use Rattle.cfn_model.specs.Paths.{Tame}
use Rattle.cfn_leaves.proofs.CallerLemmas.{half_tame}
use Rattle.cfn_parts_tests.proofs.halving.halved.Goals as goal

pub of-requires-clause-tame : goal.of-requires-clause-tame
of-requires-clause-tame c =
    subst (λ nodes. Tame c.args.task.network c.args.task.task.path (tree_of nodes)) (sym (c.in_ok-split.ensures.ok ∙ ap (λ nodes. split_at nodes 0 (Is 0 0)) c.in_ok-tree.ensures))
    (half_tame c.args.task.network c.args.task.task.path 0 c.law_kept.ensures.tame)
