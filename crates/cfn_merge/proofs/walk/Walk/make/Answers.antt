use Rattle.std.proofs.Common.{[], ◌∷◌, ◌++◌, ap, ◌∙◌}
use Rattle.cfn_merge.specs.declared.pair.Source.TheVariants.{Both}
use Rattle.cfn_merge.proofs.Walks.{root, walk_starts}
use Rattle.cfn_merge.proofs.walk.Walk.make.Goals as goal

pub returns : goal.returns
returns c =
    walk_starts c.args.pair.now.first.tree.now c.args.pair.now.second.tree.now c.in_ok-tree.tree c.push.new.self.items c.law_linked.ensures.first.linked c.law_linked.ensures.second.linked c.in_ok-tree.ensures
    (c.in_ok-push.ensures.items ∙ ap (λ l. l ++ Both root root ∷ []) c.new-sources.ensures.items)
