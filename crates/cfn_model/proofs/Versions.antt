-- What is good or has a spelling is so in the second version.
use Rattle.std.proofs.Common.{List, [], ◌∷◌}
use Rattle.cfn_model.specs.declared.step.Decision.{Decision}
use Rattle.cfn_model.specs.declared.step.Decision.TheVariants.{Is, Most}
use Rattle.cfn_model.specs.declared.version.Version.TheVariants.{Second}
use Rattle.cfn_model.specs.Tree.{Tree, Open, Closed, Split}
use Rattle.cfn_model.specs.Text.{HasDecision, HasTree}
use Rattle.cfn_model.specs.Laws.{GoodInSecond, SpelledInSecond}

pub has_decision : (d : Decision) → HasDecision Second d
has_decision (Is x a) = tt
has_decision (Most x v) = tt

-- the second version has lines for every tree
pub has_every_tree : (tree : Tree) → HasTree Second tree
has_every_tree (Open block) = tt
has_every_tree (Closed block) = tt
has_every_tree (Split block d first second) = (has_decision d, has_every_tree first, has_every_tree second)

pub good_in_second : GoodInSecond
good_in_second P c good = record {
  variables = good.variables;
  functions = good.functions;
  upper = good.upper;
  best = good.best;
  valid = good.valid;
  lower = good.lower;
}

pub spelled_in_second : SpelledInSecond
spelled_in_second c spelled = record {
  variables = spelled.variables;
  functions = spelled.functions;
  upper = spelled.upper;
  best = spelled.best;
  lower = spelled.lower;
  tree = spelled.tree;
  has_tree = has_every_tree c.tree;
}
