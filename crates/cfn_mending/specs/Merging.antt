-- Certificates of one network in one.
use Rattle.std.specs.Prelude.{List, [], Option, Some, None, if◌then◌else◌, nat_lt, fold}
use Rattle.cfn_model.specs.declared.version.Version.TheVariants.{Second}
use Rattle.cfn_model.specs.Network.{Network}
use Rattle.cfn_model.specs.Tree.{bound}
use Rattle.cfn_model.specs.Certificate.{Solution, Certificate, threshold, threshold_of}
use Rattle.cfn_mending.specs.Joining.{Test, join}

-- The cheaper of two, the first where both cost the same.
abbrev pub cheaper : Option Solution → Option Solution → Option Solution
cheaper None other = other
cheaper (Some a) None = Some a
cheaper (Some a) (Some b) = if nat_lt b.cost a.cost then Some b else Some a

-- The cheaper best, the joined tree, and its bound.
abbrev pub merged : Test → Network → Certificate → Certificate → Certificate
merged same P c d = record {
  version = Second;
  variables = c.variables;
  functions = c.functions;
  upper = c.upper;
  best = cheaper c.best d.best;
  lower = bound P [] (join same c.tree d.tree) (threshold_of c.upper (cheaper c.best d.best));
  tree = join same c.tree d.tree;
}

-- The same certificate in the second version, with its tree's bound as the lower bound.
abbrev pub anew : Network → Certificate → Certificate
anew P c = record {
  version = Second;
  variables = c.variables;
  functions = c.functions;
  upper = c.upper;
  best = c.best;
  lower = bound P [] c.tree (threshold c);
  tree = c.tree;
}

-- A certificate, and others that are merged with it one after another.
abbrev pub all_merged : Test → Network → Certificate → List Certificate → Certificate
all_merged same P c others = fold (merged same P) (anew P c) others
