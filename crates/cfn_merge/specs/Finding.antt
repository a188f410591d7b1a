-- What was found of a network, as a certificate.
use Rattle.std.specs.Prelude.{[], length, Option}
use Rattle.cfn_model.specs.declared.version.Version.TheVariants.{Second}
use Rattle.cfn_model.specs.Network.{Network}
use Rattle.cfn_model.specs.Certificate.{Solution, Certificate, threshold_of}
use Rattle.cfn_model.specs.Tree.{Tree, bound}

-- The certificate with this best assignment and this tree, whose bound is its lower bound.
abbrev pub certified : Network → Option Solution → Tree → Certificate
certified P best tree = record {
  version = Second;
  variables = length P.sizes;
  functions = length P.functions;
  upper = P.upper;
  best = best;
  lower = bound P [] tree (threshold_of P.upper best);
  tree = tree;
}
