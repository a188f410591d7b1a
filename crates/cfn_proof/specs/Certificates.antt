-- What a search's certificate means. It is of the second version.
use Rattle.std.specs.Prelude.{Option, Some, None}
use Rattle.cfn_model.specs.declared.version.Version.TheVariants.{Second}
use Rattle.cfn_model.specs.Certificate as model
use Rattle.cfn_net.specs.Scoring.{Scoring}
use Rattle.cfn_proof.specs.declared.certificate.Certificate.{Certificate}
use Rattle.cfn_proof.specs.Nodes.{tree_of}

-- the assignment with its cost that a best holds
abbrev pub solution_of : Option Scoring → Option model.Solution
solution_of None = None
solution_of (Some scored) = scored.held

abbrev pub certificate_of : Certificate → model.Certificate
certificate_of c = record {
  version = Second;
  variables = c.variables;
  functions = c.functions;
  upper = c.upper;
  best = solution_of c.best;
  lower = c.lower;
  tree = tree_of c.tree;
}
