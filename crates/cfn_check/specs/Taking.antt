-- What becomes of a walk at a line of a node.
use Rattle.std.specs.Prelude.{◌≡◌, List, ◌++◌, Option, Some, None}
use Rattle.cfn_model.specs.declared.step.Event.{Event}
use Rattle.cfn_fault.specs.declared.kind.FaultKind.{FaultKind}
use Rattle.cfn_fault.specs.Nodes.{Item, paths_after}
use Rattle.cfn_fault.specs.Fault.{FailsPlace}
use Rattle.cfn_fault.specs.Judging.{PassesPlace, floor_at, lowest}
use Rattle.cfn_check.specs.Walking.{Walking}

-- The walk behind a line of the node whose path is due.
abbrev pub behind_line : Walking → Item → List Event → List (List Event) → Walking
behind_line w item history paths = record {
  network = w.network;
  threshold = w.threshold;
  paths = paths_after history item ++ paths;
  least = lowest w.least (floor_at w.network history item);
}

-- The line is right and the walk goes on behind it, or the line fails.
abbrev pub Takes : Walking → Walking → Item → List Event → List (List Event) → Option FaultKind → Type 0
Takes old new item history paths None = PassesPlace old.network old.threshold history item × (new ≡ behind_line old item history paths)
Takes old new item history paths (Some kind) = FailsPlace old.network old.threshold history item kind
