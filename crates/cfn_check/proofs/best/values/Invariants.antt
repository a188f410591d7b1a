use Rattle.std.proofs.Common.{◌≡◌, ℕ, List, length}
use Rattle.cfn_model.specs.declared.version.Version.{Version}
use Rattle.cfn_fault.specs.Lines.{Line, AtRoot}
use Rattle.cfn_certtext.specs.Reading.{HasRead}
use Rattle.cfn_check.specs.Assigning.{IsTold}
use Rattle.cfn_check.proofs.best.values.Given as goal

-- the lines stay, and the values so far were told
abbrev pub invariant-loop-value : goal.invariant-loop-value
invariant-loop-value l = record {
  text : l.reader.text ≡ l.initial.reader.text;
  due : (version : Version) × (ls : List Line) × HasRead l.reader ls (AtRoot version);
  read : (ls : List Line) (version : Version) → HasRead l.initial.reader ls (AtRoot version) → HasRead l.reader ls (AtRoot version);
  told : (values : List ℕ) → IsTold l.network l.initial.told values l.initial.reader.left → IsTold l.network l.told values l.reader.left;
}

abbrev pub decreases-loop-value : goal.decreases-loop-value
decreases-loop-value l = length l.reader.left
