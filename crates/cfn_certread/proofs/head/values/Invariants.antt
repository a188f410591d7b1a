use Rattle.std.proofs.Common.{◌≡◌, List, [], ◌∷◌, ◌++◌, length}
use Rattle.cfn_model.specs.declared.version.Version.{Version}
use Rattle.cfn_fault.specs.Lines.{Line, Values, AtValues, AtRoot}
use Rattle.cfn_certtext.specs.Reading.{HasRead}
use Rattle.cfn_certread.specs.Reading.{Stands}
use Rattle.cfn_certread.proofs.head.values.Given as goal

-- the values so far and those that are left are the line's
abbrev pub invariant-loop-values : goal.invariant-loop-values
invariant-loop-values l = record {
  text : l.reader.text ≡ l.fn.reader.text;
  read : (version : Version) (ls : List Line) → Stands l.fn.reader ls (AtValues version) → HasRead l.reader (ls ++ Values (l.values.items ++ l.reader.left) ∷ []) (AtRoot version);
}

abbrev pub decreases-loop-values : goal.decreases-loop-values
decreases-loop-values l = length l.reader.left
