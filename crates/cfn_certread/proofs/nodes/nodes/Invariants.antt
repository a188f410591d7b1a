use Rattle.std.proofs.Common.{◌≡◌, List, length}
use Rattle.cfn_model.specs.declared.version.Version.{Version}
use Rattle.cfn_fault.specs.Lines.{Line}
use Rattle.cfn_certread.specs.Reading.{InTree}
use Rattle.cfn_certread.proofs.nodes.nodes.Given as goal

-- the lines so far were read into the tree
abbrev pub invariant-loop-reader : goal.invariant-loop-reader
invariant-loop-reader l = record {
  text : l.reader.text ≡ l.fn.reader.text;
  tree : (version : Version) (ls : List Line) → InTree l.fn.reader l.fn.maker ls version → InTree l.reader l.maker ls version;
}

abbrev pub decreases-loop-reader : goal.decreases-loop-reader
decreases-loop-reader l = length l.reader.rest
