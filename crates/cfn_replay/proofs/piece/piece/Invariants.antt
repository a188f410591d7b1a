use Rattle.std.proofs.Common.{length}
use Rattle.cfn_replay.specs.Piece.{InPiece}
use Rattle.cfn_replay.proofs.piece.piece.Given as goal

-- the lines so far were read into the tree
abbrev pub invariant-loop-lines : goal.invariant-loop-lines
invariant-loop-lines l = InPiece l.fn.lines l.lines l.maker l.made

abbrev pub decreases-loop-lines : goal.decreases-loop-lines
decreases-loop-lines l = length l.lines.rest
