use Rattle.std.proofs.Common.{sym, ◌∙◌, arith, below_more}
use Rattle.std.proofs.lemmas.Bool.{false≢true}
use Rattle.cfn_plain.proofs.closing.is_wiped.Goals as goal

pub loop-x-preserved : goal.loop-x-preserved
loop-x-preserved c =
    below_more _ _ c.loop-x.invariant c.if-not-has_live.ensures

pub returns : goal.returns
returns c = (
  λ no. absurd (false≢true no),
  λ wiped. let some = c.loop-x.invariant wiped.0 (omega arith) in sym (wiped.2 some.0 some.1) ∙ some.2,
)
