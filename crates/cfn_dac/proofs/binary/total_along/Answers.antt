use Rattle.cfn_dac.specs.Full.{second_of}
use Rattle.cfn_dac.proofs.binary.total_along.Goals as goal

pub returns : goal.returns
returns c = λ P h pair a met.
    c.with_unary.ensures P h pair a c.args.other (c.of.ensures P h (second_of P pair) met.unaries met.value met.along.live) (c.least.ensures P h pair.function pair.place a pair.other met.along)
