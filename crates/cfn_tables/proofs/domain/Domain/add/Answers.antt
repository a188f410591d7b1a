use Rattle.std.proofs.Common.{pos, arith}
use Rattle.std.proofs.lemmas.List.{get_or_read}
use Rattle.std.proofs.lemmas.Int.{ints}
use Rattle.cfn_tables.proofs.Amounts.{gains_one}
use Rattle.cfn_tables.proofs.domain.Domain.add.Goals as goal

pub returns-clause-costs : goal.returns-clause-costs
returns-clause-costs c =
    let there = rw (← c.self.view_is) at c.requires.value in
    let wide = rw (← c.self.view_is) at c.requires.wide in
    let read = get_or_read c.self.inside.costs.items c.args.value c.index_mut.result.now there c.index_mut.ensures.value (pos 0) in
    rw (← c.self.view_is) (gains_one c.self.inside.costs.items c.args.value c.args.amount _ there (omega (arith, ints, read, wide.low, wide.high, c.requires.amount.low, c.requires.amount.high)))
