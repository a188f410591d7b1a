use Rattle.std.proofs.Common.{◌<◌, length, sym, ap, ◌∙◌, arith}
use Rattle.cfn_tables.proofs.Amounts.{given_over, given_more}
use Rattle.cfn_tables.proofs.domain.Domain.give_side.Goals as goal
use Rattle.cfn_tables.proofs.domain.Domain.give_side.Goals.{then-has, else-has}

pub loop-b-preserved : goal.loop-b-preserved
loop-b-preserved c =
    let old = c.args.self.now.takers in
    let there : c.loop-b.b < length old = omega (arith, c.loop-b-test.true, c.len-b-end.ensures, ap (λ v. length v.takers) c.self.view_is) in
    elim c.if-has.branch [
      | then-has w ↦ record {
        costs = ap (λ v. v.costs) w.self-is ∙ w.give.ensures.costs ∙ c.loop-b.invariant.costs;
        takers = rw w.self-is (given_more c.args.side old c.loop-b.self.takers w.give.new.self.takers c.loop-b.b (sym c.has.ensures ∙ w.if-has.true) there w.give.ensures.takers c.loop-b.invariant.takers);
      }
      | else-has w ↦ record {
        costs = ap (λ v. v.costs) w.self-is ∙ c.loop-b.invariant.costs;
        takers = rw w.self-is (given_over c.args.side old c.loop-b.self.takers c.loop-b.b (sym c.has.ensures ∙ w.if-has.false) c.loop-b.invariant.takers);
      }
    ]
