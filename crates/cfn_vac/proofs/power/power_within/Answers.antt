use Rattle.std.proofs.Common.{◌+◌, ◌*◌, ap, sym, ◌∙◌, arith}
use Rattle.std.proofs.lemmas.Nat.{pow-add}
use Rattle.cfn_vac.proofs.power.power_within.Goals as goal

pub loop-power-preserved : goal.loop-power-preserved
loop-power-preserved c =
    let v = c.loop-power.invariant in let some = v.some in let test = c.loop-power-test.true in
    record {
      is = (v.is.0 + 1, ap (λ n. n * 2) v.is.1 ∙ sym (pow-add 2 v.is.0 1));
      some = omega (arith, some);
      within = omega (arith, test);
    }
