use Rattle.std.proofs.Common.{◌<◌, length, sym, ap, ◌∙◌, arith}
use Rattle.cfn_tables.proofs.Wiped.{first_not_none, none_wiped}
use Rattle.cfn_tables.specs.Tables.{has_none}
use Rattle.cfn_tables.proofs.costs.Costs.of.Goals as goal

pub invariant_of-result : goal.invariant_of-result
invariant_of-result c =
    let d = c.in_ok-domains_of.ensures in
    sym (none_wiped c.in_ok-domains_of.field-0.items (λ x l. let m : x < length c.args.network.now.sizes = omega (arith, d.size) in ap has_none (d.each x m) ∙ first_not_none _ (c.law_limits.ensures.sizes x m).0))
