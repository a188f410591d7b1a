use Rattle.std.proofs.Common.{ℕ, List, ◌<◌, ◌^◌, length, slice_index, sym, subst}
use Rattle.cfn_model.specs.Certificate.{IsBest}
use Rattle.cfn_certread.specs.Reading.{solution_of}
use Rattle.cfn_merge.proofs.Reading.{values_small}
use Rattle.cfn_merge.proofs.judging.best_of.Goals as goal

pub in_32_bits-requires : goal.in_32_bits-requires
in_32_bits-requires c =
    let is = subst (λ o. IsBest c.args.network.now (solution_of o)) c.in-Some.is c.requires in
    subst (λ (l : List ℕ). (i : ℕ) → i < length l → slice_index l i < 2 ^ 32) (sym c.deref.ensures.value)
    (λ i there. values_small c.args.network.now (record { cost = c.in-Some.best.cost; values = c.in-Some.best.values.items }) i c.law_limits.ensures is there)
