use Rattle.std.proofs.Common.{List, ℕ, ◌<◌, get_or, length, ap, ◌∙◌, sym, subst, replicate, arith}
use Rattle.cfn_model.specs.Network.{Fits, scope_at, dims_at}
use Rattle.cfn_net.proofs.CallerLemmas.{length-dims, get_or-dims}
use Rattle.cfn_plain.proofs.Assignments.{Fits-zeros}
use Rattle.cfn_plain.proofs.Places.{is_there}
use Rattle.cfn_plain.proofs.supports.has_tuple.Goals as goal

pub has_tuple_from-requires-clause-fits : goal.has_tuple_from-requires-clause-fits
has_tuple_from-requires-clause-fits c =
    let P = c.args.network.now in
    let f = c.args.sought.function in
    let dims = dims_at P f in
    let some : (i : ℕ) → i < length dims → 0 < get_or dims i 0 = λ i there.
    let here : i < length (scope_at P f) = omega (arith, length-dims P.sizes (scope_at P f)) in
    omega (arith, get_or-dims P.sizes (scope_at P f) i here, (c.law_limits.ensures.sizes _ ((c.law_limits.ensures.functions f (is_there P f i here)).variables i here)).0) in
    let is = c.as_mut_slice.ensures.value ∙ c.in_ok-tuple.ensures.items_if_clones_equal (λ y h. h) ∙ ap (λ n. replicate n 0) (ap length c.scope-places.ensures ∙ sym (length-dims P.sizes (scope_at P f))) in
    subst (λ (tuple : List ℕ). Fits dims tuple) (sym is) (Fits-zeros dims some)
