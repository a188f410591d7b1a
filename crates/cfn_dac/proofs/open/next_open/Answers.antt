use Rattle.std.proofs.Common.{◌≡◌, length, List, ℕ, true, false, ap, ◌∙◌, subst, arith}
use Rattle.std.specs.Prelude.{slice_index}
use Rattle.cfn_model.specs.Network.{IsNetwork, scope_at, arity}
use Rattle.cfn_consistency.specs.Openness.{is_open}
use Rattle.cfn_store.specs.Standing.{history}
use Rattle.cfn_gain.proofs.CallerLemmas.{few_places}
use Rattle.cfn_dac.proofs.Opening.{is_open_by, is_closed_by, closed_more}
use Rattle.cfn_dac.proofs.open.next_open.Goals as goal

pub overflow_cast-place-end : goal.overflow_cast-place-end
overflow_cast-place-end c =
    let few = few_places c.args.store.now.network c.args.f (subst IsNetwork c.network.ensures c.law_limits.ensures) c.requires.function in
    let n = ap length c.scope-scope.ensures in
    let m = ap (λ N. arity N c.args.f) c.network-2.ensures in
    omega (arith, few, n, m)

pub returns-then-count-ge2 : goal.returns-then-count-ge2
returns-then-count-ge2 c =
    let s = c.args.store.now in
    let scope = c.scope-scope.ensures ∙ ap (λ N. scope_at N c.args.f) c.network-2.ensures in
    let n = ap length scope in
    record {
      from = let b = c.loop-place.auto in omega (arith, b);
      place = let t = c.loop-place-test.true in omega (arith, t, n);
      here = subst (λ (xs : List ℕ). is_open s.network (history s) (slice_index xs c.loop-place.place) ≡ true) scope (is_open_by s (slice_index c.scope-scope.result.now c.loop-place.place) c.count.result c.count.ensures c.if-count-ge2.true);
      first = c.loop-place.invariant;
    }

pub loop-place-preserved : goal.loop-place-preserved
loop-place-preserved c =
    let s = c.args.store.now in
    let scope = c.scope-scope.ensures ∙ ap (λ N. scope_at N c.args.f) c.network-2.ensures in
    closed_more s.network (history s) c.args.f c.args.from c.loop-place.place c.loop-place.invariant
    (subst (λ (xs : List ℕ). is_open s.network (history s) (slice_index xs c.loop-place.place) ≡ false) scope (is_closed_by s (slice_index c.scope-scope.result.now c.loop-place.place) c.count.result c.count.ensures (let t = c.if-count-ge2.false in omega (arith, t))))

pub returns : goal.returns
returns c = λ i from below.
    (let scope = c.scope-scope.ensures ∙ ap (λ N. scope_at N c.args.f) c.network-2.ensures in
    let n = ap length scope in
    let t = c.loop-place-test.false in
    c.loop-place.invariant i from (omega (arith, t, n, below)))
