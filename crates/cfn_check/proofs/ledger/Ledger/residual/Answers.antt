use Rattle.std.proofs.Common.{◌≡◌, ℕ, suc, ◌-◌, ◌<◌, ◌≤◌, List, [], length, get_or, refl, sym, ap, ◌∙◌, subst, arith}
use mir.Syntax.{w128}
use Rattle.std.proofs.lemmas.Int.{ints, to_z-of_z}
use Rattle.std.specs.Prelude.{ℤ, pos, neg_ℤ, ◌+ℤ◌, nat_lt}
use Rattle.cfn_model.specs.Network.{Network, IsNetwork, Fits, cell, dims, dims_at, scope_at, arity, function_at}
use Rattle.cfn_model.specs.declared.step.Event.{Event}
use Rattle.cfn_model.specs.Sums.{when, residual}
use Rattle.cfn_net.proofs.CallerLemmas.{get_or-dims}
use Rattle.cfn_tables.specs.Slots.{shifted}
use Rattle.cfn_check.specs.Along.{along}
use Rattle.cfn_tables.proofs.CallerLemmas.{arity_small}
use Rattle.cfn_check.proofs.Rooms.{IsCost, first_cost}
use Rattle.cfn_check.proofs.Walks.{TakenOff, SlotBefore, nothing_off, slot_before, one_off}
use Rattle.cfn_check.proofs.ledger.Ledger.residual.Goals as goal
use Rattle.cfn_check.proofs.ledger.Ledger.residual.Goals.{After-original-residual, After-slots-slot, After-size-size, After-shifted-residual}

few : (c : After-original-residual) → length c.scope-scope.result.now ≤ 1048576
few c = omega (arith, arity_small c.args.network.now c.args.f c.law_limits.ensures c.requires.number.function, ap length c.scope-scope.ensures)

pub slots-slot-requires-clause-few : goal.slots-slot-requires-clause-few
slots-slot-requires-clause-few c = few c

pub loop-place-init : goal.loop-place-init
loop-place-init c =
    let P = c.args.network.now in
    let limits = c.law_limits.ensures in
    let capped = (limits.functions c.args.f c.requires.number.function).capped c.args.number in
    let cost = subst (λ (z : ℤ). IsCost z) (sym c.original-residual.ensures) (first_cost (nat_lt 0 (arity P c.args.f)) (get_or (function_at P c.args.f).entries c.args.number 0) (omega (arith, capped, limits.upper))) in
    let written = to_z-of_z w128 c.original-residual.result (omega (arith, ints, cost.low, cost.high)) in
    rw written (nothing_off (λ n. shifted P c.args.self.now.history c.args.f n) P.sizes c.scope-scope.result.now c.original-residual.result c.args.number c.slots-slot.result (length c.scope-scope.result.now) refl c.slots-slot.ensures cost.low cost.high)

-- the place before, its size, and what was taken off up to it
record Before (P : Network) (f : ℕ) (s : ℕ → ℤ) (scope : List ℕ) (first : ℤ) (c front slot place size : ℕ) (rest : ℤ) : Type 0 where
  pub within : place < length scope
  pub size_is : size ≡ get_or (dims P.sizes scope) place 0
  pub taken : TakenOff s P.sizes scope first c front slot (suc place) rest
  pub slots : SlotBefore P.sizes scope front slot size

before : (P : Network) (f : ℕ) (s : ℕ → ℤ) (scope : List ℕ) (first : ℤ) (c front slot place size : ℕ) (rest : ℤ) → IsNetwork P → f < length P.functions → scope ≡ scope_at P f → 0 < place → size ≡ get_or P.sizes (get_or scope (place - 1) 0) 0 → TakenOff s P.sizes scope first c front slot place rest → Before P f s scope first c front slot (place - 1) size rest
before P f s scope first c front slot place size rest network there same some is t =
    let l : place - 1 < length scope = (let w = t.place in omega arith) in
    let size_is = is ∙ sym (get_or-dims P.sizes scope (place - 1) l) in
    let next : place ≡ suc (place - 1) = omega arith in
    let taken = subst (λ n. TakenOff s P.sizes scope first c front slot n rest) next t in
    let x : get_or scope (place - 1) 0 < length P.sizes = (let v = (network.functions f there).variables (place - 1) (omega (arith, l, ap length same)) in let e = ap (λ (xs : List ℕ). get_or xs (place - 1) 0) same in omega (arith, v, e)) in
    let positive = (network.sizes _ x).0 in
    record {
      within = l;
      size_is = size_is;
      taken = taken;
      slots = slot_before s P.sizes scope first c front slot (place - 1) size rest l size_is (omega (arith, is, positive)) taken;
    }

-- at the first place all is taken off
ends : (P : Network) (history : List Event) (f : ℕ) (scope : List ℕ) (entry first : ℤ) (c front slot place : ℕ) (rest : ℤ) (tuple : List ℕ) → scope ≡ scope_at P f → first ≡ entry → place ≡ 0 → entry ≡ when (nat_lt 0 (arity P f)) (pos (get_or (function_at P f).entries c 0)) → TakenOff (λ n. shifted P history f n) P.sizes scope first c front slot place rest → Fits (dims_at P f) tuple → cell (dims_at P f) tuple ≡ c → residual P history f tuple ≡ (residual P [] f tuple +ℤ neg_ℤ (along (λ n. shifted P history f n) 0 (dims_at P f) tuple)) → rest ≡ residual P history f tuple
ends P history f scope entry first c front slot place rest tuple same written none is t fits at sum =
    let t0 : TakenOff (λ n. shifted P history f n) P.sizes (scope_at P f) first c front slot 0 rest = subst (λ (xs : List ℕ). TakenOff (λ n. shifted P history f n) P.sizes xs first c front slot 0 rest) same (subst (λ n. TakenOff (λ n. shifted P history f n) P.sizes scope first c front slot n rest) none t) in
    let taken = t0.taken tuple fits at in
    let begin = ap (λ n. along (λ k. shifted P history f k) n (dims_at P f) tuple) t0.before in
    let old = ap (λ n. when (nat_lt 0 (arity P f)) (pos (get_or (function_at P f).entries n 0))) at in
    omega (arith, ints, taken, begin, old, is, written, sum)

pub overflow_sub-slot : goal.overflow_sub-slot
overflow_sub-slot c =
    (before c.args.network.now c.args.f _ c.scope-scope.result.now _ c.args.number c.loop-place.front c.loop-place.slot c.loop-place.place c.size-size.result _ c.law_limits.ensures c.requires.number.function c.scope-scope.ensures c.loop-place-test.true c.size-size.ensures c.loop-place.invariant).slots.fits_in

pub shifted-residual-requires-clause-slot : goal.shifted-residual-requires-clause-slot
shifted-residual-requires-clause-slot c =
    let b = before c.args.network.now c.args.f _ c.scope-scope.result.now _ c.args.number c.loop-place.front c.loop-place.slot c.loop-place.place c.size-size.result _ c.law_limits.ensures c.requires.number.function c.scope-scope.ensures c.loop-place-test.true c.size-size.ensures c.loop-place.invariant in
    rw (← c.requires.same, ← c.scope-scope.ensures) b.slots.below

pub overflow_sub-residual : goal.overflow_sub-residual
overflow_sub-residual c =
    let t = c.loop-place.invariant in
    let small = c.shifted-residual.ensures.small in
    let value = c.shifted-residual.ensures.value in
    let most = arity_small c.args.network.now c.args.f c.law_limits.ensures c.requires.number.function in
    let same = ap length c.scope-scope.ensures in
    let shift = to_z-of_z w128 c.shifted-residual.result (omega (arith, ints, value, small.low, small.high)) in
    omega (arith, ints, t.low, t.high, most, same, shift, value, small.low, small.high)

pub loop-place-preserved : goal.loop-place-preserved
loop-place-preserved c =
    let P = c.args.network.now in
    let h = c.args.self.now.history in
    let s = λ (n : ℕ). shifted P h c.args.f n in
    let b = before P c.args.f s c.scope-scope.result.now _ c.args.number c.loop-place.front c.loop-place.slot c.loop-place.place c.size-size.result _ c.law_limits.ensures c.requires.number.function c.scope-scope.ensures c.loop-place-test.true c.size-size.ensures c.loop-place.invariant in
    let small = rw (← c.requires.same) at c.shifted-residual.ensures.small in
    let value = rw (← c.requires.same) at c.shifted-residual.ensures.value in
    let shift = to_z-of_z w128 c.shifted-residual.result (omega (arith, ints, value, small.low, small.high)) in
    let sum = to_z-of_z w128 _ (overflow_sub-residual c) in
    one_off s P.sizes c.scope-scope.result.now _ c.args.number c.loop-place.front c.loop-place.slot (c.loop-place.place - 1) c.size-size.result _ _ b.within b.size_is b.slots.fits_in small (omega (arith, ints, sum, shift, value)) b.taken

pub returns : goal.returns
returns c = λ tuple fits is.
    let P = c.args.network.now in
    let h = c.args.self.now.history in
    let differences = rw (← c.requires.same) at c.law_differences.ensures in
    let sum = differences c.args.f tuple fits in
    let limits = c.law_limits.ensures in
    let capped = (limits.functions c.args.f c.requires.number.function).capped c.args.number in
    let cost = subst (λ (z : ℤ). IsCost z) (sym c.original-residual.ensures) (first_cost (nat_lt 0 (arity P c.args.f)) (get_or (function_at P c.args.f).entries c.args.number 0) (omega (arith, capped, limits.upper))) in
    let written = to_z-of_z w128 c.original-residual.result (omega (arith, ints, cost.low, cost.high)) in
    ends P h c.args.f c.scope-scope.result.now c.original-residual.result _ c.args.number c.loop-place.front c.loop-place.slot c.loop-place.place _ tuple c.scope-scope.ensures written (omega (arith, c.loop-place-test.false)) c.original-residual.ensures c.loop-place.invariant fits is sum
