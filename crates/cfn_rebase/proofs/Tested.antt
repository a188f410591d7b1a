-- What a test of a step finds.
use Rattle.std.proofs.Common.{◌≡◌, ℕ, ◌<◌, ◌≤◌, List, ◌∷◌, length, reverse, drop, get_or, suc, ◌/◌, ◌%◌, refl, sym, ap, ap₂, ◌∙◌, subst, arith}
use Rattle.std.proofs.lemmas.Int.{ints}
use Rattle.std.proofs.lemmas.Bool.{le-leb}
use Rattle.std.proofs.lemmas.List.{ext_get_or}
use Rattle.std.specs.Prelude.{pos, ◌+ℤ◌, ◌≤ℤ◌, ◌↔◌, ◌&&◌, IsTrue, Bool, nat_le, slice_index}
use Rattle.cfn_model.specs.declared.step.Step.{Step}
use Rattle.cfn_model.specs.declared.step.Step.TheVariants.{Project, Extend}
use Rattle.cfn_model.specs.declared.step.Event.{Event}
use Rattle.cfn_model.specs.declared.step.Event.TheVariants.{Did}
use Rattle.cfn_model.specs.Network.{Network, Fits, IsNetwork, cell, cells, dims_at, scope_at, variable_at}
use Rattle.cfn_model.specs.Sums.{when, floor, residual}
use Rattle.cfn_model.specs.Steps.{IsValue, IsCell, IsPlace, CanCutTuple}
use Rattle.cfn_model.specs.Paths.{HasSmallCosts}
use Rattle.cfn_model.specs.Text.{IsSpelledStep}
use Rattle.cfn_model.proofs.CallerLemmas.{eqb_same}
use Rattle.cfn_net.proofs.CallerLemmas.{Fits-length, digit_at, get_or-dims, tuple_of, tuple_of-numbered}
use Rattle.cfn_scan.specs.Exact.{AllInPlace, IsExactAlong}
use Rattle.cfn_store.specs.Standing.{Standing, history}
use Rattle.cfn_scan.specs.declared.scan.Extreme.{Extreme}
use Rattle.cfn_scan.specs.Extremes.{IsLeastBetween}
use Rattle.cfn_store.specs.Rooms.{UnaryFits, ResidualsFit, IsProjectRoom, IsExtendRoom}
use Rattle.cfn_scan.proofs.CallerLemmas.{exact_now}
use Rattle.cfn_rebase.specs.declared.balance.Balance.{Balance}
use Rattle.cfn_rebase.specs.Balancing.{worth}
use Rattle.cfn_rebase.specs.Making.{IsCost, MayFollow}

pub events_in_place : (Q : Network) (s : Standing) (events : List Event) → Q ≡ s.network → reverse events ≡ history s → IsExactAlong s.network (history s) → AllInPlace Q (reverse events)
events_in_place Q s events network same exact = subst (λ P. AllInPlace P (reverse events)) (sym network) (subst (AllInPlace s.network) (sym same) (exact_now s.network (history s) exact).range)

pub tuple_reaches : (Q : Network) (s : Standing) (events : List Event) (k f n low : ℕ) (b : Balance) (test : Bool) → Q ≡ s.network → reverse events ≡ history s → IsCell s.network f n → low ≡ floor s.network (history s) →
    ((tuple : List ℕ) → Fits (dims_at Q f) tuple → cell (dims_at Q f) tuple ≡ n → worth b ≡ residual Q (reverse events) f tuple) → (IsTrue test ↔ (pos k ≤ℤ (pos low +ℤ worth b))) → IsTrue test ↔ CanCutTuple s.network (history s) k f n
tuple_reaches Q s events k f n low b test network same is_cell is_floor is tested =
    let P = s.network in
    let clause : (tuple : List ℕ) → Fits (dims_at P f) tuple → cell (dims_at P f) tuple ≡ n → worth b ≡ residual P (history s) f tuple =
    subst (λ (h : List Event). (tuple : List ℕ) → Fits (dims_at P f) tuple → cell (dims_at P f) tuple ≡ n → worth b ≡ residual P h f tuple) same
    (subst (λ (R : Network). (tuple : List ℕ) → Fits (dims_at R f) tuple → cell (dims_at R f) tuple ≡ n → worth b ≡ residual R (reverse events) f tuple) network is) in (
      λ yes tuple fits at. (let r = clause tuple fits at in let h = tested.0 yes in omega (arith, ints, r, h, is_floor)),
      λ can. (let t = tuple_of-numbered (dims_at P f) n is_cell.cell in let r = clause (tuple_of (dims_at P f) n) t.fits t.number in let h = can (tuple_of (dims_at P f) n) t.fits t.number in
          tested.1 (omega (arith, ints, r, h, is_floor))),
    )

-- two tuples with one number are one
cell_once : (sizes one other : List ℕ) → Fits sizes one → Fits sizes other → cell sizes one ≡ cell sizes other → one ≡ other
cell_once sizes one other a b same =
    let n = Fits-length sizes one a in
    let m = Fits-length sizes other b in
    ext_get_or 0 one other (omega (arith, n, m))
    (λ i l. let h : i < length sizes = omega (arith, n, l) in
    sym (digit_at sizes one i a h) ∙ ap (λ c. (c / cells (drop (suc i) sizes)) % get_or sizes i 0) same ∙ digit_at sizes other i b h)

-- the cost that a search for a tuple finds is that of the tuple with its number
pub picked_cost : (s : Standing) (f n i a j b : ℕ) (found : Extreme) → IsLeastBetween s.network (history s) f i a j b found → found.cell ≡ n → IsCost s f n found.cost
picked_cost s f n i a j b found is at = λ tuple fits here.
    subst (λ t. pos found.cost ≡ residual s.network (history s) f t) (cell_once (dims_at s.network f) is.tuple tuple is.picked.fits fits (is.cell_is ∙ at ∙ sym here)) (sym is.cost_is)

pub cost_reaches : (s : Standing) (k f n low cost : ℕ) (b : Balance) (test : Bool) → IsCell s.network f n → low ≡ floor s.network (history s) → IsCost s f n cost → worth b ≡ pos cost →
    (IsTrue test ↔ (pos k ≤ℤ (pos low +ℤ worth b))) → IsTrue test ↔ CanCutTuple s.network (history s) k f n
cost_reaches s k f n low cost b test is_cell is_floor is same tested = (
  λ yes tuple fits at. (let r = is tuple fits at in let h = tested.0 yes in omega (arith, ints, r, h, same, is_floor)),
  λ can. (let t = tuple_of-numbered (dims_at s.network f) n is_cell.cell in let r = is (tuple_of (dims_at s.network f) n) t.fits t.number in let h = can (tuple_of (dims_at s.network f) n) t.fits t.number in
      tested.1 (omega (arith, ints, r, h, same, is_floor))),
)

pub project_fits : (s : Standing) (f i a m : ℕ) → IsValue s.network (variable_at s.network f i) a → HasSmallCosts s.network (Did (Project f i a m) ∷ history s) → UnaryFits s f i a m
project_fits s f i a m value small = λ live.
    let x = variable_at s.network f i in
    let h = small.unary x a value live in
    let w = ap (λ t. when t (pos m)) (ap₂ (λ t u. t && u) (eqb_same x x refl) (eqb_same a a refl)) in
    omega (arith, ints, h, w)

pub extend_fits : (s : Standing) (f i a m : ℕ) → f < length s.network.functions → HasSmallCosts s.network (Did (Extend f i a m) ∷ history s) → ResidualsFit s f i a m
extend_fits s f i a m there small = λ tuple fits at live.
    let h = small.residual f tuple there fits live in
    let w = ap (λ t. when t (pos m)) (ap₂ (λ t u. t && u) (eqb_same f f refl) (eqb_same (slice_index tuple i) a at)) in
    omega (arith, ints, h, w)

value_of : (P : Network) (f i a : ℕ) → IsNetwork P → IsPlace P f i a → IsValue P (variable_at P f i) a
value_of P f i a net is = record {
  variable = (net.functions f is.function).variables i is.place;
  value = subst (λ n. a < n) (get_or-dims P.sizes (scope_at P f) i is.place) is.value;
}

at_most : (m room : ℕ) → m ≤ room → IsTrue (nat_le m room)
at_most m room l = le-leb m room l

-- an amount that may be projected or extended is within the room
pub project_within : (Q : Network) (s : Standing) (k : ℕ) (step : Step) (f i a m room : ℕ) → step ≡ Project f i a m → Q ≡ s.network → IsNetwork Q → IsSpelledStep step → IsProjectRoom s f i a room → MayFollow s k step → IsTrue (nat_le m room)
project_within Q s k step f i a m room is same net spelled within may =
    let p : IsSpelledStep (Project f i a m) = subst IsSpelledStep is spelled in
    let o : MayFollow s k (Project f i a m) = subst (MayFollow s k) is may in
    at_most m room (within.most m p.4 o.0.2 (project_fits s f i a m (value_of s.network f i a (subst IsNetwork same net) o.0.0) o.1))

pub extend_within : (s : Standing) (k : ℕ) (step : Step) (f i a m room : ℕ) → step ≡ Extend f i a m → IsSpelledStep step → IsExtendRoom s f i a room → MayFollow s k step → IsTrue (nat_le m room)
extend_within s k step f i a m room is spelled within may =
    let p : IsSpelledStep (Extend f i a m) = subst IsSpelledStep is spelled in
    let o : MayFollow s k (Extend f i a m) = subst (MayFollow s k) is may in
    at_most m room (within.most m p.4 o.0.2 (extend_fits s f i a m o.0.0.function o.1))
