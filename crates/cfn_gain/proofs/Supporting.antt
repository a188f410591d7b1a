-- Values get supports one after another.
use Rattle.std.proofs.Common.{◌≡◌, ℕ, ◌+◌, ◌<◌, ◌≤◌, inl, inr, List, sym, ap, ◌∙◌, subst, arith}
use Rattle.std.proofs.lemmas.Bool.{cases_eq, cases_lt}
use Rattle.std.specs.Prelude.{Ok, pos, IsTrue}
use Rattle.cfn_model.specs.declared.step.Event.{Event}
use Rattle.cfn_model.specs.Network.{Network, arity, variable_at}
use Rattle.cfn_model.specs.Sums.{is_live}
use Rattle.cfn_model.specs.Steps.{IsPlace, CanProject}
use Rattle.cfn_consistency.specs.Consistency.{HasSupport, IsArcConsistent}
use Rattle.cfn_scan.specs.declared.scan.Extreme.{Extreme}
use Rattle.cfn_scan.specs.declared.scan.Sense.TheVariants.{Least}
use Rattle.cfn_store.specs.Doubts.{AreFreeFrom}
use Rattle.cfn_scan.specs.Extremes.{NonePicked, IsExtreme, IsFree}
use Rattle.cfn_store.specs.Standing.{Standing, history}
use Rattle.cfn_gain.specs.declared.limits.Limits.{Limits}
use Rattle.cfn_gain.specs.Calls.{Does, Passing, IsUnchanged}
use Rattle.cfn_gain.specs.Supports.{AreSupported}
use Rattle.cfn_gain.proofs.Adding.{passing_adds, unchanged}

-- the live values below n, and the values at the places below n
abbrev pub AreSupportedTo : Network → List Event → ℕ → ℕ → ℕ → Type 0
AreSupportedTo P history f i n = (a : ℕ) → a < n → IsPlace P f i a → IsTrue (is_live history (variable_at P f i) a) → HasSupport P history f i a

abbrev pub ArePlacesTo : Network → List Event → ℕ → ℕ → Type 0
ArePlacesTo P history f n = (i : ℕ) → i < n → AreSupported P history f i

pub none_supported : (P : Network) (history : List Event) (f i : ℕ) → AreSupportedTo P history f i 0
none_supported P history f i a h = absurd (omega (arith, h))

pub next_supported : (P : Network) (history : List Event) (f i n : ℕ) → AreSupportedTo P history f i n → (IsPlace P f i n → IsTrue (is_live history (variable_at P f i) n) → HasSupport P history f i n) → AreSupportedTo P history f i (n + 1)
next_supported P history f i n old here a h place live = elim (cases_eq a n) [
  | inl e ↦ subst (HasSupport P history f i) (sym e) (here (subst (IsPlace P f i) e place) (subst (λ b. IsTrue (is_live history (variable_at P f i) b)) e live))
  | inr e ↦ old a (omega (arith, h, e)) place live
]

pub no_place : (P : Network) (history : List Event) (f : ℕ) → ArePlacesTo P history f 0
no_place P history f i h = absurd (omega (arith, h))

pub next_place : (P : Network) (history : List Event) (f n : ℕ) → ArePlacesTo P history f n → AreSupported P history f n → ArePlacesTo P history f (n + 1)
next_place P history f n old here i h = elim (cases_eq i n) [
  | inl e ↦ subst (AreSupported P history f) (sym e) here
  | inr e ↦ old i (omega (arith, h, e))
]

pub all_places : (P : Network) (history : List Event) (f n : ℕ) → arity P f ≤ n → ArePlacesTo P history f n → IsArcConsistent P history f
all_places P history f n h all i a place live = let there = place.place in all i (omega (arith, h, there)) a place live

-- a least residual cost of 0 is a support, and what is least can be projected
pub support_of : (P : Network) (history : List Event) (f i a : ℕ) (found : Extreme) → IsExtreme P history f i a Least found → found.cost ≡ 0 → HasSupport P history f i a
support_of P history f i a found is none = record {
  tuple = is.tuple;
  fits = is.picked.fits;
  at = is.picked.value;
  live = is.picked.live;
  free = is.cost_is ∙ ap pos none;
}

pub can_project : (P : Network) (history : List Event) (f i a : ℕ) (found : Extreme) → IsExtreme P history f i a Least found → CanProject P history f i a found.cost
can_project P history f i a found is tuple fits at live = is.bounds tuple (record { fits = fits; value = at; live = live })

pub none_to_project : (P : Network) (history : List Event) (f i a m : ℕ) → NonePicked P history f i a → CanProject P history f i a m
none_to_project P history f i a m none tuple fits at live = absurd (none tuple (record { fits = fits; value = at; live = live }))

-- one value more, which got a support
pub supported_more : (before now next : Standing) (limits : Limits) (f i n : ℕ) → Passing before now limits (AreSupportedTo before.network (history before) f i n) → Does now next limits (Ok tt) → (IsUnchanged now next → HasSupport now.network (history now) f i n) → Passing before next limits (AreSupportedTo before.network (history before) f i (n + 1))
supported_more before now next limits f i n p does here =
    passing_adds before now next limits _ _ p does.adds does.ends
    (λ is fact same. next_supported before.network (history before) f i n fact (λ place live. subst (λ t. HasSupport t.network (history t) f i n) is (here same)))

-- the values up to another one, each of which has a tuple that costs nothing
free_support : (P : Network) (history : List Event) (f i a : ℕ) → IsFree P history f i a → HasSupport P history f i a
free_support P history f i a is = record {
  tuple = is.tuple;
  fits = is.picked.fits;
  at = is.picked.value;
  live = is.picked.live;
  free = is.free;
}

pub supported_passed : (before now : Standing) (limits : Limits) (f i n m : ℕ) → Passing before now limits (AreSupportedTo before.network (history before) f i n)
    → ((a : ℕ) → n ≤ a → a < m → IsPlace now.network f i a → IsTrue (is_live (history now) (variable_at now.network f i) a) → IsFree now.network (history now) f i a)
    → Passing before now limits (AreSupportedTo before.network (history before) f i m)
supported_passed before now limits f i n m p passed = record {
  goes = p.goes;
  adds = p.adds;
  fact = λ same a l place live. elim (cases_lt a n) [
    | inl less ↦ p.fact same a less place live
    | inr from ↦ (let is = unchanged before now limits p.adds same in
        subst (λ t. HasSupport t.network (history t) f i a) is (free_support now.network (history now) f i a
        (passed a from l (subst (λ t. IsPlace t.network f i a) (sym is) place) (subst (λ t. IsTrue (is_live (history t) (variable_at t.network f i) a)) (sym is) live))))
  ];
}

-- all values, where the ones from n on have a tuple that costs nothing
pub supported_all : (before now : Standing) (limits : Limits) (f i n : ℕ) → Passing before now limits (AreSupportedTo before.network (history before) f i n) → AreFreeFrom now.network (history now) f i n → IsUnchanged before now → AreSupported before.network (history before) f i
supported_all before now limits f i n p free same a place live = (supported_passed before now limits f i n (a + 1) p (λ b from l. free b from)).fact same a (omega arith) place live

pub place_more : (before now next : Standing) (limits : Limits) (f n : ℕ) → Passing before now limits (ArePlacesTo before.network (history before) f n) → Does now next limits (Ok tt) → (IsUnchanged now next → AreSupported now.network (history now) f n) → Passing before next limits (ArePlacesTo before.network (history before) f (n + 1))
place_more before now next limits f n p does here =
    passing_adds before now next limits _ _ p does.adds does.ends
    (λ is fact same. next_place before.network (history before) f n fact (subst (λ t. AreSupported t.network (history t) f n) is (here same)))
