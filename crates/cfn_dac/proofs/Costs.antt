-- What steps make of costs.
use Rattle.std.proofs.Common.{◌≡◌, ℕ, ◌&&◌, inl, inr, List, ◌∷◌, refl, ap, ◌∙◌, arith}
use Rattle.std.proofs.lemmas.Bool.{cases_eq}
use Rattle.std.proofs.lemmas.Int.{ints}
use Rattle.std.specs.Prelude.{ℤ, pos, neg_ℤ, ◌+ℤ◌, ◌==◌, slice_index}
use Rattle.cfn_model.specs.declared.step.Step.TheVariants.{Project, Extend, CutTuple}
use Rattle.cfn_model.specs.declared.step.Event.{Event}
use Rattle.cfn_model.specs.declared.step.Event.TheVariants.{Did}
use Rattle.cfn_model.specs.Network.{Network, variable_at}
use Rattle.cfn_model.specs.Sums.{when, unary, residual}
use Rattle.cfn_model.proofs.CallerLemmas.{eqb_same, eqb_other, tuple_fewer}
use Rattle.cfn_dac.specs.Moves.{Trims}

-- an amount that stands under a test of two equalities
pub when_both : (x y a b : ℕ) (z : ℤ) → x ≡ y → a ≡ b → when ((x == y) && (a == b)) z ≡ z
when_both x y a b z e d = ap (λ t. when (t && (a == b)) z) (eqb_same x y e) ∙ ap (λ t. when t z) (eqb_same a b d)

pub when_apart : (x y a b : ℕ) (z : ℤ) → (x ≡ y → a ≡ b → ⊥) → when ((x == y) && (a == b)) z ≡ pos 0
when_apart x y a b z apart = elim (cases_eq x y) [
  | inl e ↦ ap (λ t. when (t && (a == b)) z) (eqb_same x y e) ∙ ap (λ t. when t z) (eqb_other a b (apart e))
  | inr d ↦ ap (λ t. when (t && (a == b)) z) (eqb_other x y d)
]

-- a project takes from the tuples with its value, and gives to that value; an extend does the opposite
pub residual_projected : (P : Network) (history : List Event) (f i a m : ℕ) (tuple : List ℕ) → (slice_index tuple i ≡ a → ⊥) → residual P (Did (Project f i a m) ∷ history) f tuple ≡ residual P history f tuple
residual_projected P history f i a m tuple apart = let w = when_apart f f (slice_index tuple i) a (neg_ℤ (pos m)) (λ e d. apart d) in omega (arith, ints, w)

pub unary_projected : (P : Network) (history : List Event) (f i a m b : ℕ) → (a ≡ b → ⊥) → unary P (Did (Project f i a m) ∷ history) (variable_at P f i) b ≡ unary P history (variable_at P f i) b
unary_projected P history f i a m b apart = let w = when_apart (variable_at P f i) (variable_at P f i) a b (pos m) (λ e d. apart d) in omega (arith, ints, w)

pub residual_extended : (P : Network) (history : List Event) (f i a m : ℕ) (tuple : List ℕ) → slice_index tuple i ≡ a → residual P (Did (Extend f i a m) ∷ history) f tuple ≡ residual P history f tuple +ℤ pos m
residual_extended P history f i a m tuple is = let w = when_both f f (slice_index tuple i) a (pos m) refl is in omega (arith, ints, w)

pub residual_kept : (P : Network) (history : List Event) (f i a m : ℕ) (tuple : List ℕ) → (slice_index tuple i ≡ a → ⊥) → residual P (Did (Extend f i a m) ∷ history) f tuple ≡ residual P history f tuple
residual_kept P history f i a m tuple apart = let w = when_apart f f (slice_index tuple i) a (pos m) (λ e d. apart d) in omega (arith, ints, w)

pub unary_kept : (P : Network) (history : List Event) (f i a m x b : ℕ) → (variable_at P f i ≡ x → a ≡ b → ⊥) → unary P (Did (Extend f i a m) ∷ history) x b ≡ unary P history x b
unary_kept P history f i a m x b apart = let w = when_apart (variable_at P f i) x a b (neg_ℤ (pos m)) apart in omega (arith, ints, w)

-- a tuple's cut changes no cost
pub trims_none : (P : Network) (history : List Event) → Trims P history history
trims_none P history = record {
  floor = refl;
  unary = λ x a. refl;
  residual = λ f tuple. refl;
  values = λ x a. refl;
  tuples = λ f tuple live. live;
}

pub trims_cut : (P : Network) (before now : List Event) (f c : ℕ) → Trims P before now → Trims P before (Did (CutTuple f c) ∷ now)
trims_cut P before now f c t = record {
  floor = let e = t.floor in omega (arith, e);
  unary = λ x a. (let e = t.unary x a in omega (arith, ints, e));
  residual = λ g tuple. (let e = t.residual g tuple in omega (arith, ints, e));
  values = λ x a. t.values x a;
  tuples = λ g tuple live. t.tuples g tuple (tuple_fewer P (Did (CutTuple f c)) now g tuple live);
}
