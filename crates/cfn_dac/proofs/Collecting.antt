-- Amounts go to their values, one after another.
use Rattle.std.proofs.Common.{◌≡◌, ◌⊎◌, ℕ, ◌+◌, ◌<◌, ◌≤◌, ◌^◌, inl, inr, List, [], ◌∷◌, length, length-append, sym, ap, ◌∙◌, subst, arith}
use Rattle.std.proofs.lemmas.Bool.{cases_eq}
use Rattle.std.proofs.lemmas.Int.{ints}
use Rattle.std.specs.Prelude.{Ok, ℤ, pos, ◌+ℤ◌, ◌≤ℤ◌, ◌<ℤ◌, slice_index}
use Rattle.cfn_model.specs.declared.step.Step.TheVariants.{Project}
use Rattle.cfn_model.specs.declared.step.Event.{Event}
use Rattle.cfn_model.specs.declared.step.Event.TheVariants.{Did}
use Rattle.cfn_model.specs.Network.{Network, IsNetwork}
use Rattle.cfn_model.specs.Sums.{unary, residual}
use Rattle.cfn_model.specs.Steps.{IsPlace}
use Rattle.cfn_model.proofs.CallerLemmas.{tuple_fewer}
use Rattle.cfn_gain.proofs.CallerLemmas.{history_step, passing_adds, no_shorter}
use Rattle.cfn_store.specs.Standing.{Standing, history, with_step, FitsProject}
use Rattle.cfn_gain.specs.declared.limits.Limits.{Limits}
use Rattle.cfn_gain.specs.Calls.{GoesOn, Does, Grows, Passing}
use Rattle.cfn_dac.specs.declared.pair.Pair.{Pair}
use Rattle.cfn_dac.specs.Full.{first_of}
use Rattle.cfn_dac.specs.Moves.{AreWithin, AreLent, SomeFrom}
use Rattle.cfn_dac.proofs.Costs.{residual_projected, unary_projected}

-- where the call is: the values below n have their amounts
pub record IsCollecting (before now : Standing) (limits : Limits) (pair : Pair) (moves : List ℕ) (n : ℕ) : Type 0 where
  pub passing : Passing before now limits (Unit {0})
  pub lent : AreLent now.network (history now) pair moves n
  pub within : AreWithin now.network (history now) pair limits.threshold moves n
  pub some : Grows before now ⊎ SomeFrom now.network pair moves n

-- a value that gets nothing
pub collecting_skip : (before now : Standing) (limits : Limits) (pair : Pair) (moves : List ℕ) (n : ℕ) → IsCollecting before now limits pair moves n → slice_index moves n ≡ 0 → IsCollecting before now limits pair moves (n + 1)
collecting_skip before now limits pair moves n c none = record {
  passing = c.passing;
  lent = λ tuple live h. c.lent tuple live (omega (arith, h));
  within = λ a place h gets. c.within a place (omega (arith, h)) gets;
  some = by c.some;
}
  where
    by : Grows before now ⊎ SomeFrom now.network pair moves n → Grows before now ⊎ SomeFrom now.network pair moves (n + 1)
    by (inl grows) = inl grows
    by (inr some) = elim (cases_eq some.0 n) [
      | inl e ↦ absurd (let g = some.3 in let z = ap (slice_index moves) e ∙ none in omega (arith, g, z))
      | inr d ↦ inr (some.0, some.1, (let l = some.2 in omega (arith, l, d)), some.3)
    ]

-- an amount can be projected
small_cost : (u : ℤ) (m most upper : ℕ) → (u +ℤ pos m) ≤ℤ pos most → most ≤ upper → upper < 2 ^ 63 → (u +ℤ pos m) <ℤ pos (2 ^ 64)
small_cost u m most upper h le small = omega (arith, ints, h, le, small)

pub fits_project : (s : Standing) (limits : Limits) (pair : Pair) (moves : List ℕ) (n : ℕ) → IsNetwork s.network → GoesOn s limits → IsPlace s.network pair.function pair.place n → AreLent s.network (history s) pair moves n → AreWithin s.network (history s) pair limits.threshold moves n → 0 < slice_index moves n → FitsProject s pair.function pair.place n (slice_index moves n)
fits_project s limits pair moves n net goes place lent within gets =
    let w = within n place (omega arith) gets in
    let upper = goes.upper in let capped = net.upper in
    record {
      place = place;
      some = gets;
      spelled = let a = w.amount in omega (arith, a, upper, capped);
      enough = λ tuple fits at live. subst (λ a. pos (slice_index moves a) ≤ℤ residual s.network (history s) pair.function tuple) at (lent tuple (record { fits = fits; live = live }) (omega (arith, at)));
      small = λ live. small_cost (unary s.network (history s) (first_of s.network pair) n) (slice_index moves n) limits.threshold s.network.upper w.cost upper (omega (arith, capped));
    }

-- a value that gets its amount
lent_more : (P : Network) (history : List Event) (pair : Pair) (moves : List ℕ) (n m : ℕ) → AreLent P history pair moves n → AreLent P (Did (Project pair.function pair.place n m) ∷ history) pair moves (n + 1)
lent_more P history pair moves n m lent tuple live h =
    let e = residual_projected P history pair.function pair.place n m tuple (λ at. absurd (omega (arith, at, h))) in
    subst (λ z. pos (slice_index moves (slice_index tuple pair.place)) ≤ℤ z) (sym e)
    (lent tuple (record { fits = live.fits; live = tuple_fewer P (Did (Project pair.function pair.place n m)) history pair.function tuple live.live }) (omega (arith, h)))

within_more : (P : Network) (history : List Event) (pair : Pair) (most : ℕ) (moves : List ℕ) (n m : ℕ) → AreWithin P history pair most moves n → AreWithin P (Did (Project pair.function pair.place n m) ∷ history) pair most moves (n + 1)
within_more P history pair most moves n m within a place h gets =
    let w = within a place (omega (arith, h)) gets in
    let e = unary_projected P history pair.function pair.place n m a (λ at. absurd (omega (arith, at, h))) in
    record { live = w.live; amount = w.amount; cost = subst (λ z. (z +ℤ pos (slice_index moves a)) ≤ℤ pos most) (sym e) w.cost }

pub collecting_more : (before now next : Standing) (limits : Limits) (pair : Pair) (moves : List ℕ) (n m : ℕ) → IsCollecting before now limits pair moves n → Does now next limits (Ok tt) → next ≡ with_step now (Project pair.function pair.place n m) → IsCollecting before next limits pair moves (n + 1)
collecting_more before now next limits pair moves n m c does is = record {
  passing = passing_adds before now next limits (Unit {0}) (Unit {0}) c.passing does.adds does.ends (λ same fact unchanged. tt);
  lent = subst (λ (t : Standing). AreLent t.network (history t) pair moves (n + 1)) (sym is)
      (subst (λ h. AreLent now.network h pair moves (n + 1)) (sym (history_step now (Project pair.function pair.place n m))) (lent_more now.network (history now) pair moves n m c.lent));
  within = subst (λ (t : Standing). AreWithin t.network (history t) pair limits.threshold moves (n + 1)) (sym is)
      (subst (λ h. AreWithin now.network h pair limits.threshold moves (n + 1)) (sym (history_step now (Project pair.function pair.place n m))) (within_more now.network (history now) pair limits.threshold moves n m c.within));
  some = inl (let long = ap (λ (t : Standing). length t.block) is ∙ length-append now.block (Project pair.function pair.place n m ∷ []) in let h = no_shorter before now limits c.passing.adds in omega (arith, long, h));
}
