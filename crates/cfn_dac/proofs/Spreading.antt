-- Live tuples get what they lack of the amounts of their first values, one second value after another.
use Rattle.std.proofs.Common.{◌≡◌, ℕ, ◌+◌, ◌<◌, ◌≤◌, ◌^◌, max, inl, inr, List, ◌∷◌, length, false, sym, ap, ◌∙◌, subst, arith}
use Rattle.std.proofs.lemmas.Bool.{cases_eq}
use Rattle.std.proofs.lemmas.Int.{ints}
use Rattle.std.specs.Prelude.{Ok, Option, Some, None, MatchOption, ℤ, pos, ◌+ℤ◌, ◌≤ℤ◌, ◌<ℤ◌, slice_index, IsTrue}
use Rattle.cfn_model.specs.declared.step.Step.TheVariants.{Extend}
use Rattle.cfn_model.specs.declared.step.Event.{Event}
use Rattle.cfn_model.specs.declared.step.Event.TheVariants.{Did}
use Rattle.cfn_model.specs.Network.{Network, IsNetwork, Fits, dims_at}
use Rattle.cfn_model.specs.Sums.{unary, residual, is_live, is_live_tuple}
use Rattle.cfn_model.specs.Steps.{IsPlace}
use Rattle.cfn_model.proofs.CallerLemmas.{tuple_fewer}
use Rattle.cfn_gain.proofs.CallerLemmas.{history_step, passing_adds}
use Rattle.cfn_scan.specs.Exact.{IsExactAlong}
use Rattle.cfn_scan.specs.declared.scan.Extreme.{Extreme}
use Rattle.cfn_scan.specs.Extremes.{IsPicked, NoneBetween, IsLeastBetween}
use Rattle.cfn_store.specs.Standing.{Standing, history, with_step, FitsExtend}
use Rattle.cfn_scan.proofs.CallerLemmas.{tuple_at, exact_now, picked_swapped}
use Rattle.cfn_gain.specs.declared.limits.Limits.{Limits}
use Rattle.cfn_scan.specs.declared.line.Line.{Line}
use Rattle.cfn_scan.specs.Lines.{IsLine, IsAlong}
use Rattle.cfn_gain.specs.Calls.{GoesOn, Does, Passing}
use Rattle.cfn_dac.specs.declared.pair.Pair.{Pair}
use Rattle.cfn_dac.specs.Full.{IsPair, first_of, second_of}
use Rattle.cfn_dac.specs.Moves.{IsLiveTuple, Covers, AreWithin, AreForLive, AreLent, IsShare, IsLack, lack_of, Trims, CostBelow}
use Rattle.cfn_dac.proofs.Places.{cases_lt, not_both, place_of, variables_apart}
use Rattle.cfn_dac.proofs.Costs.{residual_extended, residual_kept, unary_kept}

-- the most that the tuples with first values below n lack
pub record IsShareTo (P : Network) (history : List Event) (pair : Pair) (moves : List ℕ) (b n share : ℕ) : Type 0 where
  pub enough : (tuple : List ℕ) → IsPicked P history pair.function pair.other b tuple → slice_index tuple pair.place < n → pos (slice_index moves (slice_index tuple pair.place)) ≤ℤ (residual P history pair.function tuple +ℤ pos share)
  pub due : 0 < share → (tuple : List ℕ) × IsPicked P history pair.function pair.other b tuple × (pos (slice_index moves (slice_index tuple pair.place)) ≡ residual P history pair.function tuple +ℤ pos share)

more_share : (m one other : ℕ) (r : ℤ) → one ≤ other → pos m ≤ℤ (r +ℤ pos one) → pos m ≤ℤ (r +ℤ pos other)
more_share m one other r le h = omega (arith, ints, le, h)

small_amount : (m share : ℕ) (r : ℤ) → m ≤ share → pos 0 ≤ℤ r → pos m ≤ℤ (r +ℤ pos share)
small_amount m share r le h = omega (arith, ints, le, h)

-- an amount that is no more than the share so far adds nothing
pub share_skip : (P : Network) (history : List Event) (pair : Pair) (moves : List ℕ) (b n share : ℕ) → IsExactAlong P history → pair.function < length P.functions → IsShareTo P history pair moves b n share → slice_index moves n ≤ share → IsShareTo P history pair moves b (n + 1) share
share_skip P history pair moves b n share exact there old le = record {
  enough = λ tuple picked h. elim (cases_eq (slice_index tuple pair.place) n) [
    | inl e ↦ small_amount (slice_index moves (slice_index tuple pair.place)) share (residual P history pair.function tuple) (let same = ap (slice_index moves) e in omega (arith, same, le)) ((exact_now P history exact).no_debts.residual pair.function tuple there picked.fits picked.live)
    | inr d ↦ old.enough tuple picked (omega (arith, h, d))
  ];
  due = old.due;
}

pub share_more : (P : Network) (history : List Event) (pair : Pair) (moves : List ℕ) (b n share lack new : ℕ) → IsShareTo P history pair moves b n share → IsLack P history pair n b (slice_index moves n) lack → new ≡ max share lack → IsShareTo P history pair moves b (n + 1) new
share_more P history pair moves b n share lack new old is m = record {
  enough = λ tuple picked h. elim (cases_eq (slice_index tuple pair.place) n) [
    | inl e ↦
        more_share (slice_index moves (slice_index tuple pair.place)) lack new (residual P history pair.function tuple) (omega (arith, m))
        (subst (λ k. pos (slice_index moves k) ≤ℤ (residual P history pair.function tuple +ℤ pos lack)) (sym e) (is.enough tuple (record { fits = picked.fits; one = e; other = picked.value; live = picked.live })))
    | inr d ↦ more_share (slice_index moves (slice_index tuple pair.place)) share new (residual P history pair.function tuple) (omega (arith, m)) (old.enough tuple picked (omega (arith, h, d)))
  ];
  due = λ some. elim (cases_lt share lack) [
    | inl less ↦
        (let e : new ≡ lack = omega (arith, m, less) in
        let t = is.due (omega (arith, e, some)) in
        (t.0, record { fits = t.1.fits; value = t.1.other; live = t.1.live }, ap (λ k. pos (slice_index moves k)) t.1.one ∙ t.2 ∙ ap (λ k. residual P history pair.function t.0 +ℤ pos k) (sym e)))
    | inr more ↦
        (let e : new ≡ share = omega (arith, m, more) in
        let t = old.due (omega (arith, e, some)) in
        (t.0, t.1, t.2 ∙ ap (λ k. residual P history pair.function t.0 +ℤ pos k) (sym e)))
  ];
}

pub share_all : (P : Network) (history : List Event) (pair : Pair) (moves : List ℕ) (b n share : ℕ) → IsPair P pair → slice_index P.sizes (first_of P pair) ≤ n → IsShareTo P history pair moves b n share → IsShare P history pair moves b share
share_all P history pair moves b n share is all old = record {
  enough = λ tuple picked. (let at = tuple_at P history pair.function pair.place tuple is.place picked.fits picked.live in let l = at.0 in old.enough tuple picked (omega (arith, l, all)));
  due = old.due;
}

-- a value that is not live has nothing to give
pub share_dead : (P : Network) (history : List Event) (pair : Pair) (moves : List ℕ) (b : ℕ) → IsPair P pair → is_live history (second_of P pair) b ≡ false → IsShare P history pair moves b 0
share_dead P history pair moves b is dead = record {
  enough = λ tuple picked.
      (let at = tuple_at P history pair.function pair.other tuple is.other picked.fits picked.live in
      not_both (is_live history (second_of P pair) b) (subst (λ k. IsTrue (is_live history (second_of P pair) k)) picked.value at.1) dead);
  due = λ some. absurd (omega (arith, some));
}

-- the share is there, and is at most what an amount may be
there_is : (m share most : ℕ) (r u : ℤ) → pos m ≡ r +ℤ pos share → pos m ≤ℤ (r +ℤ u) → pos share ≤ℤ u
there_is m share most r u due h = omega (arith, ints, due, h)

is_small : (m share most : ℕ) (r : ℤ) → pos m ≡ r +ℤ pos share → pos 0 ≤ℤ r → m ≤ most → share ≤ most
is_small m share most r due low le = omega (arith, ints, due, low, le)

gets_some : (m share : ℕ) (r : ℤ) → pos m ≡ r +ℤ pos share → pos 0 ≤ℤ r → 0 < share → 0 < m
gets_some m share r due low some = omega (arith, ints, due, low, some)

pub record IsDue (P : Network) (history : List Event) (pair : Pair) (most b share : ℕ) : Type 0 where
  pub unary : pos share ≤ℤ unary P history (second_of P pair) b
  pub small : share ≤ most

pub share_due : (P : Network) (history : List Event) (pair : Pair) (most : ℕ) (moves : List ℕ) (b share : ℕ) → IsExactAlong P history → IsPair P pair → Covers P history pair moves b → AreWithin P history pair most moves 0 → IsShare P history pair moves b share → 0 < share → IsDue P history pair most b share
share_due P history pair most moves b share exact pair_is covers within is some =
    let t = is.due some in
    let tuple = t.0 in
    let m = slice_index moves (slice_index tuple pair.place) in
    let r = residual P history pair.function tuple in
    let low : pos 0 ≤ℤ r = (exact_now P history exact).no_debts.residual pair.function tuple pair_is.function t.1.fits t.1.live in
    let at = tuple_at P history pair.function pair.place tuple pair_is.place t.1.fits t.1.live in
    let place = place_of P pair.function pair.place (slice_index tuple pair.place) pair_is.function pair_is.place at.0 in
    let w = within (slice_index tuple pair.place) place (omega arith) (gets_some m share r t.2 low some) in
    let value = t.1.value in
    let h = covers.rest tuple (record { fits = t.1.fits; live = t.1.live }) (omega (arith, value)) in
    record {
      unary = there_is m share most r (unary P history (second_of P pair) b) t.2 (subst (λ k. pos m ≤ℤ (r +ℤ unary P history (second_of P pair) k)) value h);
      small = is_small m share most r t.2 low w.amount;
    }

-- it can be extended once costly tuples are cut
sum_small : (share most upper : ℕ) (r : ℤ) → share ≤ most → r <ℤ pos most → most ≤ upper → upper < 2 ^ 63 → (r +ℤ pos share) <ℤ pos (2 ^ 64)
sum_small share most upper r a b c d = omega (arith, ints, a, b, c, d)

pub fits_extend : (s t : Standing) (limits : Limits) (pair : Pair) (b share : ℕ) → IsNetwork s.network → GoesOn s limits → t.network ≡ s.network → IsPlace s.network pair.function pair.other b → 0 < share → IsDue s.network (history s) pair limits.threshold b share → Trims s.network (history s) (history t) → CostBelow s.network (history t) pair.function pair.other b limits.threshold → FitsExtend t pair.function pair.other b share
fits_extend s t limits pair b share net goes same place some due trims below =
    let upper = goes.upper in let capped = net.upper in
    record {
      place = subst (λ P. IsPlace P pair.function pair.other b) (sym same) place;
      some = some;
      spelled = let a = due.small in omega (arith, a, upper, capped);
      enough = λ live. subst (λ P. pos share ≤ℤ unary P (history t) (second_of P pair) b) (sym same) (subst (λ z. pos share ≤ℤ z) (sym (trims.unary (second_of s.network pair) b)) due.unary);
      small = subst (λ P. (tuple : List ℕ) → Fits (dims_at P pair.function) tuple → slice_index tuple pair.other ≡ b → IsTrue (is_live_tuple P (history t) pair.function tuple) → (residual P (history t) pair.function tuple +ℤ pos share) <ℤ pos (2 ^ 64)) (sym same)
          (λ tuple fits at live. sum_small share limits.threshold s.network.upper (residual s.network (history t) pair.function tuple) due.small (below tuple (record { fits = fits; value = at; live = live })) upper (omega (arith, capped)));
    }

-- after the extend the tuples with that value have their amounts
pub covers_trimmed : (P : Network) (before after : List Event) (pair : Pair) (moves : List ℕ) (b : ℕ) → Trims P before after → Covers P before pair moves b → Covers P after pair moves b
covers_trimmed P before after pair moves b trims covers = record {
  done = λ tuple live h. subst (λ z. pos (slice_index moves (slice_index tuple pair.place)) ≤ℤ z) (sym (trims.residual pair.function tuple)) (covers.done tuple (record { fits = live.fits; live = trims.tuples pair.function tuple live.live }) h);
  rest = λ tuple live h.
      subst (λ z. pos (slice_index moves (slice_index tuple pair.place)) ≤ℤ z) (sym (ap (λ r. r +ℤ unary P after (second_of P pair) (slice_index tuple pair.other)) (trims.residual pair.function tuple) ∙ ap (λ u. residual P before pair.function tuple +ℤ u) (trims.unary (second_of P pair) (slice_index tuple pair.other))))
      (covers.rest tuple (record { fits = live.fits; live = trims.tuples pair.function tuple live.live }) h);
}

pub enough_trimmed : (P : Network) (before after : List Event) (pair : Pair) (moves : List ℕ) (b share : ℕ) → Trims P before after → IsShare P before pair moves b share → (tuple : List ℕ) → IsPicked P after pair.function pair.other b tuple → pos (slice_index moves (slice_index tuple pair.place)) ≤ℤ (residual P after pair.function tuple +ℤ pos share)
enough_trimmed P before after pair moves b share trims is tuple picked =
    subst (λ r. pos (slice_index moves (slice_index tuple pair.place)) ≤ℤ (r +ℤ pos share)) (sym (trims.residual pair.function tuple)) (is.enough tuple (record { fits = picked.fits; value = picked.value; live = trims.tuples pair.function tuple picked.live }))

pub within_trimmed : (P : Network) (before after : List Event) (pair : Pair) (most : ℕ) (moves : List ℕ) → Trims P before after → AreWithin P before pair most moves 0 → AreWithin P after pair most moves 0
within_trimmed P before after pair most moves trims within a place h gets =
    let w = within a place h gets in
    record {
      live = trims.values (first_of P pair) a ∙ w.live;
      amount = w.amount;
      cost = subst (λ u. (u +ℤ pos (slice_index moves a)) ≤ℤ pos most) (sym (trims.unary (first_of P pair) a)) w.cost;
    }

pub covers_extended : (P : Network) (history : List Event) (pair : Pair) (moves : List ℕ) (b share : ℕ) → Covers P history pair moves b → ((tuple : List ℕ) → IsPicked P history pair.function pair.other b tuple → pos (slice_index moves (slice_index tuple pair.place)) ≤ℤ (residual P history pair.function tuple +ℤ pos share)) → Covers P (Did (Extend pair.function pair.other b share) ∷ history) pair moves (b + 1)
covers_extended P history pair moves b share covers enough = record {
  done = λ tuple live h. elim (cases_eq (slice_index tuple pair.other) b) [
    | inl e ↦ subst (λ z. pos (slice_index moves (slice_index tuple pair.place)) ≤ℤ z) (sym (residual_extended P history pair.function pair.other b share tuple e)) (enough tuple (record { fits = live.fits; value = e; live = (was tuple live).live }))
    | inr d ↦ subst (λ z. pos (slice_index moves (slice_index tuple pair.place)) ≤ℤ z) (sym (residual_kept P history pair.function pair.other b share tuple d)) (covers.done tuple (was tuple live) (omega (arith, h, d)))
  ];
  rest = λ tuple live h.
      (let d : slice_index tuple pair.other ≡ b → ⊥ = λ e. absurd (omega (arith, e, h)) in
      subst (λ z. pos (slice_index moves (slice_index tuple pair.place)) ≤ℤ z)
      (sym (ap (λ r. r +ℤ unary P (Did (Extend pair.function pair.other b share) ∷ history) (second_of P pair) (slice_index tuple pair.other)) (residual_kept P history pair.function pair.other b share tuple d)
      ∙ ap (λ u. residual P history pair.function tuple +ℤ u) (unary_kept P history pair.function pair.other b share (second_of P pair) (slice_index tuple pair.other) (λ same e. d (sym e)))))
      (covers.rest tuple (was tuple live) (omega (arith, h))));
}
  where
    was : (tuple : List ℕ) → IsLiveTuple P (Did (Extend pair.function pair.other b share) ∷ history) pair.function tuple → IsLiveTuple P history pair.function tuple
    was tuple live = record { fits = live.fits; live = tuple_fewer P (Did (Extend pair.function pair.other b share)) history pair.function tuple live.live }

pub within_extended : (P : Network) (history : List Event) (pair : Pair) (most : ℕ) (moves : List ℕ) (b share : ℕ) → (second_of P pair ≡ first_of P pair → ⊥) → AreWithin P history pair most moves 0 → AreWithin P (Did (Extend pair.function pair.other b share) ∷ history) pair most moves 0
within_extended P history pair most moves b share apart within a place h gets =
    let w = within a place h gets in
    record {
      live = w.live;
      amount = w.amount;
      cost = subst (λ u. (u +ℤ pos (slice_index moves a)) ≤ℤ pos most) (sym (unary_kept P history pair.function pair.other b share (first_of P pair) a (λ same e. apart same))) w.cost;
    }

-- what stands after the cuts and the extend
pub filled_covers : (s t u : Standing) (limits : Limits) (pair : Pair) (moves : List ℕ) (b share : ℕ) → t.network ≡ s.network → Trims s.network (history s) (history t) → Covers s.network (history s) pair moves b → IsShare s.network (history s) pair moves b share → u ≡ with_step t (Extend pair.function pair.other b share) → Covers u.network (history u) pair moves (b + 1)
filled_covers s t u limits pair moves b share same trims covers is made =
    subst (λ (v : Standing). Covers v.network (history v) pair moves (b + 1)) (sym made)
    (subst (λ h. Covers t.network h pair moves (b + 1)) (sym (history_step t (Extend pair.function pair.other b share)))
    (subst (λ P. Covers P (Did (Extend pair.function pair.other b share) ∷ history t) pair moves (b + 1)) (sym same)
    (covers_extended s.network (history t) pair moves b share (covers_trimmed s.network (history s) (history t) pair moves b trims covers) (enough_trimmed s.network (history s) (history t) pair moves b share trims is))))

pub filled_within : (s t u : Standing) (limits : Limits) (pair : Pair) (moves : List ℕ) (b share : ℕ) → IsNetwork s.network → IsPair s.network pair → t.network ≡ s.network → Trims s.network (history s) (history t) → AreWithin s.network (history s) pair limits.threshold moves 0 → u ≡ with_step t (Extend pair.function pair.other b share) → AreWithin u.network (history u) pair limits.threshold moves 0
filled_within s t u limits pair moves b share net is same trims within made =
    subst (λ (v : Standing). AreWithin v.network (history v) pair limits.threshold moves 0) (sym made)
    (subst (λ h. AreWithin t.network h pair limits.threshold moves 0) (sym (history_step t (Extend pair.function pair.other b share)))
    (subst (λ P. AreWithin P (Did (Extend pair.function pair.other b share) ∷ history t) pair limits.threshold moves 0) (sym same)
    (within_extended s.network (history t) pair limits.threshold moves b share (variables_apart s.network pair net is) (within_trimmed s.network (history s) (history t) pair limits.threshold moves trims within))))

-- where the call is: the second values below b have given
pub record IsSpreading (before now : Standing) (limits : Limits) (pair : Pair) (moves : List ℕ) (b : ℕ) : Type 0 where
  pub passing : Passing before now limits (Unit {0})
  pub covers : Covers now.network (history now) pair moves b
  pub within : AreWithin now.network (history now) pair limits.threshold moves 0

pub spreading_more : (before now next : Standing) (limits : Limits) (pair : Pair) (moves : List ℕ) (b : ℕ) → IsSpreading before now limits pair moves b → Does now next limits (Ok tt) → Covers next.network (history next) pair moves (b + 1) → AreWithin next.network (history next) pair limits.threshold moves 0 → IsSpreading before next limits pair moves (b + 1)
spreading_more before now next limits pair moves b s does covers within = record {
  passing = passing_adds before now next limits (Unit {0}) (Unit {0}) s.passing does.adds does.ends (λ same fact unchanged. tt);
  covers = covers;
  within = within;
}

pub all_lent : (P : Network) (history : List Event) (pair : Pair) (moves : List ℕ) (b : ℕ) → IsPair P pair → slice_index P.sizes (second_of P pair) ≤ b → Covers P history pair moves b → AreLent P history pair moves 0
all_lent P history pair moves b is all covers tuple live h =
    let at = tuple_at P history pair.function pair.other tuple is.other live.fits live.live in let l = at.0 in
    covers.done tuple live (omega (arith, l, all))

-- a first value that gets an amount stands on a line of a second value
pub first_along : (P : Network) (history : List Event) (pair : Pair) (moves : List ℕ) (a b share : ℕ) (line : Line) → IsPair P pair → IsLine P history pair.function pair.other b pair.place line → AreForLive P history pair moves → a < slice_index P.sizes (first_of P pair) → share < slice_index moves a → IsAlong P history pair.function pair.other b pair.place line a
first_along P history pair moves a b share line is is_line live small gets =
    let place = place_of P pair.function pair.place a is.function is.place small in
    record { is_line = is_line; place = place; live = live a place (omega (arith, gets)) }

-- what the tuple of a line lacks of an amount
pub lack_along : (P : Network) (history : List Event) (pair : Pair) (a b amount : ℕ) (found : Option Extreme) → MatchOption found (NoneBetween P history pair.function pair.other b pair.place a) (IsLeastBetween P history pair.function pair.other b pair.place a) → IsLack P history pair a b amount (lack_of amount found)
lack_along P history pair a b amount None none = record {
  enough = λ tuple picked. absurd (none tuple (picked_swapped P history pair.function pair.place a pair.other b tuple picked));
  due = λ some. absurd (omega (arith, some));
}
lack_along P history pair a b amount (Some found) is = record {
  enough = λ tuple picked. (let l = is.least tuple (picked_swapped P history pair.function pair.place a pair.other b tuple picked) in omega (arith, ints, l));
  due = λ some. (is.tuple, picked_swapped P history pair.function pair.other b pair.place a is.tuple is.picked, (let c = is.cost_is in omega (arith, ints, c, some)));
}
