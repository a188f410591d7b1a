-- Each step on the word keeps its rule.
use Rattle.std.proofs.Common.{◌≡◌, ℕ, ◌+◌, ◌-◌, ◌<◌, ◌≤◌, List, [], ◌∷◌, ◌++◌, length, set, refl, sym, ap, ◌∙◌, subst, inl, inr, arith}
use Rattle.std.specs.Prelude.{min, slice_index}
use Rattle.std.specs.List.{AllByRecursion}
use Rattle.std.proofs.lemmas.Bool.{cases_lt}
use mathlib.Core.Option.{some}
use lib.ListN.{get_elem?}
use Rattle.atomic_table.specs.Table.{State, Me, Step, Allows, Splits, Joins, keeps}
use Rattle.atomic_table.proofs.Lists.{set_here, set_else}
use Rattle.cfn_machine.specs.declared.sight.Sight.{Sight}
use Rattle.cfn_machine.specs.Word.{HasWord, IsSight, all_shares, least_best, shares_in}
use Rattle.cfn_model.specs.Network.{Network}
use Rattle.cfn_low.specs.Steps.{IsReached, IsWord, Looks, Lowers, bare, sight, left_of, right_of, noted, joined, spent}
use Rattle.cfn_low.proofs.Sights.{sight_at, lower_sight, sights_set, sights_more, sights_lower, best_at, best_set, best_spent, best_more, shares_set, shares_at, shares_more, one_keeps, set_at, two_shares}

-- one view changes, and the word falls to what it keeps, if that is less
pub turned : (top word new : ℕ) (vs : List Sight) (id : ℕ) (v w : Sight) → HasWord top word vs → get_elem? vs id ≡ some v → new ≡ min w.best word → w.best ≤ v.best → w.shares ≡ v.shares → IsSight top new w → HasWord top new (set vs id w)
turned top word new vs id v w has at is best shares sees = record {
  least = let b = best_set top vs id v w at best in let l = has.least in omega (arith, b, l, is);
  shares = let s = shares_set vs id v w at in let all = has.shares in omega (arith, s, all, shares);
  each = sights_set top new vs id w (sights_lower top word new vs (omega (arith, is)) has.each) sees;
}

-- the lesser of two that were reached was reached
pub lesser_reached : (P : Network) (a b : ℕ) → IsReached P a → IsReached P b → IsReached P (min a b)
lesser_reached P a b one other = elim (cases_lt b a) [
  | inl less ↦ subst (IsReached P) (omega (arith, less)) other
  | inr most ↦ subst (IsReached P) (omega (arith, most)) one
]

module _ (P : Network) (slots id : ℕ) (v : Sight) where
  pub looks : (step : Step (Unit {0})) → Allows (IsWord P) slots id (bare v) 0 (λ n. n) (Looks P step (bare v))
  looks step s holds homes at fits =
      let word = holds.0 in
      let n = slice_index s.words 0 in
      let is : n ≡ word = ap (λ l. slice_index l 0) holds.1 in
      let has = holds.2 in
      let top = P.upper in
      let sees = sight_at top word s.views id v has.each at in
      let below = best_at top s.views id v at in
      let w = sight v.best n v.shares in
      let reached = subst (IsReached P) (sym is) holds.3 in
      let from = sees.from in let upto = sees.upto in let least = has.least in (
        w,
        keeps,
        tt,
        (
          n,
          ap (λ l. set l 0 n) holds.1,
          turned top word n s.views id v w has at (omega (arith, is, least, below)) (omega arith) refl
              (record { from = omega arith; upto = omega (arith, is, from, upto); best = sees.best; idle = sees.idle }),
          reached,
        ),
        (
          refl,
          omega (arith, is, from),
          omega (arith, is, least, below),
          (λ whole. let one = one_keeps top word s.views id v has.each at (has.shares ∙ sym whole) in omega (arith, is, least, one)),
          reached,
        ),
      )

  pub lowers : (step : Step (Unit {0})) (price : ℕ) → step.first ≡ price → IsReached P price → 0 < v.shares → Allows (IsWord P) slots id (bare v) 0 (λ n. min n price) (Lowers P step (bare v))
  lowers step price first known shared s holds homes at fits =
      let word = holds.0 in
      let n = slice_index s.words 0 in
      let is : n ≡ word = ap (λ l. slice_index l 0) holds.1 in
      let has = holds.2 in
      let top = P.upper in
      let sees = sight_at top word s.views id v has.each at in
      let below = best_at top s.views id v at in
      let w = sight (min v.best step.first) (min n step.first) v.shares in
      let reached = subst (IsReached P) (sym is) holds.3 in
      let from = sees.from in let upto = sees.upto in let least = has.least in let best = sees.best in (
        w,
        keeps,
        tt,
        (
          min n price,
          ap (λ l. set l 0 (min n price)) holds.1,
          turned top word (min n price) s.views id v w has at (omega (arith, is, least, below, first)) (omega arith) refl
              (record { from = omega (arith, first); upto = omega (arith, is, from, upto); best = omega (arith, best); idle = (λ none. absurd (omega (arith, none, shared))) }),
          lesser_reached P n price reached known,
        ),
        (refl, omega (arith, is, from), omega (arith, is, least, below), reached),
      )

  -- a view is split
  pub splits : (left right : Sight) → left.best ≡ v.best → left.seen ≡ v.seen → (left.shares ≡ 0 → v.shares ≡ 0) → left.shares + right.shares ≡ v.shares → right.best ≡ P.upper → right.seen ≡ v.seen → Splits (IsWord P) id v left right
  splits left right best seen idle shares none sees s holds at =
      let word = holds.0 in let has = holds.2 in let top = P.upper in
      let is = sight_at top word s.views id v has.each at in
      let vs = set s.views id left in
      let from = is.from in let upto = is.upto in let b = is.best in (
        word,
        holds.1,
        record {
          least = let set = best_set top s.views id v left at (omega (arith, best)) in let more = best_more top vs right none in let l = has.least in let below = best_at top s.views id v at in omega (arith, set, more, l, below, best);
          shares = let set = shares_set s.views id v left at in let more = shares_more vs right in let all = has.shares in omega (arith, set, more, all, shares);
          each = sights_more top word vs right
              (sights_set top word s.views id left has.each (record { from = omega (arith, from, seen); upto = omega (arith, upto, seen); best = omega (arith, b, best); idle = (λ zero. best ∙ is.idle (idle zero)) }))
              (record { from = omega (arith, from, sees); upto = omega (arith, upto, sees); best = omega (arith, none); idle = (λ zero. none) });
        },
        holds.3,
      )

  -- one view is joined into another
  pub joins : (other : ℕ) (w : Sight) → 0 < v.shares → Joins (IsWord P) id v other w (joined v w) (spent P.upper)
  joins other w shared s holds at different there =
      let word = holds.0 in let has = holds.2 in let top = P.upper in
      let both = joined v w in
      let was : get_elem? s.views other ≡ some w = sym (set_else s.views id other both different) ∙ there in
      let one = sight_at top word s.views id v has.each at in
      let two = sight_at top word s.views other w has.each was in
      let vs = set s.views id both in
      let all = has.shares in
      let f1 = one.from in let f2 = two.from in let u1 = one.upto in let b1 = one.best in
      let s1 = shares_set s.views id v both at in
      let s2 = shares_set vs other w (spent top) there in
      let few : v.shares + w.shares ≤ all_shares = let two = two_shares s.views id other v w different at was in omega (arith, two, all) in (
        word,
        holds.1,
        record {
          least = let first = best_set top s.views id v both at (omega arith) in
              let second = best_spent top vs other w (spent top) there refl in
              let l = has.least in let below = best_at top s.views id v at in let below2 = best_at top s.views other w was in
              let kept = best_at top (set vs other (spent top)) id both (set_else vs other id (spent top) (λ e. different (sym e)) ∙ set_at s.views id v both at) in
              omega (arith, first, second, l, below, below2, kept);
          shares = omega (arith, s1, s2, all, few);
          each = sights_set top word vs other (spent top)
              (sights_set top word s.views id both has.each (record { from = omega (arith, f1, f2); upto = omega (arith, u1); best = omega (arith, b1); idle = (λ zero. absurd (omega (arith, zero, shared))) }))
              (record { from = omega (arith, f1, u1); upto = omega arith; best = omega arith; idle = (λ zero. refl) });
        },
        holds.3,
      )
