-- The word of a world, as the rule of a word in memory.
use Rattle.std.proofs.Common.{◌≡◌, ℕ, suc, ◌+◌, ◌≤◌, List, [], ◌∷◌, ◌++◌, map, refl, arith}
use Rattle.std.specs.Prelude.{min, Option, Some, None}
use Rattle.std.specs.List.{AllByRecursion}
use Rattle.cfn_model.specs.Network.{Network}
use Rattle.cfn_machine.specs.declared.sight.Sight.{Sight}
use Rattle.cfn_machine.specs.Pool.{View, price}
use Rattle.cfn_machine.specs.Word.{IsSight, least_best, shares_in}
use Rattle.cfn_machine.proofs.CallerLemmas.{best_top}
use Rattle.cfn_core.specs.World.{IsView, view_at, note_at, least_price, shares_of, idle_sight, sight_of, view_sight, note_sight}
use Rattle.cfn_core.specs.Laws.{ReadsAsWord}

price_top : (P : Network) (best : Option (List ℕ)) → price P best ≤ P.upper
price_top P None = omega arith
price_top P (Some values) = omega arith

module _ (P : Network) where
  notes_keep : (notes : List (Option ℕ)) → least_best P.upper (map (note_sight P) notes) ≡ P.upper
  notes_keep [] = refl
  notes_keep (None ∷ notes) = let rest = notes_keep notes in omega (arith, rest)
  notes_keep (Some seen ∷ notes) = let rest = notes_keep notes in omega (arith, rest)

  views_keep : (views : List (Option View)) (more : List Sight) → least_best P.upper (map (view_sight P) views ++ more) ≡ min (least_price P views) (least_best P.upper more)
  views_keep [] more = let top = best_top P.upper more in omega (arith, top)
  views_keep (None ∷ views) more = let rest = views_keep views more in omega (arith, rest)
  views_keep (Some view ∷ views) more = let rest = views_keep views more in omega (arith, rest)

  notes_share : (notes : List (Option ℕ)) → shares_in (map (note_sight P) notes) ≡ 0
  notes_share [] = refl
  notes_share (None ∷ notes) = let rest = notes_share notes in omega (arith, rest)
  notes_share (Some seen ∷ notes) = let rest = notes_share notes in omega (arith, rest)

  views_share : (views : List (Option View)) (more : List Sight) → shares_in (map (view_sight P) views ++ more) ≡ shares_of views + shares_in more
  views_share [] more = omega arith
  views_share (None ∷ views) more = let rest = views_share views more in omega (arith, rest)
  views_share (Some view ∷ views) more = let rest = views_share views more in omega (arith, rest)

  module _ (word : ℕ) (low : word ≤ P.upper) where
    idle_is : (seen : ℕ) → word ≤ seen → seen ≤ P.upper → IsSight P.upper word (idle_sight P.upper seen)
    idle_is seen from upto = record { from = from; upto = upto; best = omega arith; idle = (λ none. refl) }

    view_is : (view : View) → IsView P word view → (view.shares ≡ 0 → ⊥) → IsSight P.upper word (sight_of P view)
    view_is view is some = record { from = is.from; upto = is.upto; best = price_top P view.best; idle = (λ none. absurd (some none)) }

    notes_are : (notes : List (Option ℕ)) → ((i seen : ℕ) → note_at notes i ≡ Some seen → (word ≤ seen) × (seen ≤ P.upper)) → AllByRecursion (IsSight P.upper word) (map (note_sight P) notes)
    notes_are [] all = tt
    notes_are (None ∷ notes) all = (idle_is P.upper low (omega arith), notes_are notes (λ i. all (suc i)))
    notes_are (Some seen ∷ notes) all = (idle_is seen (all 0 seen refl).0 (all 0 seen refl).1, notes_are notes (λ i. all (suc i)))

    views_are : (views : List (Option View)) (more : List Sight) → ((i : ℕ) (view : View) → view_at views i ≡ Some view → IsView P word view × (view.shares ≡ 1)) → AllByRecursion (IsSight P.upper word) more → AllByRecursion (IsSight P.upper word) (map (view_sight P) views ++ more)
    views_are [] more all are = are
    views_are (None ∷ views) more all are = (idle_is P.upper low (omega arith), views_are views more (λ i. all (suc i)) are)
    views_are (Some view ∷ views) more all are =
        (view_is view (all 0 view refl).0 (λ none. let one = (all 0 view refl).1 in absurd (omega (arith, none, one))), views_are views more (λ i. all (suc i)) are)

pub reads_as_word : ReadsAsWord
reads_as_word P w rule =
    let notes = map (note_sight P) w.notes in
    let top = price_top P w.pool.view.best in
    let least = rule.least in
    let low : w.word ≤ P.upper = omega (arith, least, top) in
    let some = rule.some in
    record {
      least = let n = notes_keep P w.notes in let v = views_keep P w.views notes in let t = best_top P.upper notes in omega (arith, least, n, v, t, top);
      shares = let n = notes_share P w.notes in let v = views_share P w.views notes in let all = rule.all in omega (arith, n, v, all);
      each = (view_is P w.word low w.pool.view rule.pool (λ none. absurd (omega (arith, none, some))), views_are P w.word low w.views notes (λ i view at. (rule.views i view at, rule.one i view at)) (notes_are P w.word low w.notes rule.notes));
    }
