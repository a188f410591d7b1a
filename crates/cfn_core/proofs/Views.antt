-- What the views keep, and how many shares they have, where one of them changes.
use Rattle.std.proofs.Common.{◌≡◌, ℕ, zero, suc, ◌+◌, ◌≤◌, ◌⊎◌, inl, inr, min, List, [], ◌∷◌, ◌++◌, refl, sym, ap, ◌∙◌, arith, Option, Some, None, slice_index_or, slice_set, replicate, MatchOption}
use Rattle.cfn_model.specs.Network.{Network}
use Rattle.cfn_machine.specs.Pool.{View, price}
use Rattle.cfn_core.specs.World.{view_at, price_of, least_price, share_of, shares_of}

-- by cases on an option that another fact matches
pub by_option : {X : Type 0} (o : Option X) {A : Type 0} {B : X → Type 0} {C : Type 0} → MatchOption o A B → (A → C) → ((x : X) → o ≡ Some x → B x → C) → C
by_option None h none some = none h
by_option (Some x) h none some = some x refl h

-- what stands in a list where one item was set, or put behind
pub set_at : {X : Type 0} (items : List (Option X)) (i j : ℕ) (new : Option X) (x : X) → slice_index_or (slice_set items i new) j None ≡ Some x →
    (new ≡ Some x) ⊎ (slice_index_or items j None ≡ Some x)
set_at [] i j new x h = inr h
set_at (item ∷ items) zero zero new x h = inl h
set_at (item ∷ items) zero (suc j) new x h = inr h
set_at (item ∷ items) (suc i) zero new x h = inr h
set_at (item ∷ items) (suc i) (suc j) new x h = set_at items i j new x h

pub behind_at : {X : Type 0} (items : List (Option X)) (j : ℕ) (new : Option X) (x : X) → slice_index_or (items ++ new ∷ []) j None ≡ Some x →
    (new ≡ Some x) ⊎ (slice_index_or items j None ≡ Some x)
behind_at [] zero new x h = inl h
behind_at [] (suc j) new x h = inr h
behind_at (item ∷ items) zero new x h = inr h
behind_at (item ∷ items) (suc j) new x h = behind_at items j new x h

pub nothing : {X C : Type 0} {x : X} → None ≡ Some x → C
nothing h = absurd (cc)

pub same_some : {X : Type 0} {x y : X} → Some x ≡ Some y → x ≡ y
same_some h = cc

module _ (P : Network) where
  pub price_low : (best : Option (List ℕ)) → price P best ≤ P.upper
  price_low None = omega arith
  price_low (Some values) = omega arith

  pub least_low : (views : List (Option View)) → least_price P views ≤ P.upper
  least_low [] = omega arith
  least_low (view ∷ views) = omega (arith, least_low views)

  -- a view keeps something cheaper
  pub least_lowered : (views : List (Option View)) (i c : ℕ) (view new : View) → view_at views i ≡ Some view → price P new.best ≡ min (price P view.best) c →
      least_price P (slice_set views i (Some new)) ≡ min (least_price P views) c
  least_lowered [] i c view new is lower = nothing is
  least_lowered (v ∷ views) zero c view new is lower = let e : price_of P v ≡ price P view.best = ap (price_of P) is in omega (arith, e, lower)
  least_lowered (v ∷ views) (suc i) c view new is lower = omega (arith, least_lowered views i c view new is lower)

  -- a view keeps what it kept
  pub least_same : (views : List (Option View)) (i : ℕ) (view new : View) → view_at views i ≡ Some view → new.best ≡ view.best →
      least_price P (slice_set views i (Some new)) ≡ least_price P views
  least_same [] i view new is same = nothing is
  least_same (v ∷ views) zero view new is same = let e : price_of P v ≡ price P new.best = ap (price_of P) is ∙ ap (price P) (sym same) in omega (arith, e)
  least_same (v ∷ views) (suc i) view new is same = omega (arith, least_same views i view new is same)

  -- a view is met
  pub least_met : (views : List (Option View)) (i : ℕ) (view : View) → view_at views i ≡ Some view →
      min (price P view.best) (least_price P (slice_set views i None)) ≡ least_price P views
  least_met [] i view is = nothing is
  least_met (v ∷ views) zero view is = let e : price_of P v ≡ price P view.best = ap (price_of P) is in omega (arith, e, least_low views)
  least_met (v ∷ views) (suc i) view is = omega (arith, least_met views i view is)

pub shares_set : (views : List (Option View)) (i : ℕ) (view : View) (new : Option View) → view_at views i ≡ Some view →
    shares_of (slice_set views i new) + view.shares ≡ shares_of views + share_of new
shares_set [] i view new is = nothing is
shares_set (v ∷ views) zero view new is = let e : share_of v ≡ view.shares = ap share_of is in omega (arith, e)
shares_set (v ∷ views) (suc i) view new is = omega (arith, shares_set views i view new is)

-- at the opening
pub opening_least : (P : Network) (n : ℕ) (view : View) → view.best ≡ None → least_price P (replicate n (Some view)) ≡ P.upper
opening_least P zero view none = refl
opening_least P (suc n) view none = let e : price P view.best ≡ P.upper = ap (price P) none in omega (arith, e, opening_least P n view none)

pub opening_shares : (n : ℕ) (view : View) → view.shares ≡ 1 → shares_of (replicate n (Some view)) ≡ n
opening_shares zero view one = refl
opening_shares (suc n) view one = omega (arith, one, opening_shares n view one)

pub opening_view : (n i : ℕ) (view found : View) → view_at (replicate n (Some view)) i ≡ Some found → found ≡ view
opening_view zero i view found h = nothing h
opening_view (suc n) zero view found h = sym (same_some h)
opening_view (suc n) (suc i) view found h = opening_view n i view found h
