-- The ends of some workers' lanes, while the last worker meets the others one after the other.
use Rattle.std.proofs.Common.{◌≡◌, ℕ, zero, suc, ◌+◌, ◌<◌, ◌≤◌, List, [], ◌∷◌, ◌++◌, map, reverse, set, get_or, take, All, length, refl, sym, ap, ◌∙◌, subst, inl, inr, arith, append_assoc}
use Rattle.atomic_blocks.specs.Lent.{RowsId}
use Rattle.std.proofs.lemmas.Bool.{cases_eq}
use Rattle.std.proofs.lemmas.List.{append-nil, get_or-set_same, get_or-set_other, get_or-map, reverse-append, length-map, length_push, map_push, map-set, take_more, take_all, same_from_push, nil_from_length}
use Rattle.std.proofs.lemmas.List.Elements.{All-map}
use Rattle.cfn_rota.specs.Values.{Access, own_lanes, IsOneOf, AreAll, Meets, EndsWith}
use Rattle.cfn_rota.proofs.Dealt.{rest, last, same_map}

-- one more lane, behind those of some workers
lanes_more : (all : List Access) (a : Access) → own_lanes (all ++ a ∷ []) ≡ own_lanes all ++ a.own ∷ []
lanes_more all a = map_push (λ (b : Access). b.own) all a

-- one that has met the last worker is one of the others
met_is : (lanes : List RowsId) (own : RowsId) (old new : Access) → IsOneOf (lanes ++ own ∷ []) old → Meets old new own → IsOneOf lanes new
met_is lanes own old new one meets = record {
  others = (same_from_push new.others lanes own own (sym meets.others ∙ one.others)).0;
  parts = (let n = length_push lanes own in let p = one.parts in let q = meets.parts in omega (arith, n, p, q));
}

-- what is left of the last worker's thieves
pub thieves_less : (lanes : List RowsId) (i : ℕ) (thieves left : List RowsId) (r : RowsId) → i < length lanes → thieves ≡ take (i + 1) lanes → thieves ≡ left ++ r ∷ [] → left ≡ take i lanes
thieves_less lanes i thieves left r there old new = (same_from_push left (take i lanes) r (get_or lanes i r) (sym new ∙ old ∙ take_more lanes i r there)).0

module _ {X : Type 0} (acc : X → Access) where
  lanes_length : (xs : List X) → length (own_lanes (map acc xs)) ≡ length xs
  lanes_length xs = length-map (map acc xs) (λ (a : Access). a.own) ∙ length-map xs acc

  lane_at : (xs : List X) (i : ℕ) (d : X) (e : RowsId) → i < length xs → get_or (own_lanes (map acc xs)) i e ≡ (acc (get_or xs i d)).own
  lane_at xs i d e there = let n = length-map xs acc in
      get_or-map (λ (a : Access). a.own) (map acc xs) i (acc d) e (omega (arith, n, there)) ∙ ap (λ (a : Access). a.own) (get_or-map acc xs i d (acc d) there)

  -- the last worker's thieves: those of the others' lanes, and last that of its own
  pub last_others : (xs : List X) (a : Access) → AreAll (map acc xs ++ a ∷ []) → a.others ≡ own_lanes (map acc xs) ++ a.own ∷ []
  last_others xs a all = (last (IsOneOf (own_lanes (map acc xs ++ a ∷ []))) (map acc xs ++ a ∷ []) (map acc xs) a refl all).others ∙ lanes_more (map acc xs) a

  pub last_parts : (xs : List X) (a : Access) → AreAll (map acc xs ++ a ∷ []) → a.parts + (length xs + 1) ≡ 128
  last_parts xs a all =
      let p = (last (IsOneOf (own_lanes (map acc xs ++ a ∷ []))) (map acc xs ++ a ∷ []) (map acc xs) a refl all).parts in
      let n = ap length (lanes_more (map acc xs) a) in let m = length_push (own_lanes (map acc xs)) a.own in let k = lanes_length xs in omega (arith, p, n, m, k)

  -- once it has absorbed its own thief
  pub own_absorbed : (xs : List X) (a b : Access) → AreAll (map acc xs ++ a ∷ []) → Meets a b a.own → b.others ≡ take (length xs) (own_lanes (map acc xs))
  own_absorbed xs a b all meets =
      (same_from_push b.others (own_lanes (map acc xs)) a.own a.own (sym meets.others ∙ last_others xs a all)).0
      ∙ sym (take_all (length xs) (own_lanes (map acc xs)) (let n = lanes_length xs in omega (arith, n)))

  -- each of the others
  pub one_of : (xs : List X) (a : Access) → AreAll (map acc xs ++ a ∷ []) → (k : ℕ) (d : X) → k < length xs → IsOneOf (own_lanes (map acc xs) ++ a.own ∷ []) (acc (get_or xs k d))
  one_of xs a all k d there =
      let n = length-map xs acc in
      let h = rest (IsOneOf (own_lanes (map acc xs ++ a ∷ []))) (map acc xs ++ a ∷ []) (map acc xs) a refl all k (acc d) (omega (arith, n, there)) in
      subst (λ lanes. IsOneOf lanes (acc (get_or xs k d))) (lanes_more (map acc xs) a) (subst (IsOneOf (own_lanes (map acc xs ++ a ∷ []))) (get_or-map acc xs k d (acc d) there) h)

  -- the next to be met has the lane of the last worker's last thief
  pub mine_ends : (xs : List X) (i : ℕ) (d : X) (thieves : List RowsId) → i < length xs → thieves ≡ take (i + 1) (own_lanes (map acc xs)) → EndsWith thieves (acc (get_or xs i d)).own
  mine_ends xs i d thieves there is = let lanes = own_lanes (map acc xs) in let own = (acc (get_or xs i d)).own in let n = lanes_length xs in
      (take i lanes, is ∙ take_more lanes i own (omega (arith, n, there)) ∙ ap (λ r. take i lanes ++ r ∷ []) (lane_at xs i d own there))

  -- and its last thief is of the last worker's lane
  pub theirs_ends : (xs : List X) (a : Access) → AreAll (map acc xs ++ a ∷ []) → (k : ℕ) (d : X) → k < length xs → EndsWith (acc (get_or xs k d)).others a.own
  theirs_ends xs a all k d there = (own_lanes (map acc xs), (one_of xs a all k d there).others)

  pub met_one : (xs : List X) (a : Access) → AreAll (map acc xs ++ a ∷ []) → (k : ℕ) (d : X) (new : Access) → k < length xs → Meets (acc (get_or xs k d)) new a.own → IsOneOf (own_lanes (map acc xs)) new
  met_one xs a all k d new there meets = met_is (own_lanes (map acc xs)) a.own (acc (get_or xs k d)) new (one_of xs a all k d there) meets

  pub thieves_step : (xs : List X) (i : ℕ) (thieves left : List RowsId) (r : RowsId) → i < length xs → thieves ≡ take (i + 1) (own_lanes (map acc xs)) → thieves ≡ left ++ r ∷ [] → left ≡ take i (own_lanes (map acc xs))
  thieves_step xs i thieves left r there = let n = lanes_length xs in thieves_less (own_lanes (map acc xs)) i thieves left r (omega (arith, n, there))

  pub same_lanes : (xs : List X) (i : ℕ) (d y : X) → i < length xs → (acc y).own ≡ (acc (get_or xs i d)).own → own_lanes (map acc (set xs i y)) ≡ own_lanes (map acc xs)
  same_lanes xs i d y there same = let n = length-map xs acc in
      ap own_lanes (map-set acc xs i y)
      ∙ same_map (λ (a : Access). a.own) (map acc xs) i (acc d) (acc y) (omega (arith, n, there)) (same ∙ ap (λ (a : Access). a.own) (sym (get_or-map acc xs i d (acc d) there)))

  pub before_step : (old new : List X) (i : ℕ) (y : X) → ((k : ℕ) (d : X) → k < i + 1 → get_or new k d ≡ get_or old k d) → (k : ℕ) (d : X) → k < i → get_or (set new i y) k d ≡ get_or old k d
  before_step old new i y same k d h = get_or-set_other new i k y d (λ e. absurd (omega (arith, e, h))) ∙ same k d (omega (arith, h))

  pub met_step : (lanes : List RowsId) (n : ℕ) (new : List X) (i : ℕ) (y : X) → i < length new → IsOneOf lanes (acc y) →
      ((k : ℕ) (d : X) → i + 1 ≤ k → k < n → IsOneOf lanes (acc (get_or new k d))) → (k : ℕ) (d : X) → i ≤ k → k < n → IsOneOf lanes (acc (get_or (set new i y) k d))
  met_step lanes n new i y there one met k d from below = elim (cases_eq k i) [
    | inl e ↦ subst (λ (z : X). IsOneOf lanes (acc z)) (sym (ap (λ j. get_or (set new i y) j d) e ∙ get_or-set_same new i y d there)) one
    | inr other ↦ subst (λ (z : X). IsOneOf lanes (acc z)) (sym (get_or-set_other new i k y d other)) (met k d (omega (arith, other, from)) below)
  ]

  -- once all have met the last worker, their ends are all of their lanes
  pub all_met : (xs ys : List X) → length ys ≡ length xs → own_lanes (map acc ys) ≡ own_lanes (map acc xs) → ((k : ℕ) (d : X) → k < length xs → IsOneOf (own_lanes (map acc xs)) (acc (get_or ys k d))) → AreAll (map acc ys)
  all_met xs ys count same met = All-map (IsOneOf (own_lanes (map acc ys))) acc ys (λ k d h. subst (λ lanes. IsOneOf lanes (acc (get_or ys k d))) (sym same) (met k d (omega (arith, h, count))))

  -- before the last worker is let go
  pub all_but_last : (all before : List X) (x : X) → all ≡ before ++ x ∷ [] → AreAll (map acc all) → AreAll (map acc before ++ acc x ∷ [])
  all_but_last all before x is = subst AreAll (ap (map acc) is ∙ map_push acc before x)

  -- workers that each kept theirs
  pub same_access : (xs ys : List X) → length ys ≡ length xs → ((k : ℕ) (d : X) → k < length xs → acc (get_or ys k d) ≡ acc (get_or xs k d)) → map acc ys ≡ map acc xs
  same_access [] [] count each = refl
  same_access [] (y ∷ ys) count each = absurd (omega (arith, count))
  same_access (x ∷ xs) [] count each = absurd (omega (arith, count))
  same_access (x ∷ xs) (y ∷ ys) count each =
      ap (λ a. a ∷ map acc ys) (each zero x (omega arith)) ∙ ap (λ as'. acc x ∷ as') (same_access xs ys (omega (arith, count)) (λ k d h. each (suc k) d (omega (arith, h))))

-- workers that get the ends from the last on, in turn
module _ {X Y : Type 0} (acc : X → Access) (end : Y → Access) where
  pub in_turn : (ends left : List Y) (e : Y) (crew more : List X) (x : X) (all : List Access) → ends ≡ left ++ e ∷ [] → more ≡ crew ++ x ∷ [] → acc x ≡ end e →
      map acc crew ++ reverse (map end ends) ≡ all → map acc more ++ reverse (map end left) ≡ all
  in_turn ends left e crew more x all is new same order =
      let first : reverse (map end ends) ≡ acc x ∷ reverse (map end left) =
      ap (λ es. reverse (map end es)) is ∙ ap reverse (map_push end left e) ∙ reverse-append (map end left) (end e ∷ []) ∙ ap (λ a. a ∷ reverse (map end left)) (sym same) in
      ap (λ ws. map acc ws ++ reverse (map end left)) new ∙ ap (λ as'. as' ++ reverse (map end left)) (map_push acc crew x)
      ∙ append_assoc (map acc crew) (acc x ∷ []) (reverse (map end left)) ∙ ap (λ as'. map acc crew ++ as') (sym first) ∙ order

  pub all_in_turn : (left : List Y) (crew : List X) (all : List Access) → length left ≡ 0 → map acc crew ++ reverse (map end left) ≡ all → AreAll all → AreAll (map acc crew)
  all_in_turn left crew all none order =
      let is : all ≡ map acc crew = sym order ∙ ap (λ es. map acc crew ++ reverse (map end es)) (nil_from_length left none) ∙ append-nil (map acc crew) in
      subst AreAll is
