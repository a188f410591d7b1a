-- Facts of all items of a list, and of the lanes that workers steal from.
use Rattle.std.proofs.Common.{◌≡◌, ℕ, zero, suc, ◌+◌, ◌-◌, ◌<◌, ◌≤◌, List, [], ◌∷◌, ◌++◌, map, reverse, set, get_or, take, drop, All, length, refl, sym, ap, ◌∙◌, subst, arith, inl, inr, append_assoc}
use lib.Seq.{take-append_seam, drop-append_seam, split_at}
use Rattle.atomic_blocks.specs.Lent.{RowsId}
use Rattle.std.proofs.lemmas.Bool.{cases_eq}
use Rattle.std.proofs.lemmas.List.{set_split, length-append, get_or-set_same, get_or-set_other, get_or_default, get_or-reverse, reverse-append, length-reverse, length-map, map_push, nil_from_length}
use Rattle.std.proofs.lemmas.List.Elements.{All-append, All-cons, All-nil, All-head, All-take, All-drop, All-map}
use Rattle.cfn_rota.specs.Values.{Stolen, lanes_of, Access, own_lanes, IsOneOf, OneTook, AreAll}

-- a fact of all items, after one more and before the last
module _ {X : Type 0} (P : X → Type 0) where
  pub added : (old new : List X) (x : X) → new ≡ old ++ x ∷ [] → All P old → P x → All P new
  added old new x is all one = subst (All P) (sym is) (All-append P old (x ∷ []) all (All-cons P x [] one (All-nil P)))

  pub rest : (old new : List X) (x : X) → old ≡ new ++ x ∷ [] → All P old → All P new
  rest old new x is all = subst (All P) (take-append_seam new (x ∷ [])) (All-take P (length new) (new ++ x ∷ []) (subst (All P) is all))

  pub last : (old new : List X) (x : X) → old ≡ new ++ x ∷ [] → All P old → P x
  last old new x is all = All-head P x [] (subst (All P) (drop-append_seam new (x ∷ [])) (All-drop P (length new) (new ++ x ∷ []) (subst (All P) is all)))

  pub reversed : (xs : List X) → All P xs → All P (reverse xs)
  reversed xs all k d h =
      let n = length-reverse xs in
      subst P (sym (get_or-reverse xs k d (omega (arith, h, n)))) (all (length xs - 1 - k) d (omega (arith, h, n)))

-- each item has one more, up to a place
module _ {X R : Type 0} (f : X → List R) (r : R) where
  pub thieves_more : (old new : List X) (i : ℕ) (e y : X) → i < length new → f y ≡ f (get_or new i e) ++ r ∷ [] →
      ((k : ℕ) (d : X) → k < i → f (get_or new k d) ≡ f (get_or old k d) ++ r ∷ []) →
      ((k : ℕ) (d : X) → i ≤ k → get_or new k d ≡ get_or old k d) →
      (k : ℕ) (d : X) → k < i + 1 → f (get_or (set new i y) k d) ≡ f (get_or old k d) ++ r ∷ []
  thieves_more old new i e y there more done others k d h = elim (cases_eq k i) [
    | inl same ↦
        let is : get_or new i e ≡ get_or old k d = get_or_default new i e d there ∙ others i d (omega arith) ∙ ap (λ j. get_or old j d) (sym same) in
        ap (λ j. f (get_or (set new i y) j d)) same ∙ ap f (get_or-set_same new i y d there) ∙ more ∙ ap (λ z. f z ++ r ∷ []) is
    | inr n ↦ ap f (get_or-set_other new i k y d n) ∙ done k d (omega (arith, n, h))
  ]

module _ {X : Type 0} where
  pub others_more : (old new : List X) (i : ℕ) (y : X) →
      ((k : ℕ) (d : X) → i ≤ k → get_or new k d ≡ get_or old k d) → (k : ℕ) (d : X) → i + 1 ≤ k → get_or (set new i y) k d ≡ get_or old k d
  others_more old new i y others k d h = get_or-set_other new i k y d (λ e. absurd (omega (arith, e, h))) ∙ others k d (omega (arith, h))

-- all items have the lanes so far, after one more
module _ {X A R : Type 0} (f : X → List R) (lane : A → R) where
  pub thieves_all : (old new : List X) (lanes more : List A) (made : A) (r : R) → length new ≡ length old → more ≡ lanes ++ made ∷ [] → lane made ≡ r →
      ((k : ℕ) (d : X) → k < length old → f (get_or new k d) ≡ f (get_or old k d) ++ r ∷ []) →
      All (λ x. f x ≡ map lane lanes) old → All (λ x. f x ≡ map lane more) new
  thieves_all old new lanes more made r count is same known all k d h =
      let there : k < length old = omega (arith, h, count) in
      known k d there ∙ ap (λ known. known ++ r ∷ []) (all k d there) ∙ ap (λ last. map lane lanes ++ last ∷ []) (sym same) ∙ sym (map_push lane lanes made) ∙ ap (map lane) (sym is)

-- the own lanes of the workers that were dealt with, behind those that are left
module _ {A B : Type 0} (f : A → RowsId) (g : B → Access) where
  pub order_more : (lanes left : List A) (x : A) (all more : List B) (e : B) (L : List RowsId) → lanes ≡ left ++ x ∷ [] → more ≡ all ++ e ∷ [] → f x ≡ (g e).own →
      map f lanes ++ own_lanes (reverse (map g all)) ≡ L → map f left ++ own_lanes (reverse (map g more)) ≡ L
  order_more lanes left x all more e L is new same order =
      let later : own_lanes (reverse (map g more)) ≡ f x ∷ own_lanes (reverse (map g all)) =
      ap (λ xs. own_lanes (reverse (map g xs))) new ∙ ap (λ xs. own_lanes (reverse xs)) (map_push g all e) ∙ ap own_lanes (reverse-append (map g all) (g e ∷ [])) ∙ ap (λ r. r ∷ own_lanes (reverse (map g all))) (sym same) in
      ap (λ xs. map f left ++ xs) later
      ∙ sym (append_assoc (map f left) (f x ∷ []) (own_lanes (reverse (map g all))))
      ∙ ap (λ xs. xs ++ own_lanes (reverse (map g all))) (sym (map_push f left x))
      ∙ ap (λ xs. map f xs ++ own_lanes (reverse (map g all))) (sym is)
      ∙ order

  pub all_dealt : (lanes left : List A) (n : ℕ) (all : List B) → length lanes ≡ n → length left ≡ 0 → map f left ++ own_lanes (reverse (map g all)) ≡ map f lanes →
      All (λ e. (g e).parts + n ≡ 128) all → All (λ e. (g e).others ≡ map f lanes) all → AreAll (reverse (map g all))
  all_dealt lanes left n all count none order parts others =
      let are : own_lanes (reverse (map g all)) ≡ map f lanes = ap (λ xs. map f xs ++ own_lanes (reverse (map g all))) (sym (nil_from_length left none)) ∙ order in
      let len : length (own_lanes (reverse (map g all))) ≡ n = ap length are ∙ length-map lanes f ∙ count in
      reversed (IsOneOf (own_lanes (reverse (map g all)))) (map g all) (All-map (IsOneOf (own_lanes (reverse (map g all)))) g all (λ k d h.
      record { others = others k d h ∙ sym are; parts = (let p = parts k d h in omega (arith, p, len)) }))

-- one more thief steals from one more lane
pub lanes_push : {T : Type 0} (old new : List (Stolen T)) (thief : Stolen T) (lane : RowsId) → new ≡ old ++ thief ∷ [] → thief.lane ≡ lane → lanes_of new ≡ lanes_of old ++ lane ∷ []
lanes_push {T} old new thief lane is same = ap lanes_of is ∙ map_push (λ (t : Stolen T). t.lane) old thief ∙ ap (λ r. lanes_of old ++ r ∷ []) same

-- lanes stay where an end steals
module _ {X R : Type 0} (f : X → R) where
  pub same_map : (xs : List X) (i : ℕ) (d y : X) → i < length xs → f y ≡ f (get_or xs i d) → map f (set xs i y) ≡ map f xs
  same_map [] i d y there same = refl
  same_map (z ∷ xs) zero d y there same = ap (λ r. r ∷ map f xs) same
  same_map (z ∷ xs) (suc i) d y there same = ap (λ rs. f z ∷ rs) (same_map xs i d y (omega (arith, there)) same)

-- the one whose item was replaced took the task
module _ {T : Type 0} where
  pub one_took : (xs : List (Stolen T)) (i : ℕ) (d y : Stolen T) (task : T) → i < length xs → y ≡ record (get_or xs i d) { taken = (get_or xs i d).taken ++ task ∷ [] } → OneTook task xs (set xs i y)
  one_took xs i d y task there is = record {
    before = take i xs;
    thief = get_or xs i d;
    behind = drop (suc i) xs;
    was = split_at xs i d there;
    is = set_split xs i y there ∙ ap (λ z. take i xs ++ z ∷ drop (suc i) xs) is;
  }

  -- the same behind other thieves
  took_behind : (earlier old new : List (Stolen T)) (task : T) → OneTook task old new → OneTook task (earlier ++ old) (earlier ++ new)
  took_behind earlier old new task took = record {
    before = earlier ++ took.before;
    thief = took.thief;
    behind = took.behind;
    was = ap (λ xs. earlier ++ xs) took.was ∙ sym (append_assoc earlier took.before _);
    is = ap (λ xs. earlier ++ xs) took.is ∙ sym (append_assoc earlier took.before _);
  }

  took_length : (old new : List (Stolen T)) (task : T) → OneTook task old new → length new ≡ length old
  took_length old new task took = ap length took.is ∙ length-append took.before _ ∙ sym (length-append took.before _) ∙ sym (ap length took.was)

  -- where the later of two parts of a list is written back
  pub took_later : (earlier later new items rest : List (Stolen T)) (len : ℕ) (task : T) → items ≡ earlier ++ later → len ≡ length items → OneTook task later new →
      OneTook task items (take len (earlier ++ new ++ rest))
  took_later earlier later new items rest len task is count took =
      let more : length new ≡ length later = took_length later new task took in
      let same : len ≡ length (earlier ++ new) = count ∙ ap length is ∙ length-append earlier later ∙ ap (λ n. length earlier + n) (sym more) ∙ sym (length-append earlier new) in
      let whole : take len (earlier ++ new ++ rest) ≡ earlier ++ new = ap (λ n. take n (earlier ++ new ++ rest)) same ∙ take-append_seam (earlier ++ new) rest in
      subst (λ xs. OneTook task xs (take len (earlier ++ new ++ rest))) (sym is)
      (subst (OneTook task (earlier ++ later)) (sym whole) (took_behind earlier later new task took))
