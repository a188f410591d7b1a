-- The leaves of listed assignments get their numbers.
use Rattle.std.proofs.Common.{◌≡◌, ℕ, zero, suc, ◌+◌, ◌<◌, ◌≤◌, inl, inr, List, [], ◌∷◌, length, Option, None, Some, refl, sym, ap, ◌∙◌, subst, arith}
use Rattle.std.proofs.lemmas.Bool.{cases_eq}
use Rattle.std.proofs.lemmas.List.{get_or-set_same, get_or-set_other, length-set}
use Rattle.std.specs.Prelude.{slice_index_or, slice_set}
use Rattle.cfn_proof.specs.declared.tree.NodeId.{NodeId}
use Rattle.cfn_ranking.specs.Trees.{number_at}
use Rattle.cfn_ranking.specs.Ranked.{HasLeaf}
use Rattle.cfn_ranking.specs.Finished.{AreNumbered, AreNumberedSoFar, AreThere, IsNumbered}

pub has_at : (leaves : List NodeId) (j : ℕ) (other : NodeId) → j < length leaves → HasLeaf leaves (slice_index_or leaves j other).number
has_at [] j other h = absurd (omega (arith, h))
has_at (leaf ∷ leaves) zero other h = inl refl
has_at (leaf ∷ leaves) (suc j) other h = inr (has_at leaves j other (omega (arith, h)))

pub same_at : {T : Type 0} (l : List T) (j : ℕ) (a b : T) → j < length l → slice_index_or l j a ≡ slice_index_or l j b
same_at [] j a b h = absurd (omega (arith, h))
same_at (x ∷ l) zero a b h = refl
same_at (x ∷ l) (suc j) a b h = same_at l j a b (omega (arith, h))

-- where one of them is
at_some : (leaves : List NodeId) (i : ℕ) → HasLeaf leaves i → (j : ℕ) × (j < length leaves) × ((other : NodeId) → (slice_index_or leaves j other).number ≡ i)
at_some [] i has = absurd has
at_some (leaf ∷ leaves) i (inl same) = (0, omega arith, λ other. same)
at_some (leaf ∷ leaves) i (inr has) = let rest = at_some leaves i has in (suc rest.0, (let h = rest.1 in omega (arith, h)), λ other. rest.2 other)

pub none_numbered : (leaves : List NodeId) (numbers : List (Option ℕ)) → AreNumberedSoFar leaves 0 numbers numbers
none_numbered leaves numbers = record { same = refl; each = λ j other h. absurd (omega (arith, h)); others = λ i none. refl }

pub one_numbered : (leaves : List NodeId) (j : ℕ) (old now : List (Option ℕ)) (leaf : NodeId) → j < length leaves → leaf ≡ slice_index_or leaves j leaf → AreThere (length old) leaves → AreNumberedSoFar leaves j old now → AreNumberedSoFar leaves (j + 1) old (slice_set now leaf.number (Some j))
one_numbered leaves j old now leaf within is there so_far = record {
  same = length-set now leaf.number (Some j) ∙ so_far.same;
  each = λ k other h. elim (cases_eq (slice_index_or leaves k other).number leaf.number) [
    | inl same ↦ record {
      place = j;
      is = ap (number_at (slice_set now leaf.number (Some j))) same ∙ get_or-set_same now leaf.number (Some j) None room;
      within = within;
      leaf = λ o. ap (λ (n : NodeId). n.number) (same_at leaves j o leaf within ∙ sym is) ∙ sym same;
    }
    | inr apart ↦
        let before : k < j = elim (cases_eq k j) [
          | inl now_j ↦ absurd (apart (ap (λ m. (slice_index_or leaves m other).number) now_j ∙ ap (λ (n : NodeId). n.number) (same_at leaves j other leaf within ∙ sym is)))
          | inr earlier ↦ omega (arith, h, earlier)
        ] in
        subst (IsNumbered leaves (slice_index_or leaves k other).number) (sym (get_or-set_other now leaf.number (slice_index_or leaves k other).number (Some j) None apart)) (so_far.each k other before)
  ];
  others = λ i none. get_or-set_other now leaf.number i (Some j) None (λ same. none (subst (HasLeaf leaves) (sym same) here)) ∙ so_far.others i none;
}
  where
    here : HasLeaf leaves leaf.number
    here = subst (λ (n : NodeId). HasLeaf leaves n.number) (sym is) (has_at leaves j leaf within)

    room : leaf.number < length now
    room = let t = there leaf.number here in let s = so_far.same in omega (arith, t, s)

pub all_numbered : (leaves : List NodeId) (n : ℕ) (old now : List (Option ℕ)) → length leaves ≤ n → AreNumberedSoFar leaves n old now → AreNumbered leaves old now
all_numbered leaves n old now all so_far = record {
  same = so_far.same;
  each = λ i has.
      let at = at_some leaves i has in
      let nobody : NodeId = record { number = 0 } in
      let h = at.1 in
      subst (λ m. IsNumbered leaves m (number_at now m)) (at.2 nobody) (so_far.each at.0 nobody (omega (arith, h, all)));
  others = so_far.others;
}

pub room_for : (leaves : List NodeId) (n j : ℕ) (leaf : NodeId) → AreThere n leaves → j < length leaves → leaf ≡ slice_index_or leaves j leaf → leaf.number < n
room_for leaves n j leaf there within is = there leaf.number (subst (λ (l : NodeId). HasLeaf leaves l.number) (sym is) (has_at leaves j leaf within))
