-- How a node ends that is kept.
use Rattle.std.proofs.Common.{◌≡◌, ℕ, zero, suc, ◌<◌, inl, inr, List, [], ◌∷◌, refl, sym, ap, ◌∙◌, subst, arith}
use Rattle.std.proofs.lemmas.Bool.{eqb-true, eq-eqb}
use Rattle.std.proofs.lemmas.List.{append-nil}
use Rattle.std.specs.Prelude.{Bool, true, false, ◌==◌, ◌↔◌, IsTrue, if◌then◌else◌, slice_index}
use Rattle.cfn_model.specs.declared.step.Step.{Step}
use Rattle.cfn_model.specs.declared.step.Decision.{Decision}
use Rattle.cfn_model.specs.declared.step.Event.{Event}
use Rattle.cfn_model.specs.Network.{Network}
use Rattle.cfn_model.specs.Steps.{IsDecision, after}
use Rattle.cfn_model.specs.Sums.{is_live}
use Rattle.cfn_model.specs.Tree as trees
use Rattle.cfn_model.specs.Tree.{CanClose, IsStrictSplit}
use Rattle.cfn_rows.specs.Sets.{live_below, live_count}
use Rattle.cfn_rows.proofs.CallerLemmas.{live_below_none}
use Rattle.cfn_proof.specs.declared.tree.NodeId.{NodeId}
use Rattle.cfn_proof.specs.declared.tree.End.{End}
use Rattle.cfn_proof.specs.declared.tree.End.TheVariants.{Free, Shut, Split}
use Rattle.cfn_proof.specs.declared.tree.Node.{Node}
use Rattle.cfn_proof.specs.Nodes.{with_children}
use Rattle.cfn_store.specs.Rooms.{sets_of}
use Rattle.cfn_store.specs.Standing.{Standing, history}
use Rattle.cfn_mending.specs.Keeping.{IsFront, Kept}
use Rattle.cfn_rebase.specs.Fronts.{IsCutFront, IsEnding}

pub whole_block : (P : Network) (h : List Event) (k : ℕ) (block front : List Step) (whole : Bool) → whole ≡ true → IsCutFront P h k block front whole → block ≡ front
whole_block P h k block front true is_all is = is.split ∙ append-nil front
whole_block P h k block front false is_all is = absurd cc

module _ (P : Network) (h : List Event) (k : ℕ) (node : Node) (front : List Step) where
  -- an open leaf, whatever the node's end is, by what is kept where it is this one
  as_end : (end : End) → node.end ≡ end → ((child : ℕ → trees.Tree) → Kept P h k (with_children node.block end child) (trees.Open front)) → IsEnding P h k node front Free
  as_end end is kept = λ child. subst (λ e. Kept P h k (with_children node.block e child) (trees.Open front)) (sym is) (kept child)

  cut_at : (end : End) → IsCutFront P h k node.block front false → (child : ℕ → trees.Tree) → Kept P h k (with_children node.block end child) (trees.Open front)
  cut_at Free (step, rest, is) child = (front, step ∷ rest, is, refl)
  cut_at Shut (step, rest, is) child = (front, step ∷ rest, is, inr ((λ all. some_none step rest all.0), refl))
    where
      some_none : (step : Step) (rest : List Step) → step ∷ rest ≡ [] → ⊥
      some_none step rest e = cc
  cut_at (Split d first second) (step, rest, is) child = (front, step ∷ rest, is, inr ((λ all. some_none step rest all.0), refl))
    where
      some_none : (step : Step) (rest : List Step) → step ∷ rest ≡ [] → ⊥
      some_none step rest e = cc

  whole_is : (whole : Bool) → whole ≡ true → IsCutFront P h k node.block front whole → IsFront P h k node.block front []
  whole_is true is_all is = is
  whole_is false is_all is = absurd cc

  cut_is : (whole : Bool) → whole ≡ false → IsCutFront P h k node.block front whole → IsCutFront P h k node.block front false
  cut_is true is_part is = absurd cc
  cut_is false is_part is = is

  pub ends_cut : (whole : Bool) → whole ≡ false → IsCutFront P h k node.block front whole → IsEnding P h k node front Free
  ends_cut whole is_part is = as_end node.end refl (cut_at node.end (cut_is whole is_part is))

  pub stays_open : (whole : Bool) → whole ≡ true → IsCutFront P h k node.block front whole → node.end ≡ Free → IsEnding P h k node front Free
  stays_open whole is_all is end = as_end Free end (λ child. (front, [], whole_is whole is_all is, refl))

  pub is_opened : (whole : Bool) → whole ≡ true → IsCutFront P h k node.block front whole → node.end ≡ Shut → (CanClose P (after front h) k → ⊥) → IsEnding P h k node front Free
  is_opened whole is_all is end cannot = as_end Shut end (λ child. (front, [], whole_is whole is_all is, inr ((λ all. cannot all.1), refl)))

  pub stays_closed : (whole : Bool) → whole ≡ true → IsCutFront P h k node.block front whole → node.end ≡ Shut → CanClose P (after front h) k → IsEnding P h k node front Shut
  stays_closed whole is_all is end can = λ child. subst (λ e. Kept P h k (with_children node.block e child) (trees.Closed front)) (sym end) (front, [], whole_is whole is_all is, inl (refl, can, refl))

  pub is_joined : (whole : Bool) → whole ≡ true → IsCutFront P h k node.block front whole → (d : Decision) (first second : NodeId) → node.end ≡ Split d first second → (IsDecision P d × IsStrictSplit P (after front h) d → ⊥) → IsEnding P h k node front Free
  is_joined whole is_all is d first second end cannot = as_end (Split d first second) end (λ child. (front, [], whole_is whole is_all is, inr ((λ all. cannot (all.1, all.2)), refl)))

  pub stays_split : (whole : Bool) → whole ≡ true → IsCutFront P h k node.block front whole → (d : Decision) (first second : NodeId) → node.end ≡ Split d first second → IsDecision P d × IsStrictSplit P (after front h) d → IsEnding P h k node front node.end
  stays_split whole is_all is d first second end can = subst (λ e. IsEnding P h k node front e) (sym end) (end, whole_is whole is_all is, can.0, can.1)

-- ---- live values

none_below : (path : List Event) (x n : ℕ) → ((a : ℕ) → a < n → is_live path x a ≡ false) → live_below path x n ≡ 0
none_below path x zero none = refl
none_below path x (suc n) none =
    let rest = none_below path x n (λ a l. none a (omega (arith, l))) in
    let last : (if is_live path x n then 1 else 0) ≡ 0 = ap {B = ℕ} (λ (t : Bool). if t then 1 else 0) (none n (omega arith)) in
    omega (arith, rest, last)

pub none_counted : (s : Standing) (x n : ℕ) → n ≡ live_count (sets_of s) x → IsTrue (n == 0) ↔ ((a : ℕ) → a < slice_index s.network.sizes x → is_live (history s) x a ≡ false)
none_counted s x n is = (
  (λ none a l. live_below_none (history s) x (slice_index s.network.sizes x) a (sym is ∙ eqb-true n 0 none) l),
  (λ none. eq-eqb n 0 (is ∙ none_below (history s) x (slice_index s.network.sizes x) none)),
)
