-- Where a search stands between its turns.
use Rattle.std.proofs.Common.{◌≡◌, ℕ, List, [], ◌∷◌, ◌++◌, length, None, Bool, refl, sym, ap, ◌∙◌, subst, arith}
use Rattle.std.specs.Prelude.{slice_index_or}
use Rattle.cfn_model.specs.declared.step.Step.{Step}
use Rattle.cfn_model.specs.declared.step.Decision.{Decision}
use Rattle.cfn_model.specs.declared.step.Event.{Event}
use Rattle.cfn_model.specs.declared.step.Event.TheVariants.{Took}
use Rattle.cfn_model.specs.Network.{Network}
use Rattle.cfn_model.specs.Paths.{RunsAlong, TameAlong}
use Rattle.cfn_model.specs.Steps.{after}
use Rattle.cfn_proof.specs.declared.tree.NodeId.{NodeId}
use Rattle.cfn_proof.specs.declared.tree.Node.{Node}
use Rattle.cfn_proof.specs.Nodes.{Before, split_behind_at}
use Rattle.cfn_proof.proofs.CallerLemmas.{before_some, before_split_behind, length-split_behind_at, split_behind_at-first}
use Rattle.cfn_leaves.specs.Ways.{IsPathOf}
use Rattle.cfn_ranking.specs.Trees.{number_at}
use Rattle.cfn_ranking.specs.Ranked.{Ranked, IsRanked, Waits}
use Rattle.cfn_ranking.specs.Changes.{divided}
use Rattle.cfn_ranking.proofs.CallerLemmas.{before_runs, before_tame}
use Rattle.cfn_dive.specs.declared.parts.Parts.{Parts}
use Rattle.cfn_kbest.specs.declared.expanding.Expanded.TheVariants.{Divided}
use Rattle.cfn_kbest.specs.Expanding.{IsExpanded}
use Rattle.cfn_kbest.specs.Steps.{IsChild}

-- the path of a leaf that waits is what stands before it
pub path_is : (P : Network) (r : Ranked) (i : ℕ) (path : List Event) → IsRanked P r → Waits r i → IsPathOf r.nodes i path → Before r.nodes i path
path_is P r i path ranked waits of = subst (Before r.nodes i) (sym (of.is ∙ ap (λ b. after b of.above) (ranked.kept.waiting i waits).empty)) of.before

pub path_runs : (P Q : Network) (r : Ranked) (i : ℕ) (path : List Event) → Q ≡ P → IsRanked P r → Before r.nodes i path → (k : ℕ) × RunsAlong Q path k
path_runs P Q r i path same ranked before = (r.threshold, subst (λ N. RunsAlong N path r.threshold) (sym same) (before_runs P r.nodes r.threshold i path ranked.kept.valid before))

pub path_tame : (P Q : Network) (r : Ranked) (i : ℕ) (path : List Event) → Q ≡ P → IsRanked P r → Before r.nodes i path → TameAlong Q path
path_tame P Q r i path same ranked before = subst (λ N. TameAlong N path) (sym same) (before_tame P r.nodes i path ranked.kept.linked ranked.kept.tame before)

-- the first child of a split
none_behind : {T : Type 0} (xs : List T) (x d : T) → slice_index_or (xs ++ x ∷ x ∷ []) (length xs) d ≡ x
none_behind [] x d = refl
none_behind (y ∷ xs) x d = none_behind xs x d

pub child_waits : (P : Network) (r : Ranked) (i : ℕ) (block : List Step) (d : Decision) (low : ℕ) → IsRanked P r → Waits r i → Waits (divided r i block d low) (length r.nodes)
child_waits P r i block d low ranked waits = record {
  there = (let l = length-split_behind_at r.nodes i block d waits.there in omega (arith, l));
  free = ap (λ (n : Node). n.end) (split_behind_at-first r.nodes i block d waits.there);
  unlisted = ap (number_at (r.numbers ++ None ∷ None ∷ [])) (sym ranked.kept.numbers) ∙ none_behind r.numbers None None;
}

pub child_only : (P : Network) (r : Ranked) (i : ℕ) (block : List Step) (d : Decision) (base : List Event) → IsRanked P r → Waits r i → ((path : List Event) → Before r.nodes i path → path ≡ base) → (path : List Event) → Before (split_behind_at r.nodes i block d) (length r.nodes) path → path ≡ Took d ∷ after block base
child_only P r i block d base ranked waits only path before =
    let ways = before_split_behind r.nodes i block d (length r.nodes) path ranked.kept.linked waits.there waits.free before in
    let way = ways.1 refl in
    way.is ∙ ap (λ h. Took d ∷ after block h) (only way.above way.before)

pub turned_child : (P : Network) (p : Parts) (r : Ranked) (i : ℕ) (block : List Step) (d : Decision) (low : ℕ) (settled : Bool) (first : NodeId) (now : Ranked) → IsRanked P r → Waits r i → first.number ≡ length r.nodes → now ≡ divided r i block d low
    → ((path : List Event) → Before r.nodes i path → IsExpanded P path r.threshold p (Divided block d low settled)) → IsChild P p now (record { leaf = first; decision = d; floor = low; settled = settled })
turned_child P p r i block d low settled first now ranked waits first_is now_is expanded =
    let way = before_some r.nodes i ranked.kept.linked waits.there in
    let is = expanded way.0 way.1 in
    let stands : p.store.base ≡ way.0 = is.1 in
    let same : p.store.block ≡ block = is.2 in
    let child = divided r i block d low in
    record {
      waits = subst (λ q. Waits q first.number) (sym now_is) (subst (Waits child) (sym first_is) (child_waits P r i block d low ranked waits));
      only = λ path before.
          child_only P r i block d p.store.base ranked waits (λ other is_before. sym (expanded other is_before).1) path
          (subst (λ n. Before child.nodes n path) first_is (subst (λ (q : Ranked). Before q.nodes first.number path) now_is before))
          ∙ ap (λ b. Took d ∷ after b p.store.base) (sym same);
      decision = is.0.decision;
      room = is.3;
      settled = is.4;
    }
