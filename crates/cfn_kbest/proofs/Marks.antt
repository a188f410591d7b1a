-- Which nodes stand behind a place where the network was fully consistent.
use Rattle.std.proofs.Common.{◌≡◌, ℕ, ◌+◌, inl, inr, List, [], ◌∷◌, ◌++◌, length, Option, None, Some, Bool, true, false, replicate, sym, ap, ◌∙◌, subst, arith, length-append}
use Rattle.std.proofs.Math.Seq.{get_or-append_seam}
use Rattle.std.proofs.lemmas.Bool.{cases_eq, cases_lt, false≢true}
use Rattle.std.proofs.lemmas.List.{get_or-append-add, get_or_append_left, get_or-replicate, length-replicate}
use Rattle.std.specs.Prelude.{IfSome}
use Rattle.cfn_model.specs.declared.step.Step.{Step}
use Rattle.cfn_model.specs.declared.step.Decision.{Decision}
use Rattle.cfn_model.specs.declared.step.Event.{Event}
use Rattle.cfn_model.specs.Network.{Network}
use Rattle.cfn_model.specs.Steps.{after}
use Rattle.cfn_consistency.specs.Consistency.{AreFullyConsistent}
use Rattle.cfn_proof.specs.declared.tree.Node.{Node}
use Rattle.cfn_proof.specs.Nodes.{Before, close_at, split_behind_at}
use Rattle.cfn_proof.proofs.CallerLemmas.{before_close, before_split_behind, length-close_at, length-split_behind_at}
use Rattle.cfn_store.specs.Standing.{Standing, history}
use Rattle.cfn_edac.specs.Settling.{IsBehindSettled}
use Rattle.cfn_dive.specs.Enforcing.{IsSettledAt}
use Rattle.cfn_dive.specs.declared.parts.Parts.{Parts}
use Rattle.cfn_ranking.specs.Ranked.{Ranked, IsRanked, Waits}
use Rattle.cfn_ranking.specs.Changes.{KeepsPaths}
use Rattle.cfn_kbest.specs.declared.expanding.Expanded.TheVariants.{Divided}
use Rattle.cfn_kbest.specs.Expanding.{IsExpanded}
use Rattle.cfn_kbest.specs.Steps.{AreMarked, EndsBehindPlace, IsBehindPlace, mark_at}

-- at first none is marked
pub none_marked : (P : Network) (nodes : List Node) (marks : List Bool) → marks ≡ replicate (length nodes) false → AreMarked P nodes marks
none_marked P nodes marks are = record {
  long = ap length are ∙ length-replicate (length nodes) false;
  settled = λ i path there mark before. absurd (false≢true (sym (get_or-replicate (length nodes) i false false there) ∙ ap (λ m. mark_at m i) (sym are) ∙ mark));
}

-- marks stay where what stands before a node stays
pub kept_marks : (P : Network) (old new : List Node) (marks : List Bool) → KeepsPaths old new → AreMarked P old marks → AreMarked P new marks
kept_marks P old new marks keeps marked = record {
  long = marked.long ∙ sym keeps.long;
  settled = λ i path there mark before. marked.settled i path (let l = keeps.long in omega (arith, l, there)) mark (keeps.before i path before);
}

pub closed_marks : (P : Network) (r : Ranked) (i : ℕ) (block : List Step) (marks : List Bool) → IsRanked P r → Waits r i → AreMarked P r.nodes marks → AreMarked P (close_at r.nodes i block) marks
closed_marks P r i block marks ranked waits marked =
    kept_marks P r.nodes (close_at r.nodes i block) marks
    (record { long = length-close_at r.nodes i block waits.there; before = λ j path before. before_close r.nodes i block j path ranked.kept.linked waits.there waits.free before })
    marked

-- the children of a split stand behind the same place
split_place : (P : Network) (p : Parts) (r : Ranked) (i : ℕ) (block : List Step) (d : Decision) (low : ℕ) (settled : Bool) → ((path : List Event) → Before r.nodes i path → IsExpanded P path r.threshold p (Divided block d low settled)) → settled ≡ true → (above : List Event) → Before r.nodes i above → IsSettledAt P (after block above)
split_place P p r i block d low settled expanded holds above before =
    let is = expanded above before in
    subst (IsSettledAt P) (ap (λ b. after b p.store.base) is.2 ∙ ap (after block) is.1) (is.4 holds)

pub divided_marks : (P : Network) (p : Parts) (r : Ranked) (i : ℕ) (block : List Step) (d : Decision) (low : ℕ) (settled : Bool) (marks : List Bool) → IsRanked P r → Waits r i → AreMarked P r.nodes marks
    → ((path : List Event) → Before r.nodes i path → IsExpanded P path r.threshold p (Divided block d low settled)) → AreMarked P (split_behind_at r.nodes i block d) (marks ++ settled ∷ settled ∷ [])
divided_marks P p r i block d low settled marks ranked waits marked expanded =
    let more = length-split_behind_at r.nodes i block d waits.there in
    let long = marked.long in
    let all = marks ++ settled ∷ settled ∷ [] in
    record {
      long = (let l = length-append marks (settled ∷ settled ∷ []) in omega (arith, l, more, long));
      settled = λ j path there mark before. (let ways = before_split_behind r.nodes i block d j path ranked.kept.linked waits.there waits.free before in
          elim (cases_lt j (length r.nodes)) [
            | inl old ↦ marked.settled j path old (sym (get_or_append_left marks (settled ∷ settled ∷ []) false j (omega (arith, old, long))) ∙ mark) (ways.0 old)
            | inr new ↦ elim (cases_eq j (length r.nodes)) [
              | inl same ↦
                  let way = ways.1 same in
                  let holds : settled ≡ true = sym (get_or-append_seam marks settled (settled ∷ []) false) ∙ ap (mark_at all) (long ∙ sym same) ∙ mark in
                  subst (IsBehindPlace P) (sym way.is) (split_place P p r i block d low settled expanded holds way.above way.before)
              | inr other ↦
                  let here : j ≡ length r.nodes + 1 = omega (arith, new, other, there, more) in
                  let way = ways.2 here in
                  let holds : settled ≡ true = sym (get_or-append-add marks (settled ∷ settled ∷ []) 1 false) ∙ ap (mark_at all) (ap (λ n. n + 1) long ∙ sym here) ∙ mark in
                  subst (IsBehindPlace P) (sym way.is) (split_place P p r i block d low settled expanded holds way.above way.before)
            ]
          ]);
    }

-- a path that ends by an event, behind such a place
pub ends_behind : (P : Network) (o : Option Event) (path : List Event) → IsBehindPlace P path → IfSome o (λ event. (above : List Event) × (path ≡ event ∷ above)) → IfSome o (EndsBehindPlace P path)
ends_behind P None path is of = tt
ends_behind P (Some event) path is of = (of.0, of.1, subst (IsBehindPlace P) of.1 is)

-- and a store that stands at its end
pub stands_behind : (P : Network) (o : Option Event) (path : List Event) (s : Standing) → s.network ≡ P → history s ≡ path → IfSome o (EndsBehindPlace P path) → IfSome o (IsBehindSettled s)
stands_behind P None path s network way of = tt
stands_behind P (Some event) path s network way of = record {
  before = of.0;
  threshold = of.2.0;
  path = way ∙ of.1;
  settled = subst (λ Q. AreFullyConsistent Q of.0 of.2.0) (sym network) of.2.1;
}
