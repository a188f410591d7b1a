-- The joined tree is made node after node.
use Rattle.std.proofs.Common.{◌≡◌, ℕ, ◌+◌, ◌<◌, ◌≤◌, inl, inr, List, [], ◌∷◌, ◌++◌, length, get_or, refl, sym, ap, ◌∙◌, subst, arith, length-append}
use Rattle.std.proofs.lemmas.Bool.{cases_eq}
use Rattle.std.proofs.lemmas.List.{get_or_append_left, get_or-append-add, get_or_read}
use Rattle.std.specs.Prelude.{None}
use Rattle.cfn_model.specs.declared.step.Step.{Step}
use Rattle.cfn_model.specs.declared.step.Decision.{Decision}
use Rattle.cfn_model.specs.Tree as trees
use Rattle.cfn_proof.specs.declared.tree.NodeId.{NodeId}
use Rattle.cfn_proof.specs.declared.tree.End.TheVariants as ends
use Rattle.cfn_proof.specs.declared.tree.Node.{Node}
use Rattle.cfn_proof.specs.Nodes.{node_at, open_node, tree_at, tree_of, IsFree, IsLinked, leave_at, close_at, split_behind_at}
use Rattle.cfn_proof.proofs.CallerLemmas.{length-leave_at, leave_at-other, leave_at-same, length-close_at, close_at-other, close_at-same, length-split_behind_at, split_behind_at-first, split_behind_at-other, split_behind_at-same, split_behind_at-second}
use Rattle.cfn_mending.specs.Joining.{join}
use Rattle.cfn_mending.proofs.CallerLemmas.{makes_from_one, makes_split, makes_close, makes_leave, makes_whole}
use Rattle.cfn_merge.specs.declared.pair.Source.{Source}
use Rattle.cfn_merge.specs.declared.pair.Source.TheVariants.{First, Both}
use Rattle.cfn_merge.specs.declared.pair.Ending.{Ending}
use Rattle.cfn_merge.specs.declared.pair.Ending.TheVariants.{Free, Shut, Split}
use Rattle.cfn_merge.specs.Same.{same}
use Rattle.cfn_merge.specs.Sources.{due, due_at, source_at, IsPart, IsThere, IsWalking}

abbrev pub root : NodeId
root = record { number = 0 }

pub walk_starts : (first second nodes : List Node) (sources : List Source) → IsLinked first → IsLinked second → nodes ≡ open_node None ∷ [] → sources ≡ Both root root ∷ [] → IsWalking first second nodes sources 0
walk_starts first second nodes sources a b is from =
    subst (λ ns. IsWalking first second ns sources 0) (sym is) (subst (λ ss. IsWalking first second (open_node None ∷ []) ss 0) (sym from) (record {
      long = refl;
      few = omega arith;
      makes = makes_from_one (due_at first second (Both root root ∷ []));
      made = λ i less free. absurd (omega (arith, less));
      free = λ i low within. (let at : i ≡ 0 = omega (arith, within) in subst (λ n. IsFree (open_node None ∷ []) n) (sym at) refl);
      there = λ i within. (let at : i ≡ 0 = omega (arith, within) in subst (λ n. IsThere (length first) (length second) (source_at (Both root root ∷ []) n)) (sym at) (a.some, b.some));
    }))

pub walk_ends : (first second nodes : List Node) (sources : List Source) (i : ℕ) → IsLinked nodes → length sources ≤ i → IsWalking first second nodes sources i → tree_of nodes ≡ join same (tree_of first) (tree_of second)
walk_ends first second nodes sources i linked end w =
    let long = w.long in
    makes_whole nodes (due_at first second sources) (join same (tree_at first 0) (tree_at second 0)) linked (λ j within free. w.made j (omega (arith, within, end, long)) free) w.makes

-- the part of a node, where its source is read and its block copied
pub part_at : (first second : List Node) (sources : List Source) (i : ℕ) (source : Source) (block copied : List Step) (ending now : Ending) → i < length sources → source ≡ get_or sources i source → IsPart first second source block ending → copied ≡ block → ending ≡ now →
    IsPart first second (source_at sources i) copied now
part_at first second sources i source block copied ending now there read part copy is =
    subst (λ e. IsPart first second (source_at sources i) copied e) is
    (subst (λ b. IsPart first second (source_at sources i) b ending) (sym copy) (subst (λ s. IsPart first second s block ending) (get_or_read sources i source there read (First root)) part))

module _ (first second nodes : List Node) (sources : List Source) (i : ℕ) (block : List Step) (within : i < length nodes) (w : IsWalking first second nodes sources i) where
  free : IsFree nodes i
  free = w.free i (omega arith) within

  pub walk_left : IsPart first second (source_at sources i) block Free → IsWalking first second (leave_at nodes i block) sources (i + 1)
  walk_left part =
      let now = leave_at nodes i block in
      let len = length-leave_at nodes i block within in
      let long = w.long in
      let few = w.few in
      record {
        long = long ∙ sym len;
        few = omega (arith, few, len);
        makes = makes_leave nodes (due_at first second sources) i block (join same (tree_at first 0) (tree_at second 0)) within free w.makes;
        made = λ j less frees. elim (cases_eq j i) [
          | inl at ↦ subst (λ n. due_at first second sources n ≡ trees.Open (node_at now n).block) (sym at) (part.is ∙ ap (λ (n : Node). trees.Open n.block) (sym (leave_at-same nodes i block within)))
          | inr other ↦ (let e = leave_at-other nodes i block within j other in
              w.made j (omega (arith, less, other)) (ap (λ (n : Node). n.end) (sym e) ∙ frees) ∙ ap (λ (n : Node). trees.Open n.block) (sym e))
        ];
        free = λ j low there. (ap (λ (n : Node). n.end) (leave_at-other nodes i block within j (λ at. omega (arith, low, at))) ∙ w.free j (omega (arith, low)) (omega (arith, there, len)));
        there = w.there;
      }

  pub walk_closed : IsPart first second (source_at sources i) block Shut → IsWalking first second (close_at nodes i block) sources (i + 1)
  walk_closed part =
      let now = close_at nodes i block in
      let len = length-close_at nodes i block within in
      let long = w.long in
      let few = w.few in
      record {
        long = long ∙ sym len;
        few = omega (arith, few, len);
        makes = makes_close nodes (due_at first second sources) (due_at first second sources) i block (join same (tree_at first 0) (tree_at second 0)) within free part.is (λ j h other. refl) w.makes;
        made = λ j less frees. elim (cases_eq j i) [
          | inl at ↦ absurd (let e : ends.Free ≡ ends.Shut = sym (subst (λ n. IsFree now n) at frees) ∙ ap (λ (n : Node). n.end) (close_at-same nodes i block within) in cc)
          | inr other ↦ (let e = close_at-other nodes i block within j other in
              w.made j (omega (arith, less, other)) (ap (λ (n : Node). n.end) (sym e) ∙ frees) ∙ ap (λ (n : Node). trees.Open n.block) (sym e))
        ];
        free = λ j low there. (ap (λ (n : Node). n.end) (close_at-other nodes i block within j (λ at. omega (arith, low, at))) ∙ w.free j (omega (arith, low)) (omega (arith, there, len)));
        there = w.there;
      }

  module _ (d : Decision) (a b : Source) (part : IsPart first second (source_at sources i) block (Split d a b)) where
    abbrev more : List Source
    more = sources ++ a ∷ b ∷ []

    old_source : (j : ℕ) → j < length sources → source_at more j ≡ source_at sources j
    old_source j there = get_or_append_left sources (a ∷ b ∷ []) _ j there

    first_source : source_at more (length nodes) ≡ a
    first_source = ap (source_at more) (let long = w.long in omega (arith, long)) ∙ get_or-append-add sources (a ∷ b ∷ []) 0 _

    second_source : source_at more (length nodes + 1) ≡ b
    second_source = ap (source_at more) (let long = w.long in omega (arith, long)) ∙ get_or-append-add sources (a ∷ b ∷ []) 1 _

    pub walk_split : length (split_behind_at nodes i block d) ≤ 4294967296 → IsWalking first second (split_behind_at nodes i block d) more (i + 1)
    walk_split few =
        let now = split_behind_at nodes i block d in
        let len = length-split_behind_at nodes i block d within in
        let long = w.long in
        let two = length-append sources (a ∷ b ∷ []) in
        record {
          long = omega (arith, len, long, two);
          few = few;
          makes = makes_split nodes (due_at first second sources) (due_at first second more) i block d (join same (tree_at first 0) (tree_at second 0)) within free
              (part.is ∙ ap (λ s. trees.Split block d (due first second s) (due first second b)) (sym first_source) ∙ ap (λ s. trees.Split block d (due_at first second more (length nodes)) (due first second s)) (sym second_source))
              (λ j h other. ap (due first second) (old_source j (omega (arith, h, long)))) w.makes;
          made = λ j less frees. elim (cases_eq j i) [
            | inl at ↦ absurd (let e : ends.Free ≡ ends.Split d (record { number = length nodes }) (record { number = length nodes + 1 }) = sym (subst (λ n. IsFree now n) at frees) ∙ ap (λ (n : Node). n.end) (split_behind_at-same nodes i block d within) in cc)
            | inr other ↦ (let was : j < length nodes = omega (arith, less, other, within) in let e = split_behind_at-other nodes i block d within j was other in
                ap (due first second) (old_source j (omega (arith, was, long))) ∙ w.made j (omega (arith, less, other)) (ap (λ (n : Node). n.end) (sym e) ∙ frees) ∙ ap (λ (n : Node). trees.Open n.block) (sym e))
          ];
          free = λ j low there. elim (cases_eq j (length nodes)) [
            | inl at ↦ subst (λ n. IsFree now n) (sym at) (ap (λ (n : Node). n.end) (split_behind_at-first nodes i block d within))
            | inr not_first ↦ elim (cases_eq j (length nodes + 1)) [
              | inl at ↦ subst (λ n. IsFree now n) (sym at) (ap (λ (n : Node). n.end) (split_behind_at-second nodes i block d within))
              | inr not_second ↦ (let was : j < length nodes = omega (arith, there, len, not_first, not_second) in
                  ap (λ (n : Node). n.end) (split_behind_at-other nodes i block d within j was (λ at. omega (arith, low, at))) ∙ w.free j (omega (arith, low)) was)
            ]
          ];
          there = λ j h. elim (cases_eq j (length nodes)) [
            | inl at ↦ subst (λ n. IsThere (length first) (length second) (source_at more n)) (sym at) (subst (IsThere (length first) (length second)) (sym first_source) part.there.0)
            | inr not_first ↦ elim (cases_eq j (length nodes + 1)) [
              | inl at ↦ subst (λ n. IsThere (length first) (length second) (source_at more n)) (sym at) (subst (IsThere (length first) (length second)) (sym second_source) part.there.1)
              | inr not_second ↦ (let was : j < length sources = omega (arith, h, two, long, not_first, not_second) in subst (IsThere (length first) (length second)) (sym (old_source j was)) (w.there j was))
            ]
          ];
        }
