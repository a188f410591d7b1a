-- A tree that is kept of a certificate has no more splits and closed leaves than the text has bytes.
use Rattle.std.proofs.Common.{ℕ, ◌+◌, ◌≤◌, inl, inr, List, [], ◌∷◌, ◌++◌, length, map, codes, decimal, ap, arith}
use Rattle.std.proofs.lemmas.List.{length-append}
use Rattle.cfn_model.specs.declared.step.Decision.{Decision}
use Rattle.cfn_model.specs.declared.step.Decision.TheVariants.{Is, Most}
use Rattle.cfn_model.specs.declared.step.Event.{Event}
use Rattle.cfn_model.specs.declared.step.Event.TheVariants.{Took, Refused}
use Rattle.cfn_model.specs.Network.{Network}
use Rattle.cfn_model.specs.Steps.{after}
use Rattle.cfn_model.specs.Certificate.{Certificate}
use Rattle.cfn_model.specs.Tree.{Tree, Open, Closed, Split, count}
use Rattle.cfn_model.specs.Text.{Spells, behind, decision_words, head_lines, line, step_words, text, tree_lines}
use Rattle.cfn_line.proofs.CallerLemmas.{text-append}
use Rattle.cfn_mending.specs.Keeping.{Kept}

kept_count : (P : Network) (history : List Event) (k : ℕ) (old new : Tree) → Kept P history k old new → count new ≤ count old
kept_count P history k (Open block) new kept = let n = ap count kept.3 in omega (arith, n)
kept_count P history k (Closed block) new kept = elim kept.3 [
  | inl w ↦ (let n = ap count w.2 in omega (arith, n))
  | inr w ↦ (let n = ap count w.1 in omega (arith, n))
]
kept_count P history k (Split block d first second) new kept = elim kept.3 [
  | inl w ↦ (
      let n = ap count w.3.4 in
      let one = kept_count P (Took d ∷ after kept.0 history) k first w.3.0 w.3.2 in
      let two = kept_count P (Refused d ∷ after kept.0 history) k second w.3.1 w.3.3 in
      omega (arith, n, one, two)
      )
  | inr w ↦ (let n = ap count w.1 in omega (arith, n))
]

-- a line with a word has a byte
line_some : (word : List ℕ) (words : List (List ℕ)) → 1 ≤ length (line (word ∷ words))
line_some word words = let n = length-append word (behind words ∷ line words) in omega (arith, n)

-- so a line adds one
line_more : (word : List ℕ) (words : List (List ℕ)) (lines : List (List (List ℕ))) → 1 + length (text lines) ≤ length (text ((word ∷ words) ∷ lines))
line_more word words lines =
    let n = length-append (line (word ∷ words)) (text lines) in
    let s = line_some word words in
    omega (arith, n, s)

decision_more : (d : Decision) (lines : List (List (List ℕ))) → 1 + length (text lines) ≤ length (text (decision_words d ∷ lines))
decision_more (Is x a) lines = line_more (codes "split") (decimal x ∷ decimal a ∷ []) lines
decision_more (Most x v) lines = line_more (codes "part") (decimal x ∷ decimal v ∷ []) lines

behind_more : (front rest : List (List (List ℕ))) → length (text rest) ≤ length (text (front ++ rest))
behind_more front rest =
    let a = ap length (text-append front rest) in
    let n = length-append (text front) (text rest) in
    omega (arith, a, n)

text_count : (tree : Tree) → count tree ≤ length (text (tree_lines tree))
text_count (Open block) = omega arith
text_count (Closed block) =
    let one = line_more (codes "closed") [] [] in
    let more = behind_more (map step_words block) ((codes "closed" ∷ []) ∷ []) in
    omega (arith, one, more)
text_count (Split block d first second) =
    let both = tree_lines first ++ tree_lines second in
    let a = ap length (text-append (tree_lines first) (tree_lines second)) in
    let n = length-append (text (tree_lines first)) (text (tree_lines second)) in
    let one = decision_more d both in
    let more = behind_more (map step_words block) (decision_words d ∷ both) in
    let left = text_count first in
    let right = text_count second in
    omega (arith, a, n, one, more, left, right)

spelled_count : (c : Certificate) (bytes : List ℕ) → Spells c bytes → count c.tree ≤ length bytes
spelled_count c bytes spells =
    let n = ap length spells.exact in
    let t = text_count c.tree in
    let behind = behind_more (head_lines c) ((codes "tree" ∷ []) ∷ (tree_lines c.tree ++ (codes "end" ∷ []) ∷ [])) in
    let one = line_more (codes "tree") [] (tree_lines c.tree ++ (codes "end" ∷ []) ∷ []) in
    let a = ap length (text-append (tree_lines c.tree) ((codes "end" ∷ []) ∷ [])) in
    let m = length-append (text (tree_lines c.tree)) (text ((codes "end" ∷ []) ∷ [])) in
    omega (arith, n, t, behind, one, a, m)

pub kept_few : (P : Network) (k : ℕ) (c : Certificate) (bytes : List ℕ) (new : Tree) → Spells c bytes → Kept P [] k c.tree new → count new ≤ length bytes
kept_few P k c bytes new spells kept = let a = kept_count P [] k c.tree new kept in let b = spelled_count c bytes spells in omega (arith, a, b)
