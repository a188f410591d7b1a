use Rattle.std.proofs.Common.{◌≡◌, ℕ, ◌<◌, ◌≤◌, length, get_or}
use Rattle.cfn_scan.proofs.words.least.Given as goal

-- the least is one of the words, and at most those so far
abbrev pub invariant-loop-word : goal.invariant-loop-word
invariant-loop-word l = record {
  one : (place : ℕ) × (place < length l.words) × (get_or l.words place 0 ≡ l.least);
  most : (i : ℕ) → i < l.word-index → l.least ≤ get_or l.words i 0;
}
