-- How far the words of a text have been taken.
use Rattle.std.specs.Prelude.{ℕ, List, drop}
use Rattle.cfn_model.specs.Words.{words}

-- A text, the index of the first byte that has not been looked at, and how many words have been taken.
pub record Place : Type 0 where
  pub text : List ℕ
  pub at : ℕ
  pub count : ℕ

-- The words that are left.
abbrev pub left : Place → List (List ℕ)
left w = words (drop w.at w.text)
