-- A desk that never fails, as its caller sees it.
use Rattle.std.specs.Prelude.{ℕ, ◌+◌, min, List}
use Rattle.cfn_desk.specs.Outside.{Call}

-- the files given, by name, the calls, and how many bytes were put and said
pub record Counts : Type 0 where
  pub files : List (List ℕ × List ℕ)
  pub calls : List Call
  pub put : ℕ
  pub said : ℕ

-- a count after n more, which stands still at the last value of a u64
abbrev pub counted : ℕ → ℕ → ℕ
counted before n = min (before + n) 18446744073709551615
