-- What is read behind bytes that are there.
use Rattle.std.specs.Prelude.{◌≡◌, ℕ, List, ◌++◌, Option}
use Rattle.std.specs.Io.KnownBytes.{Consumes}

-- Some bytes that the reader had left came behind those that were there.
pub record ReadsBehind (before now : List ℕ) (had has : Option (List ℕ)) : Type 0 where
  pub bytes : List ℕ
  pub behind : now ≡ before ++ bytes
  pub consumed : Consumes had has bytes
