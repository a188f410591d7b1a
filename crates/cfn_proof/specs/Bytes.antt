-- The bytes of a block, its own or those of a stretch of a buffer.
use Rattle.std.specs.Prelude.{ℕ, List}
use Rattle.cfn_proof.specs.declared.block.Bytes.{Bytes}
use Rattle.cfn_proof.specs.declared.block.Bytes.TheVariants.{Own, Shared}

abbrev pub bytes_in : Bytes → List ℕ
bytes_in (Own bytes) = bytes.items
bytes_in (Shared stretch) = stretch
