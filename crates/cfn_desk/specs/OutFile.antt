-- A file that is written beside its name, as its user sees it.
use Rattle.std.specs.Prelude.{◌≡◌, true, Bool, ◌++◌, Option, IfSome, IsSome, IsSomeAnd, option_map}
use Rattle.cfn_desk.specs.Outside.{Files, Stores}
use Rattle.cfn_desk.specs.Room.{Bounded}
use Rattle.cfn_desk.specs.Storage.{Told}

pub record Pending (S : Type 0) : Type 0 where
  -- the named files, and the new one
  pub storage : S
  -- the name that the new file will have
  pub target : Bounded
  -- the bytes that it will get
  pub waiting : Bounded

-- The file being written, by the name that it will have and the bytes that it got.
abbrev pub file_of : {S : Type 0} → (S → Told) → Pending S → Told
file_of new_file out = option_map (λ told. (out.target.bytes, told.1 ++ out.waiting.bytes)) (new_file out.storage)

-- A new file that is told has the name beside, and is one that was made.
abbrev pub IsBeside : Told → Bounded → Bool → Type 0
IsBeside new_file beside is_new = IfSome new_file (λ told. (told.0 ≡ beside.bytes) × (is_new ≡ true))

-- Where the files are told, so is the file being written.
abbrev pub IsPending : Option Files → Told → Type 0
IsPending files file = IfSome files (λ _. IsSome file)

-- Where the files were told, they are told still, and have the file that was written.
abbrev pub StoresFile : Option Files → Told → Option Files → Type 0
StoresFile before file now = IfSome before (λ files. IfSome file (λ told. IsSomeAnd now (Stores files told.0 told.1)))
