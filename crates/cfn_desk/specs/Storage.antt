-- A storage of named files as its user sees it.
use Rattle.std.specs.Prelude.{◌≡◌, List, ℕ, ◌++◌, Option, None, IfSome, IsSome, IsSomeAnd, option_map}
use Rattle.cfn_desk.specs.Outside.{Files, Stores}
use Rattle.cfn_desk.specs.declared.storage.Entry.{Entry}
use Rattle.cfn_desk.specs.declared.storage.Entry.TheVariants.{Nothing, Regular, Other}

-- a file by its name and its bytes, where there is one to tell
abbrev pub Told : Type 0
Told = Option (List ℕ × List ℕ)

-- What stands at a name of files that are told: a file, or nothing.
abbrev pub StandsAt : Files → List ℕ → Entry → Type 0
StandsAt files name Nothing = files name ≡ None
StandsAt files name Regular = IsSome (files name)
StandsAt files name Other = ⊥

-- the file with a piece behind its bytes
abbrev pub grown : List ℕ → Told → Told
grown piece file = option_map (λ told. (told.0, told.1 ++ piece)) file

abbrev pub name_of : Told → Option (List ℕ)
name_of file = option_map (λ told. told.0) file

-- Where the files are told, the new file is told under that name.
abbrev pub IsNamed : Option Files → Told → List ℕ → Type 0
IsNamed files file name = IfSome files (λ _. IsSomeAnd file (λ told. told.0 ≡ name))

-- Where the files were told, they are told still, and the name has the new file's bytes.
abbrev pub StoresUnder : Option Files → Told → List ℕ → Option Files → Type 0
StoresUnder before file name now = IfSome before (λ files. IfSome file (λ told. IsSomeAnd now (Stores files name told.1)))
