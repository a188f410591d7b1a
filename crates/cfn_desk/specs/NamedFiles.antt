-- Files in a list, each as its name and its bytes.
use Rattle.std.specs.Prelude.{ℕ, List, [], ◌∷◌, Option, Some, None, if◌then◌else◌, bytes_eq, map}
use Rattle.cfn_desk.specs.declared.named.NamedFile.{NamedFile}

-- the bytes of the first file of that name
abbrev pub file_named : List (List ℕ × List ℕ) → List ℕ → Option (List ℕ)
file_named [] name = None
file_named (file ∷ files) name = if bytes_eq file.0 name then Some file.1 else file_named files name

-- a kept file as its name and its bytes
abbrev pub name_and_bytes : NamedFile → List ℕ × List ℕ
name_and_bytes file = (file.name.items, file.bytes.items)

-- the kept files, each as its name and its bytes
abbrev pub kept_files : List NamedFile → List (List ℕ × List ℕ)
kept_files = map name_and_bytes
