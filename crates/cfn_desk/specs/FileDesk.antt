-- A desk over a storage of files and a writer, as its caller sees it.
use Rattle.std.specs.Prelude.{◌≡◌, List, Option, Some, None, IfSome, IsSome}
use Rattle.cfn_desk.specs.OutFile.{Pending}
use Rattle.cfn_desk.specs.Outside.{Call, Files, Written, Idle, Writing, Spoiled}
use Rattle.cfn_desk.specs.Storage.{Told}

pub record OverFiles (S W : Type 0) : Type 0 where
  -- the calls, the newest first
  pub calls : List Call
  -- the storage with its named files, and the file being written
  pub out : Pending S
  -- the writer of what is said
  pub output : W

-- Where the files are told, the file being written is the one that the calls tell.
abbrev pub Agrees : Written → Option Files → Told → Type 0
Agrees Idle files file = file ≡ None
Agrees (Writing name bytes) files file = IfSome files (λ _. file ≡ Some (name, bytes))
Agrees Spoiled files file = IfSome files (λ _. IsSome file)
