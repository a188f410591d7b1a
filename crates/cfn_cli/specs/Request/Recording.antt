-- The command `solve` with a record: what it is asked, and which name the record may have.
use Rattle.std.specs.Prelude.{Option, Some, None}
use Rattle.std.specs.Prelude.{if◌then◌else◌, string_bytes}
use Rattle.std.specs.Str.{bytes_eq}
use Rattle.clap.specs.Words.{Text}
use Rattle.cfn_cli.specs.Request.Solving.{SolveRequest, spoken_solve}
use Rattle.cfn_cli.specs.declared.commands.recorded.RecordedArguments.{RecordedArguments}
use Rattle.cfn_cli.specs.declared.commands.solve.SolveArguments.{SolveArguments}

-- What is asked of `solve`, and the name of the record.
pub record RecordedRequest : Type 0 where
  pub recording : Text
  pub solve : SolveRequest

-- The request that the arguments hold.
abbrev pub spoken_recorded : RecordedArguments → RecordedRequest
spoken_recorded a = record { recording = string_bytes a.recording; solve = spoken_solve a.solve }

-- The request of these arguments with a record under that name.
abbrev pub asked_under : Text → SolveArguments → RecordedRequest
asked_under name a = record { recording = name; solve = spoken_solve a }

-- A record under the name of the file, or of the certificate, is asked for by no command.
abbrev pub recorded_apart : RecordedRequest → Option RecordedRequest
recorded_apart ask =
    if bytes_eq ask.solve.file ask.recording then None
    else (if bytes_eq ask.solve.certificate ask.recording then None else Some ask)
