-- The command `replay`: its part of the command line, what it is asked, and how that is read.
use Rattle.std.specs.Prelude.{true, List, Option, Some, None}
use Rattle.std.specs.Prelude.{option_map, option_and_then, if◌then◌else◌, codes, string_bytes}
use Rattle.std.specs.Str.{bytes_eq}
use Rattle.clap.specs.Words.{App, Row, Rule, Text, first_of, new_app, new_rule, with_rule}
use Rattle.cfn_cli.specs.Arguments.{certificate_rule, file_rule, format_of, wcnf_rule}
use Rattle.cfn_cli.specs.declared.format.Format.{Format}
use Rattle.cfn_cli.specs.declared.commands.replay.ReplayArguments.{ReplayArguments}

-- REC
unfoldable pub recording_rule : Rule
recording_rule = record (new_rule (codes "recording")) { required = true }

-- replay FILE REC CERT [--wcnf]
unfoldable pub replay_app : App
replay_app = with_rule (with_rule (with_rule (with_rule (new_app (codes "replay")) file_rule) recording_rule) certificate_rule) wcnf_rule

pub record ReplayRequest : Type 0 where
  pub file : Text
  pub recording : Text
  pub certificate : Text
  pub format : Format

-- The request that the arguments hold.
abbrev pub spoken_replay : ReplayArguments → ReplayRequest
spoken_replay a = record {
  file = string_bytes a.file;
  recording = string_bytes a.recording;
  certificate = string_bytes a.certificate;
  format = a.format;
}

-- What the rows of `replay` say.
unfoldable pub replay_in : List Row → Option ReplayRequest
replay_in rows = option_and_then (λ file. option_and_then (λ recording. option_map (λ certificate. record {
  file = file;
  recording = recording;
  certificate = certificate;
  format = format_of rows;
}) (first_of (codes "certificate") rows)) (first_of (codes "recording") rows)) (first_of (codes "file") rows)

-- Two of the three under one name are asked for by no command.
abbrev pub replay_apart : ReplayRequest → Option ReplayRequest
replay_apart ask =
    if bytes_eq ask.file ask.recording then None
    else (if bytes_eq ask.file ask.certificate then None
    else (if bytes_eq ask.recording ask.certificate then None else Some ask))

abbrev pub replay_of : List Row → Option ReplayRequest
replay_of rows = option_and_then replay_apart (replay_in rows)
