-- The command `migrate`: its part of the command line, what it is asked, and how that is read.
use Rattle.std.specs.Prelude.{List, Option, Some, None}
use Rattle.std.specs.Prelude.{option_map, option_and_then, if◌then◌else◌, codes, string_bytes}
use Rattle.std.specs.Str.{bytes_eq}
use Rattle.clap.specs.Words.{App, Row, Text, first_of, new_app, with_rule}
use Rattle.cfn_cli.specs.Arguments.{certificate_rule, file_rule, out_rule}
use Rattle.cfn_cli.specs.declared.commands.migrate.MigrateArguments.{MigrateArguments}

-- migrate FILE CERT OUT
unfoldable pub migrate_app : App
migrate_app = with_rule (with_rule (with_rule (new_app (codes "migrate")) file_rule) certificate_rule) out_rule

pub record MigrateRequest : Type 0 where
  pub file : Text
  pub certificate : Text
  pub out : Text

-- The request that the arguments hold.
abbrev pub spoken_migrate : MigrateArguments → MigrateRequest
spoken_migrate a = record { file = string_bytes a.file; certificate = string_bytes a.certificate; out = string_bytes a.out }

-- What the rows of `migrate` say.
unfoldable pub migrate_in : List Row → Option MigrateRequest
migrate_in rows = option_and_then (λ file. option_and_then (λ certificate. option_map (λ out. record {
  file = file;
  certificate = certificate;
  out = out;
}) (first_of (codes "out") rows)) (first_of (codes "certificate") rows)) (first_of (codes "file") rows)

-- A certificate over the file itself is asked for by no command.
abbrev pub migrate_apart : MigrateRequest → Option MigrateRequest
migrate_apart ask = if bytes_eq ask.file ask.out then None else Some ask

abbrev pub migrate_of : List Row → Option MigrateRequest
migrate_of rows = option_and_then migrate_apart (migrate_in rows)
