-- The command `normal`: its part of the command line, what it is asked, and how that is read.
use Rattle.std.specs.Prelude.{List, Option}
use Rattle.std.specs.Prelude.{option_map, codes, string_bytes}
use Rattle.clap.specs.Words.{App, Row, Text, first_of, new_app, with_rule}
use Rattle.cfn_cli.specs.Arguments.{file_rule, format_of, wcnf_rule}
use Rattle.cfn_cli.specs.declared.format.Format.{Format}
use Rattle.cfn_cli.specs.declared.commands.normal.NormalArguments.{NormalArguments}

-- normal FILE [--wcnf]
unfoldable pub normal_app : App
normal_app = with_rule (with_rule (new_app (codes "normal")) file_rule) wcnf_rule

pub record NormalRequest : Type 0 where
  pub file : Text
  pub format : Format

-- The request that the arguments hold.
abbrev pub spoken_normal : NormalArguments → NormalRequest
spoken_normal a = record { file = string_bytes a.file; format = a.format }

-- What the rows of `normal` say.
unfoldable pub normal_of : List Row → Option NormalRequest
normal_of rows = option_map (λ file. record { file = file; format = format_of rows }) (first_of (codes "file") rows)
