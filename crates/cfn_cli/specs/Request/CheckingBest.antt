-- The command `checkbest`: its part of the command line, what it is asked, and how that is read.
use Rattle.std.specs.Prelude.{Bool, List, Option, Some}
use Rattle.std.specs.Prelude.{option_map, option_and_then, codes, string_bytes}
use Rattle.clap.specs.Words.{App, Row, Rule, Text, first_of, new_app, new_rule, with_rule}
use Rattle.cfn_cli.specs.Arguments.{certificate_rule, file_rule, flag_of, format_of, wcnf_rule}
use Rattle.clap.specs.declared.builder.action.ArgAction.TheVariants.{SetTrue}
use Rattle.cfn_cli.specs.declared.format.Format.{Format}
use Rattle.cfn_cli.specs.declared.commands.checkbest.CheckBestArguments.{CheckBestArguments}

-- [--complete]
unfoldable pub complete_rule : Rule
complete_rule = record (new_rule (codes "complete")) {
  long = Some (codes "complete");
  action = Some SetTrue;
}

-- checkbest FILE CERT [--wcnf] [--complete]
unfoldable pub check_best_app : App
check_best_app = with_rule (with_rule (with_rule (with_rule (new_app (codes "checkbest")) file_rule) certificate_rule) wcnf_rule) complete_rule

pub record CheckBestRequest : Type 0 where
  pub file : Text
  pub certificate : Text
  pub format : Format
  pub complete : Bool

-- The request that the arguments hold.
abbrev pub spoken_check_best : CheckBestArguments → CheckBestRequest
spoken_check_best a = record { file = string_bytes a.file; certificate = string_bytes a.certificate; format = a.format; complete = a.complete }

-- What the rows of `checkbest` say.
unfoldable pub check_best_of : List Row → Option CheckBestRequest
check_best_of rows = option_and_then (λ file. option_map (λ certificate. record {
  file = file;
  certificate = certificate;
  format = format_of rows;
  complete = flag_of (codes "complete") rows;
}) (first_of (codes "certificate") rows)) (first_of (codes "file") rows)
