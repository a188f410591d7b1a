-- The command `solve`: its part of the command line, what it is asked, and how that is read.
use Rattle.std.specs.Prelude.{ℕ, ◌≤◌, Bool, List, Option, Some, None, IfSome}
use Rattle.std.specs.Prelude.{option_map, option_and_then, if◌then◌else◌, codes, string_bytes}
use Rattle.std.specs.Str.{bytes_eq}
use Rattle.clap.specs.Words.{App, Row, Rule, Text, first_of, new_app, new_rule, with_rule}
use Rattle.cfn_cli.specs.Arguments.{budget_rule, certificate_rule, file_rule, flag_of, format_of, number_of, optional_of, progress_rule, seconds_rule, wcnf_rule, workers_rule}
use Rattle.cfn_cli.specs.declared.format.Format.{Format}
use Rattle.cfn_cli.specs.declared.commands.solve.SolveArguments.{SolveArguments}

-- [--record REC]
unfoldable pub record_rule : Rule
record_rule = record (new_rule (codes "record")) { long = Some (codes "record") }

-- solve FILE CERT [--workers W] [--budget B] [--seconds S] [--wcnf] [--progress] [--record REC]
unfoldable pub solve_app : App
solve_app = with_rule (with_rule (with_rule (with_rule (with_rule (with_rule (with_rule (with_rule (new_app (codes "solve")) file_rule)
    certificate_rule) workers_rule) budget_rule) seconds_rule) wcnf_rule) progress_rule) record_rule

pub record SolveRequest : Type 0 where
  pub file : Text
  pub certificate : Text
  pub workers : ℕ
  pub budget : ℕ
  pub seconds : Option ℕ
  pub format : Format
  pub progress : Bool

-- The request that the arguments hold.
abbrev pub spoken_solve : SolveArguments → SolveRequest
spoken_solve a = record {
  file = string_bytes a.file;
  certificate = string_bytes a.certificate;
  workers = a.workers;
  budget = a.budget;
  seconds = a.seconds;
  format = a.format;
  progress = a.progress;
}

-- What the rows of `solve` say.
unfoldable pub solve_in : List Row → Option SolveRequest
solve_in rows = option_and_then (λ file. option_and_then (λ certificate.
    option_and_then (λ workers. option_and_then (λ budget. option_map (λ seconds. record {
      file = file;
      certificate = certificate;
      workers = workers;
      budget = budget;
      seconds = seconds;
      format = format_of rows;
      progress = flag_of (codes "progress") rows;
    }) (optional_of (codes "seconds") 0 1000000000 rows))
    (number_of (codes "budget") 0 9223372036854775807 rows))
    (number_of (codes "workers") 1 64 rows))
    (first_of (codes "certificate") rows)) (first_of (codes "file") rows)

-- A certificate under the name of the file itself is asked for by no command.
abbrev pub apart : SolveRequest → Option SolveRequest
apart ask = if bytes_eq ask.file ask.certificate then None else Some ask

abbrev pub solve_of : List Row → Option SolveRequest
solve_of rows = option_and_then apart (solve_in rows)

-- The numbers lie within their limits.
abbrev pub IsSolveWithin : SolveArguments → Type 0
IsSolveWithin a = ((1 ≤ a.workers) × (a.workers ≤ 64)) × (a.budget ≤ 9223372036854775807) × IfSome a.seconds (λ s. s ≤ 1000000000)
