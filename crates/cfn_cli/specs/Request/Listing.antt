-- The command `kbest`: its part of the command line, what it is asked, and how that is read.
use Rattle.std.specs.Prelude.{ℕ, ◌≤◌, true, List, Option, Some, None, IfSome}
use Rattle.std.specs.Prelude.{option_map, option_and_then, if◌then◌else◌, codes, string_bytes}
use Rattle.std.specs.Str.{bytes_eq}
use Rattle.clap.specs.Words.{App, Row, Rule, Text, first_of, new_app, new_rule, with_rule}
use Rattle.cfn_cli.specs.Arguments.{budget_rule, certificate_rule, file_rule, format_of, number, number_of, optional_of, seconds_rule, wcnf_rule}
use Rattle.cfn_cli.specs.declared.format.Format.{Format}
use Rattle.cfn_cli.specs.declared.commands.kbest.KBestArguments.{KBestArguments}

-- K
unfoldable pub count_rule : Rule
count_rule = record (new_rule (codes "count")) { required = true; parser = Some number }

-- kbest FILE K CERT [--budget B] [--seconds S] [--wcnf]
unfoldable pub k_best_app : App
k_best_app = with_rule (with_rule (with_rule (with_rule (with_rule (with_rule (new_app (codes "kbest")) file_rule)
    count_rule) certificate_rule) budget_rule) seconds_rule) wcnf_rule

pub record KBestRequest : Type 0 where
  pub file : Text
  pub count : ℕ
  pub certificate : Text
  pub budget : ℕ
  pub seconds : Option ℕ
  pub format : Format

-- The request that the arguments hold.
abbrev pub spoken_k_best : KBestArguments → KBestRequest
spoken_k_best a = record {
  file = string_bytes a.file;
  count = a.count;
  certificate = string_bytes a.certificate;
  budget = a.budget;
  seconds = a.seconds;
  format = a.format;
}

-- What the rows of `kbest` say.
unfoldable pub k_best_in : List Row → Option KBestRequest
k_best_in rows = option_and_then (λ file. option_and_then (λ count. option_and_then (λ certificate.
    option_and_then (λ budget. option_map (λ seconds. record {
      file = file;
      count = count;
      certificate = certificate;
      budget = budget;
      seconds = seconds;
      format = format_of rows;
    }) (optional_of (codes "seconds") 0 1000000000 rows))
    (number_of (codes "budget") 0 9223372036854775807 rows))
    (first_of (codes "certificate") rows))
    (number_of (codes "count") 1 1000 rows)) (first_of (codes "file") rows)

-- A certificate under the name of the file itself is asked for by no command.
abbrev pub listed_apart : KBestRequest → Option KBestRequest
listed_apart ask = if bytes_eq ask.file ask.certificate then None else Some ask

abbrev pub k_best_of : List Row → Option KBestRequest
k_best_of rows = option_and_then listed_apart (k_best_in rows)

-- The numbers lie within their limits.
abbrev pub IsKBestWithin : KBestArguments → Type 0
IsKBestWithin a = ((1 ≤ a.count) × (a.count ≤ 1000)) × (a.budget ≤ 9223372036854775807) × IfSome a.seconds (λ s. s ≤ 1000000000)
