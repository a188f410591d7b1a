-- The arguments that commands share: what clap reads of them, and what it found under their names.
use Rattle.std.specs.Prelude.{ℕ, Bool, true, false, List, [], ◌∷◌, Option, Some, None}
use Rattle.std.specs.Prelude.{option_map, option_and_then, if◌then◌else◌, codes}
use Rattle.std.specs.Str.{bytes_eq}
use Rattle.std.specs.Str.Parse.{digits_value, without_leading_plus}
use Rattle.clap.specs.Words.{Row, Rule, Text, first_of, new_rule}
use Rattle.clap.specs.ValueTests.{is_unsigned_in}
use Rattle.clap.specs.declared.builder.action.ArgAction.TheVariants.{SetTrue}
use Rattle.clap.specs.declared.builder.value_parser.ValueParser.{ValueParser}
use Rattle.clap.specs.declared.builder.value_parser.ValueParser.TheVariants as vp
use Rattle.cfn_cli.specs.declared.format.Format.{Format}
use Rattle.cfn_cli.specs.declared.format.Format.TheVariants.{Wcsp, Wcnf}

-- ---- the rules

-- A number of `u64`.
abbrev pub number : ValueParser
number = vp.Unsigned 0 18446744073709551615

-- FILE
unfoldable pub file_rule : Rule
file_rule = record (new_rule (codes "file")) { required = true }

-- CERT
unfoldable pub certificate_rule : Rule
certificate_rule = record (new_rule (codes "certificate")) { required = true }

-- OUT
unfoldable pub out_rule : Rule
out_rule = record (new_rule (codes "out")) { required = true }

-- [--workers W], and 1 where it is left out
unfoldable pub workers_rule : Rule
workers_rule = record (new_rule (codes "workers")) {
  long = Some (codes "workers");
  parser = Some number;
  defaults = codes "1" ∷ [];
}

-- [--budget B], and 2^63 - 1 where it is left out
unfoldable pub budget_rule : Rule
budget_rule = record (new_rule (codes "budget")) {
  long = Some (codes "budget");
  parser = Some number;
  defaults = codes "9223372036854775807" ∷ [];
}

-- [--seconds S]
unfoldable pub seconds_rule : Rule
seconds_rule = record (new_rule (codes "seconds")) {
  long = Some (codes "seconds");
  parser = Some number;
}

-- [--wcnf]
unfoldable pub wcnf_rule : Rule
wcnf_rule = record (new_rule (codes "wcnf")) {
  long = Some (codes "wcnf");
  action = Some SetTrue;
}

-- [--progress]
unfoldable pub progress_rule : Rule
progress_rule = record (new_rule (codes "progress")) {
  long = Some (codes "progress");
  action = Some SetTrue;
}

-- ---- what clap found under a name

-- The number that the text is, by `u64`'s own reading, if it lies within the bounds.
unfoldable pub number_in : ℕ → ℕ → Text → Option ℕ
number_in least most text =
    if is_unsigned_in least most text then Some (digits_value 10 (without_leading_plus text))
    else None

abbrev pub number_of : Text → ℕ → ℕ → List Row → Option ℕ
number_of id least most rows = option_and_then (number_in least most) (first_of id rows)

-- The number of an argument that may be left out.
abbrev pub optional_in : ℕ → ℕ → Option Text → Option (Option ℕ)
optional_in least most None = Some None
optional_in least most (Some text) = option_map Some (number_in least most text)

abbrev pub optional_of : Text → ℕ → ℕ → List Row → Option (Option ℕ)
optional_of id least most rows = optional_in least most (first_of id rows)

-- The format of a file, by what stands under `wcnf`: clap puts `true` there where the words have the option.
abbrev pub format_in : Option Text → Format
format_in None = Wcsp
format_in (Some text) = if bytes_eq text (codes "true") then Wcnf else Wcsp

abbrev pub format_of : List Row → Format
format_of rows = format_in (first_of (codes "wcnf") rows)

-- Whether a flag is set: clap puts `true` under its name where the words have the option.
abbrev pub flag_in : Option Text → Bool
flag_in None = false
flag_in (Some text) = bytes_eq text (codes "true")

abbrev pub flag_of : Text → List Row → Bool
flag_of id rows = flag_in (first_of id rows)
