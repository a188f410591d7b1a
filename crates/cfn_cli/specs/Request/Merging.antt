-- The command `merge`: its part of the command line, what it is asked, and how that is read.
use Rattle.std.specs.Prelude.{◌<◌, true, List, [], ◌∷◌, map, length, Option, Some, None}
use Rattle.std.specs.Prelude.{option_map, option_and_then, if◌then◌else◌, codes, string_bytes}
use Rattle.std.specs.Str.{bytes_eq}
use Rattle.clap.specs.Words.{App, Row, Rule, Text, all_of, first_of, new_app, new_rule, with_rule}
use Rattle.clap.specs.declared.builder.action.ArgAction.TheVariants.{Append}
use Rattle.cfn_cli.specs.Arguments.{file_rule, format_of, out_rule, wcnf_rule}
use Rattle.cfn_cli.specs.declared.format.Format.{Format}
use Rattle.cfn_cli.specs.declared.commands.merge.MergeArguments.{MergeArguments}

-- CERT..
unfoldable pub certificates_rule : Rule
certificates_rule = record (new_rule (codes "certificates")) { required = true; action = Some Append }

-- merge FILE OUT CERT.. [--wcnf]
unfoldable pub merge_app : App
merge_app = with_rule (with_rule (with_rule (with_rule (new_app (codes "merge")) file_rule) out_rule) certificates_rule) wcnf_rule

pub record MergeRequest : Type 0 where
  pub file : Text
  pub out : Text
  pub certificates : List Text
  pub format : Format

-- The request that the arguments hold.
abbrev pub spoken_merge : MergeArguments → MergeRequest
spoken_merge a = record {
  file = string_bytes a.file;
  out = string_bytes a.out;
  certificates = map (λ name. string_bytes name) a.certificates.items;
  format = a.format;
}

-- The names that the texts are, if there is one.
abbrev pub names_of : List Text → Option (List Text)
names_of [] = None
names_of (name ∷ names) = Some (name ∷ names)

-- What the rows of `merge` say.
unfoldable pub merge_in : List Row → Option MergeRequest
merge_in rows = option_and_then (λ file. option_and_then (λ out. option_map (λ certificates. record {
  file = file;
  out = out;
  certificates = certificates;
  format = format_of rows;
}) (option_and_then names_of (all_of (codes "certificates") rows))) (first_of (codes "out") rows)) (first_of (codes "file") rows)

-- A certificate over the file itself is asked for by no command.
abbrev pub merge_apart : MergeRequest → Option MergeRequest
merge_apart ask = if bytes_eq ask.file ask.out then None else Some ask

abbrev pub merge_of : List Row → Option MergeRequest
merge_of rows = option_and_then merge_apart (merge_in rows)

-- There is a certificate.
abbrev pub IsMergeWithin : MergeArguments → Type 0
IsMergeWithin a = 0 < length a.certificates.items
