-- The command `cost`: its part of the command line, what it is asked, and how that is read.
use Rattle.std.specs.Prelude.{ℕ, ◌<◌, ◌^◌, Bool, true, List, [], ◌∷◌, map, length, Option, Some, None}
use Rattle.std.specs.Prelude.{option_map, option_and_then, is_some, if◌then◌else◌, codes, string_bytes, unwrap_or}
use Rattle.std.specs.List.{All, list_all}
use Rattle.clap.specs.Words.{App, Row, Rule, Text, all_of, first_of, new_app, new_rule, with_rule}
use Rattle.clap.specs.declared.builder.action.ArgAction.TheVariants.{Append}
use Rattle.cfn_cli.specs.Arguments.{file_rule, format_of, number, number_in, wcnf_rule}
use Rattle.cfn_cli.specs.declared.format.Format.{Format}
use Rattle.cfn_cli.specs.declared.commands.cost.CostArguments.{CostArguments}

-- VALUES..
unfoldable pub values_rule : Rule
values_rule = record (new_rule (codes "values")) {
  required = true;
  action = Some Append;
  parser = Some number;
}

-- cost FILE VALUES.. [--wcnf]
unfoldable pub cost_app : App
cost_app = with_rule (with_rule (with_rule (new_app (codes "cost")) file_rule) values_rule) wcnf_rule

pub record CostRequest : Type 0 where
  pub file : Text
  pub values : List ℕ
  pub format : Format

-- The request that the arguments hold.
abbrev pub spoken_cost : CostArguments → CostRequest
spoken_cost a = record { file = string_bytes a.file; values = a.values.items; format = a.format }

abbrev pub is_value : Text → Bool
is_value text = is_some (number_in 0 4294967295 text)

abbrev pub value_of : Text → ℕ
value_of text = unwrap_or (number_in 0 4294967295 text) 0

-- The values that the texts are, if each is one and there is one.
unfoldable pub values_of : List Text → Option (List ℕ)
values_of [] = None
values_of (text ∷ texts) =
    if list_all is_value (text ∷ texts) then Some (map value_of (text ∷ texts)) else None

-- What the rows of `cost` say.
unfoldable pub cost_of : List Row → Option CostRequest
cost_of rows = option_and_then (λ file. option_map (λ values. record {
  file = file;
  values = values;
  format = format_of rows;
}) (option_and_then values_of (all_of (codes "values") rows))) (first_of (codes "file") rows)

-- The values lie within their limits, and there is one.
abbrev pub IsCostWithin : CostArguments → Type 0
IsCostWithin a = All (λ v. v < 2 ^ 32) a.values.items × (0 < length a.values.items)
