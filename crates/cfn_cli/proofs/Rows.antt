-- The rows of what clap found, at an argument's name.
use Rattle.std.proofs.Common.{◌≡◌, ◌∙◌, List, Option, sym}
use Rattle.clap.specs.Words.{Text, all_of, first_of, first_value, found_of, matched_of, raw_values, rows_of}
use Rattle.std.specs.Prelude.{option_map}
use Rattle.clap.specs.declared.parser.ArgMatches.{ArgMatches}
use Rattle.clap.proofs.WalkLemmas.{first_value-rows, raw_values-rows}

pub first_row : (m : ArgMatches) (id : Text) (o : Option Text) → o ≡ first_value (found_of m) id → first_of id (rows_of (found_of m)) ≡ o
first_row m id o e = sym (e ∙ first_value-rows (found_of m) id)

pub all_rows : (m : ArgMatches) (id : Text) (o : Option (List Text)) → o ≡ option_map raw_values (matched_of (found_of m) id)
    → all_of id (rows_of (found_of m)) ≡ o
all_rows m id o e = sym (e ∙ raw_values-rows (found_of m) id)
