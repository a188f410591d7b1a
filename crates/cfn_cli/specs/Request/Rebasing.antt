-- The command `rebase`: its part of the command line, what it is asked, and how that is read.
use Rattle.std.specs.Prelude.{ℕ, ◌≤◌, true, List, [], ◌∷◌, Option, Some}
use Rattle.std.specs.Prelude.{option_map, option_and_then, codes, string_bytes}
use Rattle.clap.specs.Words.{App, Row, Rule, Text, first_of, new_app, new_rule, with_rule}
use Rattle.cfn_cli.specs.Arguments.{budget_rule, certificate_rule, file_rule, number, number_of, progress_rule, seconds_rule, wcnf_rule, workers_rule}
use Rattle.cfn_cli.specs.Request.Solving.{SolveRequest, IsSolveWithin, solve_of, spoken_solve}
use Rattle.cfn_cli.specs.declared.commands.rebase.RebaseArguments.{RebaseArguments}

-- OLD
unfoldable pub old_rule : Rule
old_rule = record (new_rule (codes "old")) { required = true }

-- [--part I], and 1 where it is left out
unfoldable pub part_rule : Rule
part_rule = record (new_rule (codes "part")) {
  long = Some (codes "part");
  parser = Some number;
  defaults = codes "1" ∷ [];
}

-- [--parts N], and 1 where it is left out
unfoldable pub parts_rule : Rule
parts_rule = record (new_rule (codes "parts")) {
  long = Some (codes "parts");
  parser = Some number;
  defaults = codes "1" ∷ [];
}

-- rebase FILE OLD CERT [--workers W] [--budget B] [--seconds S] [--wcnf] [--progress] [--part I] [--parts N]
unfoldable pub rebase_app : App
rebase_app = with_rule (with_rule (with_rule (with_rule (with_rule (with_rule (with_rule (with_rule (with_rule (with_rule (new_app (codes "rebase")) file_rule)
    old_rule) certificate_rule) workers_rule) budget_rule) seconds_rule) wcnf_rule) progress_rule) part_rule) parts_rule

-- What is asked of `solve`, the certificate that is gone on from, and which part of its open leaves is worked on, of how many.
pub record RebaseRequest : Type 0 where
  pub old : Text
  pub part : ℕ
  pub parts : ℕ
  pub solve : SolveRequest

-- The request that the arguments hold.
abbrev pub spoken_rebase : RebaseArguments → RebaseRequest
spoken_rebase a = record { old = string_bytes a.old; part = a.part; parts = a.parts; solve = spoken_solve a.solve }

-- What the rows of `rebase` say.
unfoldable pub rebase_of : List Row → Option RebaseRequest
rebase_of rows = option_and_then (λ old. option_and_then (λ solve. option_and_then (λ parts.
    option_map (λ part. record { old = old; part = part; parts = parts; solve = solve })
    (number_of (codes "part") 1 parts rows)) (number_of (codes "parts") 1 1048576 rows)) (solve_of rows)) (first_of (codes "old") rows)

-- The numbers lie within their limits.
abbrev pub IsRebaseWithin : RebaseArguments → Type 0
IsRebaseWithin a = IsSolveWithin a.solve × ((1 ≤ a.part) × (a.part ≤ a.parts))
