-- The command `trial`: its part of the command line, what it is asked, and how that is read.
use Rattle.std.specs.Prelude.{ℕ, ◌≤◌, true, List, Option, Some}
use Rattle.std.specs.Prelude.{option_map, option_and_then, codes}
use Rattle.clap.specs.Words.{App, Row, Rule, new_app, new_rule, with_rule}
use Rattle.cfn_cli.specs.Arguments.{number, number_of, workers_rule}
use Rattle.cfn_cli.specs.declared.commands.trial.TrialArguments.{TrialArguments}

-- SEED
unfoldable pub seed_rule : Rule
seed_rule = record (new_rule (codes "seed")) { required = true; parser = Some number }

-- SIZE
unfoldable pub size_rule : Rule
size_rule = record (new_rule (codes "size")) { required = true; parser = Some number }

-- trial SEED SIZE [--workers W]
unfoldable pub trial_app : App
trial_app = with_rule (with_rule (with_rule (new_app (codes "trial")) seed_rule) size_rule) workers_rule

pub record TrialRequest : Type 0 where
  pub seed : ℕ
  pub size : ℕ
  pub workers : ℕ

-- The request that the arguments hold.
abbrev pub spoken_trial : TrialArguments → TrialRequest
spoken_trial a = record { seed = a.seed; size = a.size; workers = a.workers }

-- What the rows of `trial` say.
unfoldable pub trial_of : List Row → Option TrialRequest
trial_of rows = option_and_then (λ seed. option_and_then (λ size. option_map (λ workers. record {
  seed = seed;
  size = size;
  workers = workers;
}) (number_of (codes "workers") 1 64 rows)) (number_of (codes "size") 1 200 rows)) (number_of (codes "seed") 0 65536 rows)

-- The numbers lie within their limits.
abbrev pub IsTrialWithin : TrialArguments → Type 0
IsTrialWithin a = ((a.seed ≤ 65536) × ((1 ≤ a.size) × (a.size ≤ 200))) × ((1 ≤ a.workers) × (a.workers ≤ 64))
