use Rattle.std.proofs.Common.{◌≡◌, List, Some, None, refl, codes, ℕ}
use Rattle.clap.specs.Words.{Row}
use Rattle.cfn_cli.specs.Arguments.{number_of}
use Rattle.cfn_cli.specs.Request.Trying.{trial_of}
use Rattle.cfn_cli.proofs.Asking.{nothing_asked}
use Rattle.cfn_cli.proofs.commands.trial.read.Goals as goal

trial_made : (rows : List Row) (seed size workers : ℕ) → number_of (codes "seed") 0 65536 rows ≡ Some seed → number_of (codes "size") 1 200 rows ≡ Some size
    → number_of (codes "workers") 1 64 rows ≡ Some workers → trial_of rows ≡ Some (record { seed = seed; size = size; workers = workers })
unfolding trial_of
trial_made rows seed size workers e1 e2 e3 = rw (e1, e2, e3) refl

trial_without_seed : (rows : List Row) → number_of (codes "seed") 0 65536 rows ≡ None → trial_of rows ≡ None
unfolding trial_of
trial_without_seed rows e1 = rw e1 refl

trial_without_size : (rows : List Row) (seed : ℕ) → number_of (codes "seed") 0 65536 rows ≡ Some seed → number_of (codes "size") 1 200 rows ≡ None → trial_of rows ≡ None
unfolding trial_of
trial_without_size rows seed e1 e2 = rw (e1, e2) refl

trial_without_workers : (rows : List Row) (seed size : ℕ) → number_of (codes "seed") 0 65536 rows ≡ Some seed → number_of (codes "size") 1 200 rows ≡ Some size
    → number_of (codes "workers") 1 64 rows ≡ None → trial_of rows ≡ None
unfolding trial_of
trial_without_workers rows seed size e1 e2 e3 = rw (e1, e2, e3) refl

pub returns-in_err-seed-clause-usage : goal.returns-in_err-seed-clause-usage
returns-in_err-seed-clause-usage c = nothing_asked _ _ (trial_without_seed _ c.in_err-seed.ensures.none)

pub returns-in_err-size-clause-usage : goal.returns-in_err-size-clause-usage
returns-in_err-size-clause-usage c = nothing_asked _ _ (trial_without_size _ _ c.in_ok-seed.ensures.number c.in_err-size.ensures.none)

pub returns-in_err-workers-clause-usage : goal.returns-in_err-workers-clause-usage
returns-in_err-workers-clause-usage c =
    nothing_asked _ _ (trial_without_workers _ _ _ c.in_ok-seed.ensures.number c.in_ok-size.ensures.number c.in_err-workers.ensures.none)

pub returns-clause-arguments : goal.returns-clause-arguments
returns-clause-arguments c = trial_made _ _ _ _ c.in_ok-seed.ensures.number c.in_ok-size.ensures.number c.in_ok-workers.ensures.number
