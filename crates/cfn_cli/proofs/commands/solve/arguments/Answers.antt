use Rattle.std.proofs.Common.{◌≡◌, List, Option, Some, None, refl, codes, ℕ}
use Rattle.clap.specs.Words.{Row, Text, first_of}
use Rattle.cfn_cli.specs.Arguments.{flag_of, format_of, number_of, optional_of}
use Rattle.cfn_cli.specs.Request.Solving.{solve_in}
use Rattle.cfn_cli.proofs.Asking.{nothing_asked}
use Rattle.cfn_cli.proofs.commands.solve.arguments.Goals as goal

solve_made : (rows : List Row) (file certificate : Text) (workers budget : ℕ) (seconds : Option ℕ) → first_of (codes "file") rows ≡ Some file
    → first_of (codes "certificate") rows ≡ Some certificate → number_of (codes "workers") 1 64 rows ≡ Some workers
    → number_of (codes "budget") 0 9223372036854775807 rows ≡ Some budget → optional_of (codes "seconds") 0 1000000000 rows ≡ Some seconds
    → solve_in rows ≡ Some (record { file = file; certificate = certificate; workers = workers; budget = budget; seconds = seconds; format = format_of rows; progress = flag_of (codes "progress") rows })
unfolding solve_in
solve_made rows file certificate workers budget seconds e1 e2 e3 e4 e5 = rw (e1, e2, e3, e4, e5) refl

solve_without_file : (rows : List Row) → first_of (codes "file") rows ≡ None → solve_in rows ≡ None
unfolding solve_in
solve_without_file rows e1 = rw e1 refl

solve_without_certificate : (rows : List Row) (file : Text) → first_of (codes "file") rows ≡ Some file
    → first_of (codes "certificate") rows ≡ None → solve_in rows ≡ None
unfolding solve_in
solve_without_certificate rows file e1 e2 = rw (e1, e2) refl

solve_without_workers : (rows : List Row) (file certificate : Text) → first_of (codes "file") rows ≡ Some file
    → first_of (codes "certificate") rows ≡ Some certificate → number_of (codes "workers") 1 64 rows ≡ None → solve_in rows ≡ None
unfolding solve_in
solve_without_workers rows file certificate e1 e2 e3 = rw (e1, e2, e3) refl

solve_without_budget : (rows : List Row) (file certificate : Text) (workers : ℕ) → first_of (codes "file") rows ≡ Some file
    → first_of (codes "certificate") rows ≡ Some certificate → number_of (codes "workers") 1 64 rows ≡ Some workers
    → number_of (codes "budget") 0 9223372036854775807 rows ≡ None → solve_in rows ≡ None
unfolding solve_in
solve_without_budget rows file certificate workers e1 e2 e3 e4 = rw (e1, e2, e3, e4) refl

solve_without_seconds : (rows : List Row) (file certificate : Text) (workers budget : ℕ) → first_of (codes "file") rows ≡ Some file
    → first_of (codes "certificate") rows ≡ Some certificate → number_of (codes "workers") 1 64 rows ≡ Some workers
    → number_of (codes "budget") 0 9223372036854775807 rows ≡ Some budget → optional_of (codes "seconds") 0 1000000000 rows ≡ None → solve_in rows ≡ None
unfolding solve_in
solve_without_seconds rows file certificate workers budget e1 e2 e3 e4 e5 = rw (e1, e2, e3, e4, e5) refl

pub returns-in_err-file-clause-usage : goal.returns-in_err-file-clause-usage
returns-in_err-file-clause-usage c = nothing_asked _ _ (solve_without_file _ c.in_err-file.ensures.missing)

pub returns-in_err-certificate-clause-usage : goal.returns-in_err-certificate-clause-usage
returns-in_err-certificate-clause-usage c =
    nothing_asked _ _ (solve_without_certificate _ _ c.in_ok-file.ensures.text c.in_err-certificate.ensures.missing)

pub returns-in_err-workers-clause-usage : goal.returns-in_err-workers-clause-usage
returns-in_err-workers-clause-usage c =
    nothing_asked _ _ (solve_without_workers _ _ _ c.in_ok-file.ensures.text c.in_ok-certificate.ensures.text c.in_err-workers.ensures.none)

pub returns-in_err-budget-clause-usage : goal.returns-in_err-budget-clause-usage
returns-in_err-budget-clause-usage c =
    nothing_asked _ _ (solve_without_budget _ _ _ _ c.in_ok-file.ensures.text c.in_ok-certificate.ensures.text c.in_ok-workers.ensures.number
    c.in_err-budget.ensures.none)

pub returns-in_err-seconds-clause-usage : goal.returns-in_err-seconds-clause-usage
returns-in_err-seconds-clause-usage c =
    nothing_asked _ _ (solve_without_seconds _ _ _ _ _ c.in_ok-file.ensures.text c.in_ok-certificate.ensures.text c.in_ok-workers.ensures.number
    c.in_ok-budget.ensures.number c.in_err-seconds.ensures.none)

pub returns-clause-arguments : goal.returns-clause-arguments
returns-clause-arguments c =
    rw (c.in_ok-from_str.ensures.ok, c.in_ok-from_str-2.ensures.ok, c.format.ensures, c.flag.ensures)
    (solve_made _ _ _ _ _ _ c.in_ok-file.ensures.text c.in_ok-certificate.ensures.text c.in_ok-workers.ensures.number c.in_ok-budget.ensures.number c.in_ok-seconds.ensures.number)
