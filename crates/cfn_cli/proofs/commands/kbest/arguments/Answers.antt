use Rattle.std.proofs.Common.{◌≡◌, List, Option, Some, None, refl, codes, ℕ}
use Rattle.clap.specs.Words.{Row, Text, first_of}
use Rattle.cfn_cli.specs.Arguments.{format_of, number_of, optional_of}
use Rattle.cfn_cli.specs.Request.Listing.{k_best_in}
use Rattle.cfn_cli.proofs.Asking.{nothing_asked}
use Rattle.cfn_cli.proofs.commands.kbest.arguments.Goals as goal

k_best_made : (rows : List Row) (file : Text) (count : ℕ) (certificate : Text) (budget : ℕ) (seconds : Option ℕ) → first_of (codes "file") rows ≡ Some file
    → number_of (codes "count") 1 1000 rows ≡ Some count → first_of (codes "certificate") rows ≡ Some certificate
    → number_of (codes "budget") 0 9223372036854775807 rows ≡ Some budget → optional_of (codes "seconds") 0 1000000000 rows ≡ Some seconds
    → k_best_in rows ≡ Some (record { file = file; count = count; certificate = certificate; budget = budget; seconds = seconds; format = format_of rows })
unfolding k_best_in
k_best_made rows file count certificate budget seconds e1 e2 e3 e4 e5 = rw (e1, e2, e3, e4, e5) refl

k_best_without_file : (rows : List Row) → first_of (codes "file") rows ≡ None → k_best_in rows ≡ None
unfolding k_best_in
k_best_without_file rows e1 = rw e1 refl

k_best_without_count : (rows : List Row) (file : Text) → first_of (codes "file") rows ≡ Some file
    → number_of (codes "count") 1 1000 rows ≡ None → k_best_in rows ≡ None
unfolding k_best_in
k_best_without_count rows file e1 e2 = rw (e1, e2) refl

k_best_without_certificate : (rows : List Row) (file : Text) (count : ℕ) → first_of (codes "file") rows ≡ Some file
    → number_of (codes "count") 1 1000 rows ≡ Some count → first_of (codes "certificate") rows ≡ None → k_best_in rows ≡ None
unfolding k_best_in
k_best_without_certificate rows file count e1 e2 e3 = rw (e1, e2, e3) refl

k_best_without_budget : (rows : List Row) (file : Text) (count : ℕ) (certificate : Text) → first_of (codes "file") rows ≡ Some file
    → number_of (codes "count") 1 1000 rows ≡ Some count → first_of (codes "certificate") rows ≡ Some certificate
    → number_of (codes "budget") 0 9223372036854775807 rows ≡ None → k_best_in rows ≡ None
unfolding k_best_in
k_best_without_budget rows file count certificate e1 e2 e3 e4 = rw (e1, e2, e3, e4) refl

k_best_without_seconds : (rows : List Row) (file : Text) (count : ℕ) (certificate : Text) (budget : ℕ) → first_of (codes "file") rows ≡ Some file
    → number_of (codes "count") 1 1000 rows ≡ Some count → first_of (codes "certificate") rows ≡ Some certificate
    → number_of (codes "budget") 0 9223372036854775807 rows ≡ Some budget → optional_of (codes "seconds") 0 1000000000 rows ≡ None → k_best_in rows ≡ None
unfolding k_best_in
k_best_without_seconds rows file count certificate budget e1 e2 e3 e4 e5 = rw (e1, e2, e3, e4, e5) refl

pub returns-in_err-file-clause-usage : goal.returns-in_err-file-clause-usage
returns-in_err-file-clause-usage c = nothing_asked _ _ (k_best_without_file _ c.in_err-file.ensures.missing)

pub returns-in_err-count-clause-usage : goal.returns-in_err-count-clause-usage
returns-in_err-count-clause-usage c = nothing_asked _ _ (k_best_without_count _ _ c.in_ok-file.ensures.text c.in_err-count.ensures.none)

pub returns-in_err-certificate-clause-usage : goal.returns-in_err-certificate-clause-usage
returns-in_err-certificate-clause-usage c =
    nothing_asked _ _ (k_best_without_certificate _ _ _ c.in_ok-file.ensures.text c.in_ok-count.ensures.number c.in_err-certificate.ensures.missing)

pub returns-in_err-budget-clause-usage : goal.returns-in_err-budget-clause-usage
returns-in_err-budget-clause-usage c =
    nothing_asked _ _ (k_best_without_budget _ _ _ _ c.in_ok-file.ensures.text c.in_ok-count.ensures.number c.in_ok-certificate.ensures.text
    c.in_err-budget.ensures.none)

pub returns-in_err-seconds-clause-usage : goal.returns-in_err-seconds-clause-usage
returns-in_err-seconds-clause-usage c =
    nothing_asked _ _ (k_best_without_seconds _ _ _ _ _ c.in_ok-file.ensures.text c.in_ok-count.ensures.number c.in_ok-certificate.ensures.text
    c.in_ok-budget.ensures.number c.in_err-seconds.ensures.none)

pub returns-clause-arguments : goal.returns-clause-arguments
returns-clause-arguments c =
    rw (c.in_ok-from_str.ensures.ok, c.in_ok-from_str-2.ensures.ok, c.format.ensures)
    (k_best_made _ _ _ _ _ _ c.in_ok-file.ensures.text c.in_ok-count.ensures.number c.in_ok-certificate.ensures.text c.in_ok-budget.ensures.number c.in_ok-seconds.ensures.number)
