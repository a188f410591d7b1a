use Rattle.std.proofs.Common.{◌≡◌, ℕ, List, Some, None, refl, codes}
use Rattle.clap.specs.Words.{Row, Text, first_of}
use Rattle.cfn_cli.specs.Arguments.{number_of}
use Rattle.cfn_cli.specs.Request.Rebasing.{rebase_of}
use Rattle.cfn_cli.specs.Request.Solving.{SolveRequest, solve_of}
use Rattle.cfn_cli.proofs.Asking.{nothing_asked, passed_on}
use Rattle.cfn_cli.proofs.commands.rebase.read.Goals as goal

rebase_made : (rows : List Row) (old : Text) (solve : SolveRequest) (parts part : ℕ) → first_of (codes "old") rows ≡ Some old → solve_of rows ≡ Some solve
    → number_of (codes "parts") 1 1048576 rows ≡ Some parts → number_of (codes "part") 1 parts rows ≡ Some part
    → rebase_of rows ≡ Some (record { old = old; part = part; parts = parts; solve = solve })
unfolding rebase_of
rebase_made rows old solve parts part e1 e2 e3 e4 = rw (e1, e2, e3, e4) refl

rebase_without_old : (rows : List Row) → first_of (codes "old") rows ≡ None → rebase_of rows ≡ None
unfolding rebase_of
rebase_without_old rows e1 = rw e1 refl

rebase_without_solve : (rows : List Row) (old : Text) → first_of (codes "old") rows ≡ Some old → solve_of rows ≡ None → rebase_of rows ≡ None
unfolding rebase_of
rebase_without_solve rows old e1 e2 = rw (e1, e2) refl

rebase_without_parts : (rows : List Row) (old : Text) (solve : SolveRequest) → first_of (codes "old") rows ≡ Some old → solve_of rows ≡ Some solve
    → number_of (codes "parts") 1 1048576 rows ≡ None → rebase_of rows ≡ None
unfolding rebase_of
rebase_without_parts rows old solve e1 e2 e3 = rw (e1, e2, e3) refl

rebase_without_part : (rows : List Row) (old : Text) (solve : SolveRequest) (parts : ℕ) → first_of (codes "old") rows ≡ Some old → solve_of rows ≡ Some solve
    → number_of (codes "parts") 1 1048576 rows ≡ Some parts → number_of (codes "part") 1 parts rows ≡ None → rebase_of rows ≡ None
unfolding rebase_of
rebase_without_part rows old solve parts e1 e2 e3 e4 = rw (e1, e2, e3, e4) refl

pub returns-in_err-old-clause-usage : goal.returns-in_err-old-clause-usage
returns-in_err-old-clause-usage c = nothing_asked _ _ (rebase_without_old _ c.in_err-old.ensures.missing)

pub returns-in_err-solve-clause-usage : goal.returns-in_err-solve-clause-usage
returns-in_err-solve-clause-usage c =
    passed_on _ _ _ c.from_residual-in_err-solve.ensures.1 (λ is. rebase_without_solve _ _ c.in_ok-old.ensures.text (c.in_err-solve.ensures.usage is))

pub returns-in_err-parts-clause-usage : goal.returns-in_err-parts-clause-usage
returns-in_err-parts-clause-usage c = nothing_asked _ _ (rebase_without_parts _ _ _ c.in_ok-old.ensures.text c.in_ok-solve.ensures.arguments c.in_err-parts.ensures.none)

pub returns-in_err-part-clause-usage : goal.returns-in_err-part-clause-usage
returns-in_err-part-clause-usage c =
    nothing_asked _ _ (rebase_without_part _ _ _ _ c.in_ok-old.ensures.text c.in_ok-solve.ensures.arguments c.in_ok-parts.ensures.number c.in_err-part.ensures.none)

pub returns-clause-arguments : goal.returns-clause-arguments
returns-clause-arguments c =
    rw c.in_ok-from_str.ensures.ok (rebase_made _ _ _ _ _ c.in_ok-old.ensures.text c.in_ok-solve.ensures.arguments c.in_ok-parts.ensures.number c.in_ok-part.ensures.number)
