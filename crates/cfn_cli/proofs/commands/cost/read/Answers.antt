use Rattle.std.proofs.Common.{◌≡◌, List, Some, None, refl, codes, ℕ}
use Rattle.clap.specs.Words.{Row, Text, all_of, first_of}
use Rattle.cfn_cli.specs.Arguments.{format_of}
use Rattle.cfn_cli.specs.Request.Costing.{cost_of, values_of}
use Rattle.cfn_cli.proofs.Asking.{nothing_asked, passed_on}
use Rattle.cfn_cli.proofs.Rows.{all_rows}
use Rattle.cfn_cli.proofs.commands.cost.read.Goals as goal

cost_made : (rows : List Row) (file : Text) (texts : List Text) (values : List ℕ) → first_of (codes "file") rows ≡ Some file
    → all_of (codes "values") rows ≡ Some texts → values_of texts ≡ Some values
    → cost_of rows ≡ Some (record { file = file; values = values; format = format_of rows })
unfolding cost_of
cost_made rows file texts values e1 e2 e3 = rw (e1, e2, e3) refl

cost_without_file : (rows : List Row) → first_of (codes "file") rows ≡ None → cost_of rows ≡ None
unfolding cost_of
cost_without_file rows e1 = rw e1 refl

cost_without_texts : (rows : List Row) (file : Text) → first_of (codes "file") rows ≡ Some file
    → all_of (codes "values") rows ≡ None → cost_of rows ≡ None
unfolding cost_of
cost_without_texts rows file e1 e2 = rw (e1, e2) refl

cost_without_values : (rows : List Row) (file : Text) (texts : List Text) → first_of (codes "file") rows ≡ Some file
    → all_of (codes "values") rows ≡ Some texts → values_of texts ≡ None → cost_of rows ≡ None
unfolding cost_of
cost_without_values rows file texts e1 e2 e3 = rw (e1, e2, e3) refl

pub returns-in_err-file-clause-usage : goal.returns-in_err-file-clause-usage
returns-in_err-file-clause-usage c = nothing_asked _ _ (cost_without_file _ c.in_err-file.ensures.missing)

pub returns-in_default-clause-usage : goal.returns-in_default-clause-usage
returns-in_default-clause-usage c =
    λ _. cost_without_texts _ _ c.in_ok-file.ensures.text (all_rows c.args.found.now (codes "values") None c.in_default.ensures)

pub returns-in_err-values-clause-usage : goal.returns-in_err-values-clause-usage
returns-in_err-values-clause-usage c =
    passed_on _ _ _ c.from_residual-in_err-values.ensures.1
    (λ is. cost_without_values _ _ _ c.in_ok-file.ensures.text (all_rows c.args.found.now (codes "values") _ c.in-Some.ensures)
    (c.in_err-values.ensures.usage is))

pub returns-clause-arguments : goal.returns-clause-arguments
returns-clause-arguments c =
    rw (c.in_ok-from_str.ensures.ok, c.format.ensures)
    (cost_made _ _ _ _ c.in_ok-file.ensures.text (all_rows c.args.found.now (codes "values") _ c.in-Some.ensures) c.in_ok-values.ensures.values)
