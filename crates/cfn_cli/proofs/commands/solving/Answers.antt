use Rattle.std.proofs.Common.{◌≡◌, ◌∙◌, List, Option, Some, None, ap, ap₂, codes, refl}
use Rattle.std.specs.Prelude.{option_and_then, option_map}
use Rattle.clap.specs.Words.{Row, Text, first_of}
use Rattle.cfn_cli.specs.Request.{Request, recorded, solve, solve_under, solving_of}
use Rattle.cfn_cli.specs.Request.Recording.{RecordedRequest, recorded_apart, spoken_recorded}
use Rattle.cfn_cli.specs.Request.Solving.{SolveRequest, solve_of, spoken_solve}
use Rattle.cfn_cli.proofs.Asking.{passed_on}
use Rattle.cfn_cli.proofs.Rows.{first_row}
use Rattle.cfn_cli.proofs.commands.solving.Goals as goal

-- what is asked of `solve`, by the record's name and by all else
solving : (rows : List Row) (name : Option Text) (ask : SolveRequest) (asked : Option Request) → first_of (codes "record") rows ≡ name
    → solve_of rows ≡ Some ask → solve_under name ask ≡ asked → solving_of rows ≡ asked
solving rows name ask asked e1 e2 e3 = ap₂ (λ n a. option_and_then (solve_under n) a) e1 e2 ∙ e3

under_name : (name : Text) (ask : SolveRequest) (o : Option RecordedRequest) → recorded_apart (record { recording = name; solve = ask }) ≡ o
    → solve_under (Some name) ask ≡ option_map recorded o
under_name name ask o e = ap (option_map recorded) e

pub returns-in_err-recorded-in-Some-clause-usage : goal.returns-in_err-recorded-in-Some-clause-usage
returns-in_err-recorded-in-Some-clause-usage c =
    let name = c.in-Some.name.now in
    let ask = spoken_solve c.in_ok-solve.solve in
    passed_on _ _ _ c.from_residual-in_err-recorded-in-Some.ensures.1 (λ usage.
    solving _ (Some name) ask None (first_row c.args.found.now (codes "record") (Some name) c.in-Some.ensures) c.in_ok-solve.ensures.arguments
    (under_name name ask None (c.in_err-recorded-in-Some.ensures.usage usage)))

pub returns-in_ok-recorded-in-Some-clause-command : goal.returns-in_ok-recorded-in-Some-clause-command
returns-in_ok-recorded-in-Some-clause-command c =
    let name = c.in-Some.name.now in
    let ask = spoken_solve c.in_ok-solve.solve in
    let asked = spoken_recorded c.in_ok-recorded-in-Some.field-0 in
    solving _ (Some name) ask (Some (recorded asked)) (first_row c.args.found.now (codes "record") (Some name) c.in-Some.ensures) c.in_ok-solve.ensures.arguments
    (under_name name ask (Some asked) c.in_ok-recorded-in-Some.ensures.arguments)

pub returns-in-None-clause-command : goal.returns-in-None-clause-command
returns-in-None-clause-command c =
    let ask = spoken_solve c.in_ok-solve.solve in
    solving _ None ask (Some (solve ask)) (first_row c.args.found.now (codes "record") None c.in-None.ensures) c.in_ok-solve.ensures.arguments refl
