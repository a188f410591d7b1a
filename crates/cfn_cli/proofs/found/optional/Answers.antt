use Rattle.std.proofs.Common.{◌≡◌, ℕ, List, Option, Some, None, ap, sym, subst}
use Rattle.std.specs.Prelude.{IfOk, IfErr}
use Rattle.clap.specs.Words.{Row, Text, first_of, found_of, rows_of}
use Rattle.cfn_cli.specs.Arguments.{optional_in, optional_of}
use Rattle.cfn_cli.proofs.Rows.{first_row}
use Rattle.cfn_cli.proofs.found.optional.Goals as goal

-- the number, from the text that stands under its name
optional_by : (rows : List Row) (id : Text) (least most : ℕ) (o : Option Text) → first_of id rows ≡ o → optional_of id least most rows ≡ optional_in least most o
optional_by rows id least most o e = ap (optional_in least most) e

pub returns-in-Some-clause-number : goal.returns-in-Some-clause-number
returns-in-Some-clause-number c =
    subst (λ o. IfOk c.given.result (λ n. o ≡ Some n)) (sym (optional_by (rows_of (found_of c.args.found.now)) c.args.id.now c.args.least c.args.most _ (first_row c.args.found.now c.args.id.now _ c.in-Some.ensures))) c.given.ensures.number

pub returns-in-Some-clause-none : goal.returns-in-Some-clause-none
returns-in-Some-clause-none c =
    subst (λ o. IfErr c.given.result (λ fault. o ≡ None)) (sym (optional_by (rows_of (found_of c.args.found.now)) c.args.id.now c.args.least c.args.most _ (first_row c.args.found.now c.args.id.now _ c.in-Some.ensures))) c.given.ensures.none

pub returns-in-None-clause-number : goal.returns-in-None-clause-number
returns-in-None-clause-number c = optional_by (rows_of (found_of c.args.found.now)) c.args.id.now c.args.least c.args.most None (first_row c.args.found.now c.args.id.now None c.in-None.ensures)
