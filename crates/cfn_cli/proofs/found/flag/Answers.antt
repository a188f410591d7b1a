use Rattle.std.proofs.Common.{◌≡◌, ◌∙◌, List, Option, None, ap, sym}
use Rattle.clap.specs.Words.{Row, Text, first_of, found_of, rows_of}
use Rattle.cfn_cli.specs.Arguments.{flag_in, flag_of}
use Rattle.cfn_cli.proofs.Rows.{first_row}
use Rattle.cfn_cli.proofs.found.flag.Goals as goal

-- whether it is set, from the text that stands under its name
flag_by : (rows : List Row) (id : Text) (o : Option Text) → first_of id rows ≡ o → flag_of id rows ≡ flag_in o
flag_by rows id o e = ap flag_in e

pub returns-in-Some : goal.returns-in-Some
returns-in-Some c = c.eq.ensures ∙ sym (flag_by (rows_of (found_of c.args.found.now)) c.args.id.now _ (first_row c.args.found.now c.args.id.now _ c.in-Some.ensures))

pub returns-in-None : goal.returns-in-None
returns-in-None c = sym (flag_by (rows_of (found_of c.args.found.now)) c.args.id.now _ (first_row c.args.found.now c.args.id.now None c.in-None.ensures))
