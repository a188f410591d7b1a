use Rattle.std.proofs.Common.{◌≡◌, ◌∙◌, List, Option, None, ap, codes, sym}
use Rattle.clap.specs.Words.{Row, Text, first_of, found_of, rows_of}
use Rattle.cfn_cli.specs.Arguments.{format_in, format_of}
use Rattle.cfn_cli.proofs.Rows.{first_row}
use Rattle.cfn_cli.proofs.found.format.Goals as goal

-- the format, from the text that stands under its name
format_by : (rows : List Row) (o : Option Text) → first_of (codes "wcnf") rows ≡ o → format_of rows ≡ format_in o
format_by rows o e = ap format_in e

pub returns-in-Some : goal.returns-in-Some
returns-in-Some c = c.format_flagged.ensures ∙ sym (format_by (rows_of (found_of c.args.found.now)) _ (first_row c.args.found.now (codes "wcnf") _ c.in-Some.ensures))

pub returns-in-None : goal.returns-in-None
returns-in-None c = sym (format_by (rows_of (found_of c.args.found.now)) _ (first_row c.args.found.now (codes "wcnf") None c.in-None.ensures))
