use Rattle.cfn_cli.proofs.Rows.{first_row}
use Rattle.cfn_cli.proofs.found.text.Goals as goal

pub returns-in-Some-clause-text : goal.returns-in-Some-clause-text
returns-in-Some-clause-text c = first_row c.args.found.now c.args.id.now _ c.in-Some.ensures

pub returns-in-None-clause-missing : goal.returns-in-None-clause-missing
returns-in-None-clause-missing c = first_row c.args.found.now c.args.id.now _ c.in-None.ensures
