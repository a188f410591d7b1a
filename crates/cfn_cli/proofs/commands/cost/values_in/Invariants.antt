use Rattle.std.proofs.Common.{take}
use Rattle.cfn_cli.proofs.Values.{Reads}
use Rattle.cfn_cli.proofs.commands.cost.values_in.Given as goal

abbrev pub invariant-loop-text : goal.invariant-loop-text
invariant-loop-text l = Reads (take l.text-index l.texts) l.values.items
