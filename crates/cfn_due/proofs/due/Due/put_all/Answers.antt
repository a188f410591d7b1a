use Rattle.cfn_due.proofs.Filling.{holds_filled}
use Rattle.cfn_due.proofs.due.Due.put_all.Goals as goal

pub returns-clause-holds : goal.returns-clause-holds
returns-clause-holds c = λ history.
    holds_filled c.args.network.now history c.functions.result c.functions-2.result c.variables.result c.put_rising.new.queue c.put_falling.new.queue c.put_rising-2.new.queue
    c.functions.ensures c.functions-2.ensures c.variables.ensures c.put_rising.ensures c.put_falling.ensures c.put_rising-2.ensures
