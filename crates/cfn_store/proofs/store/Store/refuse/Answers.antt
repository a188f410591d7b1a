use Rattle.cfn_store.proofs.Stores.{exact_refused}
use Rattle.cfn_store.proofs.store.Store.refuse.Goals as goal

pub turn-requires-clause-exact : goal.turn-requires-clause-exact
turn-requires-clause-exact c = exact_refused c.args.self.now c.args.decision c.law_exact.ensures c.requires.decision
