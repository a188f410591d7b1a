use Rattle.cfn_store.proofs.Stores.{exact_took}
use Rattle.cfn_store.proofs.store.Store.take.Goals as goal

pub turn-requires-clause-exact : goal.turn-requires-clause-exact
turn-requires-clause-exact c = exact_took c.args.self.now c.args.decision c.law_exact.ensures c.requires.decision
