use Rattle.cfn_store.proofs.Stores.{exact_cut_value}
use Rattle.cfn_store.proofs.store.Store.cut_value.Goals as goal

pub make-requires-clause-exact : goal.make-requires-clause-exact
make-requires-clause-exact c = exact_cut_value c.args.self.now c.args.x c.args.value c.law_exact.ensures c.requires.value
