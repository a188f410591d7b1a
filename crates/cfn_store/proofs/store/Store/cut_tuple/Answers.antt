use Rattle.cfn_store.proofs.Stores.{exact_cut_tuple}
use Rattle.cfn_store.proofs.store.Store.cut_tuple.Goals as goal

pub make-requires-clause-exact : goal.make-requires-clause-exact
make-requires-clause-exact c = exact_cut_tuple c.args.self.now c.args.f c.args.cell c.law_exact.ensures c.requires.cell
