use Rattle.cfn_store.proofs.Stores.{exact_extend}
use Rattle.cfn_store.proofs.store.Store.extend.Goals as goal

pub make-requires-clause-exact : goal.make-requires-clause-exact
make-requires-clause-exact c = exact_extend c.args.self.now c.args.f c.args.place c.args.value c.args.amount c.law_exact.ensures c.requires.fits
