use Rattle.cfn_store.proofs.Stores.{exact_lift}
use Rattle.cfn_store.proofs.store.Store.lift.Goals as goal

pub make-requires-clause-exact : goal.make-requires-clause-exact
make-requires-clause-exact c = exact_lift c.args.self.now c.args.x c.args.amount c.law_exact.ensures c.requires.fits
