use Rattle.cfn_store.specs.Standing.{history}
use Rattle.cfn_dac.proofs.Directing.{no_pair}
use Rattle.cfn_dac.proofs.dac.open_pair.Goals as goal

pub returns-in_default : goal.returns-in_default
returns-in_default c = no_pair c.args.store.now.network (history c.args.store.now) c.args.f c.open_places.result c.open_places.ensures c.in_default.not-Two
