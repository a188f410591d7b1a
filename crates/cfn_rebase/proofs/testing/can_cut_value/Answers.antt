use Rattle.cfn_rebase.proofs.Tested.{events_in_place}
use Rattle.cfn_rebase.proofs.testing.can_cut_value.Goals as goal

pub unary_balance-requires-clause-range : goal.unary_balance-requires-clause-range
unary_balance-requires-clause-range c = events_in_place c.args.network.now c.args.store.now c.args.events.now c.requires.network c.requires.events c.law_exact.ensures
