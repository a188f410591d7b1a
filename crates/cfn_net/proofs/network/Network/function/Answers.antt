use Rattle.cfn_net.proofs.Keeping.{function_lent}
use Rattle.cfn_net.proofs.network.Network.function.Goals as goal

pub returns-clause-limits : goal.returns-clause-limits
returns-clause-limits c =
    let inside = c.self.inside in
    function_lent inside.name.items inside.sizes.items inside.upper inside.tables.items inside.functions.items c.args.self.now c.args.f c.index-kept.result.now c.as_slice.result.now c.index.result.now c.self.invariant c.self.view_is c.requires c.index-kept.ensures c.as_slice.ensures c.index.ensures
