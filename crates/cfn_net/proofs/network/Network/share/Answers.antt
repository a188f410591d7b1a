use Rattle.std.proofs.Common.{refl}
use Rattle.cfn_net.proofs.Keeping.{IsKept-share}
use Rattle.cfn_net.proofs.network.Network.share.Goals as goal

pub invariant_of-self-2 : goal.invariant_of-self-2
invariant_of-self-2 c =
    let inside = c.self.inside in
    IsKept-share inside.name.items inside.sizes.items inside.upper inside.tables.items inside.functions.items c.push.new.self.items c.index-kept.result.now (record { scope = c.in_ok-scope.scope; default = c.index-kept.result.now.default; table = c.index-kept.result.now.table }) c.args.earlier c.args.scope.now c.args.self.now c.self.invariant c.self.view_is c.index-kept.ensures c.in_ok-push.ensures.items c.in_ok-scope.ensures.ok refl refl c.requires.earlier c.requires.room c.requires.dims
