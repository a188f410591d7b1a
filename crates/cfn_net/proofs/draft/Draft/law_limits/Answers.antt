use Rattle.std.proofs.Common.{subst}
use Rattle.cfn_model.specs.Network.{IsNetwork}
use Rattle.cfn_net.proofs.Drafting.{IsNetwork-with_open}
use Rattle.cfn_net.proofs.draft.Draft.law_limits.Goals as goal

pub returns : goal.returns
returns c = subst IsNetwork c.self.view_is (IsNetwork-with_open c.self.inside.network c.self.inside.last c.law_limits.ensures c.self.invariant)
