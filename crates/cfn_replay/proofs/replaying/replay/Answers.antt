use Rattle.std.proofs.Common.{subst}
use Rattle.cfn_replay.specs.Standing.{IsStop}
use Rattle.cfn_replay.proofs.replaying.replay.Goals as goal

pub returns-in-Err-Refused : goal.returns-in-Err-Refused
returns-in-Err-Refused c = subst (IsStop c.args.network.now c.args.text.now) c.in-Err-Refused.field-0-is c.in-Err-Refused.ensures.stop
