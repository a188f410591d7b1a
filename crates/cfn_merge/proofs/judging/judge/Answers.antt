use Rattle.std.proofs.Common.{subst}
use Rattle.cfn_check.specs.Checking.{IsChecked}
use Rattle.cfn_merge.proofs.judging.judge.Goals as goal

pub found-requires : goal.found-requires
found-requires c = let v = subst (λ answer. IsChecked c.args.network.now c.args.text.now answer) c.in-Verified.is c.in_ok-check.ensures.checked in (v.certificate, v.spells, v.good)

pub returns-in-Refused : goal.returns-in-Refused
returns-in-Refused c = subst (λ answer. IsChecked c.args.network.now c.args.text.now answer) c.in-Refused.is c.in_ok-check.ensures.checked
