use Rattle.std.proofs.Common.{rules, ◌≡◌, ◌∙◌}
use Rattle.cfn_rota.proofs.Dealt.{took_later}
use Rattle.cfn_rota.proofs.ends.Ends.steal.Goals as goal

pub returns-in-Some-clause-one : goal.returns-in-Some-clause-one
returns-in-Some-clause-one g c = (c.in-Some.ensures.one.0, (search rules, took_later c.split_at_mut-earlier.result.0.now c.split_at_mut-earlier.result.1.now c.steal_first.new.thieves c.args.self.now.thieves _ c.self.inside.thieves.len c.in-Some.task (search rules) (search rules) c.in-Some.ensures.one.1))
