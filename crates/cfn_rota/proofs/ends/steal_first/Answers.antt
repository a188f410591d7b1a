use Rattle.std.proofs.Common.{rules, set, ap, subst, ◌∙◌}
use Rattle.cfn_rota.specs.Values.{OneTook, lanes_of}
use Rattle.cfn_rota.proofs.Dealt.{same_map, one_took}
use Rattle.cfn_rota.proofs.ends.steal_first.Goals as goal

pub returns-in-Some-clause-same : goal.returns-in-Some-clause-same
returns-in-Some-clause-same g c = same_map (λ thief. thief.lane) _ _ _ _ (search rules) (ap (λ thief. thief.lane) c.in-Some.ensures.0) ∙ ap lanes_of c.loop-thief.invariant

pub returns-in-Some-clause-one : goal.returns-in-Some-clause-one
returns-in-Some-clause-one g c =
    (c.in-Some.ensures.1, subst (λ xs. OneTook c.in-Some.task xs (set c.loop-thief.thief-items c.loop-thief.thief-index c.steal.new.self)) c.loop-thief.invariant (one_took _ _ _ _ _ (search rules) c.in-Some.ensures.0))
