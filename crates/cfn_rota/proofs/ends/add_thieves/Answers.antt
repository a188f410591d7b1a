use Rattle.std.proofs.Common.{rules, ap, ◌∙◌}
use Rattle.cfn_rota.specs.Values.{lanes_of}
use Rattle.cfn_rota.proofs.Dealt.{thieves_more, others_more, lanes_push}
use Rattle.cfn_rota.proofs.ends.add_thieves.Goals as goal

pub loop-theirs-preserved : goal.loop-theirs-preserved
loop-theirs-preserved g c =
    let so_far = c.loop-theirs.invariant in
    record {
      parts = search rules;
      lane = search rules;
      thieves = search rules;
      known = thieves_more (λ theirs. lanes_of theirs.items) _ _ _ _ _ _ (search rules) (lanes_push _ _ _ _ c.in_ok-push.ensures.items (ap (λ t. t.lane) c.in_ok-thief.ensures.new ∙ ap (λ l. l.lane) so_far.lane)) so_far.known so_far.others;
      others = others_more _ _ _ _ so_far.others;
    }
