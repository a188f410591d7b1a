use Rattle.std.proofs.Common.{rules, ◌≡◌, ◌∙◌, ap}
use Rattle.cfn_rota.specs.Values.{access}
use Rattle.cfn_search.specs.Accounts.{reach}
use Rattle.cfn_rota.proofs.CallerLemmas.{all_before, in_turn}
use Rattle.cfn_search.proofs.team.start_workers.Goals as goal

pub loop-part-preserved : goal.loop-part-preserved
loop-part-preserved g c =
    let so_far = c.loop-part.invariant in
    record {
      count = search rules;
      ends = search rules;
      room = search rules;
      ones = all_before (λ part. part.shares ≡ 1) _ _ _ c.in-Some-Some.ensures.items so_far.ones;
      order = in_turn reach access _ _ _ _ _ _ _ c.in-Some-Some.ensures'.items c.push_reserved.ensures.items (ap reach c.new.ensures ∙ ap access c.of.ensures) so_far.order;
    }
