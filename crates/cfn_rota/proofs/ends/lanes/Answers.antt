use Rattle.std.proofs.Common.{rules, ◌≡◌, ◌+◌, length, ap, ◌∙◌, arith}
use Rattle.cfn_rota.specs.Values.{IsNew, lanes_of}
use Rattle.cfn_rota.proofs.Dealt.{added, thieves_all}
use Rattle.cfn_rota.proofs.ends.lanes.Goals as goal

pub loop-preserved : goal.loop-preserved
loop-preserved g c =
    let made = c.in_ok-lane.ensures.new in
    let is = c.add_thieves.ensures.lane in
    let pushed = c.push_reserved.ensures.items in
    let so_far = c.loop.invariant in
    record {
      count = search rules;
      room = search rules;
      new = added (IsNew c.args.room) _ _ _ pushed so_far.new
          (record { room_is = ap (λ l. l.room) is ∙ made.room_is; pushed = ap (λ l. l.pushed) is ∙ made.pushed; taken = ap (λ l. l.taken) is ∙ made.taken });
      parts = added (λ lane. lane.parts + length c.args.thieves.now ≡ 128) _ _ _ pushed so_far.parts (let parts = c.in_ok-add_thieves.ensures.parts in omega (arith, parts, so_far.thieves));
      thieves = search rules;
      known = thieves_all (λ theirs. lanes_of theirs.items) (λ lane. lane.lane) _ _ _ _ _ _ c.add_thieves.ensures.thieves pushed (ap (λ l. l.lane) is) c.in_ok-add_thieves.ensures.known so_far.known;
    }
