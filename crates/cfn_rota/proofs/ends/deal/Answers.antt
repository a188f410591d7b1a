use Rattle.std.proofs.Common.{rules, ◌≡◌, ◌+◌, map, refl}
use Rattle.cfn_rota.specs.Values.{IsNew, access, lanes_of}
use Rattle.cfn_rota.proofs.Dealt.{added, rest, last, order_more, all_dealt}
use Rattle.cfn_rota.proofs.ends.deal.Goals as goal

pub loop-lane-preserved : goal.loop-lane-preserved
loop-lane-preserved g c =
    let lanes = c.in-Some-Some.ensures.items in
    let thieves = c.in-Some-Some.ensures'.items in
    let pushed = c.push_reserved.ensures.items in
    let so_far = c.loop-lane.invariant in
    let workers = c.args.workers in
    let all = map (λ lane. lane.lane) c.in_ok-lanes.lanes.items in
    record {
      count = search rules;
      thieves = search rules;
      room = search rules;
      left = rest (IsNew c.args.room) _ _ _ lanes so_far.left;
      new = added (λ ends. IsNew c.args.room ends.lane) _ _ _ pushed so_far.new (last (IsNew c.args.room) _ _ _ lanes so_far.left);
      left_parts = rest (λ lane. lane.parts + workers ≡ 128) _ _ _ lanes so_far.left_parts;
      parts = added (λ ends. ends.lane.parts + workers ≡ 128) _ _ _ pushed so_far.parts (last (λ lane. lane.parts + workers ≡ 128) _ _ _ lanes so_far.left_parts);
      order = order_more (λ lane. lane.lane) access _ _ _ _ _ _ _ lanes pushed refl so_far.order;
      known = rest (λ theirs. lanes_of theirs.items ≡ all) _ _ _ thieves so_far.known;
      all = added (λ ends. lanes_of ends.thieves ≡ all) _ _ _ pushed so_far.all (last (λ theirs. lanes_of theirs.items ≡ all) _ _ _ thieves so_far.known);
    }

pub returns-clause-all : goal.returns-clause-all
returns-clause-all g c = all_dealt (λ lane. lane.lane) access c.in_ok-lanes.lanes.items c.loop-lane.lanes.items c.args.workers c.loop-lane.all.items (search rules) (search rules) c.loop-lane.invariant.order c.loop-lane.invariant.parts c.loop-lane.invariant.all
