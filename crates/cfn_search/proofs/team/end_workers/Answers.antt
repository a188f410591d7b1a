use Rattle.std.proofs.Common.{rules, ◌++◌, [], ◌∷◌, ap, ◌∙◌, subst, sym, map, length, arith}
use Rattle.std.proofs.lemmas.List.{length_push, with_items_is}
use Rattle.cfn_pool.specs.Views.{pool}
use Rattle.cfn_rota.specs.Values.{AreAll}
use Rattle.cfn_search.specs.Accounts.{least_of, reach}
use Rattle.cfn_rota.proofs.CallerLemmas.{all_but_last}
use Rattle.cfn_search.proofs.Keeping.{stays}
use Rattle.cfn_search.proofs.Telling.{told_step, told_all, most_step, least_step}
use Rattle.cfn_search.proofs.team.end_workers.Goals as goal

pub end-threshold-requires-clause-all : goal.end-threshold-requires-clause-all
end-threshold-requires-clause-all g c = subst (λ before. AreAll (map reach before ++ reach c.in-Some.worker ∷ [])) (sym c.as_mut_slice.ensures.value) (all_but_last reach _ _ _ c.in-Some.ensures.items c.loop-worker.invariant.all)

pub loop-worker-preserved : goal.loop-worker-preserved
loop-worker-preserved g c =
    let so_far = c.loop-worker.invariant in
    let before = c.end-threshold.new.others in
    let count = c.end-threshold.ensures.count in
    let same = with_items_is c.pop.new.self before (count ∙ c.as_mut_slice.ensures.len) in
    let share = c.end-threshold.ensures.share in
    let items = ap length c.in-Some.ensures.items in
    let more = length_push c.pop.new.self.items c.in-Some.worker in
    let value = ap length c.as_mut_slice.ensures.value in
    let left = ap length same in
    let told = c.push_reserved.ensures.items in
    let one_more = ap length told in
    let pushed = length_push c.loop-worker.thresholds.items c.end-threshold.result in
    record {
      search = c.end-threshold.ensures.search;
      ready = stays c.args.held.now c.loop-worker.held c.end-threshold.new.held so_far.ready c.end-threshold.ensures.ready;
      budget = c.end-threshold.ensures.budget ∙ so_far.budget;
      shares = (let s = so_far.shares in omega (arith, s, share, items, more, value, count, left));
      all = subst (λ workers. AreAll (map reach workers)) (sym same) c.end-threshold.ensures.others;
      count = (let n = so_far.count in omega (arith, n, items, more, value, count, left, one_more, pushed));
      told = told_step _ _ _ _ _ _ _ _ c.in-Some.ensures.items (ap (map least_of) same ∙ c.end-threshold.ensures.leasts ∙ ap (map least_of) c.as_mut_slice.ensures.value) told c.end-threshold.ensures.told so_far.told;
      room = search rules;
      most = most_step g.M.Incumbent.network.upper _ _ _ told so_far.most c.end-threshold.ensures.most;
      least = least_step (pool c.loop-worker.held).view.seen (pool c.end-threshold.new.held).view.seen _ _ _ told c.end-threshold.ensures.falls so_far.least c.end-threshold.ensures.met;
    }

pub returns-clause-told : goal.returns-clause-told
returns-clause-told g c = told_all _ _ _ (search rules) c.loop-worker.invariant.told
