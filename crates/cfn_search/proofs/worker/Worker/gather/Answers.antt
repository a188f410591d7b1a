use Rattle.std.proofs.Common.{rules, ◌≡◌, ◌+◌, ◌-◌, ◌<◌, length, map, take, slice_index_or, refl, sym, ap, ◌∙◌, subst, arith}
use Rattle.cfn_rota.specs.Values.{Meets, EndsWith, access, own_lanes, lanes_of}
use Rattle.cfn_search.specs.Accounts.{least_of, reach}
use Rattle.cfn_rota.proofs.CallerLemmas.{last_others, last_parts, own_absorbed, mine_ends, theirs_ends, met_one, thieves_step, same_lanes, before_step, met_step, all_met, same_map}
use Rattle.cfn_search.proofs.worker.Worker.gather.Goals as goal

pub absorb_own-requires : goal.absorb_own-requires
absorb_own-requires g c = record {
  last = subst (λ w. EndsWith (lanes_of w.ends.thieves) w.ends.lane.lane) (sym c.self.view_is) (own_lanes (map reach c.args.others.now), last_others reach c.args.others.now (reach c.args.self.now) c.requires.all);
}

pub loop-left-init : goal.loop-left-init
loop-left-init g c =
    let others = c.args.others.now in
    let meets : Meets (reach c.args.self.now) (access c.absorb_own.new.self) c.args.self.now.ends.lane.lane = subst (λ w. Meets (reach w) (access c.absorb_own.new.self) w.ends.lane.lane) c.self.view_is c.absorb_own.ensures.meets in
    record {
      count = refl;
      least = ap (λ w. w.least) c.self.view_is;
      leasts = refl;
      within = search rules;
      own = meets.own;
      parts = (let p = last_parts reach others (reach c.args.self.now) c.requires.all in omega (arith, p, meets.parts));
      thieves = own_absorbed reach others (reach c.args.self.now) (access c.absorb_own.new.self) c.requires.all meets;
      lanes = refl;
      before = λ k d h. refl;
      met = λ k d from below. absurd (omega (arith, from, below));
    }

pub exchange-requires-clause-mine : goal.exchange-requires-clause-mine
exchange-requires-clause-mine g c =
    let so_far = c.loop-left.invariant in
    let i = c.loop-left.left - 1 in
    let d = c.index-others-left.result in
    let one : i + 1 ≡ c.loop-left.left = omega (arith, c.loop-left-test.true) in
    let there : i < length c.args.others.now = omega (arith, one, so_far.within) in
    subst (λ w. EndsWith (lanes_of c.loop-left.self.ends.thieves) w.ends.lane.lane) (sym (so_far.before i d (omega (arith, one))))
    (mine_ends reach c.args.others.now i d (lanes_of c.loop-left.self.ends.thieves) there (so_far.thieves ∙ ap (λ n. take n (own_lanes (map reach c.args.others.now))) (sym one)))

pub exchange-requires-clause-theirs : goal.exchange-requires-clause-theirs
exchange-requires-clause-theirs g c =
    let so_far = c.loop-left.invariant in
    let i = c.loop-left.left - 1 in
    let d = c.index-others-left.result in
    let one : i + 1 ≡ c.loop-left.left = omega (arith, c.loop-left-test.true) in
    let there : i < length c.args.others.now = omega (arith, one, so_far.within) in
    subst (λ own. EndsWith (lanes_of (slice_index_or c.loop-left.others i d).ends.thieves) own) (sym so_far.own)
    (subst (λ w. EndsWith (lanes_of w.ends.thieves) c.args.self.now.ends.lane.lane) (sym (so_far.before i d (omega (arith, one))))
    (theirs_ends reach c.args.others.now (reach c.args.self.now) c.requires.all i d there))

pub loop-left-preserved : goal.loop-left-preserved
loop-left-preserved g c =
    let so_far = c.loop-left.invariant in
    let i = c.loop-left.left - 1 in
    let d = c.index-others-left.result in
    let all = own_lanes (map reach c.args.others.now) in
    let mine = c.exchange.ensures.meets in
    let theirs = c.exchange.ensures.other_meets in
    let one : i + 1 ≡ c.loop-left.left = omega (arith, c.loop-left-test.true) in
    let there : i < length c.args.others.now = omega (arith, one, so_far.within) in
    let inside : i < length c.loop-left.others = omega (arith, there, so_far.count) in
    let same = so_far.before i d (omega (arith, one)) in
    let meets = subst (λ w. Meets (reach w) (reach c.exchange.new.other) c.args.self.now.ends.lane.lane) same (subst (Meets (reach (slice_index_or c.loop-left.others i d)) (reach c.exchange.new.other)) so_far.own theirs) in
    record {
      count = search rules;
      least = c.exchange.ensures.least ∙ so_far.least;
      leasts = same_map least_of c.loop-left.others i d c.exchange.new.other inside c.exchange.ensures.other_least ∙ so_far.leasts;
      within = omega (arith, one, so_far.within);
      own = mine.own ∙ so_far.own;
      parts = (let p = so_far.parts in omega (arith, p, mine.parts, one));
      thieves = thieves_step reach c.args.others.now i _ _ _ there (so_far.thieves ∙ ap (λ n. take n all) (sym one)) mine.others;
      lanes = same_lanes reach c.loop-left.others i d c.exchange.new.other inside theirs.own ∙ so_far.lanes;
      before = before_step reach c.args.others.now c.loop-left.others i c.exchange.new.other (λ k e h. so_far.before k e (omega (arith, h, one)));
      met = met_step reach all (length c.args.others.now) c.loop-left.others i c.exchange.new.other inside (met_one reach c.args.others.now (reach c.args.self.now) c.requires.all i d (reach c.exchange.new.other) there meets)
          (λ k e from below. so_far.met k e (omega (arith, from, one)) below);
    }

pub returns-clause-others : goal.returns-clause-others
returns-clause-others g c =
    let so_far = c.loop-left.invariant in
    all_met reach c.args.others.now c.loop-left.others so_far.count so_far.lanes (λ k d below. so_far.met k d (omega (arith, c.loop-left-test.false)) below)
