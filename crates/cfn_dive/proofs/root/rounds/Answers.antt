use Rattle.std.proofs.Common.{suc, refl, ◌∙◌, subst, arith}
use Rattle.cfn_dive.specs.Enforcing.{IsRound}
use Rattle.cfn_dive.proofs.Rounds.{goes_along, goes_still, at_place, rounds_at, finds_at}
use Rattle.cfn_dive.proofs.root.rounds.Goals as goal

pub loop-round-preserved : goal.loop-round-preserved
loop-round-preserved g c = record {
  goes = goes_along _ _ _ _ c.loop-round.invariant.goes c.round.ensures.goes;
  rounds = (
    suc c.loop-round.invariant.rounds.0,
    (let few = c.loop-round.invariant.rounds.1 in omega (arith, few)),
    (
      c.loop-round.store,
      c.loop-round.invariant.rounds.2,
      subst (λ P. IsRound P c.loop-round.store c.round.new.store) c.loop-round.invariant.goes.network c.in-Some.ensures.round,
    ),
  );
  finds = c.in-Some.ensures.finds;
  spent = c.in-Some.ensures.spent;
  room = c.round.ensures.room;
  vac = c.round.ensures.vac ∙ c.loop-round.invariant.vac;
  same = c.round.ensures.same ∙ c.loop-round.invariant.same;
}

pub loop-round-init : goal.loop-round-init
loop-round-init g c = record {
  goes = goes_still _ _ _ refl refl refl;
  rounds = (0, omega arith, at_place _ _ refl refl refl);
  finds = c.requires.finds;
  spent = c.requires.spent;
  room = c.requires.room;
  vac = refl;
  same = refl;
}

pub returns-then-eq-clause-rounds : goal.returns-then-eq-clause-rounds
returns-then-eq-clause-rounds g c = let v = c.loop-round.invariant.rounds in (v.0, (let few = v.1 in let there = c.loop-round-test.true in omega (arith, few, there)), v.2)

pub returns-in-None-clause-rounds : goal.returns-in-None-clause-rounds
returns-in-None-clause-rounds g c =
    let v = c.loop-round.invariant.rounds in
    let goes = c.round.ensures.goes in (
      v.0,
      (let few = v.1 in let there = c.loop-round-test.true in omega (arith, few, there)),
      rounds_at c.args.store.now.network v.0 c.args.store.now c.loop-round.store c.round.new.store v.2 (at_place c.loop-round.store c.round.new.store goes.network goes.base (c.in-None.ensures.none refl)),
    )

pub returns-clause-rounds : goal.returns-clause-rounds
returns-clause-rounds g c = let v = c.loop-round.invariant.rounds in (v.0, (let few = v.1 in let end = c.loop-round.auto._round-end in omega (arith, few, end)), v.2)

pub returns-in-None-clause-finds : goal.returns-in-None-clause-finds
returns-in-None-clause-finds g c =
    let goes = c.round.ensures.goes in
    finds_at c.loop-round.store c.round.new.store c.args.asked.threshold c.loop-round.found (at_place c.loop-round.store c.round.new.store goes.network goes.base (c.in-None.ensures.none refl)) c.loop-round.invariant.finds
