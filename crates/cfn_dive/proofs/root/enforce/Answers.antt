use Rattle.std.proofs.Common.{refl, subst, arith}
use Rattle.cfn_dive.specs.Enforcing.{AreRounds}
use Rattle.cfn_dive.proofs.Rounds.{goes_along, at_place, groups_open}
use Rattle.cfn_dive.proofs.root.enforce.Goals as goal

pub returns-then-around-clause-goes : goal.returns-then-around-clause-goes
returns-then-around-clause-goes g c = goes_along _ _ _ _ c.propagate.ensures.goes c.enforce_root.ensures.goes

pub returns-then-around-clause-rooted : goal.returns-then-around-clause-rooted
returns-then-around-clause-rooted g c =
    let s = c.args.store.now in let t = c.propagate.new.store in let made = c.enforce_root.ensures.rounds in
    record {
      settled = t;
      groups = groups_open s t c.in_ok-found.found c.in_ok-found.ensures.gains;
      rounds = made.0;
      few = made.1;
      are = subst (λ P. AreRounds P made.0 t c.enforce_root.new.store) c.propagate.ensures.goes.network made.2;
    }

pub returns-else-around-clause-rooted : goal.returns-else-around-clause-rooted
returns-else-around-clause-rooted g c =
    let s = c.args.store.now in let t = c.propagate.new.store in
    record { settled = t; groups = groups_open s t c.in_ok-found.found c.in_ok-found.ensures.gains; rounds = 0; few = omega arith; are = at_place t t refl refl refl }
