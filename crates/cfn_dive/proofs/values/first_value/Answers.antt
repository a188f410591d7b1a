use Rattle.std.proofs.Common.{◌≡◌, sym, ◌∙◌, subst, arith}
use Rattle.std.specs.Prelude.{Option, Some}
use Rattle.cfn_model.specs.Network.{Network, Fits}
use Rattle.cfn_model.specs.Certificate.{Solution}
use Rattle.cfn_net.specs.Scoring.{IsPriced}
use Rattle.cfn_net.proofs.CallerLemmas.{Fits-at, Fits-length}
use Rattle.cfn_dive.proofs.values.first_value.Goals as goal

-- the values that are held fit
held_fits : (P Q : Network) (held : Option Solution) (best : Solution) → Q ≡ P → held ≡ Some best → IsPriced Q held → Fits P.sizes best.values
held_fits P Q held best same is priced = subst (λ (R : Network). Fits R.sizes best.values) same (subst (IsPriced Q) is priced).0

pub bounds-values-x : goal.bounds-values-x
bounds-values-x c =
    let P = c.args.store.now.network in
    let n = Fits-length P.sizes c.in-Some.values.now (held_fits P c.args.best.now.network c.args.best.now.held _ c.requires.best c.in-Some.ensures.some c.law_priced.ensures) in
    let l = c.requires.undecided.there in omega (arith, n, l)

pub is_live-requires : goal.is_live-requires
is_live-requires c =
    let P = c.args.store.now.network in
    record {
      variable = c.requires.undecided.there;
      value = Fits-at P.sizes c.in-Some.values.now c.args.x (held_fits P c.args.best.now.network c.args.best.now.held _ c.requires.best c.in-Some.ensures.some c.law_priced.ensures) c.requires.undecided.there;
    }

pub returns-then-is_live-clause-choice : goal.returns-then-is_live-clause-choice
returns-then-is_live-clause-choice c =
    let P = c.args.store.now.network in
    record {
      value = record {
        variable = c.requires.undecided.there;
        value = Fits-at P.sizes c.in-Some.values.now c.args.x (held_fits P c.args.best.now.network c.args.best.now.held _ c.requires.best c.in-Some.ensures.some c.law_priced.ensures) c.requires.undecided.there;
      };
      live = sym c.is_live.ensures ∙ c.if-is_live.true;
    }
