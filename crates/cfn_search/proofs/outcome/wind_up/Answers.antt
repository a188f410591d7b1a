use Rattle.std.proofs.Common.{◌≡◌, ℕ, ◌∙◌, ◌↔◌, List, Bool, true, false, Contains, refl, sym, ap, subst, arith, []}
use Rattle.std.specs.Prelude.{IsTrue, IsFalse}
use Rattle.cfn_model.specs.declared.step.Event.{Event}
use Rattle.cfn_model.specs.Network.{Network}
use Rattle.cfn_machine.specs.Parts.{EndsAt, IsAside, TellsOwn, HasActiveBelow, NoneActiveBelow}
use Rattle.cfn_machine.specs.Pool.{Pool, PoolTree, Out, IsLeaf, price, tree_of, recalled, swept}
use Rattle.cfn_machine.proofs.CallerLemmas.{ends_others, recalled_free, sweeps_all, tells_own}
use Rattle.cfn_pool.specs.Views.{pool}
use Rattle.cfn_search.proofs.outcome.wind_up.Goals as goal

pub returns-clause-last : goal.returns-clause-last
returns-clause-last g c =
    let P = g.M.Incumbent.network in
    let between = pool c.recall.new.self in
    let new = pool c.sweep.new.self in
    let sweeps = c.sweep.ensures.sweeps in
    let shares : between.view.shares ≡ 128 = ap (λ (p : Pool). p.view.shares) c.recall.ensures.recalls ∙ c.requires.shares in
    let best : new.view.best ≡ between.view.best = ap (λ (p : Pool). p.view.best) sweeps.sweeps in
    let seen : new.view.seen ≡ sweeps.word = ap (λ (p : Pool). p.view.seen) sweeps.sweeps in
    record {
      shares = ap (λ (p : Pool). p.view.shares) sweeps.sweeps ∙ shares;
      seen = seen ∙ sweeps.whole shares ∙ ap (Rattle.cfn_machine.specs.Pool.price P) (sym best);
      below = sweeps_all P between new sweeps.word
          (λ n worker grant path at. recalled_free (pool c.args.held.now).tree n [] worker grant path (subst (λ (p : Pool). IsLeaf p.tree [] n (Out worker grant) path) c.recall.ensures.recalls at)) sweeps.sweeps;
    }

pub returns-clause-falls : goal.returns-clause-falls
returns-clause-falls g c =
    let new = pool c.sweep.new.self in
    let sweeps = c.sweep.ensures.sweeps in
    let seen : new.view.seen ≡ sweeps.word = ap (λ (p : Pool). p.view.seen) sweeps.sweeps in
    let before = ap (λ (p : Pool). p.view.seen) c.recall.ensures.recalls in
    let falls = sweeps.falls in
    omega (arith, seen, falls, before)

-- the leaves that were left to others are there still
pub returns-clause-ended : goal.returns-clause-ended
returns-clause-ended g c =
    let P = g.M.Incumbent.network in
    let old = pool c.args.held.now in
    let between = pool c.recall.new.self in
    let new = pool c.sweep.new.self in
    let search = c.requires.search in
    let sweeps = c.sweep.ensures.sweeps in
    let tree_is : new.tree ≡ swept P sweeps.word (recalled old.tree) [] = ap (λ (p : Pool). p.tree) sweeps.sweeps ∙ ap (λ (p : Pool). swept P sweeps.word p.tree []) c.recall.ensures.recalls in
    record {
      begun_is = ap (λ (p : Pool). p.begun) sweeps.sweeps ∙ ap (λ (p : Pool). p.begun) c.recall.ensures.recalls ∙ search.begun_is;
      rest = search.others;
      begin = ap (λ (p : Pool). p.rows) sweeps.sweeps ∙ ap (λ (p : Pool). p.rows) c.recall.ensures.recalls ∙ search.begin;
      others = λ path there. subst (λ t. EndsAt (tree_of t) [] path) (sym tree_is) (ends_others P sweeps.word old.tree path ((search.aside path).0 there));
    }

-- whether some open leaf is its own was told by the leaves before they were called back and swept
told : (P : Network) (k : ℕ) (tree : PoolTree) (aside : List (List Event)) (own : Bool) → ((path : List Event) → Contains aside path ↔ IsAside tree path) →
    (IsTrue own → HasActiveBelow P tree k) → (IsFalse own → NoneActiveBelow P tree k) → TellsOwn own aside (tree_of (swept P k (recalled tree) []))
told P k tree aside true are some none = (tells_own P k tree aside are).0 (some refl)
told P k tree aside false are some none = (tells_own P k tree aside are).1 (none refl)

pub returns-clause-own : goal.returns-clause-own
returns-clause-own g c =
    let P = g.M.Incumbent.network in
    let old = pool c.args.held.now in
    let new = pool c.sweep.new.self in
    let search = c.requires.search in
    let sweeps = c.sweep.ensures.sweeps in
    let shares = ap (λ (p : Pool). p.view.shares) c.recall.ensures.recalls ∙ c.requires.shares in
    let word : sweeps.word ≡ price P old.view.best = sweeps.whole shares ∙ ap (λ (p : Pool). price P p.view.best) c.recall.ensures.recalls in
    let tree_is : new.tree ≡ swept P (price P old.view.best) (recalled old.tree) [] =
    ap (λ (p : Pool). p.tree) sweeps.sweeps ∙ ap (λ (p : Pool). swept P sweeps.word p.tree []) c.recall.ensures.recalls ∙ ap (λ k. swept P k (recalled old.tree) []) word in
    subst (λ t. TellsOwn c.has_own-own.result g.M.Incumbent.start.aside (tree_of t)) (sym tree_is)
    (told P (price P old.view.best) old.tree g.M.Incumbent.start.aside c.has_own-own.result search.aside c.has_own-own.ensures.some c.has_own-own.ensures.none)
