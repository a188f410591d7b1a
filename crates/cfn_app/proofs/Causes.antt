-- Each result of a search comes exactly with its cause.
use Rattle.std.proofs.Common.{◌≡◌, true, false, ℕ, ◌<◌, inl, inr, List, [], ◌∷◌, refl, sym, ap, ◌∙◌, subst, arith}
use Rattle.std.proofs.lemmas.Bool.{cases_eq}
use Rattle.std.specs.Prelude.{Bool, Option, Some, None, IsSomeAnd, IsTrue, is_some}
use Rattle.cfn_net.specs.Scoring.{Scoring}
use Rattle.cfn_proof.specs.Certificates.{solution_of}
use Rattle.cfn_model.specs.declared.step.Event.{Event}
use Rattle.cfn_model.specs.declared.step.Event.TheVariants.{Took, Refused}
use Rattle.cfn_model.specs.declared.report.Row.{Row}
use Rattle.cfn_model.specs.declared.report.ResultWord.{ResultWord}
use Rattle.cfn_model.specs.declared.report.ResultWord.TheVariants as words
use Rattle.cfn_model.specs.Network.{Network, IsNetwork, Least}
use Rattle.cfn_model.specs.Steps.{after}
use Rattle.cfn_model.specs.Tree.{Tree, Open, Closed, Split, OpenBelow, open_leaves, bound}
use Rattle.cfn_model.specs.Certificate.{Solution, Certificate, Good, threshold, threshold_of}
use Rattle.cfn_model.proofs.CallerLemmas.{lower_bounds, none_below, optimum}
use Rattle.cfn_machine.specs.Parts.{HasOwn, AllOthers}
use Rattle.cfn_machine.proofs.CallerLemmas.{has_paths}
use Rattle.cfn_low.specs.declared.outcome.Stop.{Stop}
use Rattle.cfn_low.specs.declared.outcome.Stop.TheVariants.{Done, Budget, Time, Part, Memory}
use Rattle.cfn_low.specs.Outcome.{Limits, Start, IsSearched, HasCause}
use Rattle.cfn_app.specs.Headline.{HasOptimum, HasNone, HasCauses, Promise}
use Rattle.cfn_app.specs.Runs.Solving.{word_of, word_when_done}

-- a tree without open leaves has the threshold as its bound, and one with an open leaf less
bound_closed : (P : Network) (history : List Event) (tree : Tree) (k : ℕ) → open_leaves tree ≡ 0 → bound P history tree k ≡ k
bound_closed P history (Open block) k none = absurd (omega arith)
bound_closed P history (Closed block) k none = refl
bound_closed P history (Split block d first second) k none =
    let l = bound_closed P (Took d ∷ after block history) first k (omega arith) in
    let r = bound_closed P (Refused d ∷ after block history) second k (omega arith) in
    omega (arith, l, r)

bound_open : (P : Network) (history : List Event) (tree : Tree) (k : ℕ) → OpenBelow P history tree k → 0 < open_leaves tree → bound P history tree k < k
bound_open P history (Open block) k below some = omega (arith, below)
bound_open P history (Closed block) k below some = absurd (omega arith)
bound_open P history (Split block d first second) k below some = elim (cases_eq (open_leaves first) 0) [
  | inl none ↦ (let r = bound_open P (Refused d ∷ after block history) second k below.1 (omega arith) in omega (arith, r))
  | inr more ↦ (let l = bound_open P (Took d ∷ after block history) first k below.0 (omega arith) in omega (arith, l))
]

-- a number for each word, by which two words differ
abbrev place : ResultWord → ℕ
place words.Optimum = 0
place words.Nothing = 1
place words.Budget = 2
place words.Time = 3
place words.Part = 4
place words.Memory = 5

not_both : (b : Bool) → b ≡ false → b ≡ true → ⊥
not_both b off on = false_true (sym off ∙ on)
  where
    false_true : false ≡ true → ⊥
    false_true e = cc

-- an open leaf that was not left to others is open, and not all are others' then; where none was left, none is others'
own_open : (aside : List (List Event)) (tree : Tree) → HasOwn aside tree → 0 < open_leaves tree
own_open aside tree own = (has_paths tree).1 (own.0, own.1)

own_not_others : (aside : List (List Event)) (tree : Tree) → HasOwn aside tree → AllOthers aside tree → ⊥
own_not_others aside tree own others = own.2 (others own.0 own.1)

pub none_others : (tree : Tree) → (0 < open_leaves tree) × AllOthers [] tree → ⊥
none_others tree left =
    let some = (has_paths tree).0 left.0 in
    let there = left.1 some.0 some.1 in
    let few = there.1 in omega (arith, few)

-- the causes by the best, where all leaves are closed, and where one is open
module _ (limits : Limits) (aside : List (List Event)) (nodes : ℕ) (c : Certificate) where
  done : (best : Option Solution) → c.best ≡ best → open_leaves c.tree ≡ 0 → c.lower ≡ threshold_of c.upper best → HasCauses limits aside nodes c (word_when_done best)
  done None is none lower = record {
    optimum = (λ e. absurd (omega (arith, ap place e)), λ has. absurd (let h : ⊥ = subst (λ b. IsSomeAnd b (λ best. c.lower ≡ best.cost)) is has in h));
    none = (λ e. (is, lower), λ has. refl);
    left_to_others = (λ e. absurd (omega (arith, ap place e)), λ cause. absurd (omega (arith, cause.0)));
    budget_spent = (λ e. absurd (omega (arith, ap place e)), λ cause. absurd (let some = own_open aside c.tree cause.0 in omega (arith, some)));
    time_past = λ e. absurd (omega (arith, ap place e));
    memory_refused = λ e. absurd (omega (arith, ap place e));
    memory_alone = λ untimed own fewer. absurd (let some = own_open aside c.tree own in omega (arith, some));
  }
  done (Some b) is none lower = record {
    optimum = (λ e. subst (λ o. IsSomeAnd o (λ best. c.lower ≡ best.cost)) (sym is) lower, λ has. refl);
    none = (λ e. absurd (omega (arith, ap place e)), λ has. absurd (some_none (sym is ∙ has.0)));
    left_to_others = (λ e. absurd (omega (arith, ap place e)), λ cause. absurd (omega (arith, cause.0)));
    budget_spent = (λ e. absurd (omega (arith, ap place e)), λ cause. absurd (let some = own_open aside c.tree cause.0 in omega (arith, some)));
    time_past = λ e. absurd (omega (arith, ap place e));
    memory_refused = λ e. absurd (omega (arith, ap place e));
    memory_alone = λ untimed own fewer. absurd (let some = own_open aside c.tree own in omega (arith, some));
  }
    where
      some_none : Some b ≡ None → ⊥
      some_none e = cc

  no_optimum : (best : Option Solution) → c.best ≡ best → c.lower < threshold_of c.upper best → HasOptimum c → ⊥
  no_optimum None is lower has = let h : ⊥ = subst (λ b. IsSomeAnd b (λ best. c.lower ≡ best.cost)) is has in h
  no_optimum (Some b) is lower has = let h : c.lower ≡ b.cost = subst (λ b. IsSomeAnd b (λ best. c.lower ≡ best.cost)) is has in omega (arith, h)

  no_none : c.lower < threshold c → HasNone c → ⊥
  no_none lower has = let k : threshold c ≡ c.upper = ap (threshold_of c.upper) has.0 in omega (arith, k, has.1)

  left : c.lower < threshold c → 0 < open_leaves c.tree → AllOthers aside c.tree → HasCauses limits aside nodes c words.Part
  left lower some others = record {
    optimum = (λ e. absurd (omega (arith, ap place e)), λ has. absurd (no_optimum c.best refl lower has));
    none = (λ e. absurd (omega (arith, ap place e)), λ has. absurd (no_none lower has));
    left_to_others = (λ e. (some, others), λ cause. refl);
    budget_spent = (λ e. absurd (omega (arith, ap place e)), λ cause. absurd (own_not_others aside c.tree cause.0 others));
    time_past = λ e. absurd (omega (arith, ap place e));
    memory_refused = λ e. absurd (omega (arith, ap place e));
    memory_alone = λ untimed own less. absurd (own_not_others aside c.tree own others);
  }

  spent : c.lower < threshold c → HasOwn aside c.tree → nodes ≡ limits.budget → HasCauses limits aside nodes c words.Budget
  spent lower own same = record {
    optimum = (λ e. absurd (omega (arith, ap place e)), λ has. absurd (no_optimum c.best refl lower has));
    none = (λ e. absurd (omega (arith, ap place e)), λ has. absurd (no_none lower has));
    left_to_others = (λ e. absurd (omega (arith, ap place e)), λ cause. absurd (own_not_others aside c.tree own cause.1));
    budget_spent = (λ e. (own, same), λ cause. refl);
    time_past = λ e. absurd (omega (arith, ap place e));
    memory_refused = λ e. absurd (omega (arith, ap place e));
    memory_alone = λ untimed also fewer. absurd (omega (arith, same, fewer));
  }

  past : c.lower < threshold c → HasOwn aside c.tree → nodes < limits.budget → limits.timed ≡ true → HasCauses limits aside nodes c words.Time
  past lower own fewer timed = record {
    optimum = (λ e. absurd (omega (arith, ap place e)), λ has. absurd (no_optimum c.best refl lower has));
    none = (λ e. absurd (omega (arith, ap place e)), λ has. absurd (no_none lower has));
    left_to_others = (λ e. absurd (omega (arith, ap place e)), λ cause. absurd (own_not_others aside c.tree own cause.1));
    budget_spent = (λ e. absurd (omega (arith, ap place e)), λ cause. absurd (omega (arith, fewer, cause.1)));
    time_past = λ e. (timed, own, fewer);
    memory_refused = λ e. absurd (omega (arith, ap place e));
    memory_alone = λ untimed also less. absurd (not_both limits.timed untimed timed);
  }

  out_of_memory : c.lower < threshold c → HasOwn aside c.tree → nodes < limits.budget → HasCauses limits aside nodes c words.Memory
  out_of_memory lower own fewer = record {
    optimum = (λ e. absurd (omega (arith, ap place e)), λ has. absurd (no_optimum c.best refl lower has));
    none = (λ e. absurd (omega (arith, ap place e)), λ has. absurd (no_none lower has));
    left_to_others = (λ e. absurd (omega (arith, ap place e)), λ cause. absurd (own_not_others aside c.tree own cause.1));
    budget_spent = (λ e. absurd (omega (arith, ap place e)), λ cause. absurd (omega (arith, fewer, cause.1)));
    time_past = λ e. absurd (omega (arith, ap place e));
    memory_refused = λ e. (own, fewer);
    memory_alone = λ untimed also less. refl;
  }

  module _ (P : Network) (start : Start) (rows : List Row) where
    -- a leaf is open, and so the bound is below the threshold
    open_below : (stop : Stop) → IsSearched P start limits nodes c rows stop → 0 < open_leaves c.tree → c.lower < threshold c
    open_below stop s some = let b = bound_open P [] c.tree (threshold c) s.below some in omega (arith, b, s.lower)

    -- so it is where one of its own is
    own_below : (stop : Stop) → IsSearched P start limits nodes c rows stop → HasOwn aside c.tree → c.lower < threshold c
    own_below stop s own = open_below stop s (own_open aside c.tree own)

    causes : (stop : Stop) → IsSearched P start limits nodes c rows stop → HasCause stop aside c.tree nodes limits → HasCauses limits aside nodes c (word_of stop c.best)
    causes Done s cause = done c.best refl cause (s.lower ∙ bound_closed P [] c.tree (threshold c) cause)
    causes Part s cause = left (open_below Part s cause.0) cause.0 cause.1
    causes Budget s cause = spent (own_below Budget s cause.0) cause.0 cause.1
    causes Time s cause = past (own_below Time s cause.0) cause.0 cause.1 cause.2
    causes Memory s cause = out_of_memory (own_below Memory s cause.0) cause.0 cause.1

-- an optimum is one, and without one every assignment costs the upper bound
least_of : (P : Network) (c : Certificate) (best : Option Solution) → c.best ≡ best → IsNetwork P → Good P c → IsSomeAnd best (λ b. c.lower ≡ b.cost) → IsSomeAnd best (λ b. Least P b.cost)
least_of P c None is network good h = h
least_of P c (Some b) is network good h = optimum P c b network good is h

pub promised : (P : Network) (start : Start) (limits : Limits) (nodes : ℕ) (c : Certificate) (rows : List Row) (stop : Stop) → IsNetwork P → IsSearched P start limits nodes c rows stop → Promise P start limits nodes c rows (word_of stop c.best)
promised P start limits nodes c rows stop network s =
    let by_cause = causes limits start.aside nodes c P start rows stop s s.cause in
    record {
      good = s.good;
      spelled = s.spelled;
      lower = s.lower;
      below = s.below;
      rows_hold = s.rows_hold;
      allowed = s.allowed;
      expanded = s.expanded;
      counted = s.counted;
      strict = s.strict;
      tame = s.tame;
      others = s.others;
      causes = by_cause;
      network = network;
      bounds = (λ values fits. lower_bounds P c values network s.good fits);
      least = (λ e. least_of P c c.best refl network s.good (by_cause.optimum.0 e));
      none_below = (λ e values fits. none_below P c values network s.good ((by_cause.none.0 e).1 ∙ s.good.upper) fits);
    }

-- the word of a search that is done and has a best assignment
held_word : (held : Option Solution) → IsTrue (is_some held) → words.Optimum ≡ word_when_done held
held_word None h = cc
held_word (Some best) h = refl

pub word_of_best : (stop : Stop) (best : Option Scoring) (scored : Scoring) → stop ≡ Done → best ≡ Some scored → IsTrue (is_some scored.held) → words.Optimum ≡ word_of stop (solution_of best)
word_of_best stop best scored done is held =
    subst (λ b. words.Optimum ≡ word_of stop (solution_of b)) (sym is) (subst (λ s. words.Optimum ≡ word_of s scored.held) (sym done) (held_word scored.held held))
