-- What a search that stopped hands out.
use Rattle.std.proofs.Common.{◌≡◌, ℕ, Bool, suc, ◌<◌, ◌≤◌, inl, inr, List, [], ◌∷◌, length, refl, sym, ap, ◌∙◌, subst, arith}
use Rattle.std.specs.Prelude.{slice_index, Option, Some, None, IfSome, IsSomeAnd}
use Rattle.std.specs.List.{AllByRecursion}
use Rattle.cfn_model.specs.declared.limits.TheConstants.{MOST_VALUES}
use Rattle.cfn_model.specs.declared.report.Row.{Row}
use Rattle.cfn_model.specs.declared.step.Event.{Event}
use Rattle.cfn_model.specs.declared.step.Event.TheVariants.{Took, Refused}
use Rattle.cfn_model.specs.Network.{Network, IsNetwork, Fits, cost}
use Rattle.cfn_model.specs.Sums.{floor}
use Rattle.cfn_model.specs.Steps.{after}
use Rattle.cfn_model.specs.Words.{greatest}
use Rattle.cfn_model.specs.Text.{IsSpelledBest, IsSpelledTree, HasTree}
use Rattle.cfn_model.specs.Paths.{Tame}
use Rattle.cfn_model.specs.Tree as trees
use Rattle.cfn_model.specs.Tree.{bound, count, splits, open_leaves}
use Rattle.cfn_model.specs.Certificate.{Solution, Certificate, IsBest, threshold_of, threshold}
use Rattle.cfn_model.proofs.CallerLemmas.{bound_low, fits_length}
use Rattle.cfn_low.specs.declared.outcome.Stop.{Stop}
use Rattle.cfn_low.specs.declared.outcome.Stop.TheVariants.{Done, Budget, Time, Part, Memory}
use Rattle.cfn_low.specs.Outcome.{HasCause, IsSearched, RowHolds, UpperHolds, Start, timed_nodes}
use Rattle.cfn_net.specs.Scoring.{Scoring, IsPriced}
use Rattle.cfn_proof.specs.Certificates.{solution_of}
use Rattle.cfn_low.specs.Holding.{Holding}
use Rattle.cfn_pool.proofs.CallerLemmas.{price_is}
use Rattle.cfn_machine.specs.Pool.{View, Mark, PoolTree, Leaf, Shut, Fork, tree_of, IsLeaf, Pool, IsRow, price, KeepsFitting}
use Rattle.cfn_machine.specs.Parts.{EndsAt, TellsOwn}
use Rattle.cfn_machine.specs.Laws.{IsPool}
use Rattle.cfn_low.specs.Steps.{IsCost}
use Rattle.cfn_pool.specs.Views.{view_of, AreReached}
use Rattle.cfn_search.specs.Stopping.{IsEnded, IsLast, IsStop}

-- an assignment's values have a spelling
values_spelled : (sizes values : List ℕ) → ((x : ℕ) → x < length sizes → slice_index sizes x ≤ MOST_VALUES) → Fits sizes values → AllByRecursion (λ a. a ≤ greatest) values
values_spelled [] [] small fits = tt
values_spelled [] (v ∷ values) small fits = absurd fits
values_spelled (d ∷ sizes) [] small fits = absurd fits
values_spelled (d ∷ sizes) (v ∷ values) small fits = (omega (arith, small 0 (omega arith), fits.0), values_spelled sizes values (λ x h. small (suc x) (omega arith)) fits.1)

best_spelled : (P : Network) (best : Option Solution) → IsNetwork P → IsBest P best → IsSpelledBest best
best_spelled P None network solution = tt
best_spelled P (Some held) network solution =
    (omega (arith, solution.below, network.upper), omega (arith, fits_length P.sizes held.values solution.fits, network.some), values_spelled P.sizes held.values (λ x h. (network.sizes x h).1) solution.fits)

-- there is an assignment: the first value of each variable
abbrev zeros : List ℕ → List ℕ
zeros [] = []
zeros (d ∷ sizes) = 0 ∷ zeros sizes

zeros_fit : (sizes : List ℕ) → ((x : ℕ) → x < length sizes → 1 ≤ slice_index sizes x) → Fits sizes (zeros sizes)
zeros_fit [] some = tt
zeros_fit (d ∷ sizes) some = (omega (arith, some 0 (omega arith)), zeros_fit sizes (λ x h. some (suc x) (omega arith)))

-- a number that is at most every cost is at most every price
low_price : (P : Network) (low : ℕ) (best : Option (List ℕ)) → IsNetwork P → KeepsFitting P best → ((values : List ℕ) → Fits P.sizes values → low ≤ cost P values) → low ≤ price P best
low_price P low None network fits costs = let h = costs (zeros P.sizes) (zeros_fit P.sizes (λ x h. (network.sizes x h).0)) in omega (arith, h)
low_price P low (Some values) network fits costs = costs values fits

-- a number that is at most a threshold and the floor of each open leaf is at most the bound
bound_from : (P : Network) (tree : PoolTree) (history : List Event) (low k : ℕ) → low ≤ k → ((n : ℕ) (mark : Mark) (path : List Event) → IsLeaf tree history n mark path → low ≤ floor P path) → low ≤ bound P history (tree_of tree) k
bound_from P (Leaf n mark block) history low k most floors = let h = floors n mark (after block history) (refl, refl, refl) in omega (arith, h, most)
bound_from P (Shut block) history low k most floors = most
bound_from P (Fork block d first second) history low k most floors =
    let one = bound_from P first (Took d ∷ after block history) low k most (λ n mark path at. floors n mark path (inl at)) in
    let other = bound_from P second (Refused d ∷ after block history) low k most (λ n mark path at. floors n mark path (inr at)) in
    omega (arith, one, other)

-- an upper number of a row is at least the cost of the best assignment
upper_best : (P : Network) (best : Option Solution) (u : ℕ) → u < P.upper → threshold_of P.upper best ≤ u → IsSomeAnd best (λ (b : Solution). b.cost ≤ u)
upper_best P None u below most = absurd (omega (arith, below, most))
upper_best P (Some best) u below most = most

row_known : (P : Network) (c : Certificate) (seen : ℕ) (upper : Option ℕ) → threshold_of P.upper c.best ≡ seen → IfSome upper (λ u. (u < P.upper) × (seen ≤ u)) → IfSome upper (IsCost P) → IfSome upper (UpperHolds P c)
row_known P c seen None is holds reached = tt
row_known P c seen (Some u) is holds reached = record {
  below = holds.0;
  reached = reached;
  best = upper_best P c.best u holds.0 (let h = holds.1 in omega (arith, h, is));
}

rows_each : (P : Network) (c : Certificate) (tree : PoolTree) (seen : ℕ) (best : Option (List ℕ)) (rows : List Row) → IsNetwork P → KeepsFitting P best → threshold_of P.upper c.best ≡ seen → seen ≡ price P best → c.lower ≡ bound P [] (tree_of tree) seen →
    AllByRecursion (IsRow P tree seen) rows → AreReached P rows → AllByRecursion (RowHolds P c) rows
rows_each P c tree seen best [] network fits is last lower all reached = tt
rows_each P c tree seen best (row ∷ rows) network fits is last lower all reached = (
  record {
    bound = all.0.costs;
    below = (
        let most = low_price P row.lower best network fits all.0.costs in
        let low = bound_from P tree [] row.lower seen (omega (arith, most, last)) all.0.floors in
        omega (arith, low, lower)
        );
    known = row_known P c seen row.upper is all.0.upper reached.0;
  },
  rows_each P c tree seen best rows network fits is last lower all.1 reached.1,
)

cause_is : (stop : Stop) (own : Bool) (aside : List (List Event)) (tree : trees.Tree) (nodes budget : ℕ) (timed : Bool) → nodes ≤ budget → TellsOwn own aside tree → IsStop stop (open_leaves tree) own nodes budget timed →
    HasCause stop aside tree nodes (timed_nodes budget timed)
cause_is Done own aside tree nodes budget timed allowed tells why = why
cause_is Part own aside tree nodes budget timed allowed tells why = ((let h = why.0 in omega (arith, h)), subst (λ o. TellsOwn o aside tree) why.1 tells)
cause_is Budget own aside tree nodes budget timed allowed tells why = (subst (λ o. TellsOwn o aside tree) why.0 tells, why.1)
cause_is Time own aside tree nodes budget timed allowed tells why = (subst (λ o. TellsOwn o aside tree) why.0 tells, (let h = why.1 in omega (arith, h, allowed)), why.2)
cause_is Memory own aside tree nodes budget timed allowed tells why = (subst (λ o. TellsOwn o aside tree) why.0 tells, (let h = why.1 in omega (arith, h, allowed)))

-- the threshold is the price of what the last part of the word keeps
pub price_held : (P : Network) (best : Scoring) (part : Holding) (view : View) (result : Option Scoring) → best ≡ record { network = P; held = part.held } → view_of part ≡ view → view.seen ≡ price P view.best → IsPriced best.network best.held →
    threshold_of best.network.upper (solution_of result) ≡ threshold_of best.network.upper best.held → threshold_of P.upper (solution_of result) ≡ view.seen
price_held P best part view result is same seen priced price_same =
    subst (λ (s : Scoring). threshold_of s.network.upper (solution_of result) ≡ threshold_of s.network.upper s.held) is price_same
    ∙ sym (price_is P part.held (subst (λ (s : Scoring). IsPriced s.network s.held) is priced)) ∙ ap (λ (v : View). price P v.best) same ∙ sym seen

pub best_held : (P : Network) (best : Scoring) (part : Holding) (result : Option Scoring) → best ≡ record { network = P; held = part.held } → IsBest best.network (solution_of result) → IsBest P (solution_of result)
best_held P best part result is solution = subst (λ (s : Scoring). IsBest s.network (solution_of result)) is solution

module _ (P : Network) (pool : Pool) (network : IsNetwork P) (is : IsPool P pool) (reached : AreReached P pool.rows) (start : Start) (search : IsEnded start pool) (last : IsLast P pool) where
  pub searched : (c : Certificate) (stop : Stop) (timed : Bool) → c.variables ≡ length P.sizes → c.functions ≡ length P.functions → c.upper ≡ P.upper → IsBest P c.best → threshold_of P.upper c.best ≡ pool.view.seen → c.tree ≡ tree_of pool.tree → IsSpelledTree c.tree → HasTree c.version c.tree →
      c.lower ≡ bound P [] (tree_of pool.tree) pool.view.seen → (own : Bool) → TellsOwn own start.aside (tree_of pool.tree) → IsStop stop (open_leaves (tree_of pool.tree)) own pool.nodes pool.budget timed → IsSearched P start (timed_nodes pool.budget timed) pool.nodes c pool.rows stop
  searched c stop timed variables functions upper best price_same is_tree spelled has_tree lower own tells why =
      let k : threshold c ≡ pool.view.seen = ap (λ u. threshold_of u c.best) upper ∙ price_same in
      let b : c.lower ≡ bound P [] c.tree (threshold c) = lower ∙ ap (λ t. bound P [] t pool.view.seen) (sym is_tree) ∙ ap (bound P [] c.tree) (sym k) in
      let seen = is.sound.seen in
      let within = is.sound.within in
      let begun = search.begun_is in
      let expanded = is.sound.expanded in
      let counted = is.sound.counted in
      record {
        good = record {
          variables = variables;
          functions = functions;
          upper = upper;
          best = best;
          valid = subst (λ t. trees.Valid P [] t (threshold c)) (sym is_tree) (subst (λ m. trees.Valid P [] (tree_of pool.tree) m) (sym k) is.sound.valid);
          lower = omega (arith, b);
        };
        spelled = record {
          variables = omega (arith, variables, network.few);
          functions = omega (arith, functions, network.few_functions);
          upper = omega (arith, upper, network.upper);
          best = best_spelled P c.best network best;
          lower = omega (arith, b, k, bound_low P [] c.tree (threshold c), seen, network.upper);
          tree = spelled;
          has_tree = has_tree;
        };
        lower = b;
        below = subst (λ t. trees.OpenBelow P [] t (threshold c)) (sym is_tree) (subst (λ m. trees.OpenBelow P [] (tree_of pool.tree) m) (sym k) last.below);
        strict = subst (λ t. trees.Strict P [] t) (sym is_tree) is.sound.strict;
        tame = subst (λ t. Tame P [] t) (sym is_tree) is.sound.tame;
        expanded = let e = ap splits is_tree in omega (arith, expanded, begun, e);
        counted = let e = ap count is_tree in omega (arith, counted, begun, e);
        allowed = omega (arith, within);
        others = λ path there. subst (λ t. EndsAt t [] path) (sym is_tree) (search.others path there);
        rows_hold = record {
          others = search.rest;
          begin = search.begin;
          each = rows_each P c pool.tree pool.view.seen pool.view.best pool.rows network is.keeps price_same last.seen lower is.sound.rows reached;
        };
        cause = subst (λ t. HasCause stop start.aside t pool.nodes (timed_nodes pool.budget timed)) (sym is_tree) (cause_is stop own start.aside (tree_of pool.tree) pool.nodes pool.budget timed (omega (arith, within)) tells why);
      }
