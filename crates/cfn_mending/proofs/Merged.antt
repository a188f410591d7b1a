-- A merged certificate is good, and its lower bound is at least that of each.
use Rattle.std.proofs.Common.{◌≡◌, ℕ, ◌≤◌, List, [], ◌∷◌, refl, sym, ap, ◌∙◌, arith, true, false, Bool, nat_lt, if◌then◌else◌, Some, None, min, ltb-true, ltb-false}
use Rattle.std.specs.Prelude.{Option, fold}
use Rattle.std.specs.List.{AllByRecursion}
use Rattle.cfn_model.specs.declared.step.Event.{Event}
use Rattle.cfn_model.specs.declared.step.Event.TheVariants.{Took, Refused}
use Rattle.cfn_model.specs.Network.{Network, IsNetwork}
use Rattle.cfn_model.specs.Steps.{after}
use Rattle.cfn_model.specs.Tree.{Tree, Open, Closed, Split, bound}
use Rattle.cfn_model.specs.Text.{IsSpelled, IsSpelledBest, IsSpelledTree}
use Rattle.cfn_model.specs.Certificate.{Solution, Certificate, threshold, threshold_of, IsBest, Good}
use Rattle.cfn_model.proofs.CallerLemmas.{bound_low, has_every_tree, lower_bounds, valid_lower}
use Rattle.cfn_mending.specs.Joining.{Test, gives_way, higher, join}
use Rattle.cfn_mending.specs.Merging.{cheaper, merged, anew}
use Rattle.cfn_mending.specs.Laws.{IsTest, MergedGood, MergedLower, AllMergedGood, AllMergedLower, AllMergedSpelled, AllMergedAnew}
use Rattle.cfn_mending.proofs.Joined.{join_valid, join_bound}

-- at a smaller threshold a bound falls to that at most
bound_lower : (P : Network) (history : List Event) (x : Tree) (k low : ℕ) → low ≤ k → min low (bound P history x k) ≤ bound P history x low
bound_lower P history (Open block) k low h = omega (arith, h)
bound_lower P history (Closed block) k low h = omega arith
bound_lower P history (Split block d first second) k low h =
    (let l = bound_lower P (Took d ∷ after block history) first k low h in let r = bound_lower P (Refused d ∷ after block history) second k low h in omega (arith, l, r))

-- the cheaper best is one, costs no more than either, and nothing below it is a lower bound
record Fits (P : Network) (a b best : Option Solution) (u : ℕ) : Type 0 where
  is : IsBest P best
  first : threshold_of u best ≤ threshold_of u a
  second : threshold_of u best ≤ threshold_of u b

by_test : (P : Network) (a b : Solution) (u : ℕ) (t : Bool) → nat_lt b.cost a.cost ≡ t → IsBest P (Some a) → IsBest P (Some b) → Fits P (Some a) (Some b) (if t then Some b else Some a) u
by_test P a b u true h x y = (let l = ltb-true _ _ h in record { is = y; first = omega (arith, l); second = omega arith })
by_test P a b u false h x y = (let l = ltb-false _ _ h in record { is = x; first = omega arith; second = omega (arith, l) })

cheaper_fits : (P : Network) (a b : Option Solution) (u : ℕ) → u ≡ P.upper → IsBest P a → IsBest P b → Fits P a b (cheaper a b) u
cheaper_fits P None None u e x y = record { is = tt; first = omega arith; second = omega arith }
cheaper_fits P None (Some b) u e x y = (let l = y.below in record { is = y; first = omega (arith, e, l); second = omega arith })
cheaper_fits P (Some a) None u e x y = (let l = x.below in record { is = x; first = omega arith; second = omega (arith, e, l) })
cheaper_fits P (Some a) (Some b) u e x y = by_test P a b u (nat_lt b.cost a.cost) refl x y

-- a good certificate's lower bound is at most every best, and the upper bound
most : (P : Network) (c : Certificate) (best : Option Solution) → IsNetwork P → Good P c → IsBest P best → c.lower ≤ threshold_of P.upper best
most P c None network good is =
    (let l = good.lower in let k = bound_low P [] c.tree (threshold c) in let f = (cheaper_fits P None c.best c.upper good.upper tt good.best).second in let u = good.upper in
    let g = top c.best c.upper P u good.best in omega (arith, l, k, g, u))
  where
    top : (best : Option Solution) (u : ℕ) (P : Network) → u ≡ P.upper → IsBest P best → threshold_of u best ≤ u
    top None u P e x = omega arith
    top (Some b) u P e x = (let l = x.below in omega (arith, e, l))
most P c (Some b) network good is = (let l = lower_bounds P c b.values network good is.fits in let e = is.cost in omega (arith, l, e))

pub merged_good : MergedGood
merged_good same P c d test network a b =
    let f = cheaper_fits P c.best d.best c.upper a.upper a.best b.best in
    let k = threshold_of c.upper (cheaper c.best d.best) in
    let ku : threshold_of d.upper d.best ≡ threshold_of c.upper d.best = ap (λ u. threshold_of u d.best) (b.upper ∙ sym a.upper) in
    let second = f.second in
    record {
      variables = a.variables;
      functions = a.functions;
      upper = a.upper;
      best = f.is;
      valid = join_valid P same [] c.tree d.tree k test (valid_lower P [] c.tree (threshold c) k f.first a.valid) (valid_lower P [] d.tree (threshold d) k (omega (arith, second, ku)) b.valid);
      lower = omega arith;
    }

pub merged_lower : MergedLower
merged_lower same P c d test network a b =
    let f = cheaper_fits P c.best d.best c.upper a.upper a.best b.best in
    let k = threshold_of c.upper (cheaper c.best d.best) in
    let ku : threshold_of d.upper d.best ≡ threshold_of c.upper d.best = ap (λ u. threshold_of u d.best) (b.upper ∙ sym a.upper) in
    let kp : threshold_of P.upper (cheaper c.best d.best) ≡ k = ap (λ u. threshold_of u (cheaper c.best d.best)) (sym a.upper) in
    let j = join_bound P same [] c.tree d.tree k test in
    let one = bound_lower P [] c.tree (threshold c) k f.first in
    let second = f.second in
    let two = bound_lower P [] d.tree (threshold d) k (omega (arith, second, ku)) in
    let mc = most P c (cheaper c.best d.best) network a f.is in
    let md = most P d (cheaper c.best d.best) network b f.is in
    let la = a.lower in
    let lb = b.lower in
    (omega (arith, j.0, one, mc, kp, la), omega (arith, j.1, two, md, kp, lb))

-- ---- one after another

anew_good : (P : Network) (c : Certificate) → Good P c → Good P (anew P c)
anew_good P c good = record { variables = good.variables; functions = good.functions; upper = good.upper; best = good.best; valid = good.valid; lower = omega arith }

module _ (same : Test) (P : Network) (test : IsTest same) (network : IsNetwork P) where
  all_good : (m : Certificate) (others : List Certificate) → Good P m → AllByRecursion (Good P) others → Good P (fold (merged same P) m others)
  all_good m [] good all = good
  all_good m (d ∷ others) good all = all_good (merged same P m d) others (merged_good same P m d test network good all.0) all.1

  first_lower : (m : Certificate) (others : List Certificate) → Good P m → AllByRecursion (Good P) others → m.lower ≤ (fold (merged same P) m others).lower
  first_lower m [] good all = omega arith
  first_lower m (d ∷ others) good all =
      let l = merged_lower same P m d test network good all.0 in
      let rest = first_lower (merged same P m d) others (merged_good same P m d test network good all.0) all.1 in
      omega (arith, l.0, rest)

  each_lower : (m : Certificate) (others : List Certificate) → Good P m → AllByRecursion (Good P) others → AllByRecursion (λ d. d.lower ≤ (fold (merged same P) m others).lower) others
  each_lower m [] good all = tt
  each_lower m (d ∷ others) good all =
      let l = merged_lower same P m d test network good all.0 in
      let now = merged_good same P m d test network good all.0 in
      let rest = first_lower (merged same P m d) others now all.1 in
      (omega (arith, l.1, rest), each_lower (merged same P m d) others now all.1)

pub all_merged_good : AllMergedGood
all_merged_good same P c others test network good all = all_good same P test network (anew P c) others (anew_good P c good) all

pub all_merged_lower : AllMergedLower
all_merged_lower same P c others test network good all =
    let first = first_lower same P test network (anew P c) others (anew_good P c good) all in
    let own = good.lower in
    (omega (arith, first, own), each_lower same P test network (anew P c) others (anew_good P c good) all)

stays_anew : (same : Test) (P : Network) (m : Certificate) (others : List Certificate) → m ≡ anew P m → fold (merged same P) m others ≡ anew P (fold (merged same P) m others)
stays_anew same P m [] is = is
stays_anew same P m (d ∷ others) is = stays_anew same P (merged same P m d) others refl

pub all_merged_anew : AllMergedAnew
all_merged_anew same P c others = stays_anew same P (anew P c) others refl

-- ---- spellings

chosen_spelled : (x y : Tree) (t : Bool) → IsSpelledTree x → IsSpelledTree y → IsSpelledTree (if t then y else x)
chosen_spelled x y true a b = b
chosen_spelled x y false a b = a

higher_spelled : (x y : Tree) → IsSpelledTree x → IsSpelledTree y → IsSpelledTree (higher x y)
higher_spelled x y a b = chosen_spelled x y (gives_way x y) a b

either_spelled : (x z : Tree) (t : Bool) → IsSpelledTree z → IsSpelledTree x → IsSpelledTree (if t then z else x)
either_spelled x z true a b = a
either_spelled x z false a b = b

join_spelled : (same : Test) (x y : Tree) → IsSpelledTree x → IsSpelledTree y → IsSpelledTree (join same x y)
join_spelled same (Open block) other a b = higher_spelled (Open block) other a b
join_spelled same (Closed block) other a b = higher_spelled (Closed block) other a b
join_spelled same (Split block d first second) (Open more) a b = higher_spelled (Split block d first second) (Open more) a b
join_spelled same (Split block d first second) (Closed more) a b = higher_spelled (Split block d first second) (Closed more) a b
join_spelled same (Split block d first second) (Split more e third fourth) a b =
    either_spelled (higher (Split block d first second) (Split more e third fourth)) (Split block d (join same first third) (join same second fourth)) (same block d more e)
    (a.0, a.1, join_spelled same first third a.2 b.2, join_spelled same second fourth a.3 b.3)
    (higher_spelled (Split block d first second) (Split more e third fourth) a b)

best_by : (a b : Option Solution) (t : Bool) → IsSpelledBest a → IsSpelledBest b → IsSpelledBest (if t then b else a)
best_by a b true x y = y
best_by a b false x y = x

cheaper_spelled : (a b : Option Solution) → IsSpelledBest a → IsSpelledBest b → IsSpelledBest (cheaper a b)
cheaper_spelled None b x y = y
cheaper_spelled (Some a) None x y = x
cheaper_spelled (Some a) (Some b) x y = best_by (Some a) (Some b) (nat_lt b.cost a.cost) x y

-- a tree's bound is at most the upper bound
bound_most : (P : Network) (tree : Tree) (best : Option Solution) (u : ℕ) → u ≡ P.upper → IsBest P best → bound P [] tree (threshold_of u best) ≤ u
bound_most P tree best u e is =
    let low = bound_low P [] tree (threshold_of u best) in
    let top = (cheaper_fits P None best u e tt is).first in
    omega (arith, low, top)

anew_spelled : (P : Network) (c : Certificate) → Good P c → IsSpelled c → IsSpelled (anew P c)
anew_spelled P c good spelled =
    let most = bound_most P c.tree c.best c.upper good.upper good.best in
    let upper = spelled.upper in
    record { variables = spelled.variables; functions = spelled.functions; upper = spelled.upper; best = spelled.best; lower = omega (arith, most, upper); tree = spelled.tree; has_tree = has_every_tree c.tree }

module _ (same : Test) (P : Network) (test : IsTest same) (network : IsNetwork P) where
  merged_spelled : (c d : Certificate) → Good P c → Good P d → IsSpelled c → IsSpelled d → IsSpelled (merged same P c d)
  merged_spelled c d a b x y =
      let now = merged_good same P c d test network a b in
      let most = bound_most P (join same c.tree d.tree) (cheaper c.best d.best) c.upper a.upper now.best in
      let upper = x.upper in
      record {
        variables = x.variables;
        functions = x.functions;
        upper = x.upper;
        best = cheaper_spelled c.best d.best x.best y.best;
        lower = omega (arith, most, upper);
        tree = join_spelled same c.tree d.tree x.tree y.tree;
        has_tree = has_every_tree (join same c.tree d.tree);
      }

  all_spelled : (m : Certificate) (others : List Certificate) → Good P m → AllByRecursion (Good P) others → IsSpelled m → AllByRecursion IsSpelled others → IsSpelled (fold (merged same P) m others)
  all_spelled m [] good all x y = x
  all_spelled m (d ∷ others) good all x y =
      all_spelled (merged same P m d) others (merged_good same P m d test network good all.0) all.1 (merged_spelled m d good all.0 x y.0) y.1

pub all_merged_spelled : AllMergedSpelled
all_merged_spelled same P c others test network good all x y = all_spelled same P test network (anew P c) others (anew_good P c good) all (anew_spelled P c good x) y
