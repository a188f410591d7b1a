-- The laws that make a certificate worth something (Cooper et al. 2010, Allouche et al. 2015).
use Rattle.std.specs.Prelude.{◌≡◌, ℕ, zero, suc, ◌<◌, ◌≤◌, ◌⊎◌, List, [], length, slice_index, ℤ, pos, ◌+ℤ◌, Some}
use Rattle.cfn_model.specs.declared.step.Step.{Step}
use Rattle.cfn_model.specs.declared.step.Event.{Event}
use Rattle.cfn_model.specs.Network.{Network, IsNetwork, Fits, Least, restrict, scope_at, total, cost}
use Rattle.cfn_model.specs.Sums.{floor, unary, residual}
use Rattle.cfn_model.specs.Steps.{AllInRange, Run}
use Rattle.cfn_model.specs.Tree.{Tree, IsOpen, IsClosed, leaf, leaf_history, Valid, bound}
use Rattle.cfn_model.specs.Certificate.{Solution, Certificate, Good, in_second}
use Rattle.cfn_model.specs.Text.{IsSpelled}
use Rattle.cfn_model.specs.Reading.{Reads}

-- What reads is a network: reading keeps every limit.
abbrev pub ReadNetworks : Type 0
ReadNetworks = (bytes : List ℕ) (P : Network) → Reads bytes P → IsNetwork P

-- The sum of f below n.
abbrev pub sum_below : (ℕ → ℤ) → ℕ → ℤ
sum_below f zero = pos 0
sum_below f (suc n) = sum_below f n +ℤ f n

-- The unary costs of an assignment's values, and the residual costs of its tuples.
abbrev pub unary_sum : Network → List Event → List ℕ → ℤ
unary_sum P history values = sum_below (λ x. unary P history x (slice_index values x)) (length P.sizes)

abbrev pub residual_sum : Network → List Event → List ℕ → ℤ
residual_sum P history values = sum_below (λ f. residual P history f (restrict (scope_at P f) values)) (length P.functions)

-- Equivalence: shifts keep the total of every assignment.
abbrev pub Equivalence : Type 0
Equivalence = (P : Network) (history : List Event) (values : List ℕ) → IsNetwork P → Fits P.sizes values → AllInRange P history →
    pos (total P values) ≡ ((pos (floor P history) +ℤ unary_sum P history values) +ℤ residual_sum P history values)

-- Bounds: in a tree that is valid at k, the bound is at most the cost of every assignment.
abbrev pub Bounds : Type 0
Bounds = (P : Network) (tree : Tree) (k : ℕ) (values : List ℕ) → IsNetwork P → k ≤ P.upper → Valid P [] tree k → Fits P.sizes values → bound P [] tree k ≤ cost P values

-- No assignment that costs less than k has a closed leaf there.
abbrev pub ClosedLeaves : Type 0
ClosedLeaves = (P : Network) (tree : Tree) (k : ℕ) (values : List ℕ) → IsNetwork P → k ≤ P.upper → Valid P [] tree k → Fits P.sizes values → cost P values < k → IsClosed (leaf values tree) → ⊥

-- The law by leaf: the leaf of an assignment is open and has a floor of at most the total, or the assignment costs at
-- least k.
abbrev pub EachLeaf : Type 0
EachLeaf = (P : Network) (tree : Tree) (k : ℕ) (values : List ℕ) → IsNetwork P → k ≤ P.upper → Valid P [] tree k → Fits P.sizes values
    → (IsOpen (leaf values tree) × (floor P (leaf_history values [] tree) ≤ total P values)) ⊎ (k ≤ cost P values)

-- A good certificate's lower bound is a bound.
abbrev pub LowerBounds : Type 0
LowerBounds = (P : Network) (c : Certificate) (values : List ℕ) → IsNetwork P → Good P c → Fits P.sizes values → c.lower ≤ cost P values

-- Where the lower bound is the best's cost, that cost is the least.
abbrev pub Optimum : Type 0
Optimum = (P : Network) (c : Certificate) (best : Solution) → IsNetwork P → Good P c → c.best ≡ Some best → c.lower ≡ best.cost → Least P best.cost

-- Where the lower bound is the upper bound, every assignment costs the upper bound.
abbrev pub NoneBelow : Type 0
NoneBelow = (P : Network) (c : Certificate) (values : List ℕ) → IsNetwork P → Good P c → c.lower ≡ P.upper → Fits P.sizes values → cost P values ≡ P.upper

-- Lowering: what runs or is valid at a threshold does so at every smaller one.
abbrev pub RunLowering : Type 0
RunLowering = (P : Network) (history : List Event) (steps : List Step) (k low : ℕ) → low ≤ k → Run P history steps k → Run P history steps low

abbrev pub ValidLowering : Type 0
ValidLowering = (P : Network) (history : List Event) (tree : Tree) (k low : ℕ) → low ≤ k → Valid P history tree k → Valid P history tree low

-- In the second version a good certificate is as good, with the same bounds, and a certificate that has a spelling has one.
abbrev pub GoodInSecond : Type 0
GoodInSecond = (P : Network) (c : Certificate) → Good P c → Good P (in_second c)

abbrev pub SpelledInSecond : Type 0
SpelledInSecond = (c : Certificate) → IsSpelled c → IsSpelled (in_second c)
