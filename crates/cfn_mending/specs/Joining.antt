-- Two search trees of one network in one: at each place the one that is higher.
use Rattle.std.specs.Prelude.{ℕ, ◌+◌, Bool, true, false, not, ◌&&◌, ◌||◌, min, List, [], ◌∷◌, Option, Some, None, if◌then◌else◌, nat_lt}
use Rattle.cfn_model.specs.declared.step.Step.{Step}
use Rattle.cfn_model.specs.declared.step.Decision.{Decision}
use Rattle.cfn_model.specs.declared.step.Event.TheVariants.{Did}
use Rattle.cfn_model.specs.Sums.{lifted}
use Rattle.cfn_model.specs.Tree.{Tree, Open, Closed, Split, count}

-- What a block lifts.
abbrev pub lifts : List Step → ℕ
lifts [] = 0
lifts (step ∷ block) = lifted (Did step) + lifts block

-- The lesser of two heights; none is above all.
abbrev pub lesser : Option ℕ → Option ℕ → Option ℕ
lesser None other = other
lesser (Some n) None = Some n
lesser (Some n) (Some m) = Some (min n m)

abbrev pub raised : ℕ → Option ℕ → Option ℕ
raised more None = None
raised more (Some n) = Some (more + n)

-- What is lifted from a tree's root to that of its open leaves that lifts least; none where no leaf is open.
abbrev pub height : Tree → Option ℕ
height (Open block) = Some (lifts block)
height (Closed block) = None
height (Split block d first second) = raised (lifts block) (lesser (height first) (height second))

-- The least of a threshold and of what a height comes to behind a floor.
abbrev pub capped : ℕ → ℕ → Option ℕ → ℕ
capped k low None = k
capped k low (Some n) = min k (low + n)

-- Whether a height is below another.
abbrev pub is_below : Option ℕ → Option ℕ → Bool
is_below None other = false
is_below (Some n) None = true
is_below (Some n) (Some m) = nat_lt n m

-- Whether a tree gives way to another: that is higher, or as high with more splits and closed leaves.
abbrev pub gives_way : Tree → Tree → Bool
gives_way x y = is_below (height x) (height y) || (not (is_below (height y) (height x)) && nat_lt (count x) (count y))

abbrev pub higher : Tree → Tree → Tree
higher x y = if gives_way x y then y else x

-- Whether two nodes are one split: the same block and the same decision.
abbrev pub Test : Type 0
Test = List Step → Decision → List Step → Decision → Bool

-- Where both are one split, each side is joined for itself; and else the higher one stands for both.
abbrev pub join : Test → Tree → Tree → Tree
join same (Open block) other = higher (Open block) other
join same (Closed block) other = higher (Closed block) other
join same (Split block d first second) (Open more) = higher (Split block d first second) (Open more)
join same (Split block d first second) (Closed more) = higher (Split block d first second) (Closed more)
join same (Split block d first second) (Split more e third fourth) =
    if same block d more e then Split block d (join same first third) (join same second fourth) else higher (Split block d first second) (Split more e third fourth)
