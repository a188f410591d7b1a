-- What an event may end. Costs of what is live are never negative on a store's path; so a support stays one where its
-- residual cost does not rise, and a full support where neither that nor the unary cost rises.
use Rattle.std.specs.Prelude.{◌≡◌, ℕ, ◌-◌, ◌<◌, ◌≤◌, ◌⊎◌, true, List, [], ◌∷◌, ◌++◌}
use Rattle.cfn_model.specs.declared.step.Step.{Step}
use Rattle.cfn_model.specs.declared.step.Step.TheVariants.{Project, Extend, Lift, CutValue, CutTuple}
use Rattle.cfn_model.specs.declared.step.Event.{Event}
use Rattle.cfn_model.specs.declared.step.Event.TheVariants.{Did, Took, Refused}
use Rattle.cfn_model.specs.Decisions.{variable_of}
use Rattle.cfn_model.specs.Network.{Network, arity, variable_at}
use Rattle.cfn_queue.specs.Waiting.{Waiting}
use Rattle.cfn_due.specs.Dues.{Dues, waits}

-- The variable x is in the scope of f.
abbrev pub IsOn : Network → ℕ → ℕ → Type 0
IsOn P x f = (i : ℕ) × (i < arity P f) × (variable_at P f i ≡ x)

-- The variable y is x, or in the scope of a function on x.
abbrev pub IsNear : Network → ℕ → ℕ → Type 0
IsNear P x y = (x ≡ y) ⊎ ((f : ℕ) × IsOn P x f × IsOn P y f)

-- The arc consistency of f may end: costs of it rise, a tuple of it is cut, or a value of a variable of it.
abbrev pub GoesArc : Network → Event → ℕ → Type 0
GoesArc P (Did (Project g i a m)) f = ⊥
GoesArc P (Did (Extend g i a m)) f = g ≡ f
GoesArc P (Did (Lift x m)) f = ⊥
GoesArc P (Did (CutValue x a)) f = IsOn P x f
GoesArc P (Did (CutTuple g c)) f = g ≡ f
GoesArc P (Took d) f = IsOn P (variable_of d) f
GoesArc P (Refused d) f = IsOn P (variable_of d) f

-- x stands at a place of f other than i.
abbrev pub IsElsewhere : Network → ℕ → ℕ → ℕ → Type 0
IsElsewhere P x f i = (j : ℕ) × (j < arity P f) × (variable_at P f j ≡ x) × (j ≡ i → ⊥)

-- Supports of values at place i of f may end: costs of it rise, a tuple of it is cut, or a value of a variable at another place.
abbrev pub GoesSide : Network → Event → ℕ → ℕ → Type 0
GoesSide P (Did (Project g p a m)) f i = ⊥
GoesSide P (Did (Extend g p a m)) f i = g ≡ f
GoesSide P (Did (Lift x m)) f i = ⊥
GoesSide P (Did (CutValue x a)) f i = IsElsewhere P x f i
GoesSide P (Did (CutTuple g c)) f i = g ≡ f
GoesSide P (Took d) f i = IsElsewhere P (variable_of d) f i
GoesSide P (Refused d) f i = IsElsewhere P (variable_of d) f i

-- The variable x is in the scope of f, and where that has two variables it is the upper one.
abbrev pub IsUpper : Network → ℕ → ℕ → Type 0
IsUpper P x f = (i : ℕ) × (i < arity P f) × (variable_at P f i ≡ x) × (arity P f ≡ 2 → variable_at P f (1 - i) ≤ x)

-- Full supports in f may end: costs of it rise, a tuple of it is cut, or a value of a variable, or unary costs of a variable
-- rise, whose relation to f is one by which they end.
abbrev pub GoesBy : (Network → ℕ → ℕ → Type 0) → Network → Event → ℕ → Type 0
GoesBy Ends P (Did (Project g i a m)) f = Ends P (variable_at P g i) f
GoesBy Ends P (Did (Extend g i a m)) f = g ≡ f
GoesBy Ends P (Did (Lift x m)) f = ⊥
GoesBy Ends P (Did (CutValue x a)) f = Ends P x f
GoesBy Ends P (Did (CutTuple g c)) f = g ≡ f
GoesBy Ends P (Took d) f = Ends P (variable_of d) f
GoesBy Ends P (Refused d) f = Ends P (variable_of d) f

-- Full supports of any variable of f, by any variable of it.
abbrev pub GoesFull : Network → Event → ℕ → Type 0
GoesFull P event f = GoesBy IsOn P event f

-- The directional arc consistency of f. Of a function of two variables it asks full supports of the lower one alone, and none of
-- these ends by what the lower one loses or by its unary costs.
abbrev pub GoesDirected : Network → Event → ℕ → Type 0
GoesDirected P event f = GoesBy IsUpper P event f

-- And the existential arc consistency of y, which depends on all functions on y.
abbrev pub GoesExisting : Network → Event → ℕ → Type 0
GoesExisting P (Did (Project g i a m)) y = IsNear P (variable_at P g i) y
GoesExisting P (Did (Extend g i a m)) y = IsOn P y g
GoesExisting P (Did (Lift x m)) y = ⊥
GoesExisting P (Did (CutValue x a)) y = IsNear P x y
GoesExisting P (Did (CutTuple g c)) y = IsOn P y g
GoesExisting P (Took d) y = IsNear P (variable_of d) y
GoesExisting P (Refused d) y = IsNear P (variable_of d) y

-- Behind the numbers that wait those come that go, unless they wait already, and no other.
pub record ArePut (old new : Waiting) (Goes : ℕ → Type 0) : Type 0 where
  pub size : new.size ≡ old.size
  pub behind : (more : List ℕ) × (new.items ≡ old.items ++ more)
  pub put : (i : ℕ) → Goes i → waits new i ≡ true
  pub left : (i : ℕ) → (Goes i → ⊥) → waits new i ≡ waits old i

-- What an event may end waits behind it, and no more than waited.
pub record IsNoted (P : Network) (event : Event) (old new : Dues) : Type 0 where
  pub arcs : ArePut old.arcs new.arcs (GoesArc P event)
  pub directed : ArePut old.directed new.directed (GoesDirected P event)
  pub existing : ArePut old.existing new.existing (GoesExisting P event)

-- Something goes with one of some steps.
abbrev pub GoesWithOne : (Event → ℕ → Type 0) → List Step → ℕ → Type 0
GoesWithOne Goes [] i = ⊥
GoesWithOne Goes (step ∷ steps) i = Goes (Did step) i ⊎ GoesWithOne Goes steps i

-- The same of steps: what one of them may end waits.
pub record AreNoted (P : Network) (steps : List Step) (old new : Dues) : Type 0 where
  pub arcs : ArePut old.arcs new.arcs (GoesWithOne (GoesArc P) steps)
  pub directed : ArePut old.directed new.directed (GoesWithOne (GoesDirected P) steps)
  pub existing : ArePut old.existing new.existing (GoesWithOne (GoesExisting P) steps)
