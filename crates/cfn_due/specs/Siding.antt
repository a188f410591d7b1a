-- At which places of functions of two variables a live value may lack a support.
use Rattle.std.specs.Prelude.{◌≡◌, ℕ, ◌+◌, ◌-◌, ◌*◌, ◌<◌, Bool, true, false, List, length, IsTrue}
use Rattle.cfn_model.specs.declared.step.Event.{Event}
use Rattle.cfn_model.specs.Network.{Network, arity, variable_at}
use Rattle.cfn_model.specs.Sums.{is_live}
use Rattle.cfn_model.specs.Steps.{IsPlace}
use Rattle.cfn_consistency.specs.Consistency.{HasSupport}
use Rattle.cfn_incidence.specs.declared.incidence.Place.{Place}
use Rattle.cfn_due.specs.Marking.{Marked, is_marked}

-- How many functions there are, and, by numbers, which of two places of each are in doubt.
pub record Siding : Type 0 where
  pub size : ℕ
  pub doubted : Marked

abbrev pub is_doubted : Siding → ℕ → ℕ → Bool
is_doubted r f i = is_marked r.doubted (2 * f + i)

-- Each live value at place i of f has a support.
abbrev pub HasSupports : Network → List Event → ℕ → ℕ → Type 0
HasSupports P history f i = (a : ℕ) → IsPlace P f i a → IsTrue (is_live history (variable_at P f i) a) → HasSupport P history f i a

-- What is not in doubt, at a function of two variables, is so after the history.
pub record AreSupported (P : Network) (history : List Event) (r : Siding) : Type 0 where
  pub size : r.size ≡ length P.functions
  pub each : (f i : ℕ) → i < 2 → arity P f ≡ 2 → is_doubted r f i ≡ false → HasSupports P history f i

-- What goes, at a function of two variables, is in doubt, and what was in doubt still is.
pub record AreAsked (P : Network) (old new : Siding) (Goes : ℕ → ℕ → Type 0) : Type 0 where
  pub size : new.size ≡ old.size
  pub fewer : (f i : ℕ) → is_doubted new f i ≡ false → is_doubted old f i ≡ false
  pub asked : (f i : ℕ) → i < 2 → arity P f ≡ 2 → Goes f i → is_doubted new f i ≡ false → ⊥

-- The other place of a function of two variables is in doubt, and what was in doubt still is.
pub record IsOtherAsked (old new : Siding) (p : Place) : Type 0 where
  pub size : new.size ≡ old.size
  pub fewer : (f i : ℕ) → is_doubted new f i ≡ false → is_doubted old f i ≡ false
  pub asked : p.place < 2 → p.function < old.size → is_doubted new p.function (1 - p.place) ≡ true
