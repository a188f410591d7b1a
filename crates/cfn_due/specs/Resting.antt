-- For each variable a value, and in which functions it is known to rest.
use Rattle.std.specs.Prelude.{◌≡◌, ℕ, ◌+◌, ◌*◌, ◌<◌, Bool, false, List, length, slice_index, IsTrue}
use Rattle.cfn_model.specs.declared.step.Event.{Event}
use Rattle.cfn_model.specs.Network.{Network, arity, variable_at}
use Rattle.cfn_consistency.specs.Consistency.{HasFullSupport}
use Rattle.cfn_consistency.specs.Openness.{is_open}
use Rattle.cfn_due.specs.Going.{IsOn}
use Rattle.cfn_due.specs.Marking.{Marked, is_marked}

-- A value for each variable, and, by numbers, at which of three places of each function it is known to rest.
pub record Resting : Type 0 where
  pub values : List ℕ
  pub sure : Marked

abbrev pub is_sure : Resting → ℕ → ℕ → Bool
is_sure r f i = is_marked r.sure (3 * f + i)

-- The value a rests at place i of f: it has a full support with regard to another place, and no third variable is open.
pub record RestsAt (P : Network) (history : List Event) (f i a : ℕ) : Type 0 where
  pub function : f < length P.functions
  pub place : i < arity P f
  pub other : ℕ
  pub other_place : other < arity P f
  pub full : HasFullSupport P history f i other a
  pub alone : (k : ℕ) → k < arity P f → (k ≡ i → ⊥) → (k ≡ other → ⊥) → is_open P history (variable_at P f k) ≡ false

-- What is sure is so after the history.
pub record AreSure (P : Network) (history : List Event) (r : Resting) : Type 0 where
  pub rests : (f i : ℕ) → i < 3 → IsTrue (is_sure r f i) → RestsAt P history f i (slice_index r.values (variable_at P f i))

-- What goes is in doubt, and nothing is made sure.
pub record AreDoubted (old new : Resting) (Goes : ℕ → Type 0) : Type 0 where
  pub values : new.values ≡ old.values
  pub fewer : (f i : ℕ) → i < 3 → IsTrue (is_sure new f i) → IsTrue (is_sure old f i)
  pub doubted : (f i : ℕ) → i < 3 → Goes f → IsTrue (is_sure new f i) → ⊥

-- Nothing on the variable that was doubted last is sure.
abbrev pub IsDoubted : Network → Resting → ℕ → Type 0
IsDoubted P r x = (f i : ℕ) → i < 3 → IsOn P x f → IsTrue (is_sure r f i) → ⊥
