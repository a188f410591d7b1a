-- What is looked for among all tuples of a function; and open variables at a place.
use Rattle.std.specs.Prelude.{◌≡◌, ℕ, ◌<◌, List, slice_index, ◌^◌, ◌⊎◌, pos, ◌+ℤ◌, ◌<ℤ◌, ◌≤ℤ◌, IsTrue}
use Rattle.cfn_model.specs.declared.step.Event.{Event}
use Rattle.cfn_model.specs.Network.{Network, Fits, arity, variable_at, dims_at, cell}
use Rattle.cfn_model.specs.Sums.{unary, residual, is_live_tuple}
use Rattle.cfn_consistency.specs.Openness.{is_open}
use Rattle.cfn_plain.specs.declared.supports.Ask.{Ask}
use Rattle.cfn_plain.specs.declared.supports.Ask.TheVariants.{Support, FullSupport, Outside, Number}
use Rattle.cfn_plain.specs.declared.supports.Sought.{Sought}

-- i is a place of f, and its variable is open.
abbrev pub IsOpenAt : Network → List Event → ℕ → ℕ → Type 0
IsOpenAt P history f i = (i < arity P f) × IsTrue (is_open P history (variable_at P f i))

-- A tuple of f is what is asked.
abbrev pub Meets : Network → List Event → ℕ → Ask → List ℕ → Type 0
Meets P history f (Support i a) tuple = (slice_index tuple i ≡ a) × (residual P history f tuple ≡ pos 0)
Meets P history f (FullSupport i j a) tuple =
    (slice_index tuple i ≡ a) × ((residual P history f tuple +ℤ unary P history (variable_at P f j) (slice_index tuple j)) ≡ pos 0)
Meets P history f Outside tuple = (residual P history f tuple <ℤ pos 0) ⊎ (pos (2 ^ 64) ≤ℤ residual P history f tuple)
Meets P history f (Number c) tuple = cell (dims_at P f) tuple ≡ c

-- A tuple is what is looked for: it is live, and what is asked.
pub record IsSought (P : Network) (history : List Event) (sought : Sought) (tuple : List ℕ) : Type 0 where
  pub live : IsTrue (is_live_tuple P history sought.function tuple)
  pub asked : Meets P history sought.function sought.ask tuple

-- There is one.
pub record HasTuple (P : Network) (history : List Event) (sought : Sought) : Type 0 where
  pub tuple : List ℕ
  pub fits : Fits (dims_at P sought.function) tuple
  pub is : IsSought P history sought tuple
