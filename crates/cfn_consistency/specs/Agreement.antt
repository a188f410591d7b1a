-- When two histories agree on what a local consistency looks at.
use Rattle.std.specs.Prelude.{◌≡◌, ℕ, ◌<◌, List, length, slice_index, IsTrue}
use Rattle.cfn_model.specs.declared.step.Event.{Event}
use Rattle.cfn_model.specs.Network.{Network, Fits, arity, variable_at, dims_at}
use Rattle.cfn_model.specs.Sums.{floor, unary, residual, is_live, is_live_tuple}

-- The same values of x are live.
abbrev pub AgreeOnValues : Network → List Event → List Event → ℕ → Type 0
AgreeOnValues P one other x = (a : ℕ) → a < slice_index P.sizes x → is_live one x a ≡ is_live other x a

-- The live values of x have the same unary costs.
abbrev pub AgreeOnUnaries : Network → List Event → List Event → ℕ → Type 0
AgreeOnUnaries P one other x = (a : ℕ) → a < slice_index P.sizes x → IsTrue (is_live one x a) → unary P one x a ≡ unary P other x a

-- The same values of the variables of f are live, the same tuples, and live tuples have the same residual costs.
pub record AgreeOnFunction (P : Network) (one other : List Event) (f : ℕ) : Type 0 where
  pub values : (i : ℕ) → i < arity P f → AgreeOnValues P one other (variable_at P f i)
  pub tuples : (tuple : List ℕ) → Fits (dims_at P f) tuple → is_live_tuple P one f tuple ≡ is_live_tuple P other f tuple
  pub costs : (tuple : List ℕ) → Fits (dims_at P f) tuple → IsTrue (is_live_tuple P one f tuple) → residual P one f tuple ≡ residual P other f tuple

-- Beside this the live values of its variables have the same unary costs.
pub record AgreeAround (P : Network) (one other : List Event) (f : ℕ) : Type 0 where
  pub function : AgreeOnFunction P one other f
  pub unaries : (i : ℕ) → i < arity P f → AgreeOnUnaries P one other (variable_at P f i)

-- The live values and their unary costs are the same for x, and all that is around each function on x.
pub record AgreeNear (P : Network) (one other : List Event) (x : ℕ) : Type 0 where
  pub values : AgreeOnValues P one other x
  pub unaries : AgreeOnUnaries P one other x
  pub functions : (f i : ℕ) → f < length P.functions → i < arity P f → variable_at P f i ≡ x → AgreeAround P one other f

-- The floor, the live values and their unary costs are the same.
pub record AgreeOnNodes (P : Network) (one other : List Event) : Type 0 where
  pub floors : floor P one ≡ floor P other
  pub values : (x : ℕ) → x < length P.sizes → AgreeOnValues P one other x
  pub unaries : (x : ℕ) → x < length P.sizes → AgreeOnUnaries P one other x
