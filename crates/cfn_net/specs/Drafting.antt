-- A network with a last function that can still be written.
use Rattle.std.specs.Prelude.{◌≡◌, ℕ, ◌<◌, [], length, slice_set, Option, Some, None}
use Rattle.cfn_model.specs.Network.{Function, Network, IsFunction, dims, dims_at}
use Rattle.cfn_net.specs.declared.open.Open.{Open}
use Rattle.cfn_net.specs.Building.{CanTake, function, share_of, with_function}

-- The function that is open.
abbrev pub open_function : Open → Function
open_function opened = function opened.scope.items opened.default opened.entries.items

abbrev pub with_open : Network → Option Open → Network
with_open P None = P
with_open P (Some opened) = with_function P (open_function opened)

-- The function is known to have the default and the entries of an earlier one, or nothing is known.
abbrev pub IsShare : Network → Function → Option ℕ → Type 0
IsShare P f None = Unit {0}
IsShare P f (Some earlier) = (earlier < length P.functions) × (dims P.sizes f.scope ≡ dims_at P earlier) × (f ≡ share_of P earlier f.scope)

-- The network has room for the open function, which keeps the limits of functions.
pub record IsOpen (P : Network) (opened : Open) : Type 0 where
  pub room : CanTake P opened.scope.items
  pub limits : IsFunction P.sizes P.upper (open_function opened)
  pub share : IsShare P (open_function opened) opened.shares

-- Where no function is open there is none.
abbrev pub IsDraft : Network → Option Open → Type 0
IsDraft P None = P.functions ≡ []
IsDraft P (Some opened) = IsOpen P opened

-- The function with an entry written.
abbrev pub written : Function → ℕ → ℕ → Function
written f cell entry = record f { entries = slice_set f.entries cell entry }
