-- What is said of a value that was made second holds of it in the pair.
use Rattle.std.proofs.Common.{◌≡◌, sym, subst}
use Rattle.std.specs.Prelude.{Result, Ok, Err, IfOk, IsOkAnd}

pub second_of : {T E : Type 0} (made : Result T E) (second : T) (P : T → Type 0) → IfOk made P → IsOkAnd made (λ given. second ≡ given) → P second
second_of (Ok given) second P holds is = subst P (sym is) holds
second_of (Err e) second P holds is = absurd is
