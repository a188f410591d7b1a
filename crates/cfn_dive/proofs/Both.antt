-- What is known of a value that came of a call, once it stands beside another.
use Rattle.std.proofs.Common.{◌≡◌, sym, subst}
use Rattle.std.specs.Prelude.{Result, Ok, Err, IfOk, IsOkAnd}

pub given_by : {T E : Type 0} (r : Result T E) (made : T) (P : T → Type 0) → IsOkAnd r (λ given. made ≡ given) → IfOk r P → P made
given_by (Ok given) made P is holds = subst P (sym is) holds
given_by (Err error) made P is holds = absurd is
