-- What is said of a fault where nothing is asked for.
use Rattle.std.proofs.Common.{◌≡◌, Option, None, Result, Ok, Err, IfErr, sym, ◌∙◌}
use Rattle.std.specs.Prelude.{IsErrAnd}
use Rattle.cfn_cli.specs.declared.fault.CliFault.{CliFault}
use Rattle.cfn_cli.specs.declared.fault.CliFault.TheVariants.{Usage}

-- A fault of any kind, where nothing is asked for.
pub nothing_asked : {T X : Type 0} (r : Result T CliFault) (asked : Option X) → asked ≡ None
    → IfErr r (λ fault. fault ≡ Usage → asked ≡ None)
nothing_asked (Ok x) asked none = tt
nothing_asked (Err e) asked none = λ _. none

-- The fault of a callee, passed on.
pub passed_on : {T X : Type 0} (r : Result T CliFault) (e : CliFault) (asked : Option X) → IsErrAnd r (λ y. y ≡ e)
    → (e ≡ Usage → asked ≡ None) → IfErr r (λ fault. fault ≡ Usage → asked ≡ None)
passed_on (Ok x) e asked gives none = tt
passed_on (Err y) e asked gives none = λ is. none (sym gives ∙ is)
