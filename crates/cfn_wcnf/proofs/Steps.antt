-- What follows from a step of reading that did not fail, or that did.
use Rattle.std.proofs.Common.{◌≡◌, ℕ, Result, Ok, Err, Option, Some, None, refl}
use Rattle.cfn_model.specs.declared.reading.Kind.{Kind}
use Rattle.cfn_model.specs.declared.reading.Refusal.{Refusal}
use Rattle.cfn_model.specs.Reading.{◌>>=◌, unless_refused}

pub bind_ok : {A B : Type 0} (r : Result A Refusal) (f : A → Result B Refusal) (y : B) → (r >>= f) ≡ Ok y → (x : A) × (r ≡ Ok x) × (f x ≡ Ok y)
bind_ok (Ok x) f y e = (x, refl, e)
bind_ok (Err d) f y e = absurd cc

pub bind_err : {A B : Type 0} (r : Result A Refusal) (f : A → B) (e : Refusal) → (r >>= λ x. Ok (f x)) ≡ Err e → r ≡ Err e
bind_err (Ok x) f e h = absurd cc
bind_err (Err d) f e h = cc

abbrev pub succeeded : {A : Type 0} → A → Result A Refusal
succeeded x = Ok x

pub ok_is : {A : Type 0} (x y : A) → succeeded x ≡ succeeded y → x ≡ y
ok_is x y e = cc

-- a check that did not fail
pub not_refused : {A : Type 0} (o : Option Kind) (n : ℕ) (x y : A) → unless_refused o n x ≡ Ok y → (o ≡ None) × (x ≡ y)
not_refused None n x y e = (refl, ok_is x y e)
not_refused (Some kind) n x y e = absurd cc
