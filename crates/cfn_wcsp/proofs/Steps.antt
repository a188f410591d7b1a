-- What follows from a step of reading that did not fail, or that did.
use Rattle.std.proofs.Common.{◌≡◌, Result, Ok, Err, refl, subst}
use Rattle.cfn_model.specs.declared.reading.Refusal.{Refusal}
use Rattle.cfn_model.specs.Reading.{◌>>=◌}
use Rattle.cfn_wcsp.specs.declared.fault.ReadFault.{ReadFault}
use Rattle.cfn_wcsp.specs.Giving.{Gives}

pub bind_ok : {A B : Type 0} (r : Result A Refusal) (f : A → Result B Refusal) (y : B) → (r >>= f) ≡ Ok y → (x : A) × (r ≡ Ok x) × (f x ≡ Ok y)
bind_ok (Ok x) f y e = (x, refl, e)
bind_ok (Err d) f y e = absurd cc

pub bind_err : {A B : Type 0} (r : Result A Refusal) (f : A → B) (e : Refusal) → (r >>= λ x. Ok (f x)) ≡ Err e → r ≡ Err e
bind_err (Ok x) f e h = absurd cc
bind_err (Err d) f e h = cc

abbrev succeeded : {A : Type 0} → A → Result A Refusal
succeeded x = Ok x

pub ok_is : {A : Type 0} (x y : A) → succeeded x ≡ succeeded y → x ≡ y
ok_is x y e = cc

-- what is given is the same where two readings are
pub gives_same : {X Y : Type 0} {a b : Result Y Refusal} (view : X → Y) (result : Result X ReadFault) → a ≡ b → Gives view result a → Gives view result b
gives_same view result e h = subst (λ read. Gives view result read) e h
