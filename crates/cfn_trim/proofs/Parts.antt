-- Parts of a list of steps.
use Rattle.std.proofs.Common.{◌≡◌, ◌≤◌, inl, inr, List, [], ◌∷◌, ◌++◌, length, refl, ap, arith}
use Rattle.cfn_model.specs.declared.step.Step.{Step}
use Rattle.cfn_trim.specs.Trimming.{AreSome}

pub some_all : (whole : List Step) → AreSome whole whole
some_all [] = refl
some_all (step ∷ whole) = inr (whole, refl, some_all whole)

some_none : (part whole : List Step) → part ≡ [] → AreSome part whole
some_none part [] none = none
some_none part (step ∷ whole) none = inl (some_none part whole none)

-- more steps that are left out
pub some_longer : (part done left : List Step) → AreSome part done → AreSome part (done ++ left)
some_longer part [] left some = some_none part left some
some_longer part (first ∷ done) left (inl some) = inl (some_longer part done left some)
some_longer part (first ∷ done) left (inr some) = inr (some.0, some.1, some_longer some.0 done left some.2)

-- one more step that is not
pub some_more : (part done : List Step) (step : Step) → AreSome part done → AreSome (part ++ step ∷ []) (done ++ step ∷ [])
some_more part [] step none = inr ([], ap (λ l. l ++ step ∷ []) none, refl)
some_more part (first ∷ done) step (inl some) = inl (some_more part done step some)
some_more part (first ∷ done) step (inr some) = inr (some.0 ++ step ∷ [], ap (λ l. l ++ step ∷ []) some.1, some_more some.0 done step some.2)

pub some_length : (part whole : List Step) → AreSome part whole → length part ≤ length whole
some_length part [] none = (let e = ap length none in omega (arith, e))
some_length part (step ∷ whole) (inl some) = (let h = some_length part whole some in omega (arith, h))
some_length part (step ∷ whole) (inr some) = (let h = some_length some.0 whole some.2 in let e = ap length some.1 in omega (arith, h, e))
