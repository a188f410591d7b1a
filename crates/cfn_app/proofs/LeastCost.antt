-- The least cost of a network that a search is done with.
use Rattle.std.proofs.Common.{◌≡◌, ℕ, suc, ◌<◌, List, [], ◌∷◌, length, refl, sym, subst, arith}
use Rattle.std.specs.Prelude.{Option, Some, None, IsSomeAnd, slice_index}
use Rattle.cfn_model.specs.declared.report.Row.{Row}
use Rattle.cfn_model.specs.Network.{Network, Fits, Least, cost}
use Rattle.cfn_model.specs.Certificate.{Solution, Certificate}
use Rattle.cfn_low.specs.Outcome.{Limits, Start}
use Rattle.cfn_app.specs.Headline.{Promise}
use Rattle.cfn_app.specs.Runs.Solving.{word_when_done}

-- the assignment of zeros
zeros : List ℕ → List ℕ
zeros [] = []
zeros (s ∷ ss) = 0 ∷ zeros ss

zeros_fit : (sizes : List ℕ) → ((x : ℕ) → x < length sizes → 0 < slice_index sizes x) → Fits sizes (zeros sizes)
unfolding zeros
zeros_fit [] some = tt
zeros_fit (s ∷ ss) some = (some 0 (omega arith), zeros_fit ss (λ x l. some (suc x) (omega (arith, l))))

module _ (P : Network) (start : Start) (limits : Limits) (nodes : ℕ) (c : Certificate) (rows : List Row) where
  by_best : (best : Option Solution) → c.best ≡ best → Promise P start limits nodes c rows (word_when_done best) → ((values : List ℕ) → cost P values < P.upper) → Least P c.lower
  by_best None is promise allowed =
      let fits = zeros_fit P.sizes (λ x l. (promise.network.sizes x l).0) in
      let top = promise.none_below refl (zeros P.sizes) fits in
      absurd (omega (arith, top, allowed (zeros P.sizes)))
  by_best (Some b) is promise allowed =
      let least : Least P b.cost = subst (λ o. IsSomeAnd o (λ best. Least P best.cost)) is (promise.least refl) in
      let lower : c.lower ≡ b.cost = subst (λ o. IsSomeAnd o (λ best. c.lower ≡ best.cost)) is (promise.causes.optimum.0 refl) in
      subst (Least P) (sym lower) least

  pub least_when_done : Promise P start limits nodes c rows (word_when_done c.best) → ((values : List ℕ) → cost P values < P.upper) → Least P c.lower
  least_when_done = by_best c.best refl
