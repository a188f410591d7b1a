-- A value that lacks no full support in a function with regard to the other open variable, where there is one other.
use Rattle.std.specs.Prelude.{ℕ, List}
use Rattle.cfn_model.specs.declared.step.Event.{Event}
use Rattle.cfn_model.specs.Network.{Network}
use Rattle.cfn_consistency.specs.Openness.{HasOpenPair}
use Rattle.cfn_consistency.specs.Consistency.{HasFullSupport}
use Rattle.cfn_incidence.specs.declared.incidence.Place.{Place}

abbrev pub RestsOn : Network → List Event → Place → ℕ → Type 0
RestsOn P history p a = (j : ℕ) → HasOpenPair P history p.function p.place j → HasFullSupport P history p.function p.place j a
