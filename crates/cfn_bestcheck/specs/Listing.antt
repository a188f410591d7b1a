-- Listed assignments, as a checker keeps them.
use Rattle.std.specs.Prelude.{◌≡◌, List, length, map, Option, Some, None}
use Rattle.std.specs.List.{AllByRecursion}
use Rattle.cfn_model.specs.Network.{Network}
use Rattle.cfn_model.specs.Certificate.{Solution}
use Rattle.cfn_best.specs.Fault.{IsNext}
use Rattle.cfn_bestcheck.specs.declared.entry.Entry.{Entry}

abbrev pub solution_of : Entry → Solution
solution_of entry = record { cost = entry.cost; values = entry.values.items }

abbrev pub solutions_of : List Entry → List Solution
solutions_of entries = map solution_of entries

-- Each has a value for every variable.
abbrev pub AreLong : Network → List Entry → Type 0
AreLong P entries = AllByRecursion (λ entry. length entry.values.items ≡ length P.sizes) entries

-- What a cost and values come to behind a list: its next assignment, or they are none.
abbrev pub IsPriced : Network → List Solution → Solution → Option Entry → Type 0
IsPriced P list s None = IsNext P list s → ⊥
IsPriced P list s (Some entry) = IsNext P list s × (solution_of entry ≡ s)
