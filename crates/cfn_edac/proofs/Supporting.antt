-- A full support, by the least that live tuples with a value cost together with their other values.
use Rattle.std.proofs.Common.{◌≡◌, ℕ, ◌≤◌, List, ap, ◌∙◌, arith}
use Rattle.std.specs.Prelude.{pos}
use Rattle.cfn_model.specs.declared.step.Event.{Event}
use Rattle.cfn_model.specs.Network.{Network}
use Rattle.cfn_consistency.specs.Consistency.{HasFullSupport}
use Rattle.cfn_dac.specs.declared.pair.Pair.{Pair}
use Rattle.cfn_dac.specs.Moves.{IsLeastTotal}

pub full_by : (P : Network) (history : List Event) (pair : Pair) (a least : ℕ) → least ≤ 0 → IsLeastTotal P history pair a least → HasFullSupport P history pair.function pair.place pair.other a
full_by P history pair a least none is =
    let found = is.reached (omega (arith, none)) in
    let e : least ≡ 0 = omega (arith, none) in
    record { tuple = found.0; fits = found.1.fits; at = found.1.value; live = found.1.live; free = found.2 ∙ ap pos e }
