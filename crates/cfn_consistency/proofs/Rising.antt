-- What holds at a threshold holds at every greater one.
use Rattle.std.proofs.Common.{◌≡◌, ℕ, ◌≤◌, inl, inr, arith}
use Rattle.std.proofs.lemmas.Int.{ints}
use Rattle.std.specs.Prelude.{ℤ, pos, ◌+ℤ◌, ◌<ℤ◌, Bool, true, false}
use Rattle.cfn_model.specs.Sums.{floor, unary, is_live}
use Rattle.cfn_model.proofs.CallerLemmas.{close_lower}
use Rattle.cfn_consistency.specs.Laws.{NodesRise, ArcsRise, DirectionalsRise, ExistentialsRise, FullsRise, DeadFalls, NeverBoth}

less : (z : ℤ) (k greater : ℕ) → k ≤ greater → z <ℤ pos k → z <ℤ pos greater
less z k greater le h = omega (arith, ints)

pub nodes_rise : NodesRise
nodes_rise P history k greater le nodes = record { below = λ x a value live. less _ k greater le (nodes.below x a value live); free = nodes.free }

pub arcs_rise : ArcsRise
arcs_rise P history k greater le are = record { nodes = nodes_rise P history k greater le are.nodes; functions = are.functions }

pub directionals_rise : DirectionalsRise
directionals_rise P history k greater le are = record { nodes = nodes_rise P history k greater le are.nodes; functions = are.functions }

pub existentials_rise : ExistentialsRise
existentials_rise P history k greater le are = record { nodes = nodes_rise P history k greater le are.nodes; variables = are.variables }

pub fulls_rise : FullsRise
fulls_rise P history k greater le are = record {
  arc = arcs_rise P history k greater le are.arc;
  directional = directionals_rise P history k greater le are.directional;
  existential = existentials_rise P history k greater le are.existential;
}

pub dead_falls : DeadFalls
dead_falls P history k smaller le dead = close_lower P history k smaller le dead

no_more : (k n : ℕ) (u : ℤ) → k ≤ n → u ≡ pos 0 → (pos n +ℤ u) <ℤ pos k → ⊥
no_more k n u reached none below = absurd (omega (arith, ints, none))

not_both : (b : Bool) → b ≡ true → b ≡ false → ⊥
not_both true h k = absurd cc
not_both false h k = absurd cc

pub never_both : NeverBoth
never_both P history k network nodes (inl reached) =
    let first = nodes.free 0 network.some in
    let free = first.1 in
    no_more k (floor P history) (unary P history 0 first.0) reached free.free (nodes.below 0 first.0 free.value free.live)
never_both P history k network nodes (inr wiped) =
    let some = nodes.free wiped.0 wiped.1 in
    let free = some.1 in
    not_both (is_live history wiped.0 some.0) free.live (wiped.2 some.0 free.value.value)
