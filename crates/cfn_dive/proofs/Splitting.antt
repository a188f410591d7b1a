-- A decision that splits a store is in range, and strict.
use Rattle.std.proofs.Common.{ℕ, ◌<◌, ◌≤◌, arith}
use Rattle.std.proofs.lemmas.Bool.Decides.{nat_tests}
use Rattle.std.specs.Prelude.{nat_le, IsTrue, IsFalse}
use Rattle.cfn_model.specs.declared.step.Decision.{Decision}
use Rattle.cfn_model.specs.declared.step.Decision.TheVariants.{Is, Most}
use Rattle.cfn_model.specs.Steps.{IsDecision}
use Rattle.cfn_model.specs.Tree.{IsStrictSplit}
use Rattle.cfn_store.specs.Standing.{Standing, history}
use Rattle.cfn_branch.specs.Choosing.{IsSplit}
use Rattle.cfn_dive.proofs.Strict.{strict_here}

at_most : (a v : ℕ) → a ≤ v → IsTrue (nat_le a v)
at_most a v h = grind (arith, nat_tests)

above : (a v : ℕ) → v < a → IsFalse (nat_le a v)
above a v h = grind (arith, nat_tests)

pub split_decision : (s : Standing) (d : Decision) → IsSplit s d → IsDecision s.network d
split_decision s (Is x a) split = split.0.value
split_decision s (Most x v) split = record {
  variable = split.1.1.value.variable;
  value = (let below = split.1.1.value.value in let more = split.1.2 in omega (arith, below, more));
}

pub split_strict : (s : Standing) (d : Decision) → IsSplit s d → IsStrictSplit s.network (history s) d
split_strict s (Is x a) split = strict_here s x a (record { there = split.0.value.variable; undecided = split.1 }) split.0
split_strict s (Most x v) split = record {
  first = (split.0.0, split.0.1.value.value, at_most split.0.0 v split.0.2, split.0.1.live);
  second = (split.1.0, split.1.1.value.value, above split.1.0 v split.1.2, split.1.1.live);
}
