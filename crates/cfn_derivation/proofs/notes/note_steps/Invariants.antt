use Rattle.std.proofs.Common.{◌≡◌, ℕ, take}
use Rattle.cfn_model.specs.Steps.{after}
use Rattle.cfn_derivation.specs.Watched.{TouchedAre, CostlyAre}
use Rattle.cfn_derivation.proofs.notes.note_steps.Given as goal

abbrev pub invariant-loop-i : goal.invariant-loop-i
invariant-loop-i l = record {
  touched_size : l.touched.size ≡ l.initial.touched.size;
  costly_size : l.costly.size ≡ l.initial.costly.size;
  functions : TouchedAre l.store.network (after (take l.start l.store.block) l.store.base) l.initial.touched.items → TouchedAre l.store.network (after (take l.i l.store.block) l.store.base) l.touched.items;
  variables : (q : ℕ) → CostlyAre l.store.network (after (take l.start l.store.block) l.store.base) q l.initial.costly.items → CostlyAre l.store.network (after (take l.i l.store.block) l.store.base) q l.costly.items;
}
