-- A record that is kept stays kept, and what room it has after an entry.
use Rattle.std.proofs.Common.{◌≡◌, ℕ, ◌≤◌, Option, Some, None, refl, sym, ap, subst, arith}
use Rattle.std.specs.Prelude.{is_some}
use Rattle.cfn_record.specs.Entries.{Entry, Took, Gave, Freed, CalledBack, Swept}
use Rattle.cfn_leaves.specs.declared.taking.Taken.{Taken}
use Rattle.cfn_leaves.specs.declared.taking.Taken.TheVariants.{Given, Empty, Spent, Again, Memory}
use Rattle.cfn_pool.specs.Recorded.{RecordingValue, Adds, AddsTaken, HasSpare, spare_after}

grows : (entry : Entry) (n m : ℕ) → n ≤ m → spare_after entry n ≤ spare_after entry m
grows (Took worker want leaf grant) n m few = few
grows (Gave worker leaf grant threshold seen tree) n m few = omega (arith, few)
grows (Freed worker leaf grant) n m few = omega (arith, few)
grows CalledBack n m few = omega (arith, few)
grows (Swept seen) n m few = omega (arith, few)

pub still : (old new : Option RecordingValue) (entry : Entry) → Adds old entry new → is_some new ≡ is_some old
still None None entry adds = refl
still None (Some more) entry adds = absurd adds
still (Some r) None entry adds = absurd adds
still (Some r) (Some more) entry adds = refl

pub spares : (old new : Option RecordingValue) (entry : Entry) (n : ℕ) → Adds old entry new → HasSpare n old → HasSpare (spare_after entry n) new
spares None None entry n adds few = tt
spares None (Some more) entry n adds few = absurd adds
spares (Some r) None entry n adds few = absurd adds
spares (Some r) (Some more) entry n adds few = subst (λ s. spare_after entry n ≤ s) (sym adds.spare_is) (grows entry n r.spare few)

pub still_taken : (old new : Option RecordingValue) (worker want : ℕ) (taken : Taken) → AddsTaken old worker want taken new → is_some new ≡ is_some old
still_taken old new worker want (Given task) adds = still old new (Took worker want task.task.leaf task.task.grant) adds
still_taken old new worker want Empty adds = ap is_some adds
still_taken old new worker want Spent adds = ap is_some adds
still_taken old new worker want Again adds = ap is_some adds
still_taken old new worker want Memory adds = ap is_some adds

pub spares_taken : (old new : Option RecordingValue) (worker want n : ℕ) (taken : Taken) → AddsTaken old worker want taken new → HasSpare n old → HasSpare n new
spares_taken old new worker want n (Given task) adds few = spares old new (Took worker want task.task.leaf task.task.grant) n adds few
spares_taken old new worker want n Empty adds few = subst (HasSpare n) (sym adds) few
spares_taken old new worker want n Spent adds few = subst (HasSpare n) (sym adds) few
spares_taken old new worker want n Again adds few = subst (HasSpare n) (sym adds) few
spares_taken old new worker want n Memory adds few = subst (HasSpare n) (sym adds) few
