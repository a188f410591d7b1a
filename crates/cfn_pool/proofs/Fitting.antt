-- The numbers of what is recorded have a spelling.
use Rattle.std.proofs.Common.{◌≡◌, ℕ, ◌≤◌, ◌^◌, List, [], ◌∷◌, Option, Some, None, IfSome, ap, arith}
use Rattle.cfn_model.specs.declared.step.Event.{Event}
use Rattle.cfn_model.specs.declared.limits.TheConstants.{GREATEST}
use Rattle.cfn_model.specs.Network.{Network}
use Rattle.cfn_machine.specs.Pool.{Free, Out, Pool, Task, IsLeaf, View}
use Rattle.cfn_machine.specs.Laws.{IsPool}
use Rattle.cfn_record.specs.Lines.{AreSpelled}
use Rattle.cfn_explore.specs.Values.{PieceValue}
use Rattle.cfn_leaves.specs.Value.{Holding as Leaves, pool_of}
use Rattle.cfn_leaves.specs.Answers as leaves
use Rattle.cfn_leaves.specs.declared.taking.Taken.{Taken}
use Rattle.cfn_leaves.specs.declared.taking.Taken.TheVariants.{Given, Empty, Spent, Again, Memory}
use Rattle.cfn_pool.specs.declared.recording.PieceCopy.{PieceCopy}
use Rattle.cfn_pool.specs.Recorded.{RecordingValue, IsCopied, IsSpelledTaken}
use Rattle.cfn_pool.specs.Views.{IsRecorded}
use Rattle.cfn_pool.proofs.Counting.{number_below, out_counts}

module _ (P : Network) (pool : Pool) (n worker grant : ℕ) (path : List Event) (at : IsLeaf pool.tree [] n (Out worker grant) path) where
  -- where a leaf is out, one is counted
  pub out_some : (r : Option RecordingValue) → IfSome r (IsRecorded P pool) → IfSome r (λ v. 1 ≤ v.out)
  out_some None is = tt
  out_some (Some r) is = let some = (out_counts pool.tree [] n worker grant path at).0 in let counted = is.counted in omega (arith, some, counted)

  -- its number is below those that are counted, and its grant is within the budget
  pub out_spelled : (r : Option RecordingValue) → IsPool P pool → pool.next ≤ 2 ^ 32 → IfSome r (IsRecorded P pool) → IfSome r (λ v. AreSpelled (n ∷ grant ∷ []))
  out_spelled None sound few is = tt
  out_spelled (Some r) sound few is =
      let below = number_below pool n (Out worker grant) path sound.numbered at in
      let less = (out_counts pool.tree [] n worker grant path at).1 in
      let within = sound.sound.within in
      let budget = is.budget in
      (omega (arith, below, few), (omega (arith, less, within, budget), tt))

-- the numbers of a copy are its piece's
pub copy_spelled : (r : Option RecordingValue) (copy : Option PieceCopy) (piece : PieceValue) (seen : ℕ) → IsCopied r piece copy → IfSome r (λ v. AreSpelled (piece.task.leaf ∷ piece.task.grant ∷ [])) → piece.threshold ≤ GREATEST → seen ≤ GREATEST
    → IfSome copy (λ c. AreSpelled (c.leaf ∷ c.grant ∷ c.threshold ∷ seen ∷ []))
copy_spelled r None piece seen is spelled top low = tt
copy_spelled None (Some c) piece seen is spelled top low = absurd (let no : Some c ≡ None = is in cc)
copy_spelled (Some r) (Some c) piece seen is spelled top low =
    let leaf = is.leaf in
    let grant = is.grant in
    let threshold = is.threshold in
    let first = spelled.0 in
    let second = spelled.1.0 in
    (omega (arith, leaf, first), (omega (arith, grant, second), (omega (arith, threshold, top), (omega (arith, low), tt))))

-- what holds where something is recorded
pub where_recorded : {One Other : Type 0} (o : Option RecordingValue) → (One → Other) → IfSome o (λ r. One) → IfSome o (λ r. Other)
where_recorded None on holds = tt
where_recorded (Some r) on holds = on holds

-- so have those of a leaf that was taken
pub taken_spelled : (old new : Leaves) (view : View) (worker want : ℕ) (taken : Taken) → IsPool old.network (pool_of old view) → (pool_of old view).next ≤ 2 ^ 32 → want ≤ GREATEST → leaves.Takes old worker want taken new → IsSpelledTaken want taken
taken_spelled old new view worker want (Given task) sound few most takes =
    let step = takes.takes view in
    let below = number_below (pool_of old view) task.task.leaf Free task.task.path sound.numbered step.first.leaf in
    let grant = ap (λ (t : Task). t.grant) step.handed in
    (omega (arith, most), (omega (arith, below, few), (omega (arith, grant, most), tt)))
taken_spelled old new view worker want Empty sound few most takes = tt
taken_spelled old new view worker want Spent sound few most takes = tt
taken_spelled old new view worker want Again sound few most takes = tt
taken_spelled old new view worker want Memory sound few most takes = tt
