-- Each call on the leaves is an action of the world.
use Rattle.std.proofs.Common.{◌≡◌, ℕ, List, refl, ap, ap₂, subst, None, ◌∷◌}
use Rattle.std.specs.Prelude.{slice_set}
use Rattle.cfn_model.specs.Network.{Network}
use Rattle.cfn_machine.specs.Pool.{Task, View}
use Rattle.cfn_machine.specs.Steps.{PoolTakes, Lack, HasNone, IsOut, PoolGives, IsNotOut, PoolReturns, PoolRecalls, PoolSweeps}
use Rattle.cfn_leaves.specs.Value.{Holding as Leaves, pool_of}
use Rattle.cfn_leaves.specs.Answers.{Hands}
use Rattle.cfn_explore.specs.Values.{TaskValue, PieceValue, piece_of}
use Rattle.cfn_core.specs.Actions.{Acts, Take, Give, Back, Recall, Sweep, Given, Gone, NotOut, Done, IsThere, CanTake, CanGive, none_reply, take_none, take_task, give_gone, give_done, back_not, back_done, without}
use Rattle.cfn_core.specs.Machine.{Machine, world_of}

module _ (m : Machine) (own : m.leaves.network ≡ m.network) where
  pub handed_out : (worker want : ℕ) (task : TaskValue) (leaves : Leaves) (hands : List Task) → CanTake (world_of m) worker want → Hands m.leaves worker want task leaves → hands ≡ task.task ∷ m.hands →
      Acts m.network (world_of m) (Take worker want) (Given task.task) (world_of (record m { leaves = leaves; hands = hands }))
  handed_out worker want task leaves hands can out is =
      take_task task.task (pool_of leaves m.view) can (subst (λ (P : Network). PoolTakes P (pool_of m.leaves m.view) worker want task.task (pool_of leaves m.view)) own (out.takes m.view))
      (record { reply = refl; world = ap (λ (h : List Task). world_of (record m { leaves = leaves; hands = h })) is })

  pub closed_free : (leaves : Leaves) → ((view : View) → PoolSweeps m.leaves.network (pool_of m.leaves view) m.word (pool_of leaves (record view { seen = m.word }))) →
      Acts m.network (world_of m) Sweep Done (world_of (record m { leaves = leaves; view = record m.view { seen = m.word } }))
  closed_free leaves sweeps = record {
    reply = refl;
    world = ap (λ pool. record (world_of m) { pool = pool }) (subst (λ (P : Network). PoolSweeps P (pool_of m.leaves m.view) m.word (pool_of leaves (record m.view { seen = m.word }))) own (sweeps m.view));
  }

module _ (m : Machine) where
  pub none_handed : (worker want : ℕ) (lack : Lack) (leaves : Leaves) (hands : List Task) → CanTake (world_of m) worker want → leaves ≡ m.leaves → hands ≡ m.hands → ((view : View) → HasNone (pool_of m.leaves view) lack) →
      Acts m.network (world_of m) (Take worker want) (none_reply lack) (world_of (record m { leaves = leaves; hands = hands }))
  none_handed worker want lack leaves hands can same held none = take_none lack can (none m.view) (record { reply = refl; world = ap₂ (λ (l : Leaves) (h : List Task). world_of (record m { leaves = l; hands = h })) same held })

  pub put_in : (piece : PieceValue) (note : ℕ) (leaves : Leaves) (hands : List Task) → CanGive (world_of m) (piece_of piece) note →
      ((view : View) (word : ℕ) → PoolGives (pool_of m.leaves view) word (piece_of piece) (pool_of leaves (record view { seen = word }))) → hands ≡ without piece.task.leaf m.hands →
      Acts m.network (world_of m) (Give (piece_of piece) note) Done (world_of (record m { leaves = leaves; view = record m.view { seen = m.word }; notes = slice_set m.notes note None; hands = hands }))
  put_in piece note leaves hands can gives is =
      give_done (pool_of leaves (record m.view { seen = m.word })) can (gives m.view m.word)
      (record { reply = refl; world = ap (λ (h : List Task). world_of (record m { leaves = leaves; view = record m.view { seen = m.word }; notes = slice_set m.notes note None; hands = h })) is })

  pub gone : (piece : PieceValue) (note : ℕ) (leaves : Leaves) → CanGive (world_of m) (piece_of piece) note → leaves ≡ m.leaves → ((view : View) → IsOut (pool_of m.leaves view) piece.task → ⊥) →
      Acts m.network (world_of m) (Give (piece_of piece) note) Gone (world_of (record m { leaves = leaves }))
  gone piece note leaves can same none = give_gone can (none m.view) (record { reply = refl; world = ap (λ (l : Leaves). world_of (record m { leaves = l })) same })

  pub given_back : (task : Task) (leaves : Leaves) (hands : List Task) → IsThere (world_of m) task.worker → ((view : View) → PoolReturns (pool_of m.leaves view) task (pool_of leaves view)) → hands ≡ without task.leaf m.hands →
      Acts m.network (world_of m) (Back task) Done (world_of (record m { leaves = leaves; hands = hands }))
  given_back task leaves hands there returns is =
      back_done (pool_of leaves m.view) there (returns m.view) (record { reply = refl; world = ap (λ (h : List Task). world_of (record m { leaves = leaves; hands = h })) is })

  pub not_out : (task : Task) (leaves : Leaves) → IsThere (world_of m) task.worker → leaves ≡ m.leaves → ((view : View) → IsNotOut (pool_of m.leaves view) task) →
      Acts m.network (world_of m) (Back task) NotOut (world_of (record m { leaves = leaves }))
  not_out task leaves there same none = back_not there (none m.view) (record { reply = refl; world = ap (λ (l : Leaves). world_of (record m { leaves = l })) same })

  pub called_back : (leaves : Leaves) → ((view : View) → PoolRecalls (pool_of m.leaves view) (pool_of leaves view)) → Acts m.network (world_of m) Recall Done (world_of (record m { leaves = leaves }))
  called_back leaves recalls = record { reply = refl; world = ap (λ pool. record (world_of m) { pool = pool }) (recalls m.view) }
