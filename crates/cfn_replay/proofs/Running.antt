-- What the pool with 32 bits for each number does, the pool does.
use Rattle.std.proofs.Common.{◌≡◌, ℕ, ◌≤◌, inl, inr, List, [], ◌∷◌, refl, sym, ap, ◌∙◌, subst, arith}
use Rattle.cfn_model.specs.declared.step.Event.{Event}
use Rattle.cfn_model.specs.Network.{Network}
use Rattle.cfn_model.specs.Tree.{Tree, Open}
use Rattle.std.specs.Prelude.{None}
use Rattle.cfn_machine.specs.Pool.{Out, IsLeaf, Task, Piece, Pool, AreNumbered}
use Rattle.cfn_machine.specs.Steps.{PoolTakes, PoolGives, PoolReturns, Lack, HasNone, Gives, Returns, pool_recalled, pool_swept}
use Rattle.cfn_machine.specs.Word.{all_shares}
use Rattle.cfn_machine.proofs.CallerLemmas.{takes_or_none, never_both, one_task, one_pool, gives_or_not, returns_or_not, opens_numbered}
use Rattle.cfn_record.specs.Entries.{Entry, Took, Gave, Freed, CalledBack, Swept, Follows, Runs}
use Rattle.cfn_record.specs.Lines.{RecordLine}
use Rattle.cfn_record.specs.Replaying.{opening}
use Rattle.cfn_record.specs.Fault.{ComesTo, IsOutTo, KeepsGrant, IsSeen}
use Rattle.cfn_record.proofs.CallerLemmas.{follows_numbered}
use Rattle.cfn_replay.specs.Capping.{cap_path, cap_tree, cap_marked, cap_pool, cap_task, cap_piece}
use Rattle.cfn_replay.proofs.Capping.{leaves_cap, recalled_cap, swept_cap, leaf_cap, leaf_back, takes_cap, gives_cap, returns_cap, lack_cap}

-- numbers of leaves
pub numbered_cap : (pool : Pool) → AreNumbered pool → AreNumbered (cap_pool pool)
numbered_cap pool own = record {
  different = λ n. (let l = leaves_cap n pool.tree in let d = own.different n in omega (arith, l, d));
  fresh = λ n past. leaves_cap n pool.tree ∙ own.fresh n past;
}

pub runs_numbered : (P : Network) (pool new : Pool) (entries : List Entry) → AreNumbered pool → Runs P pool entries new → AreNumbered new
runs_numbered P pool new [] own run = subst AreNumbered (sym run) own
runs_numbered P pool new (entry ∷ entries) own run = runs_numbered P run.0 new entries (follows_numbered P pool run.0 entry own run.1) run.2

pub comes_numbered : (P : Network) (front others : List RecordLine) (pool : Pool) → ComesTo P front others pool → AreNumbered pool
comes_numbered P front others pool comes = runs_numbered P (opening P comes.budget) pool comes.entries (opens_numbered P all_shares comes.budget (Open []) None) comes.run

-- an entry is done, and the pool with 32 bits for each number is left
pub record Done (P : Network) (pool : Pool) (entry : Entry) (held : Pool) : Type 0 where
  pub new : Pool
  pub follows : Follows P pool entry new
  pub is : held ≡ cap_pool new

-- a leaf is taken
pub taken : (P : Network) (pool held : Pool) (worker want : ℕ) (task : Task) → AreNumbered pool → 1 ≤ want → PoolTakes P (cap_pool pool) worker want task held → Done P pool (Took worker want task.leaf task.grant) held
taken P pool held worker want task own wants takes = elim (takes_or_none P pool worker want wants) [
  | inl found ↦
      (let t = takes_cap P pool found.1 worker want found.0 found.2 in
      let same = one_task P (cap_pool pool) (cap_pool found.1) held worker want (cap_task found.0) task (numbered_cap pool own) t takes in
      record { new = found.1; follows = (found.0, found.2, ap (λ (x : Task). x.leaf) same.0, ap (λ (x : Task). x.grant) same.0); is = sym same.1 })
  | inr none ↦ absurd (never_both P (cap_pool pool) held worker want task none.0 takes (lack_cap pool none.0 none.1))
]

pub none_taken : (P : Network) (pool new : Pool) (worker want leaf grant : ℕ) (lack : Lack) → HasNone (cap_pool pool) lack → Follows P pool (Took worker want leaf grant) new → ⊥
none_taken P pool new worker want leaf grant lack none follows =
    never_both P (cap_pool pool) (cap_pool new) worker want (cap_task follows.0) lack (takes_cap P pool new worker want follows.0 follows.1) none

pub other_taken : (P : Network) (pool held new : Pool) (worker want leaf grant : ℕ) (task : Task) → AreNumbered pool → PoolTakes P (cap_pool pool) worker want task held → ((task.leaf ≡ leaf) × (task.grant ≡ grant) → ⊥) →
    Follows P pool (Took worker want leaf grant) new → ⊥
other_taken P pool held new worker want leaf grant task own takes other follows =
    let same = (one_task P (cap_pool pool) (cap_pool new) held worker want (cap_task follows.0) task (numbered_cap pool own) (takes_cap P pool new worker want follows.0 follows.1) takes).0 in
    other (ap (λ (x : Task). x.leaf) (sym same) ∙ follows.2, ap (λ (x : Task). x.grant) (sym same) ∙ follows.3)

-- a leaf is out
pub out_cap : (pool : Pool) (worker leaf grant : ℕ) → IsOutTo pool worker leaf grant → IsOutTo (cap_pool pool) worker leaf grant
out_cap pool worker leaf grant out = (cap_path out.0, leaf_cap pool.tree [] leaf (Out worker grant) out.0 out.1)

pub out_back : (pool : Pool) (worker leaf grant : ℕ) → IsOutTo (cap_pool pool) worker leaf grant → IsOutTo pool worker leaf grant
out_back pool worker leaf grant out = (let b = leaf_back pool.tree [] leaf (Out worker grant) out.0 out.1 in (b.own, b.leaf))

-- a piece is given
abbrev pub task_of : ℕ → ℕ → ℕ → List Event → Task
task_of worker leaf grant path = record { leaf = leaf; worker = worker; grant = grant; floor = 0; path = path }

pub given : (P : Network) (pool held : Pool) (worker leaf grant threshold seen : ℕ) (tree : Tree) → AreNumbered pool → IsOutTo pool worker leaf grant → KeepsGrant grant tree → IsSeen pool threshold seen →
    ((path : List Event) → IsLeaf (cap_marked pool.tree) [] leaf (Out worker grant) path → PoolGives (cap_pool pool) seen (record { task = task_of worker leaf grant path; tree = cap_tree tree; threshold = threshold }) held) →
    Done P pool (Gave worker leaf grant threshold seen tree) held
given P pool held worker leaf grant threshold seen tree own out keeps sees gives =
    let piece : Piece = record { task = task_of worker leaf grant out.0; tree = tree; threshold = threshold } in
    elim (gives_or_not pool seen piece) [
      | inl found ↦
          (let same = one_pool P (cap_pool pool) (cap_pool found.0) held seen (Gives (cap_piece piece)) (numbered_cap pool own) (gives_cap pool found.0 seen piece found.1) (gives (cap_path out.0) (leaf_cap pool.tree [] leaf (Out worker grant) out.0 out.1)) in
          record { new = found.0; follows = (piece, found.1, refl, refl, refl, refl, refl, keeps.0, keeps.1, sees.0, sees.1); is = sym same })
      | inr never ↦ absurd (never out.1)
    ]

-- a leaf is given back
pub freed : (P : Network) (pool held : Pool) (worker leaf grant : ℕ) → AreNumbered pool → IsOutTo pool worker leaf grant → ((path : List Event) → PoolReturns (cap_pool pool) (task_of worker leaf grant path) held) → Done P pool (Freed worker leaf grant) held
freed P pool held worker leaf grant own out returns =
    let task = task_of worker leaf grant out.0 in
    elim (returns_or_not pool task) [
      | inl found ↦
          (let same = one_pool P (cap_pool pool) (cap_pool found.0) held 0 (Returns (cap_task task)) (numbered_cap pool own) (returns_cap pool found.0 task found.1) (returns (cap_path out.0)) in
          record { new = found.0; follows = (task, found.1, refl, refl, refl); is = sym same })
      | inr never ↦ absurd (never out.0 out.1)
    ]

-- all leaves are called back, and free ones swept
pub called_back : (P : Network) (pool held : Pool) → held ≡ pool_recalled (cap_pool pool) → Done P pool CalledBack held
called_back P pool held is = record { new = pool_recalled pool; follows = refl; is = is ∙ ap (λ t. record pool { tree = t }) (sym (recalled_cap pool.tree)) }

pub swept_out : (P : Network) (pool held : Pool) (seen : ℕ) → seen ≤ pool.view.seen → held ≡ pool_swept P (cap_pool pool) seen → Done P pool (Swept seen) held
swept_out P pool held seen sees is = record {
  new = pool_swept P pool seen;
  follows = (refl, sees);
  is = is ∙ ap (λ t. record pool { tree = t; view = record pool.view { seen = seen } }) (sym (swept_cap P seen pool.tree []));
}
