-- One list of entries makes one pool of a pool.
use Rattle.std.proofs.Common.{◌≡◌, ℕ, ◌≤◌, List, [], ◌∷◌, refl, sym, ap, ◌∙◌, subst, arith}
use Rattle.cfn_model.specs.declared.step.Event.{Event}
use Rattle.cfn_model.specs.Network.{Network}
use Rattle.cfn_model.specs.Tree.{Tree, Open}
use Rattle.std.specs.Prelude.{None}
use Rattle.cfn_machine.specs.Pool.{Out, Task, Piece, Pool, View, leaves_with, AreNumbered, opening_pool}
use Rattle.cfn_machine.specs.Steps.{PoolGives, PoolReturns, Takes, Gives, Returns, Recalls, Sweeps}
use Rattle.cfn_machine.proofs.CallerLemmas.{keeps_numbered, opens_numbered, gives_out, one_path, one_task, one_pool}
use Rattle.cfn_record.specs.Entries.{Entry, Took, Gave, Freed, CalledBack, Swept, Follows, IsAlike, IsSame}
use Rattle.cfn_record.specs.Laws.{FollowsNumbered, OneRun, OneEnd}
use Rattle.cfn_record.proofs.Following.{seen_after, left_by, follows_too, seen_is}

pub follows_numbered : FollowsNumbered
follows_numbered P pool new (Took worker want leaf grant) own step = keeps_numbered P pool new 0 (Takes worker want step.0) own step.1
follows_numbered P pool new (Gave worker leaf grant threshold seen tree) own step = keeps_numbered P pool new seen (Gives step.0) own step.1
follows_numbered P pool new (Freed worker leaf grant) own step = keeps_numbered P pool new 0 (Returns step.0) own step.1
follows_numbered P pool new CalledBack own step = keeps_numbered P pool new 0 Recalls own step
follows_numbered P pool new (Swept seen) own step = keeps_numbered P pool new seen Sweeps own step.0

-- a task and a piece by what an entry says of them; a task's floor is not looked at where a piece is given or a task given back
abbrev task_of : ℕ → ℕ → ℕ → List Event → Task
task_of worker leaf grant path = record { leaf = leaf; worker = worker; grant = grant; floor = 0; path = path }

abbrev piece_of : ℕ → ℕ → ℕ → ℕ → Tree → List Event → Piece
piece_of worker leaf grant threshold tree path = record { task = task_of worker leaf grant path; tree = tree; threshold = threshold }

plain_give : (pool new : Pool) (worker leaf grant threshold seen : ℕ) (tree : Tree) (piece : Piece) → piece.task.worker ≡ worker → piece.task.leaf ≡ leaf → piece.task.grant ≡ grant → piece.threshold ≡ threshold → piece.tree ≡ tree
    → PoolGives pool seen piece new → PoolGives pool seen (piece_of worker leaf grant threshold tree piece.task.path) new
plain_give pool new worker leaf grant threshold seen tree piece w l g k t gives =
    let own : PoolGives pool seen (piece_of piece.task.worker piece.task.leaf piece.task.grant piece.threshold piece.tree piece.task.path) new = record { tree = gives.tree; placed = gives.placed; left = gives.left } in
    let same : piece_of piece.task.worker piece.task.leaf piece.task.grant piece.threshold piece.tree piece.task.path ≡ piece_of worker leaf grant threshold tree piece.task.path = cc in
    subst (λ p. PoolGives pool seen p new) same own

plain_return : (pool new : Pool) (worker leaf grant : ℕ) (task : Task) → task.worker ≡ worker → task.leaf ≡ leaf → task.grant ≡ grant → PoolReturns pool task new → PoolReturns pool (task_of worker leaf grant []) new
plain_return pool new worker leaf grant task w l g back =
    let own : PoolReturns pool (task_of task.worker task.leaf task.grant []) new = record { path = back.path; tree = back.tree; freed = back.freed; left = back.left } in
    let same : task_of task.worker task.leaf task.grant [] ≡ task_of worker leaf grant [] = cc in
    subst (λ t. PoolReturns pool t new) same own

-- an entry makes one pool
pub follows_once : (P : Network) (pool new another : Pool) (entry : Entry) → AreNumbered pool → Follows P pool entry new → Follows P pool entry another → new ≡ another
follows_once P pool new another (Took worker want leaf grant) own a b = (one_task P pool new another worker want a.0 b.0 own a.1 b.1).1
follows_once P pool new another (Gave worker leaf grant threshold seen tree) own a b =
    let mine = plain_give pool new worker leaf grant threshold seen tree a.0 a.2 a.3 a.4 a.5 a.6 a.1 in
    let other = plain_give pool another worker leaf grant threshold seen tree b.0 b.2 b.3 b.4 b.5 b.6 b.1 in
    let here = gives_out pool new seen (piece_of worker leaf grant threshold tree a.0.task.path) mine in
    let there = gives_out pool another seen (piece_of worker leaf grant threshold tree b.0.task.path) other in
    let paths : b.0.task.path ≡ a.0.task.path = (one_path leaf (Out worker grant) (Out worker grant) b.0.task.path a.0.task.path pool.tree [] (own.different leaf) there here).1 in
    one_pool P pool new another seen (Gives (piece_of worker leaf grant threshold tree a.0.task.path)) own mine (subst (λ p. PoolGives pool seen (piece_of worker leaf grant threshold tree p) another) paths other)
follows_once P pool new another (Freed worker leaf grant) own a b =
    one_pool P pool new another 0 (Returns (task_of worker leaf grant [])) own (plain_return pool new worker leaf grant a.0 a.2 a.3 a.4 a.1) (plain_return pool another worker leaf grant b.0 b.2 b.3 b.4 b.1)
follows_once P pool new another CalledBack own a b = a ∙ sym b
follows_once P pool new another (Swept seen) own a b = a.0 ∙ sym b.0

pub alike : (pool other : Pool) → IsSame pool other → IsAlike pool other
alike pool other s = record { tree = s.tree; next = s.next; budget = s.budget; nodes = s.nodes; seen = (let e = s.seen in omega (arith, e)) }

pub turned : (pool other : Pool) → IsSame pool other → IsSame other pool
turned pool other s = record { tree = sym s.tree; next = sym s.next; budget = sym s.budget; nodes = sym s.nodes; seen = sym s.seen }

seen_same : (entry : Entry) (view other : View) → other.seen ≡ view.seen → (seen_after entry other).seen ≡ (seen_after entry view).seen
seen_same (Took worker want leaf grant) view other e = e
seen_same (Gave worker leaf grant threshold seen tree) view other e = refl
seen_same (Freed worker leaf grant) view other e = e
seen_same CalledBack view other e = e
seen_same (Swept seen) view other e = refl

numbered_too : (pool other : Pool) → IsSame pool other → AreNumbered pool → AreNumbered other
numbered_too pool other s own = record {
  different = λ n. subst (λ t. leaves_with n t ≤ 1) (sym s.tree) (own.different n);
  fresh = λ n le. subst (λ t. leaves_with n t ≡ 0) (sym s.tree) (own.fresh n (subst (λ x. x ≤ n) s.next le));
}

-- and it makes of the same pools the same ones
pub same_after : (P : Network) (pool other new left : Pool) (entry : Entry) → AreNumbered pool → IsSame pool other → Follows P pool entry new → Follows P other entry left → IsSame new left
same_after P pool other new left entry own same a b =
    let its : left_by entry new other ≡ left = follows_once P other (left_by entry new other) left entry (numbered_too pool other same own) (follows_too P pool new other entry a (alike pool other same)) b in
    subst (λ p. IsSame new p) its (record {
      tree = refl;
      next = refl;
      budget = refl;
      nodes = refl;
      seen = seen_same entry pool.view other.view same.seen ∙ sym (ap (λ (v : View). v.seen) (seen_is P pool new entry a));
    })

pub one_run : OneRun
one_run P pool other new left [] own same a b = subst (λ p. IsSame p left) (sym a) (subst (λ p. IsSame pool p) (sym b) same)
one_run P pool other new left (entry ∷ entries) own same a b =
    one_run P a.0 b.0 new left entries (follows_numbered P pool a.0 entry own a.1) (same_after P pool other a.0 b.0 entry own same a.1 b.1) a.2 b.2

pub one_end : OneEnd
one_end P shares others budget entries new left a b =
    one_run P (opening_pool P shares budget) (opening_pool P others budget) new left entries (opens_numbered P shares budget (Open []) None) (record { tree = refl; next = refl; budget = refl; nodes = refl; seen = refl }) a b
