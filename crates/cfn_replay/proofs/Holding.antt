-- An entry that is done to the leaves is done to the pool that they stand for.
use Rattle.std.proofs.Common.{◌≡◌, ◌≢◌, ℕ, ◌≤◌, List, [], refl, sym, ap, ◌∙◌, subst, Bool, true, false, nat_eq, eqb-true}
use Rattle.std.specs.Prelude.{IsTrue, IsFalse, MatchBool}
use Rattle.cfn_model.proofs.CallerLemmas.{eqb_same}
use Rattle.cfn_model.specs.declared.step.Event.{Event}
use Rattle.cfn_model.specs.Network.{Network}
use Rattle.cfn_proof.specs.declared.tree.Node.{Node}
use Rattle.cfn_proof.specs.Nodes.{tree_of}
use Rattle.cfn_machine.specs.Pool.{Free, Out, Leaf, IsLeaf, View, Pool, AreNumbered}
use Rattle.cfn_machine.specs.Steps.{PoolTakes, PoolGives, PoolReturns, PoolRecalls, PoolSweeps, HasNone}
use Rattle.cfn_machine.proofs.CallerLemmas.{replaced_leaf}
use Rattle.cfn_leaves.specs.Handing.{HandsLeaf, reason_of}
use Rattle.cfn_leaves.specs.declared.handing.Lent.{Lent}
use Rattle.cfn_leaves.specs.declared.handing.Lack.{Lack}
use Rattle.cfn_leaves.specs.declared.placed.Placed.{Placed}
use Rattle.cfn_leaves.specs.declared.placed.Placed.TheVariants as placing
use Rattle.cfn_leaves.specs.Out as leaves
use Rattle.cfn_leaves.specs.Out.{Puts, PutsIn, task_at, piece_at}
use Rattle.cfn_leaves.specs.Value.{Holding, pool_of, pool_tree}
use Rattle.cfn_record.specs.Entries.{Entry, Took, Gave, Freed, CalledBack, Swept}
use Rattle.cfn_record.specs.Fault.{IsOutTo}
use Rattle.cfn_record.proofs.CallerLemmas.{follows_numbered}
use Rattle.cfn_replay.specs.Capping.{cap_marked, cap_pool}
use Rattle.cfn_replay.specs.Doing.{IsHeld, Does, Never, DoesGive, is_done}
use Rattle.cfn_replay.proofs.Running.{Done, taken, none_taken, other_taken, out_cap, out_back, given, freed, called_back, swept_out}

-- what is done leaves such a pool
held : (P : Network) (pool : Pool) (entry : Entry) (h : Holding) (view : View) → AreNumbered pool → h.network ≡ P → Done P pool entry (pool_of h view) → Does P pool entry h
held P pool entry h view own network done =
    let same : view ≡ done.new.view = ap (λ (p : Pool). p.view) done.is in
    record { new = done.new; follows = done.follows; held = record { network = network; own = follows_numbered P pool done.new entry own done.follows; is = ap (pool_of h) (sym same) ∙ done.is } }

module _ (P : Network) (pool : Pool) (old new : Holding) (is : IsHeld P pool old) (network : new.network ≡ old.network) where
  taken_so : (worker want : ℕ) (lent : Lent) → (h : HandsLeaf old worker want lent new) → PoolTakes P (cap_pool pool) worker want h.task (pool_of new pool.view)
  taken_so worker want lent h =
      subst (λ N. PoolTakes N (cap_pool pool) worker want h.task (pool_of new pool.view)) is.network (subst (λ p. PoolTakes old.network p worker want h.task (pool_of new pool.view)) is.is (h.takes pool.view))

  pub take_done : (worker want leaf grant : ℕ) (lent : Lent) → 1 ≤ want → HandsLeaf old worker want lent new → lent.leaf ≡ leaf → lent.grant ≡ grant → Does P pool (Took worker want leaf grant) new
  take_done worker want leaf grant lent wants h same_leaf same_grant =
      let done = taken P pool (pool_of new pool.view) worker want h.task is.own wants (taken_so worker want lent h) in
      let does = held P pool (Took worker want h.task.leaf h.task.grant) new pool.view is.own (network ∙ is.network) done in
      subst (λ n. Does P pool (Took worker want n grant) new) (h.leaf ∙ same_leaf) (subst (λ g. Does P pool (Took worker want h.task.leaf g) new) (h.grant ∙ same_grant) does)

  pub take_other : (worker want leaf grant : ℕ) (lent : Lent) → HandsLeaf old worker want lent new → ((lent.leaf ≡ leaf) × (lent.grant ≡ grant) → ⊥) → Never P pool (Took worker want leaf grant)
  take_other worker want leaf grant lent h other another follows =
      other_taken P pool (pool_of new pool.view) another worker want leaf grant h.task is.own (taken_so worker want lent h) (λ same. other (sym h.leaf ∙ same.0, sym h.grant ∙ same.1)) follows

  -- a leaf is given back, all are called back, free ones are swept
  pub back_done : (worker leaf grant : ℕ) → leaves.IsOutTo old leaf worker grant → ((view : View) (floor : ℕ) (path : List Event) → PoolReturns (pool_of old view) (task_at leaf worker grant floor path) (pool_of new view)) → Does P pool (Freed worker leaf grant) new
  back_done worker leaf grant out returns =
      let out' : IsOutTo pool worker leaf grant = out_back pool worker leaf grant (subst (λ (p : Pool). IsOutTo p worker leaf grant) is.is out) in
      held P pool (Freed worker leaf grant) new pool.view is.own (network ∙ is.network)
      (freed P pool (pool_of new pool.view) worker leaf grant is.own out' (λ path. subst (λ p. PoolReturns p (task_at leaf worker grant 0 path) (pool_of new pool.view)) is.is (returns pool.view 0 path)))

  pub recall_done : ((view : View) → PoolRecalls (pool_of old view) (pool_of new view)) → Does P pool CalledBack new
  recall_done recalls = held P pool CalledBack new pool.view is.own (network ∙ is.network) (called_back P pool (pool_of new pool.view) (subst (λ p. PoolRecalls p (pool_of new pool.view)) is.is (recalls pool.view)))

  pub sweep_done : (seen : ℕ) → seen ≤ pool.view.seen → ((view : View) → PoolSweeps old.network (pool_of old view) seen (pool_of new (record view { seen = seen }))) → Does P pool (Swept seen) new
  sweep_done seen sees sweeps =
      let view : View = record pool.view { seen = seen } in
      held P pool (Swept seen) new view is.own (network ∙ is.network)
      (swept_out P pool (pool_of new view) seen sees (subst (λ N. PoolSweeps N (cap_pool pool) seen (pool_of new view)) is.network (subst (λ p. PoolSweeps old.network p seen (pool_of new view)) is.is (sweeps pool.view))))

-- no leaf is handed out
pub take_none : (P : Network) (pool : Pool) (old : Holding) (worker want leaf grant : ℕ) (lack : Lack) → IsHeld P pool old → ((view : View) → HasNone (pool_of old view) (reason_of lack)) → Never P pool (Took worker want leaf grant)
take_none P pool old worker want leaf grant lack is none new follows = none_taken P pool new worker want leaf grant (reason_of lack) (subst (λ p. HasNone p (reason_of lack)) is.is (none pool.view)) follows

-- a leaf is out
pub out_there : (P : Network) (pool : Pool) (h : Holding) (worker leaf grant : ℕ) → IsHeld P pool h → leaves.IsOutTo h leaf worker grant → IsOutTo pool worker leaf grant
out_there P pool h worker leaf grant is out = out_back pool worker leaf grant (subst (λ (p : Pool). IsOutTo p worker leaf grant) is.is out)

pub out_held : (P : Network) (pool : Pool) (h : Holding) (worker leaf grant : ℕ) → IsHeld P pool h → IsOutTo pool worker leaf grant → leaves.IsOutTo h leaf worker grant
out_held P pool h worker leaf grant is out = subst (λ (p : Pool). IsOutTo p worker leaf grant) (sym is.is) (out_cap pool worker leaf grant out)

-- a piece is given
pub give_done : (old new : Holding) (worker leaf grant : ℕ) (nodes : List Node) → new.network ≡ old.network → PutsIn old leaf worker grant (tree_of nodes) new → DoesGive old worker leaf grant nodes new
give_done old new worker leaf grant nodes network puts P pool threshold seen tree is tree_is keeps sees =
    let view : View = record pool.view { seen = seen } in
    let out = out_there P pool old worker leaf grant is puts.out in
    let same : pool_tree old ≡ cap_marked pool.tree = ap (λ (p : Pool). p.tree) is.is in
    held P pool (Gave worker leaf grant threshold seen tree) new view is.own (network ∙ is.network)
    (given P pool (pool_of new view) worker leaf grant threshold seen tree is.own out keeps sees
    (λ path at.
    let gives = puts.gives path (subst (λ t. IsLeaf t [] leaf (Out worker grant) path) (sym same) at) 0 threshold pool.view seen in
    subst (λ t. PoolGives (cap_pool pool) seen (piece_at (task_at leaf worker grant 0 path) t threshold) (pool_of new view)) tree_is
    (subst (λ p. PoolGives p seen (piece_at (task_at leaf worker grant 0 path) (tree_of nodes) threshold) (pool_of new view)) is.is gives)))

-- what the calls answer
module _ (P : Network) (pool : Pool) (old new : Holding) (is : IsHeld P pool old) (network : new.network ≡ old.network) where
  pub back_answers : (worker leaf grant : ℕ) (b : Bool) → (IsTrue b → (view : View) (floor : ℕ) (path : List Event) → PoolReturns (pool_of old view) (task_at leaf worker grant floor path) (pool_of new view)) →
      (IsFalse b → leaves.IsOutTo old leaf worker grant → ⊥) → MatchBool b (Does P pool (Freed worker leaf grant) new) (IsOutTo pool worker leaf grant → ⊥)
  back_answers worker leaf grant true back none =
      let r = back refl pool.view 0 [] in
      back_done P pool old new is network worker leaf grant (r.path, replaced_leaf leaf (Out worker grant) r.path (Leaf leaf Free []) (pool_tree old) [] r.tree r.freed) (back refl)
  back_answers worker leaf grant false back none = λ out. none refl (out_held P pool old worker leaf grant is out)

  pub take_answers : (worker want leaf grant : ℕ) (lent : Lent) → 1 ≤ want → HandsLeaf old worker want lent new → lent.leaf ≡ leaf → (b : Bool) → nat_eq lent.grant grant ≡ b → MatchBool b (Does P pool (Took worker want leaf grant) new) (Never P pool (Took worker want leaf grant))
  take_answers worker want leaf grant lent wants h same true is_same = take_done P pool old new is network worker want leaf grant lent wants h same (eqb-true lent.grant grant is_same)
  take_answers worker want leaf grant lent wants h same false other =
      take_other P pool old new is network worker want leaf grant lent h (λ both. absurd (let yes : false ≡ true = sym other ∙ eqb_same lent.grant grant both.1 in cc))

  pub other_answers : (worker want leaf grant : ℕ) (lent : Lent) → HandsLeaf old worker want lent new → lent.leaf ≢ leaf → (b : Bool) → nat_eq lent.leaf leaf ≡ b → MatchBool b (Does P pool (Took worker want leaf grant) new) (Never P pool (Took worker want leaf grant))
  other_answers worker want leaf grant lent h other true is_same = absurd (other (eqb-true lent.leaf leaf is_same))
  other_answers worker want leaf grant lent h other false is_other = take_other P pool old new is network worker want leaf grant lent h (λ both. other both.0)

pub puts_done : (old new : Holding) (worker leaf grant : ℕ) (nodes : List Node) (placed : Placed) → is_done placed ≡ true → Puts old leaf worker grant nodes placed new → PutsIn old leaf worker grant (tree_of nodes) new
puts_done old new worker leaf grant nodes placing.Done done puts = puts
puts_done old new worker leaf grant nodes (placing.Gone given) done puts = absurd cc
puts_done old new worker leaf grant nodes (placing.Memory given) done puts = absurd cc
