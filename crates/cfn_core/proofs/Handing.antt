-- Numbers of open leaves stay different, and the tasks of the leaves that are out stay in hand.
use Rattle.std.proofs.Common.{◌≡◌, ◌≢◌, ℕ, ◌-◌, inl, inr, List, [], ◌∷◌, refl, length, sym, ap, ◌∙◌, subst, arith, true, false, Bool, not, if◌then◌else◌, ◌==◌, eq-eqb}
use Rattle.std.proofs.lemmas.List.{length-set}
use Rattle.cfn_model.specs.declared.step.Event.{Event}
use Rattle.cfn_model.specs.Network.{Network}
use Rattle.cfn_model.specs.Sums.{floor}
use Rattle.cfn_model.specs.Tree.{Open}
use Rattle.std.proofs.Common.{None}
use Rattle.cfn_machine.specs.Pool.{Free, Out, IsLeaf, Task, Piece, Pool, AreNumbered}
use Rattle.cfn_machine.specs.Steps.{PoolTakes, PoolGives, PoolReturns, PoolStep, PoolSteps, pool_recalled, pool_swept, pool_met}
use Rattle.cfn_machine.specs.Steps.{Takes as Taking, Gives as Giving, Returns as Returning, Recalls, Sweeps, Meets}
use Rattle.cfn_machine.specs.Laws.{Ends, IsTaken}
use Rattle.cfn_machine.proofs.CallerLemmas as machine
use Rattle.cfn_core.specs.World.{World, view_at}
use Rattle.cfn_core.specs.Actions.{Action, Look, Lower, Note, Meet, Take, Give, Back, Recall, Sweep, Reply, Answers, CanTake, without, taken, Takes, take_idle, take_none, take_task, given, Gives, give_idle, give_gone, give_done, returned, Returns, back_idle, back_not, back_done, all_back, cleared, Runs}
use Rattle.cfn_core.specs.Laws.{IsInHand, IsHanded, OpensNumbered, KeepsNumbered, OpensHanded, KeepsHanded}
use Rattle.cfn_core.proofs.Views.{by_option}

-- what is left in hand without a leaf's tasks
module _ (n : ℕ) where
  stays_by : (t : Bool) (task other : Task) (hands : List Task) → (other.leaf == n) ≡ t → task.leaf ≢ n → IsInHand task (other ∷ hands) →
      (IsInHand task hands → IsInHand task (without n hands)) → IsInHand task (if not t then other ∷ without n hands else without n hands)
  stays_by true task other hands is different (inl same) rest = absurd (different (ap (λ (t : Task). t.leaf) same ∙ (grind (arith, is))))
  stays_by true task other hands is different (inr at) rest = rest at
  stays_by false task other hands is different (inl same) rest = inl same
  stays_by false task other hands is different (inr at) rest = inr (rest at)

  pub without_stays : (task : Task) (hands : List Task) → task.leaf ≢ n → IsInHand task hands → IsInHand task (without n hands)
  without_stays task [] different at = at
  without_stays task (other ∷ hands) different at = stays_by (other.leaf == n) task other hands refl different at (without_stays task hands different)

  back_by : (t : Bool) (task other : Task) (hands : List Task) → (other.leaf == n) ≡ t → IsInHand task (if not t then other ∷ without n hands else without n hands) →
      (IsInHand task (without n hands) → IsInHand task hands × (task.leaf ≢ n)) → IsInHand task (other ∷ hands) × (task.leaf ≢ n)
  back_by true task other hands is at rest = let r = rest at in (inr r.0, r.1)
  back_by false task other hands is (inl same) rest = (inl same, λ e. (let f : (other.leaf == n) ≡ true = eq-eqb other.leaf n (ap (λ (t : Task). t.leaf) (sym same) ∙ e) in both_ways f is))
    where
      both_ways : {b : Bool} → b ≡ true → b ≡ false → ⊥
      both_ways h k = cc
  back_by false task other hands is (inr at) rest = let r = rest at in (inr r.0, r.1)

  pub without_back : (task : Task) (hands : List Task) → IsInHand task (without n hands) → IsInHand task hands × (task.leaf ≢ n)
  without_back task [] at = absurd at
  without_back task (other ∷ hands) at = back_by (other.leaf == n) task other hands refl at (without_back task hands)

-- each action keeps the numbers of the leaves
left_numbered : {due : Reply} {left : World} {r : Reply} {new : World} → AreNumbered left.pool → Answers due left r new → AreNumbered new.pool
left_numbered numbers answers = subst (λ (w : World). AreNumbered w.pool) (sym answers.world) numbers

takes_numbered : (P : Network) (w new : World) (worker want : ℕ) (r : Reply) → AreNumbered w.pool → Takes P w worker want r new → AreNumbered new.pool
takes_numbered P w new worker want r numbers (take_idle h answers) = left_numbered numbers answers
takes_numbered P w new worker want r numbers (take_none lack c h answers) = left_numbered numbers answers
takes_numbered P w new worker want r numbers (take_task task pool c takes answers) = left_numbered (machine.keeps_numbered P w.pool pool w.word (Taking worker want task) numbers takes) answers

gives_numbered : (P : Network) (w new : World) (piece : Piece) (note : ℕ) (r : Reply) → AreNumbered w.pool → Gives w piece note r new → AreNumbered new.pool
gives_numbered P w new piece note r numbers (give_idle h answers) = left_numbered numbers answers
gives_numbered P w new piece note r numbers (give_gone h k answers) = left_numbered numbers answers
gives_numbered P w new piece note r numbers (give_done pool can gives answers) = left_numbered (machine.keeps_numbered P w.pool pool w.word (Giving piece) numbers gives) answers

returns_numbered : (P : Network) (w new : World) (task : Task) (r : Reply) → AreNumbered w.pool → Returns w task r new → AreNumbered new.pool
returns_numbered P w new task r numbers (back_idle h answers) = left_numbered numbers answers
returns_numbered P w new task r numbers (back_not c h answers) = left_numbered numbers answers
returns_numbered P w new task r numbers (back_done pool c returns answers) = left_numbered (machine.keeps_numbered P w.pool pool w.word (Returning task) numbers returns) answers

pub keeps_numbered : KeepsNumbered
keeps_numbered P w new (Look i) r numbers acts = by_option (view_at w.views i) acts (λ idle. left_numbered numbers idle) (λ view is answers. left_numbered numbers answers)
keeps_numbered P w new (Lower i found) r numbers acts = by_option (view_at w.views i) acts (λ idle. left_numbered numbers idle) (λ view is answers. left_numbered numbers answers)
keeps_numbered P w new (Note i) r numbers acts = by_option (view_at w.views i) acts (λ idle. left_numbered numbers idle) (λ view is answers. left_numbered numbers answers)
keeps_numbered P w new (Meet i) r numbers acts = by_option (view_at w.views i) acts (λ idle. left_numbered numbers idle)
    (λ view is answers. left_numbered (machine.keeps_numbered P w.pool (pool_met P w.pool view) w.word (Meets view) numbers refl) answers)
keeps_numbered P w new (Take i want) r numbers acts = takes_numbered P w new i want r numbers acts
keeps_numbered P w new (Give piece note) r numbers acts = gives_numbered P w new piece note r numbers acts
keeps_numbered P w new (Back task) r numbers acts = returns_numbered P w new task r numbers acts
keeps_numbered P w new Recall r numbers acts = left_numbered (machine.keeps_numbered P w.pool (pool_recalled w.pool) w.word Recalls numbers refl) acts
keeps_numbered P w new Sweep r numbers acts = left_numbered (machine.keeps_numbered P w.pool (pool_swept P w.pool w.word) w.word Sweeps numbers refl) acts

pub opens_numbered : OpensNumbered
opens_numbered P workers budget = machine.opens_numbered P (127 - workers) budget (Open []) None

-- each action keeps the tasks in hand
module _ (P : Network) (w : World) (numbers : AreNumbered w.pool) (handed : IsHanded P w) where
  -- after a step a leaf is out as before, or its task was taken
  still : (step : PoolStep) (pool : Pool) (hands : List Task) → PoolSteps P w.pool w.word step pool →
      ((task : Task) → IsTaken step task → IsInHand task hands) → ((task : Task) → IsInHand task w.hands → (Ends step task.leaf → ⊥) → IsInHand task hands) →
      (n worker grant : ℕ) (path : List Event) → IsLeaf pool.tree [] n (Out worker grant) path → IsInHand (record { leaf = n; worker = worker; grant = grant; floor = floor P path; path = path }) hands
  still step pool hands steps new old n worker grant path at =
      let task : Task = record { leaf = n; worker = worker; grant = grant; floor = floor P path; path = path } in
      elim (machine.was_out P w.pool pool w.word step task numbers steps at refl) [
        | inl was ↦ old task (handed.in_hand n worker grant path was.0) was.1
        | inr is ↦ new task is
      ]

  take_handed : (worker want : ℕ) (task : Task) (pool : Pool) → CanTake w worker want → PoolTakes P w.pool worker want task pool → IsHanded P (taken w task pool)
  take_handed worker want task pool can takes = record {
    in_hand = still (Taking worker want task) pool (task ∷ w.hands) takes (λ other same. inl same) (λ other hand stays. inr hand);
    there = λ other hand. elim hand [
      | inl same ↦ omega (arith, ap (λ (t : Task). t.worker) same, ap (λ (t : Task). t.worker) takes.handed, can.0)
      | inr old ↦ handed.there other old
    ];
  }

  give_handed : (piece : Piece) (note : ℕ) (pool : Pool) → PoolGives w.pool w.word piece pool → IsHanded P (given w piece note pool)
  give_handed piece note pool gives = record {
    in_hand = still (Giving piece) pool (without piece.task.leaf w.hands) gives (λ other none. absurd none) (λ other hand stays. without_stays piece.task.leaf other w.hands (λ same. stays (sym same)) hand);
    there = λ other hand. handed.there other (without_back piece.task.leaf other w.hands hand).0;
  }

  back_handed : (task : Task) (pool : Pool) → PoolReturns w.pool task pool → IsHanded P (returned w task pool)
  back_handed task pool returns = record {
    in_hand = still (Returning task) pool (without task.leaf w.hands) returns (λ other none. absurd none) (λ other hand stays. without_stays task.leaf other w.hands (λ same. stays (sym same)) hand);
    there = λ other hand. handed.there other (without_back task.leaf other w.hands hand).0;
  }

  recall_handed : IsHanded P (all_back w)
  recall_handed = record {
    in_hand = still Recalls (pool_recalled w.pool) w.hands refl (λ other none. absurd none) (λ other hand stays. hand);
    there = λ other hand. handed.there other hand;
  }

  sweep_handed : IsHanded P (cleared P w)
  sweep_handed = record {
    in_hand = still Sweeps (pool_swept P w.pool w.word) w.hands refl (λ other none. absurd none) (λ other hand stays. hand);
    there = λ other hand. handed.there other hand;
  }

  -- an action that changes neither the tree nor the hands
  other_handed : (new : World) → new.pool.tree ≡ w.pool.tree → new.hands ≡ w.hands → length new.views ≡ length w.views → IsHanded P new
  other_handed new tree hands views = record {
    in_hand = λ m k g p leaf. subst (IsInHand _) (sym hands) (handed.in_hand m k g p (subst (λ t. IsLeaf t [] m (Out k g) p) tree leaf));
    there = λ other hand. omega (arith, handed.there other (subst (IsInHand other) hands hand), views);
  }

left_as : {P : Network} {due : Reply} {left : World} {r : Reply} {new : World} → IsHanded P left → Answers due left r new → IsHanded P new
left_as {P} handed answers = subst (IsHanded P) (sym answers.world) handed

takes_keeps : (P : Network) (w new : World) (worker want : ℕ) (r : Reply) → AreNumbered w.pool → IsHanded P w → Takes P w worker want r new → IsHanded P new
takes_keeps P w new worker want r numbers handed (take_idle h answers) = left_as handed answers
takes_keeps P w new worker want r numbers handed (take_none lack c h answers) = left_as handed answers
takes_keeps P w new worker want r numbers handed (take_task task pool c takes answers) = left_as (take_handed P w numbers handed worker want task pool c takes) answers

gives_keeps : (P : Network) (w new : World) (piece : Piece) (note : ℕ) (r : Reply) → AreNumbered w.pool → IsHanded P w → Gives w piece note r new → IsHanded P new
gives_keeps P w new piece note r numbers handed (give_idle h answers) = left_as handed answers
gives_keeps P w new piece note r numbers handed (give_gone h k answers) = left_as handed answers
gives_keeps P w new piece note r numbers handed (give_done pool can gives answers) = left_as (give_handed P w numbers handed piece note pool gives) answers

returns_keeps : (P : Network) (w new : World) (task : Task) (r : Reply) → AreNumbered w.pool → IsHanded P w → Returns w task r new → IsHanded P new
returns_keeps P w new task r numbers handed (back_idle h answers) = left_as handed answers
returns_keeps P w new task r numbers handed (back_not c h answers) = left_as handed answers
returns_keeps P w new task r numbers handed (back_done pool c returns answers) = left_as (back_handed P w numbers handed task pool returns) answers

pub keeps_handed : KeepsHanded
keeps_handed P w new (Look i) r numbers handed acts = by_option (view_at w.views i) acts (λ idle. left_as handed idle) (λ view is answers. left_as (other_handed P w numbers handed _ refl refl (length-set w.views i _)) answers)
keeps_handed P w new (Lower i found) r numbers handed acts = by_option (view_at w.views i) acts (λ idle. left_as handed idle) (λ view is answers. left_as (other_handed P w numbers handed _ refl refl (length-set w.views i _)) answers)
keeps_handed P w new (Note i) r numbers handed acts = by_option (view_at w.views i) acts (λ idle. left_as handed idle) (λ view is answers. left_as (other_handed P w numbers handed _ refl refl refl) answers)
keeps_handed P w new (Meet i) r numbers handed acts = by_option (view_at w.views i) acts (λ idle. left_as handed idle) (λ view is answers. left_as (other_handed P w numbers handed _ refl refl (length-set w.views i _)) answers)
keeps_handed P w new (Take i want) r numbers handed acts = takes_keeps P w new i want r numbers handed acts
keeps_handed P w new (Give piece note) r numbers handed acts = gives_keeps P w new piece note r numbers handed acts
keeps_handed P w new (Back task) r numbers handed acts = returns_keeps P w new task r numbers handed acts
keeps_handed P w new Recall r numbers handed acts = left_as (recall_handed P w numbers handed) acts
keeps_handed P w new Sweep r numbers handed acts = left_as (sweep_handed P w numbers handed) acts

free_not_out : {worker grant : ℕ} → Free ≡ Out worker grant → ⊥
free_not_out h = cc

pub opens_handed : OpensHanded
opens_handed P workers budget = record {
  in_hand = λ m k g p leaf. absurd (free_not_out leaf.1);
  there = λ task hand. absurd hand;
}

pub runs_numbered : (P : Network) (actions : List Action) (replies : List Reply) (w new : World) → AreNumbered w.pool → Runs P w actions replies new → AreNumbered new.pool
runs_numbered P [] [] w new numbers runs = subst (λ (w : World). AreNumbered w.pool) (sym runs) numbers
runs_numbered P [] (r ∷ replies) w new numbers runs = absurd runs
runs_numbered P (action ∷ actions) [] w new numbers runs = absurd runs
runs_numbered P (action ∷ actions) (r ∷ replies) w new numbers runs = runs_numbered P actions replies runs.0 new (keeps_numbered P w runs.0 action r numbers runs.1) runs.2

pub runs_keep : (P : Network) (actions : List Action) (replies : List Reply) (w new : World) → AreNumbered w.pool → IsHanded P w → Runs P w actions replies new → IsHanded P new
runs_keep P [] [] w new numbers handed runs = subst (IsHanded P) (sym runs) handed
runs_keep P [] (r ∷ replies) w new numbers handed runs = absurd runs
runs_keep P (action ∷ actions) [] w new numbers handed runs = absurd runs
runs_keep P (action ∷ actions) (r ∷ replies) w new numbers handed runs =
    runs_keep P actions replies runs.0 new (keeps_numbered P w runs.0 action r numbers runs.1) (keeps_handed P w runs.0 action r numbers handed runs.1) runs.2
