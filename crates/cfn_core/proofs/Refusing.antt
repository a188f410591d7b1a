-- As long as no leaf is called back, each task in hand is of a leaf that is out, so no piece of one is refused.
use Rattle.std.proofs.Common.{◌≡◌, ◌≢◌, ℕ, List, [], ◌∷◌, inl, inr, refl, sym, ◌∙◌, subst}
use Rattle.std.specs.List.{AllByRecursion}
use Rattle.cfn_model.specs.Network.{Network}
use Rattle.cfn_machine.specs.Pool.{Out, IsLeaf, Task, Piece, Pool}
use Rattle.cfn_machine.specs.Steps.{IsOut, PoolTakes, PoolGives, PoolReturns, pool_swept}
use Rattle.cfn_machine.specs.Steps.{Takes as Taking, Gives as Giving, Returns as Returning, Sweeps}
use Rattle.cfn_machine.proofs.CallerLemmas as machine
use Rattle.cfn_core.specs.World.{World, view_at, opening}
use Rattle.cfn_core.specs.Actions.{Action, Look, Lower, Note, Meet, Take, Give, Back, Recall, Sweep, Reply, Idle, Done, Gone, Answers, taken, Takes, take_idle, take_none, take_task, given, Gives, give_idle, give_gone, give_done, returned, Returns, back_idle, back_not, back_done, cleared, Acts, Runs}
use Rattle.cfn_core.specs.Laws.{IsInHand, IsNoRecall, NeverGone, AreOut, IsKept, AreKept}
use Rattle.cfn_core.proofs.Views.{by_option}
use Rattle.cfn_core.proofs.Handing.{without_back}

record AllOut (w : World) : Type 0 where
  each : (task : Task) → IsInHand task w.hands → IsOut w.pool task

module _ (P : Network) (w : World) (out : AllOut w) where
  take_out : (worker want : ℕ) (task : Task) (pool : Pool) → PoolTakes P w.pool worker want task pool → AllOut (taken w task pool)
  take_out worker want task pool takes = record {
    each = λ other hand. elim hand [
      | inl same ↦ subst (IsOut pool) (sym same) (machine.takes_out P w.pool pool worker want task takes)
      | inr old ↦ machine.stays_out P w.pool pool w.word (Taking worker want task) other takes (out.each other old) (λ ends. ends)
    ];
  }

  give_out : (piece : Piece) (note : ℕ) (pool : Pool) → PoolGives w.pool w.word piece pool → AllOut (given w piece note pool)
  give_out piece note pool gives = record {
    each = λ other hand. (let b = without_back piece.task.leaf other w.hands hand in
        machine.stays_out P w.pool pool w.word (Giving piece) other gives (out.each other b.0) (λ ends. b.1 (sym ends)));
  }

  back_out : (task : Task) (pool : Pool) → PoolReturns w.pool task pool → AllOut (returned w task pool)
  back_out task pool returns = record {
    each = λ other hand. (let b = without_back task.leaf other w.hands hand in
        machine.stays_out P w.pool pool w.word (Returning task) other returns (out.each other b.0) (λ ends. b.1 (sym ends)));
  }

  sweep_out : AllOut (cleared P w)
  sweep_out = record { each = λ other hand. machine.stays_out P w.pool (pool_swept P w.pool w.word) w.word Sweeps other refl (out.each other hand) (λ ends. ends) }

  other_out : (new : World) → new.pool.tree ≡ w.pool.tree → new.hands ≡ w.hands → AllOut new
  other_out new tree hands = record {
    each = λ other hand. subst (λ t. IsLeaf t [] other.leaf (Out other.worker other.grant) other.path) (sym tree) (out.each other (subst (IsInHand other) hands hand));
  }

left_as : {due : Reply} {left : World} {r : Reply} {new : World} → AllOut left → Answers due left r new → AllOut new
left_as out answers = subst AllOut (sym answers.world) out

takes_keeps : (P : Network) (w new : World) (worker want : ℕ) (r : Reply) → AllOut w → Takes P w worker want r new → AllOut new
takes_keeps P w new worker want r out (take_idle h answers) = left_as out answers
takes_keeps P w new worker want r out (take_none lack c h answers) = left_as out answers
takes_keeps P w new worker want r out (take_task task pool c takes answers) = left_as (take_out P w out worker want task pool takes) answers

gives_keeps : (P : Network) (w new : World) (piece : Piece) (note : ℕ) (r : Reply) → AllOut w → Gives w piece note r new → AllOut new
gives_keeps P w new piece note r out (give_idle h answers) = left_as out answers
gives_keeps P w new piece note r out (give_gone h k answers) = left_as out answers
gives_keeps P w new piece note r out (give_done pool can gives answers) = left_as (give_out P w out piece note pool gives) answers

returns_keeps : (P : Network) (w new : World) (task : Task) (r : Reply) → AllOut w → Returns w task r new → AllOut new
returns_keeps P w new task r out (back_idle h answers) = left_as out answers
returns_keeps P w new task r out (back_not c h answers) = left_as out answers
returns_keeps P w new task r out (back_done pool c returns answers) = left_as (back_out P w out task pool returns) answers

keeps_out : (P : Network) (w new : World) (action : Action) (r : Reply) → IsNoRecall action → AllOut w → Acts P w action r new → AllOut new
keeps_out P w new (Look i) r never out acts = by_option (view_at w.views i) acts (λ idle. left_as out idle) (λ view is answers. left_as (other_out P w out _ refl refl) answers)
keeps_out P w new (Lower i found) r never out acts = by_option (view_at w.views i) acts (λ idle. left_as out idle) (λ view is answers. left_as (other_out P w out _ refl refl) answers)
keeps_out P w new (Note i) r never out acts = by_option (view_at w.views i) acts (λ idle. left_as out idle) (λ view is answers. left_as (other_out P w out _ refl refl) answers)
keeps_out P w new (Meet i) r never out acts = by_option (view_at w.views i) acts (λ idle. left_as out idle) (λ view is answers. left_as (other_out P w out _ refl refl) answers)
keeps_out P w new (Take i want) r never out acts = takes_keeps P w new i want r out acts
keeps_out P w new (Give piece note) r never out acts = gives_keeps P w new piece note r out acts
keeps_out P w new (Back task) r never out acts = returns_keeps P w new task r out acts
keeps_out P w new Recall r never out acts = absurd never
keeps_out P w new Sweep r never out acts = left_as (sweep_out P w out) acts

runs_out : (P : Network) (actions : List Action) (replies : List Reply) (w new : World) → AllByRecursion IsNoRecall actions → AllOut w → Runs P w actions replies new → AllOut new
runs_out P [] [] w new never out runs = subst AllOut (sym runs) out
runs_out P [] (r ∷ replies) w new never out runs = absurd runs
runs_out P (action ∷ actions) [] w new never out runs = absurd runs
runs_out P (action ∷ actions) (r ∷ replies) w new never out runs = runs_out P actions replies runs.0 new never.1 (keeps_out P w runs.0 action r never.0 out runs.1) runs.2

idle_not_gone : Idle ≢ Gone
idle_not_gone h = cc

done_not_gone : Done ≢ Gone
done_not_gone h = cc

gives_not_gone : (w new : World) (piece : Piece) (note : ℕ) (r : Reply) → IsOut w.pool piece.task → Gives w piece note r new → r ≢ Gone
gives_not_gone w new piece note r out (give_idle h answers) gone = idle_not_gone (sym answers.reply ∙ gone)
gives_not_gone w new piece note r out (give_gone h k answers) gone = k out
gives_not_gone w new piece note r out (give_done pool can gives answers) gone = done_not_gone (sym answers.reply ∙ gone)

pub never_gone : NeverGone
never_gone P workers budget actions replies w new piece note r never runs hand acts =
    gives_not_gone w new piece note r ((runs_out P actions replies (opening P workers budget) w never (record { each = λ task hand. absurd hand }) runs).each piece.task hand) acts

-- the same, from any world whose tasks in hand are all out
pub stays_out : (P : Network) (w new : World) (action : Action) (r : Reply) → Acts P w action r new → AreOut w → IsNoRecall action → AreOut new
stays_out P w new action r acts out never = (keeps_out P w new action r never (record { each = out }) acts).each

pub is_kept : (P : Network) (w new : World) (action : Action) (r : Reply) → Acts P w action r new → AreOut w → IsKept w action r
is_kept P w new (Look i) r acts out = tt
is_kept P w new (Lower i found) r acts out = tt
is_kept P w new (Note i) r acts out = tt
is_kept P w new (Meet i) r acts out = tt
is_kept P w new (Take i want) r acts out = tt
is_kept P w new (Give piece note) r acts out = λ hand. gives_not_gone w new piece note r (out piece.task hand) acts
is_kept P w new (Back task) r acts out = tt
is_kept P w new Recall r acts out = tt
is_kept P w new Sweep r acts out = tt

pub are_kept : (P : Network) (actions : List Action) (replies : List Reply) (w new : World) → Runs P w actions replies new → AreOut w → AllByRecursion IsNoRecall actions → AreKept P w actions replies
are_kept P [] replies w new runs out never = tt
are_kept P (action ∷ actions) [] w new runs out never = absurd runs
are_kept P (action ∷ actions) (r ∷ replies) w new runs out never =
    (runs.0, runs.1, is_kept P w runs.0 action r runs.1 out, are_kept P actions replies runs.0 new runs.2 (stays_out P w runs.0 action r runs.1 out never.0) never.1)

pub run_out : (P : Network) (actions : List Action) (replies : List Reply) (w new : World) → Runs P w actions replies new → AreOut w → AllByRecursion IsNoRecall actions → AreOut new
run_out P actions replies w new runs out never = (runs_out P actions replies w new never (record { each = out }) runs).each
