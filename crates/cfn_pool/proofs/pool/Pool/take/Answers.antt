use Rattle.std.proofs.Common.{◌≡◌, ℕ, ◌∙◌, sym, ap, ap₂, subst, Option}
use Rattle.cfn_model.specs.Network.{Network}
use Rattle.cfn_machine.specs.Steps.{PoolTakes, Takes as Taking}
use Rattle.cfn_leaves.specs.Value.{Holding as Leaves, pool_of}
use Rattle.cfn_low.specs.Holding.{Holding as Part}
use Rattle.cfn_leaves.specs.Answers as leaves
use Rattle.cfn_leaves.specs.declared.taking.Taken.{Taken}
use Rattle.cfn_leaves.specs.declared.taking.Taken.TheVariants.{Given, Empty, Spent, Again, Memory}
use Rattle.cfn_low.specs.Steps.{IsReached}
use Rattle.cfn_pool.specs.declared.recording.Recording.{Recording}
use Rattle.std.specs.Prelude.{IfSome}
use Rattle.cfn_pool.specs.Recorded.{AddsTaken, IsSpelledTaken, RecordingValue, value_of}
use Rattle.cfn_pool.specs.Views.{Held, view_of, IsHeld}
use Rattle.cfn_pool.specs.Answers.{Takes}
use Rattle.cfn_machine.specs.Laws.{IsPool}
use Rattle.cfn_pool.proofs.Fitting.{taken_spelled, where_recorded}
use Rattle.cfn_pool.proofs.Kept.{held, kept_by_step}
use Rattle.cfn_pool.proofs.pool.Pool.take.Goals as goal

-- leaves and what is recorded, with a part of the word
abbrev both : Part → Leaves → Option RecordingValue → Held
both part leaves recorded = record { leaves = leaves; part = part; recorded = recorded }

same : (P : Network) (part : Part) (old new : Leaves) (told more : Recording) → new ≡ old → value_of more ≡ value_of told → IsHeld P (held old part told) → IsHeld P (held new part more)
same P part old new told more leaves recorded is = subst (IsHeld P) (sym (ap₂ (both part) leaves recorded)) is

kept : (P : Network) (part : Part) (old new : Leaves) (told more : Recording) (worker want : ℕ) (taken : Taken) → IsReached P part.seen → IsHeld P (held old part told) → new.network ≡ P → leaves.Takes old worker want taken new
    → AddsTaken (value_of told) worker want taken (value_of more) → IsHeld P (held new part more)
kept P part old new told more worker want (Given task) reached is own takes adds =
    kept_by_step P (held old part told) (held new part more) 0 (Taking worker want task.task) reached own is tt (subst (λ (Q : Network). PoolTakes Q (pool_of old (view_of part)) worker want task.task (pool_of new (view_of part))) is.own (takes.takes (view_of part))) adds
kept P part old new told more worker want Empty reached is own takes adds = same P part old new told more takes.0 adds is
kept P part old new told more worker want Spent reached is own takes adds = same P part old new told more takes.0 adds is
kept P part old new told more worker want Again reached is own takes adds = same P part old new told more takes.0 adds is
kept P part old new told more worker want Memory reached is own takes adds = same P part old new told more takes adds is

answers : (P : Network) (part : Part) (old new : Leaves) (told more : Recording) (worker want : ℕ) (taken : Taken) → old.network ≡ P → leaves.Takes old worker want taken new
    → AddsTaken (value_of told) worker want taken (value_of more) → Takes P (held old part told) worker want taken (held new part more)
answers P part old new told more worker want (Given task) own takes adds = (takes.network ∙ own, subst (λ (Q : Network). PoolTakes Q (pool_of old (view_of part)) worker want task.task (pool_of new (view_of part))) own (takes.takes (view_of part)))
answers P part old new told more worker want Empty own takes adds = (ap₂ (both part) takes.0 adds, takes.1 (view_of part))
answers P part old new told more worker want Spent own takes adds = (ap₂ (both part) takes.0 adds, takes.1 (view_of part))
answers P part old new told more worker want Again own takes adds = (ap₂ (both part) takes.0 adds, takes.1 (view_of part))
answers P part old new told more worker want Memory own takes adds = ap₂ (both part) takes adds

pub invariant_of-self : goal.invariant_of-self
invariant_of-self g c = record {
  room = c.make_room.ensures.room;
  held = subst (λ r. IsHeld g.M.Incumbent.network (both c.self.inside.holder c.self.inside.leaves r)) (sym c.make_room.ensures.same) c.self.invariant.held;
}

pub took-requires-clause-spelled : goal.took-requires-clause-spelled
took-requires-clause-spelled g c =
    let leaves = c.self.inside.leaves in
    let told = ap (λ (h : Held). h.recorded) (ap (both c.self.inside.holder leaves) c.make_room.ensures.same ∙ c.self.view_is) in
    let sound = subst (λ (Q : Network). IsPool Q (pool_of leaves (view_of c.self.inside.holder))) (sym c.self.invariant.held.own) c.self.invariant.held.pool_is in
    subst (λ o. IfSome o (λ r. IsSpelledTaken c.args.want c.take-taken.result)) (sym told)
    (where_recorded c.args.self.now.recorded (λ most. taken_spelled leaves c.take-taken.new.self (view_of c.self.inside.holder) c.args.worker c.args.want c.take-taken.result sound c.law_numbered.ensures most c.take-taken.ensures.takes) c.requires.most)

pub invariant_of-self-2 : goal.invariant_of-self-2
invariant_of-self-2 g c =
    let P = g.M.Incumbent.network in
    let part = c.self.inside.holder in
    let before = subst (λ r. IsHeld P (both part c.self.inside.leaves r)) (sym c.make_room.ensures.same) c.self.invariant.held in
    record {
      room = c.took.ensures.room;
      held = kept P part c.self.inside.leaves c.take-taken.new.self c.make_room.new.self c.took.new.self c.args.worker c.args.want c.take-taken.result c.law_kept.ensures.reached before (c.take-taken.ensures.network ∙ c.self.invariant.held.own) c.take-taken.ensures.takes c.took.ensures.adds;
    }

pub returns : goal.returns
returns g c =
    let P = g.M.Incumbent.network in
    let part = c.self.inside.holder in
    let same = ap (both part c.self.inside.leaves) c.make_room.ensures.same ∙ c.self.view_is in
    record {
      takes = subst (λ (old : Held). Takes P old c.args.worker c.args.want c.take-taken.result (held c.take-taken.new.self part c.took.new.self)) same
          (answers P part c.self.inside.leaves c.take-taken.new.self c.make_room.new.self c.took.new.self c.args.worker c.args.want c.take-taken.result c.self.invariant.held.own c.take-taken.ensures.takes c.took.ensures.adds);
      adds = subst (λ r. AddsTaken r c.args.worker c.args.want c.take-taken.result (value_of c.took.new.self)) (ap (λ (h : Held). h.recorded) same) c.took.ensures.adds;
    }
