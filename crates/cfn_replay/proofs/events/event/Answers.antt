use Rattle.std.proofs.Common.{sym, subst, arith}
use Rattle.cfn_record.specs.declared.kind.RecordFault.TheVariants as kinds
use Rattle.cfn_record.specs.Fault.{Fault}
use Rattle.cfn_replay.specs.Position.{IsRead}
use Rattle.cfn_replay.specs.Said.{line_of_event}
use Rattle.cfn_replay.specs.Standing.{IsStop}
use Rattle.cfn_replay.proofs.Happening.{if_so, if_not, take_right, take_wrong, back_right, back_wrong, recall_right, sweep_right, sweep_wrong}
use Rattle.cfn_replay.proofs.events.event.Goals as goal

pub returns-then-not-take-clause-stop : goal.returns-then-not-take-clause-stop
returns-then-not-take-clause-stop c = λ P old S told line.
    let read = subst (λ e. IsRead old c.args.lines.now (line_of_event e)) c.in-Take.is told in
    subst (λ s. IsStop P old.text s) (sym c.refused.ensures) (subst (λ n. Fault P old.text n kinds.Take) (sym line) (take_wrong P old c.args.lines.now c.args.leaves.now c.args.seen S c.in-Take.worker c.in-Take.want c.in-Take.leaf c.in-Take.grant read (if_not _ _ c.take.result c.if-not-take.true (c.take.ensures P S.pool S.held))))

pub returns-else-not-take-clause-right : goal.returns-else-not-take-clause-right
returns-else-not-take-clause-right c = λ P old S told.
    let read = subst (λ e. IsRead old c.args.lines.now (line_of_event e)) c.in-Take.is told in
    take_right P old c.args.lines.now c.args.leaves.now c.args.seen S c.in-Take.worker c.in-Take.want c.in-Take.leaf c.in-Take.grant c.take.new.leaves read (if_so _ _ c.take.result c.if-not-take.false (c.take.ensures P S.pool S.held))

pub returns-then-not-back-clause-stop : goal.returns-then-not-back-clause-stop
returns-then-not-back-clause-stop c = λ P old S told line.
    let read = subst (λ e. IsRead old c.args.lines.now (line_of_event e)) c.in-Back.is told in
    subst (λ s. IsStop P old.text s) (sym c.refused-then-not-back.ensures) (subst (λ n. Fault P old.text n kinds.Back) (sym line) (back_wrong P old c.args.lines.now c.args.leaves.now c.args.seen S c.in-Back.worker c.in-Back.leaf c.in-Back.grant read (if_not _ _ c.back.result c.if-not-back.true (c.back.ensures P S.pool S.held))))

pub returns-else-not-back-clause-right : goal.returns-else-not-back-clause-right
returns-else-not-back-clause-right c = λ P old S told.
    let read = subst (λ e. IsRead old c.args.lines.now (line_of_event e)) c.in-Back.is told in
    back_right P old c.args.lines.now c.args.leaves.now c.args.seen S c.in-Back.worker c.in-Back.leaf c.in-Back.grant c.back.new.leaves read (if_so _ _ c.back.result c.if-not-back.false (c.back.ensures P S.pool S.held))

pub returns-in-Recall-clause-right : goal.returns-in-Recall-clause-right
returns-in-Recall-clause-right c = λ P old S told.
    let read = subst (λ e. IsRead old c.args.lines.now (line_of_event e)) c.in-Recall.is told in
    recall_right P old c.args.lines.now c.args.leaves.now c.args.seen S c.recall.new.leaves read (c.recall.ensures P S.pool S.held)

pub returns-then-saw-seen-clause-stop : goal.returns-then-saw-seen-clause-stop
returns-then-saw-seen-clause-stop c = λ P old S told line.
    let read = subst (λ e. IsRead old c.args.lines.now (line_of_event e)) c.in-Sweep.is told in
    subst (λ s. IsStop P old.text s) (sym c.refused-then-saw-seen.ensures) (subst (λ n. Fault P old.text n kinds.Seen) (sym line) (sweep_wrong P old c.args.lines.now c.args.leaves.now c.args.seen S c.in-Sweep.saw read (omega (arith, c.if-saw-seen.true))))

pub returns-else-saw-seen-clause-right : goal.returns-else-saw-seen-clause-right
returns-else-saw-seen-clause-right c = λ P old S told.
    let read = subst (λ e. IsRead old c.args.lines.now (line_of_event e)) c.in-Sweep.is told in
    sweep_right P old c.args.lines.now c.args.leaves.now c.args.seen S c.in-Sweep.saw c.sweep.new.leaves read (c.sweep.ensures P S.pool S.held (omega (arith, S.seen_is, c.if-saw-seen.false)))
