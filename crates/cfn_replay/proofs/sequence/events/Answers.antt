use Rattle.std.proofs.Common.{sym, ap, subst, ◌+◌, ◌∙◌}
use Rattle.std.specs.Prelude.{unwrap_or}
use Rattle.cfn_record.specs.declared.kind.RecordFault.TheVariants as kinds
use Rattle.cfn_record.specs.Fault.{Fault}
use Rattle.cfn_replay.specs.Said.{line_in}
use Rattle.cfn_replay.proofs.Ending.{neither, best_right, best_wrong}
use Rattle.cfn_replay.proofs.sequence.events.Goals as goal

pub returns-in_default-best_in-clause-stop : goal.returns-in_default-best_in-clause-stop
returns-in_default-best_in-clause-stop c =
    let so_far = c.loop-its.invariant in
    rw (c.refused.ensures, c.due-line.ensures) (subst (λ t. Fault c.args.network.now t (c.loop-its.lines.count + 1) kinds.Text) so_far.1
    (neither c.args.network.now c.loop-its.lines c.next-said.new.self c.loop-its.leaves c.loop-its.seen so_far.0 (line_in c.next-said.result) c.next-said.ensures.tells (sym c.event_in.ensures ∙ c.in_default.is) (sym c.best_in.ensures ∙ c.in_default-best_in.is)))

pub returns-then-unwrap_or-seen-clause-stop : goal.returns-then-unwrap_or-seen-clause-stop
returns-then-unwrap_or-seen-clause-stop c =
    let so_far = c.loop-its.invariant in
    let best = c.in-Some-best_in.best in
    rw (c.refused-then-unwrap_or-seen.ensures, c.due-line.ensures) (subst (λ t. Fault c.args.network.now t (c.loop-its.lines.count + 1) kinds.Seen) so_far.1
    (best_wrong c.args.network.now c.loop-its.lines c.next-said.new.self c.loop-its.leaves c.loop-its.seen so_far.0 (line_in c.next-said.result) c.next-said.ensures.tells best (sym c.best_in.ensures ∙ c.in-Some-best_in.is)
    (λ same. c.if-unwrap_or-seen.true (c.unwrap_or.ensures ∙ ap (λ u. unwrap_or best u) c.ub.ensures ∙ same))))

pub returns-in-loop-its-clause-right : goal.returns-in-loop-its-clause-right
returns-in-loop-its-clause-right c =
    let so_far = c.loop-its.invariant in
    let best = c.in-Some-best_in.best in
    best_right c.args.network.now c.loop-its.lines c.next-said.new.self c.loop-its.leaves c.loop-its.seen so_far.0 (line_in c.next-said.result) c.next-said.ensures.tells best (sym c.best_in.ensures ∙ c.in-Some-best_in.is)
    (sym (c.unwrap_or.ensures ∙ ap (λ u. unwrap_or best u) c.ub.ensures) ∙ c.if-unwrap_or-seen.false)
