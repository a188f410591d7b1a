use Rattle.std.proofs.Common.{◌≡◌, ◌∙◌, ap, sym, subst, refl, arith, Some, true≢false, ◌+◌}
use Rattle.cfn_leaves.specs.Standing.{entry_at}
use Rattle.cfn_leaves.specs.Listed.{out_entry, out_mark}
use Rattle.cfn_leaves.proofs.FreedAll.{Goes, begun, passed, freed_one, room_for, ended}
use Rattle.cfn_leaves.proofs.returning.free_all.Goals.{in-Some+then-not-is_free, in-Some+else-not-is_free, in_default}
use Rattle.cfn_leaves.proofs.returning.free_all.Goals as goal

pub loop-number-init : goal.loop-number-init
loop-number-init c = begun c.args.table.now.items c.args.list.now c.requires.room

pub free-requires-clause-room : goal.free-requires-clause-room
free-requires-clause-room c =
    let at : entry_at c.loop-number.table.items c.loop-number.number ≡ Some c.in-Some.entry = ap (λ l. entry_at l c.loop-number.number) (sym c.deref.ensures.value) ∙ sym c.held.ensures ∙ c.in-Some.is in
    room_for c.loop-number.table.items c.loop-number.list c.loop-number.number c.in-Some.entry c.loop-number.invariant.room at (λ same. true≢false (sym (c.if-not-is_free.ensures.1 same)))

pub loop-number-preserved : goal.loop-number-preserved
loop-number-preserved c =
    let old = c.args.table.now.items in
    let listing = c.args.list.now in
    let now = c.loop-number.table.items in
    let n = c.loop-number.number in
    let read : entry_at now n ≡ c.held.result = ap (λ l. entry_at l n) (sym c.deref.ensures.value) ∙ sym c.held.ensures in
    elim c.match-held.branch [
      | in-Some+then-not-is_free w ↦
          subst (λ t. Goes old listing t c.match-held.list (n + 1)) (sym (ap (λ t. t.items) w.table-is))
          (subst (λ l. Goes old listing w.free.new.table.items l (n + 1)) (sym w.list-is)
          (freed_one old listing now c.loop-number.list n w.in-Some.entry w.free.new.table.items w.free.new.list c.law_same_before.ensures.once c.loop-number.invariant (read ∙ w.in-Some.is)
          (λ same. true≢false (sym (w.if-not-is_free.ensures.1 same))) w.free.ensures.table w.free.ensures.leaves w.free.ensures.room))
      | in-Some+else-not-is_free w ↦
          subst (λ t. Goes old listing t c.match-held.list (n + 1)) (sym (ap (λ t. t.items) w.table-is))
          (subst (λ l. Goes old listing now l (n + 1)) (sym w.list-is)
          (passed old listing now c.loop-number.list n c.loop-number.invariant (ap out_entry (read ∙ w.in-Some.is) ∙ ap out_mark (w.if-not-is_free.ensures.0 refl))))
      | in_default w ↦
          subst (λ t. Goes old listing t c.match-held.list (n + 1)) (sym (ap (λ t. t.items) w.table-is))
          (subst (λ l. Goes old listing now l (n + 1)) (sym w.list-is)
          (passed old listing now c.loop-number.list n c.loop-number.invariant (ap out_entry (read ∙ w.in_default.is))))
    ]

pub returns : goal.returns
returns c = ended c.args.table.now.items c.args.list.now c.loop-number.table.items c.loop-number.list c.loop-number.number c.law_same_before.ensures.once c.loop-number.invariant (omega (arith, c.loop-number-test.false, c.len-number-end.ensures, c.args.table.now.ok.0))
