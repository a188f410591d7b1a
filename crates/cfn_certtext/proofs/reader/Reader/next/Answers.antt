use Rattle.std.proofs.Common.{◌≡◌, ◌-◌, length, take, drop, sym, ap, ◌∙◌, inl, inr, arith}
use Rattle.std.proofs.lemmas.List.{length-drop, take_rest}
use Rattle.cfn_certtext.specs.Stages.{values_of}
use Rattle.cfn_certtext.proofs.Stages.{owed_next}
use Rattle.cfn_certtext.proofs.Telling.{value_told, line_told, fault_told, not_empty}
use Rattle.cfn_certtext.proofs.reader.Reader.next.Goals as goal
use Rattle.cfn_certtext.proofs.reader.Reader.next.Goals.{else-is_empty-via-then-is_empty+else-is_over, else-is_empty-via-else-is_empty}

pub returns-in-Some-clause-event : goal.returns-in-Some-clause-event
returns-in-Some-clause-event c =
    let r = c.self.inside in
    rw (← c.self.view_is) (λ ls s read. value_told r.text.now r.at r.count r.stage r.values c.in-Some.word.now c.word.new.self c.value.result ls s c.in-Some.ensures.gives c.value.ensures)

pub invariant_of-self-in-Some-next_line : goal.invariant_of-self-in-Some-next_line
invariant_of-self-in-Some-next_line c =
    let r = c.self.inside in
    let line = c.in-Some-next_line.ensures.some in
    let bytes : length (take (length r.text.now - r.at) (drop r.at r.text.now)) ≡ length r.text.now - r.at = ap length (take_rest r.text.now r.at) ∙ length-drop r.at r.text.now in
    (omega (arith, line.some, c.self.invariant.0), omega (arith, line.within, bytes, c.self.invariant.1), omega (arith, owed_next r.stage line.line c.in-Some-next_line.next.stage line.follows, c.self.invariant.2))

pub returns-in-Some-next_line-clause-event : goal.returns-in-Some-next_line-clause-event
returns-in-Some-next_line-clause-event c =
    let r = c.self.inside in
    let next = c.in-Some-next_line.next in
    rw (← c.self.view_is) (λ ls s read. line_told r.text.now r.at r.count r.stage r.values next.length next.stage next.item (values_of next.values) ls s c.in_default.ensures.gives c.in-Some-next_line.ensures.some read)

pub returns-in-None-clause-fault : goal.returns-in-None-clause-fault
returns-in-None-clause-fault c =
    let r = c.self.inside in
    rw (← c.self.view_is) (λ ls s read. fault_told r.text.now r.at r.count r.stage (values_of r.values) ls s c.in-None.ensures.none
    (elim c.else-is_empty.branch [ else-is_empty-via-then-is_empty+else-is_over w ↦ inr (λ over. let is_over = rw w.if-is_over.false at (w.is_over.ensures.1 over) in absurd (cc)) | else-is_empty-via-else-is_empty w ↦ inl (not_empty _ (sym c.is_empty.ensures ∙ w.if-is_empty.false)) ]) read)
