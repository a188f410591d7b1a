-- The calls tell the piece behind what they told of the file being written, and nothing new of the bytes said.
use Rattle.std.proofs.Common.{◌≡◌, ◌++◌, List, ap, ◌∙◌, rules, subst}
use Rattle.cfn_desk.specs.Outside.{Call, IsWritten, said, written, puts}
use Rattle.cfn_desk.specs.Room.{Bounded}
use Rattle.cfn_desk.specs.Slot.{written_at}
use Rattle.cfn_desk.specs.declared.slot.Stage.{Stage}
use Rattle.cfn_desk.specs.declared.slot.Stage.TheVariants.{Empty, Begun, Cut, Kept}
use Rattle.cfn_desk.proofs.CallerLemmas.{said-puts, written-puts}
use Rattle.cfn_desk.proofs.memory.MemoryDeskDesk.put.Goals as goal

-- a piece behind the bytes in the room is one behind those of the calls
written_more : (stage : Stage) (name before now : Bounded) (piece : List _) (calls : List Call) → IsWritten (written calls) → written calls ≡ written_at stage name before → now.bytes ≡ before.bytes ++ piece → written (puts piece calls) ≡ written_at stage name now
written_more Empty name before now piece calls is h e = absurd (subst IsWritten h is)
written_more Begun name before now piece calls is h e = rw e (written-puts piece calls name.bytes before.bytes h)
written_more Cut name before now piece calls is h e = absurd (subst IsWritten h is)
written_more Kept name before now piece calls is h e = absurd (subst IsWritten h is)

pub invariant_of-self : goal.invariant_of-self
invariant_of-self c =
    let piece = c.args.bytes.now in
    let inside = c.self.inside in
    let added : c.add.new.self.bytes ≡ inside.slot.bytes.bytes ++ piece = search rules in
    let is : IsWritten (written inside.trace.calls) = search rules in
    (c.self.invariant.0, (ap written c.put.ensures ∙ written_more inside.slot.stage inside.slot.name inside.slot.bytes c.add.new.self piece inside.trace.calls is c.self.invariant.1.0 added, (ap said c.put.ensures ∙ said-puts piece inside.trace.calls ∙ c.self.invariant.1.1.0, c.self.invariant.1.1.1)))
