-- The calls tell the piece behind what they told of the bytes said, and nothing new of the file being written.
use Rattle.std.proofs.Common.{◌≡◌, ◌++◌, ap, sym, ◌∙◌, rules}
use Rattle.cfn_desk.specs.Outside.{said, written}
use Rattle.cfn_desk.proofs.CallerLemmas.{said-says, written-says}
use Rattle.cfn_desk.proofs.memory.MemoryDeskDesk.say.Goals as goal

pub invariant_of-self : goal.invariant_of-self
invariant_of-self c =
    let piece = c.args.bytes.now in
    let inside = c.self.inside in
    let added : c.add.new.self.bytes ≡ inside.text.bytes ++ piece = search rules in
    (c.self.invariant.0, (ap written c.say.ensures ∙ written-says piece inside.trace.calls ∙ c.self.invariant.1.0, (ap said c.say.ensures ∙ said-says piece inside.trace.calls ∙ ap (λ told. told ++ piece) c.self.invariant.1.1.0 ∙ sym added, c.self.invariant.1.1.1)))
