use Rattle.std.proofs.Common.{◌∷◌, reverse}
use Rattle.cfn_certread.specs.Making.{AreDue}
use Rattle.cfn_certread.proofs.Growing.{open_read, open_making}
use Rattle.cfn_certread.proofs.maker.Maker.open.Goals as goal

pub invariant_of-self : goal.invariant_of-self
invariant_of-self c =
    let i = c.self.inside in
    let are : AreDue i.tree (c.in-Some.here ∷ reverse i.waiting.items) = rw c.in-Some.is at c.self.invariant.due in
    rw (c.leave.ensures, c.taken-block.ensures.left, c.taken-block.ensures.steps, c.next_due-self-inside.ensures) (open_making i.tree i.block c.in-Some.here (reverse i.waiting.items) are)

pub returns : goal.returns
returns c =
    let i = c.self.inside in
    let are : AreDue i.tree (c.in-Some.here ∷ reverse i.waiting.items) = rw c.in-Some.is at c.self.invariant.due in
    rw (← c.self.view_is, c.in-Some.is, c.leave.ensures, c.taken-block.ensures.left, c.taken-block.ensures.steps, c.next_due-self-inside.ensures) (open_read i.tree i.block c.in-Some.here (reverse i.waiting.items) are c.self.invariant.small)
