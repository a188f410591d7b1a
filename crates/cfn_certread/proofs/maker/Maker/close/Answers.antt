use Rattle.std.proofs.Common.{◌∷◌, reverse}
use Rattle.cfn_certread.specs.Making.{AreDue}
use Rattle.cfn_certread.proofs.Growing.{closed_read, close_making}
use Rattle.cfn_certread.proofs.maker.Maker.close.Goals as goal

pub invariant_of-self : goal.invariant_of-self
invariant_of-self c =
    let i = c.self.inside in
    let are : AreDue i.tree (c.in-Some.here ∷ reverse i.waiting.items) = rw c.in-Some.is at c.self.invariant.due in
    rw (c.close.ensures, c.taken-block.ensures.left, c.taken-block.ensures.steps, c.next_due-self-inside.ensures) (close_making i.tree i.block c.in-Some.here (reverse i.waiting.items) are)

pub returns : goal.returns
returns c =
    let i = c.self.inside in
    let are : AreDue i.tree (c.in-Some.here ∷ reverse i.waiting.items) = rw c.in-Some.is at c.self.invariant.due in
    rw (← c.self.view_is, c.in-Some.is, c.close.ensures, c.taken-block.ensures.left, c.taken-block.ensures.steps, c.next_due-self-inside.ensures) (closed_read i.tree i.block c.in-Some.here (reverse i.waiting.items) are c.self.invariant.small)
