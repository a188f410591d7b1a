use Rattle.std.proofs.Common.{◌≡◌, List, [], ◌∷◌, ◌++◌, reverse, ap, sym, subst, ◌∙◌}
use Rattle.std.proofs.lemmas.List.{reverse-append}
use Rattle.cfn_fault.specs.Nodes.{Splits}
use Rattle.cfn_certtext.specs.Reading.{decision_of}
use Rattle.cfn_certread.specs.declared.maker.Due.{Due}
use Rattle.cfn_certread.specs.Making.{Making, AreDue, IsMaking, Goes, sides_at}
use Rattle.cfn_certread.proofs.Growing.{split_read, split_making, with_sides, with_sides_is}
use Rattle.cfn_certread.proofs.maker.Maker.split.Goals as goal

-- where the sides go
goes_to : (c : goal.After-self-1) → record { nodes = c.split.new.tree; block = c.taken-block.new.block; due = c.in_ok-first.first ∷ reverse c.push_reserved.new.self.items }
    ≡ with_sides (sides_at c.self.inside.tree c.in-Some.here c.self.inside.block (decision_of c.args.decision)) (reverse c.self.inside.waiting.items)
goes_to c =
    let i = c.self.inside in
    let waits : reverse c.push_reserved.new.self.items ≡ c.in_ok-first.second ∷ reverse i.waiting.items
    = ap (λ (ds : List Due). reverse ds) (c.push_reserved.ensures.items ∙ ap (λ ds. ds ++ c.in_ok-first.second ∷ []) c.in_ok-reserve.ensures.items) ∙ reverse-append i.waiting.items (c.in_ok-first.second ∷ []) in
    with_sides_is i.tree c.split.new.tree c.in-Some.here c.in_ok-first.first c.in_ok-first.second i.block c.taken-block.new.block (decision_of c.args.decision) (reverse i.waiting.items) (reverse c.push_reserved.new.self.items)
    (rw c.taken-block.ensures.steps at c.in_ok-first.ensures.nodes) c.taken-block.ensures.left (rw c.taken-block.ensures.steps at c.in_ok-first.ensures.due) waits

pub invariant_of-self-2 : goal.invariant_of-self-2
invariant_of-self-2 c =
    let i = c.self.inside in
    let are : AreDue i.tree (c.in-Some.here ∷ reverse i.waiting.items) = rw c.in-Some.is at c.self.invariant.due in
    subst IsMaking (sym (goes_to c)) (split_making i.tree i.block c.in-Some.here (reverse i.waiting.items) (decision_of c.args.decision) are)

pub returns : goal.returns
returns c =
    let i = c.self.inside in
    let are : AreDue i.tree (c.in-Some.here ∷ reverse i.waiting.items) = rw c.in-Some.is at c.self.invariant.due in
    let old : Making = record { nodes = i.tree; block = i.block; due = c.in-Some.here ∷ reverse i.waiting.items } in
    rw (← c.self.view_is, c.in-Some.is) (subst (λ (m : Making). Goes old m (Splits (decision_of c.args.decision))) (sym (goes_to c)) (split_read i.tree i.block c.in-Some.here (reverse i.waiting.items) (decision_of c.args.decision) are c.self.invariant.small))
