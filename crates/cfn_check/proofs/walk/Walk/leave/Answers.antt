use Rattle.std.proofs.Common.{◌≡◌, ◌-◌, List, [], ◌∷◌, length, reverse, ap, subst, ◌∙◌}
use Rattle.std.proofs.lemmas.List.{reverse-append}
use Rattle.cfn_model.specs.declared.step.Event.TheVariants.{Refused}
use Rattle.cfn_check.specs.declared.owed.Owed.{Owed}
use Rattle.cfn_check.specs.Standing.{with_event, without}
use Rattle.cfn_check.specs.Walking.{AreOwed}
use Rattle.cfn_check.proofs.Walking.{still_owed, left}
use Rattle.cfn_check.proofs.walk.Walk.leave.Goals as goal

trail : (c : goal.In_ok-record) → reverse c.self.inside.owed.items ≡ c.in-Some.owed ∷ reverse c.pop.new.self.items
trail c = ap (λ (xs : List Owed). reverse xs) c.in-Some.ensures.items ∙ reverse-append c.pop.new.self.items (c.in-Some.owed ∷ [])

made : (c : goal.In_ok-record) → c.record.new.self ≡ with_event (Refused c.in-Some.owed.decision) (without (length c.self.inside.ledger.history - c.in-Some.owed.mark.events) c.self.inside.ledger)
made c = c.in_ok-record.ensures.ok ∙ ap (with_event (Refused c.in-Some.owed.decision)) c.undo.ensures

pub invariant_of-self-2 : goal.invariant_of-self-2
invariant_of-self-2 c =
    still_owed c.self.inside.ledger c.record.new.self c.in-Some.owed (reverse c.pop.new.self.items) (subst (λ (os : List Owed). AreOwed c.self.inside.ledger.network (length c.self.inside.ledger.history) os) (trail c) c.self.invariant) (made c)

pub returns-clause-leaves : goal.returns-clause-leaves
returns-clause-leaves c =
    let s = c.self.inside.ledger in
    let rest = reverse c.pop.new.self.items in
    let k = c.self.inside.threshold in
    let least = c.self.inside.least in
    let over = c.self.inside.over in
    let are = subst (λ (os : List Owed). AreOwed s.network (length s.history) os) (trail c) c.self.invariant in
    rw (← c.self.view_is) (rw (trail c) (left s c.record.new.self k least over c.in-Some.owed rest are (made c)))
