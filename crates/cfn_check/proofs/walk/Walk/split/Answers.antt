use Rattle.std.proofs.Common.{◌≡◌, List, [], ◌∷◌, reverse, ap, sym, subst, ◌∙◌}
use Rattle.std.proofs.lemmas.List.{reverse-append}
use Rattle.cfn_model.specs.Network.{Network}
use Rattle.cfn_model.specs.Steps.{IsDecision}
use Rattle.cfn_check.specs.declared.owed.Owed.{Owed}
use Rattle.cfn_check.proofs.Walking.{parted}
use Rattle.cfn_check.proofs.walk.Walk.split.Goals as goal

pub returns-clause-splits : goal.returns-clause-splits
returns-clause-splits c =
    let s = c.self.inside.ledger in
    let o : Owed = record { mark = c.mark-mark.result; decision = c.in-Some.decision } in
    let owed = reverse c.self.inside.owed.items in
    let trail : reverse c.push.new.self.items ≡ o ∷ owed = ap (λ (xs : List Owed). reverse xs) c.in_ok-push.ensures.items ∙ reverse-append c.self.inside.owed.items (o ∷ []) in
    let same = c.requires ∙ sym (ap (λ w. w.network) c.self.view_is) in
    let is = c.in-Some.ensures.0 in
    let decision = subst (λ (P : Network). IsDecision P c.in-Some.decision) same (rw is c.in-Some.ensures.1) in
    rw (← c.self.view_is) (rw (trail, ← is) (parted s c.record.new.self c.self.inside.threshold c.self.inside.least c.self.inside.over owed o c.mark-mark.ensures c.self.invariant decision c.in_ok-record.ensures.ok))
