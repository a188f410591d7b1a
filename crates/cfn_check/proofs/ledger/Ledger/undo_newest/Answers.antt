use Rattle.std.proofs.Common.{◌≡◌, sym, ap, ◌∙◌, subst}
use Rattle.cfn_model.specs.Network.{Network, IsNetwork}
use Rattle.cfn_tables.specs.Tables.{HasRoom}
use Rattle.std.proofs.Common.{List, [], ◌∷◌, reverse}
use Rattle.std.proofs.lemmas.List.{reverse-append}
use Rattle.cfn_check.specs.declared.entry.Entry.{Entry}
use Rattle.cfn_check.proofs.Rooms.{room}
use Rattle.cfn_check.proofs.Saying.{newest_flag, undone}
use Rattle.cfn_check.proofs.ledger.Ledger.undo_newest.Goals as goal

pub revert-requires-clause-room : goal.revert-requires-clause-room
revert-requires-clause-room c =
    let same : c.args.network.now ≡ c.self.inside.network.value = c.requires.same ∙ sym (ap (λ s. s.network) c.self.view_is) in
    subst (λ (P : Network). HasRoom P c.self.inside.costs) (sym same) (room _ _ _ (subst (λ (P : Network). IsNetwork P) same c.law_limits.ensures) c.self.invariant)

pub revert-requires-clause-flag : goal.revert-requires-clause-flag
revert-requires-clause-flag c =
    let rest = reverse c.pop.new.self.items in
    let trail : reverse c.self.inside.trail.items ≡ c.in-Some.entry ∷ rest = ap (λ (xs : List Entry). reverse xs) c.in-Some.ensures.items ∙ reverse-append c.pop.new.self.items (c.in-Some.entry ∷ []) in
    newest_flag c.self.inside.network.value c.self.inside.costs (reverse c.self.inside.trail.items) c.in-Some.entry rest trail c.self.invariant

pub invariant_of-self : goal.invariant_of-self
invariant_of-self c =
    let same : c.args.network.now ≡ c.self.inside.network.value = c.requires.same ∙ sym (ap (λ s. s.network) c.self.view_is) in
    let rest = reverse c.pop.new.self.items in
    let trail : reverse c.self.inside.trail.items ≡ c.in-Some.entry ∷ rest = ap (λ (xs : List Entry). reverse xs) c.in-Some.ensures.items ∙ reverse-append c.pop.new.self.items (c.in-Some.entry ∷ []) in
    undone c.self.inside.network.value c.self.inside.costs c.revert.new.self (reverse c.self.inside.trail.items) c.in-Some.entry rest trail (rw same at c.revert.ensures.shape) (rw same at c.revert.ensures.adds) (rw same at c.revert.ensures.cut) c.self.invariant
