use Rattle.std.proofs.Common.{◌≡◌, ◌∙◌, refl, ap, sym, subst, true≢false}
use Rattle.std.specs.Prelude.{MatchOption}
use Rattle.cfn_leaves.specs.declared.entry.Entry.{Entry}
use Rattle.cfn_leaves.specs.Standing.{entry_at}
use Rattle.cfn_leaves.specs.Out.{IsOutTo, IsOutEntry}
use Rattle.cfn_leaves.specs.Value.{Holding}
use Rattle.cfn_leaves.proofs.Trees.{some_none, same_some}
use Rattle.cfn_leaves.proofs.Outs.{out_there, entry_out}
use Rattle.cfn_leaves.proofs.Insides.{value, body}
use Rattle.cfn_leaves.proofs.leaves.Leaves.out_entry.Goals as goal

pub returns-in_err-entry : goal.returns-in_err-entry
returns-in_err-entry c =
    let m = value c.self.inside in
    let read : entry_at m.table c.args.leaf ≡ c.held.result = ap (λ l. entry_at l c.args.leaf) (sym c.deref.ensures.value) ∙ sym c.held.ensures in
    subst (λ o. MatchOption o (IsOutTo c.args.self.now c.args.leaf c.args.worker c.args.grant → ⊥) (IsOutEntry c.args.self.now c.args.leaf c.args.worker c.args.grant)) (sym c.from_residual.ensures)
    (subst (λ (h : Holding). IsOutTo h c.args.leaf c.args.worker c.args.grant → ⊥) c.self.view_is
    (λ out. (let at = out_there m c.args.leaf c.args.worker c.args.grant c.law_same_before.ensures.once c.self.invariant.body.are out in some_none (sym (read ∙ c.in_err-entry.was) ∙ at.1))))

pub returns-then-is_out_to : goal.returns-then-is_out_to
returns-then-is_out_to c =
    let m = value c.self.inside in
    let read : entry_at m.table c.args.leaf ≡ c.held.result = ap (λ l. entry_at l c.args.leaf) (sym c.deref.ensures.value) ∙ sym c.held.ensures in
    subst (λ (h : Holding). IsOutEntry h c.args.leaf c.args.worker c.args.grant c.in_ok-entry.entry) c.self.view_is
    (entry_out m (body c.self.inside) c.args.leaf c.args.worker c.args.grant c.in_ok-entry.entry c.law_same_before.ensures.once refl c.self.invariant.body (read ∙ c.in_ok-entry.was) (c.is_out_to.ensures.0 c.if-is_out_to.true))

pub returns : goal.returns
returns c =
    let m = value c.self.inside in
    let read : entry_at m.table c.args.leaf ≡ c.held.result = ap (λ l. entry_at l c.args.leaf) (sym c.deref.ensures.value) ∙ sym c.held.ensures in
    subst (λ (h : Holding). IsOutTo h c.args.leaf c.args.worker c.args.grant → ⊥) c.self.view_is
    (λ out. (let at = out_there m c.args.leaf c.args.worker c.args.grant c.law_same_before.ensures.once c.self.invariant.body.are out in
    let same = same_some (sym (read ∙ c.in_ok-entry.was) ∙ at.1) in
    true≢false (sym (c.is_out_to.ensures.1 (ap (λ (e : Entry). e.mark) same ∙ at.2)) ∙ c.if-is_out_to.false)))
