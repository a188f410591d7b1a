use Rattle.std.proofs.Common.{rules, ℕ}
use Rattle.std.proofs.lemmas.List.Sorted.{answers_always}
use Rattle.cfn_net.proofs.Spreads.{entry_found, entry_absent}
use Rattle.cfn_net.proofs.sparse.Sparse.entry.Goals as goal

pub returns-in-Ok : goal.returns-in-Ok
returns-in-Ok c =
    let by_key = c.in-Ok.ensures.position (λ (pair : ℕ × ℕ). pair.0) (answers_always _ _ _ (λ f a r g called. search rules)) in
    entry_found c.self.inside.cells c.self.inside.default c.self.inside.listed.items c.deref.result.now c.args.self.now c.args.cell c.in-Ok.place c.index.result.now c.self.invariant c.self.view_is c.deref.ensures.value c.requires c.in-Ok.ensures.bound by_key c.index.ensures

pub returns-in-Err : goal.returns-in-Err
returns-in-Err c =
    let by_key = c.in-Err.ensures.position (λ (pair : ℕ × ℕ). pair.0) (answers_always _ _ _ (λ f a r g called. search rules)) in
    entry_absent c.self.inside.cells c.self.inside.default c.self.inside.listed.items c.deref.result.now c.args.self.now c.args.cell c.in-Err.field-0 c.self.invariant c.self.view_is c.deref.ensures.value c.requires c.in-Err.ensures.bound by_key
