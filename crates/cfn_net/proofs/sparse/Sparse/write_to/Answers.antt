use Rattle.std.proofs.Common.{◌≡◌, [], length, refl, sym, ap, subst, ◌∙◌, arith}
use Rattle.std.proofs.lemmas.List.{take_all}
use Rattle.cfn_net.specs.Listed.{AreListings, spread}
use Rattle.cfn_net.proofs.Spreads.{length-spread, spread-start, spread-within, spread-next}
use Rattle.cfn_net.proofs.sparse.Sparse.write_to.Goals as goal

pub loop-cell-init : goal.loop-cell-init
loop-cell-init c =
    let filled = spread-start c.self.inside.default c.fill.new.self (λ i l. c.fill.ensures.clones i 0 (omega (arith, c.fill.ensures.len)) refl) in
    subst (λ n. c.fill.new.self ≡ spread n c.self.inside.default []) c.fill.ensures.len filled

pub bounds-entries-cell : goal.bounds-entries-cell
bounds-entries-cell c =
    let cells : length c.args.entries.now ≡ c.self.inside.cells = c.requires ∙ ap length (sym c.self.view_is) ∙ length-spread c.self.inside.cells c.self.inside.default c.self.inside.listed.items in
    spread-within (length c.args.entries.now) c.self.inside.listed.items c.as_slice-listed.result.now c.loop-cell.entries c.loop-cell.cell-index c.self.inside.default (subst (λ n. AreListings n c.self.inside.listed.items) (sym cells) c.self.invariant) c.as_slice-listed.ensures.value (omega arith) c.loop-cell.invariant

pub loop-cell-preserved : goal.loop-cell-preserved
loop-cell-preserved c =
    let cells : length c.args.entries.now ≡ c.self.inside.cells = c.requires ∙ ap length (sym c.self.view_is) ∙ length-spread c.self.inside.cells c.self.inside.default c.self.inside.listed.items in
    spread-next (length c.args.entries.now) c.self.inside.listed.items c.as_slice-listed.result.now c.loop-cell.entries c.loop-cell.cell-index c.self.inside.default (subst (λ n. AreListings n c.self.inside.listed.items) (sym cells) c.self.invariant) c.as_slice-listed.ensures.value (omega arith) c.loop-cell.invariant

pub returns : goal.returns
returns c =
    let cells : length c.args.entries.now ≡ c.self.inside.cells = c.requires ∙ ap length (sym c.self.view_is) ∙ length-spread c.self.inside.cells c.self.inside.default c.self.inside.listed.items in
    c.loop-cell.invariant ∙ ap (spread (length c.args.entries.now) c.self.inside.default) (take_all c.loop-cell.cell-index c.as_slice-listed.result.now (omega arith) ∙ c.as_slice-listed.ensures.value) ∙ ap (λ n. spread n c.self.inside.default c.self.inside.listed.items) cells ∙ c.self.view_is
