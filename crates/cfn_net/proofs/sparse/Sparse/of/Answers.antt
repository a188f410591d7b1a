use Rattle.std.proofs.Common.{ℕ, ◌+◌, List, Vec, Global, sym, ap, subst, ◌∙◌, arith}
use Rattle.cfn_net.proofs.Spreads.{Lists, Lists-more, Lists-skip, Lists-end}
use Rattle.cfn_net.proofs.sparse.Sparse.of.Goals.{then-entry-default+in_ok-push, else-entry-default}
use Rattle.cfn_net.proofs.sparse.Sparse.of.Goals as goal

pub loop-cell-preserved : goal.loop-cell-preserved
loop-cell-preserved c =
    let next : List (ℕ × ℕ) → Type 0 = λ listings. Lists c.args.default c.args.entries.now (c.loop-cell.cell + 1) listings in
    elim c.if-entry-default.branch [
      | then-entry-default+in_ok-push w ↦ subst next (sym (ap (λ (v : Vec (ℕ × ℕ) Global). v.items) w.listed-is ∙ w.in_ok-push.ensures.items)) (Lists-more c.args.default c.args.entries.now c.loop-cell.cell c.loop-cell.listed.items c.loop-cell.invariant)
      | else-entry-default w ↦ subst next (sym (ap (λ (v : Vec (ℕ × ℕ) Global). v.items) w.listed-is)) (Lists-skip c.args.default c.args.entries.now c.loop-cell.cell c.loop-cell.listed.items c.loop-cell.invariant w.if-entry-default.false)
    ]

pub returns : goal.returns
returns c = Lists-end c.args.default c.args.entries.now c.loop-cell.cell c.loop-cell.listed.items c.loop-cell.invariant (omega arith)
