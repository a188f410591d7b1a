use Rattle.std.proofs.Common.{◌≡◌, ℕ, [], sym, ap, ap₂, ◌∙◌, subst, Option, Some, None, nat_lt, if◌then◌else◌}
use Rattle.cfn_model.specs.declared.report.Row.{Row}
use Rattle.cfn_model.specs.Network.{Network, IsNetwork}
use Rattle.cfn_model.specs.Tree.{Tree, bound}
use Rattle.cfn_machine.specs.Pool.{row_of, tree_of}
use Rattle.cfn_explore.specs.Telling.{AreBounds}
use Rattle.cfn_pool.specs.Views.{pool}
use Rattle.cfn_pool.proofs.Kept.{held}
use Rattle.cfn_pool.proofs.Rows.{row_holds}
use Rattle.cfn_pool.proofs.pool.Pool.news.Goals as goal

-- a row that is told is the row of bounds of now
row_is : (P Q R : Network) (tree : Tree) (seen now upper : ℕ) (row : Row) → Q ≡ P → R ≡ P → now ≡ seen → upper ≡ R.upper → row.lower ≡ bound Q [] tree now → row.upper ≡ (if nat_lt now upper then Some now else None) → row ≡ row_of P tree seen
row_is P Q R tree seen now upper row own same is top lower below =
    ap₂ (λ (l : ℕ) (u : Option ℕ). record { lower = l; upper = u })
    (lower ∙ ap (λ (N : Network). bound N [] tree now) own ∙ ap (bound P [] tree) is)
    (below ∙ ap (λ (u : ℕ). if nat_lt now u then Some now else None) (top ∙ ap (λ (N : Network). N.upper) same) ∙ ap (λ (s : ℕ). if nat_lt s P.upper then Some s else None) is)

pub returns-clause-hold : goal.returns-clause-hold
returns-clause-hold g c =
    let P = g.M.Incumbent.network in
    let part = c.self.inside.holder in
    let tree = tree_of (pool (held c.self.inside.leaves part c.self.inside.recording)).tree in
    subst (AreBounds P) (sym (row_is P c.self.inside.leaves.network c.args.network.now tree part.seen c.seen-seen.result c.ub.result _ c.self.invariant.held.own c.requires.own c.seen-seen.ensures c.ub.ensures c.bound.ensures c.below.ensures))
    (row_holds P tree part.seen (subst IsNetwork c.requires.own c.law_limits.ensures) c.law_kept.ensures.seen c.self.invariant.held.pool_is.sound.valid c.law_kept.ensures.reached)
