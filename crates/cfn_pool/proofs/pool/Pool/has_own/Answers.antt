use Rattle.std.proofs.Common.{◌≡◌, ℕ, ◌∙◌, sym, ap, subst}
use Rattle.cfn_model.specs.Network.{Network}
use Rattle.cfn_model.specs.Certificate.{threshold_of}
use Rattle.cfn_net.specs.Scoring.{Scoring, IsPriced}
use Rattle.cfn_machine.specs.Parts.{HasActiveBelow, NoneActiveBelow}
use Rattle.cfn_machine.specs.Pool.{PoolTree, price}
use Rattle.cfn_low.specs.Holding.{Holding as Part}
use Rattle.cfn_leaves.specs.Value.{Holding as Leaves, pool_tree}
use Rattle.cfn_pool.specs.Views.{Held, pool, values_of}
use Rattle.cfn_pool.proofs.Kept.{price_is}
use Rattle.cfn_pool.proofs.pool.Pool.has_own.Goals as goal

-- what is said of the leaves at the price that is read holds of the pool's tree at the price of what is kept
of_pool : (Q : Network → PoolTree → ℕ → Type 0) (P : Network) (leaves : Leaves) (part : Part) (best : Scoring) (k : ℕ) → leaves.network ≡ P → best ≡ record { network = P; held = part.held } → IsPriced best.network best.held →
    k ≡ threshold_of best.network.upper best.held → Q leaves.network (pool_tree leaves) k → Q P (pool_tree leaves) (price P (values_of part.held))
of_pool Q P leaves part best k own is priced price_read there =
    let k_is : k ≡ price P (values_of part.held) =
    price_read ∙ ap (λ (s : Scoring). threshold_of s.network.upper s.held) is ∙ sym (price_is P part.held (subst (λ (s : Scoring). IsPriced s.network s.held) is priced)) in
    subst (Q P (pool_tree leaves)) k_is (subst (λ (N : Network). Q N (pool_tree leaves) k) own there)

pub returns-clause-some : goal.returns-clause-some
returns-clause-some g c = λ is.
    let P = g.M.Incumbent.network in
    subst (λ (h : Held). HasActiveBelow P (pool h).tree (price P (pool h).view.best)) c.self.view_is
    (of_pool HasActiveBelow P c.self.inside.leaves c.self.inside.holder c.best-best.result.now c.price.result c.self.invariant.held.own c.best-best.ensures c.law_priced.ensures c.price.ensures
    (c.has_active_below.ensures.some is))

pub returns-clause-none : goal.returns-clause-none
returns-clause-none g c = λ is.
    let P = g.M.Incumbent.network in
    subst (λ (h : Held). NoneActiveBelow P (pool h).tree (price P (pool h).view.best)) c.self.view_is
    (of_pool NoneActiveBelow P c.self.inside.leaves c.self.inside.holder c.best-best.result.now c.price.result c.self.invariant.held.own c.best-best.ensures c.law_priced.ensures c.price.ensures
    (c.has_active_below.ensures.none is))
