use Rattle.std.proofs.Common.{◌≡◌, ℕ, ◌∙◌, refl, sym, ap, subst, List, Option, None, Some, inl, inr, nat_lt, Bool}
use Rattle.cfn_model.specs.Network.{Network, IsNetwork}
use Rattle.cfn_proof.specs.Nodes.{tree_of}
use Rattle.cfn_proof.specs.declared.tree.Node.{Node}
use Rattle.cfn_machine.specs.Laws.{IsPool}
use Rattle.cfn_machine.specs.Pool.{Pool, KeepsFitting, opening_part, price}
use Rattle.cfn_machine.specs.Parts.{has_leaf}
use Rattle.cfn_machine.proofs.CallerLemmas.{opens_part}
use Rattle.cfn_leaves.specs.Value.{Holding as Leaves, pool_of}
use Rattle.cfn_low.specs.Holding.{Holding as Part}
use Rattle.cfn_low.specs.Steps.{IsReached}
use Rattle.cfn_pool.specs.declared.recording.Recording.TheVariants.{Off}
use Rattle.cfn_pool.specs.Views.{pool, values_of, AreReached}
use Rattle.cfn_pool.proofs.Kept.{held, upper_reached}
use Rattle.cfn_pool.proofs.pool.Pool.begin_with.Goals as goal

-- the leaves of a tree, with a part that has seen the price of what it keeps, are the opening's
opened : (mine : ℕ → Bool) (P : Network) (leaves : Leaves) (part : Part) (nodes : List Node) (budget seen : ℕ) → seen ≡ part.seen →
    pool_of leaves (record { best = values_of part.held; seen = seen; shares = part.shares }) ≡ opening_part mine P part.shares budget (tree_of nodes) (values_of part.held) → pool (held leaves part Off) ≡ opening_part mine P part.shares budget (tree_of nodes) (values_of part.held)
opened mine P leaves part nodes budget seen now is = ap (λ (s : ℕ). pool_of leaves (record { best = values_of part.held; seen = s; shares = part.shares })) (sym now) ∙ is

-- the price of what fits was reached
reached : (P : Network) (best : Option (List ℕ)) → KeepsFitting P best → IsReached P (price P best)
reached P None fits = inl refl
reached P (Some values) fits = inr (values, fits, refl)

pub returns-in-Ok-clause-pool : goal.returns-in-Ok-clause-pool
returns-in-Ok-clause-pool g c =
    opened (has_leaf c.args.part) g.M.Incumbent.network c.in-Ok.leaves c.args.holder c.args.tree c.args.budget c.seen.result c.seen.ensures
    (subst (λ (Q : Network). pool_of c.in-Ok.leaves (record { best = values_of c.args.holder.held; seen = c.seen.result; shares = c.args.holder.shares }) ≡ opening_part (has_leaf c.args.part) Q c.args.holder.shares c.args.budget (tree_of c.args.tree) (values_of c.args.holder.held)) c.requires.own
    (c.in-Ok.ensures.pool c.args.holder.shares (values_of c.args.holder.held) (ap (λ (Q : Network). price Q (values_of c.args.holder.held)) c.requires.own ∙ sym c.requires.seen ∙ sym c.seen.ensures)))

pub invariant_of-result : goal.invariant_of-result
invariant_of-result g c =
    let P = g.M.Incumbent.network in
    let best = values_of c.args.holder.held in
    let k = price P best in
    record {
      room = tt;
      held = record {
        own = c.in-Ok.ensures.network ∙ c.requires.own;
        pool_is = subst (IsPool P) (sym (returns-in-Ok-clause-pool g c)) (opens_part (has_leaf c.args.part) P c.args.holder.shares c.args.budget (tree_of c.args.tree) best (subst IsNetwork c.requires.own c.law_limits.ensures) c.requires.kept);
        rows = subst (AreReached P) (sym (ap (λ (p : Pool). p.rows) (returns-in-Ok-clause-pool g c))) (upper_reached P k (nat_lt k P.upper) refl (reached P best c.requires.kept.fits), tt);
        recorded = tt;
      };
    }
