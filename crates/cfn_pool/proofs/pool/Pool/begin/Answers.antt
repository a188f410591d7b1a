use Rattle.std.proofs.Common.{◌≡◌, ◌∙◌, sym, ap, subst, List, [], ◌∷◌, Option, None, arith}
use Rattle.std.specs.Prelude.{IfOk}
use Rattle.cfn_model.specs.Network.{Network, IsNetwork}
use Rattle.cfn_model.specs.Certificate.{Solution}
use Rattle.cfn_model.specs.Tree.{Open, count}
use Rattle.cfn_proof.specs.Nodes.{tree_of, open_node}
use Rattle.cfn_proof.specs.declared.tree.Node.{Node}
use Rattle.cfn_machine.specs.Pool.{IsKept, opening_part, price}
use Rattle.cfn_machine.specs.Parts.{has_leaf}
use Rattle.cfn_machine.proofs.CallerLemmas.{opening_small}
use Rattle.cfn_pool.specs.Views.{Held, pool, values_of}
use Rattle.cfn_pool.proofs.pool.Pool.begin.Goals as goal

-- one open leaf may be begun with, where nothing is kept
kept_at_first : (P : Network) (nodes : List Node) (held : Option Solution) → IsNetwork P → nodes ≡ open_node None ∷ [] → held ≡ None → IsKept P (tree_of nodes) (values_of held)
kept_at_first P nodes held network one none =
    subst (λ (ns : List Node). IsKept P (tree_of ns) (values_of held)) (sym one)
    (subst (λ (h : Option Solution). IsKept P (Open []) (values_of h)) (sym none) (record { valid = tt; strict = tt; tame = opening_small P network; fits = tt }))

pub begin_with-requires-clause-few : goal.begin_with-requires-clause-few
begin_with-requires-clause-few g c = let none = ap (λ (ns : List Node). count (tree_of ns)) c.in-Ok.ensures in omega (arith, none)

pub begin_with-requires-clause-kept : goal.begin_with-requires-clause-kept
begin_with-requires-clause-kept g c =
    kept_at_first g.M.Incumbent.network c.in-Ok.tree c.args.holder.held (subst IsNetwork c.requires.own c.law_limits.ensures) c.in-Ok.ensures c.requires.none

pub begin_with-requires-clause-seen : goal.begin_with-requires-clause-seen
begin_with-requires-clause-seen g c = c.requires.seen ∙ sym (ap (λ (h : Option Solution). price g.M.Incumbent.network (values_of h)) c.requires.none)

pub returns-clause-pool : goal.returns-clause-pool
returns-clause-pool g c =
    subst (λ (h : Option Solution). IfOk c.begin_with.result (λ (held : Held). pool held ≡ opening_part (has_leaf None) g.M.Incumbent.network c.args.holder.shares c.args.budget (Open []) (values_of h))) c.requires.none
    (subst (λ (ns : List Node). IfOk c.begin_with.result (λ (held : Held). pool held ≡ opening_part (has_leaf None) g.M.Incumbent.network c.args.holder.shares c.args.budget (tree_of ns) (values_of c.args.holder.held))) c.in-Ok.ensures c.begin_with.ensures.pool)
