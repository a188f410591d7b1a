use Rattle.std.proofs.Common.{◌≡◌, ℕ, List, [], ◌∷◌, Option, None, Result, Ok, Err, IfOk, sym, ap, ◌∙◌}
use Rattle.cfn_model.specs.Network.{Network, IsNetwork}
use Rattle.cfn_proof.specs.declared.tree.Node.{Node}
use Rattle.cfn_proof.specs.Nodes.{tree_of, open_node}
use Rattle.cfn_machine.specs.Pool.{opening_part, opening_with, price}
use Rattle.cfn_machine.specs.Parts.{has_leaf}
use Rattle.cfn_leaves.specs.Answers.{IsSoundPool}
use Rattle.cfn_leaves.specs.Value.{Holding, pool_of}
use Rattle.cfn_leaves.proofs.CallerLemmas.{sound_start}
use Rattle.cfn_parts_tests.proofs.handing.opened.Goals as goal

-- a search that is no part has the one open leaf
whole : (P : Network) (shares budget : ℕ) (nodes : List Node) (best : Option (List ℕ)) → nodes ≡ open_node None ∷ [] →
    opening_part (has_leaf None) P shares budget (tree_of nodes) best ≡ opening_with P shares budget (tree_of nodes) best
whole P shares budget nodes best one =
    ap (λ (ns : List Node). opening_part (has_leaf None) P shares budget (tree_of ns) best) one ∙ sym (ap (λ (ns : List Node). opening_with P shares budget (tree_of ns) best) one)

sound : (E : Type 0) (P : Network) (r : Result Holding E) (budget threshold : ℕ) (nodes : List Node) → IsNetwork P → threshold ≡ P.upper → nodes ≡ open_node None ∷ [] → IfOk r (λ l. l.network ≡ P) →
    IfOk r (λ l. (shares : ℕ) (best : Option (List ℕ)) → price P best ≡ threshold →
    pool_of l (record { best = best; seen = threshold; shares = shares }) ≡ opening_part (has_leaf None) P shares budget (tree_of nodes) best) → IfOk r IsSoundPool
sound E P (Ok l) budget threshold nodes network upper one own is =
    sound_start {E = E} P (Ok l) budget threshold nodes network upper one own (λ shares best priced. is shares best priced ∙ whole P shares budget nodes best one)
sound E P (Err e) budget threshold nodes network upper one own is = tt

pub returns-clause-sound : goal.returns-clause-sound
returns-clause-sound c = sound _ c.args.network.now c.start.result c.args.budget c.ub.result c.in_ok-tree.tree c.law_limits.ensures c.ub.ensures c.in_ok-tree.ensures c.start.ensures.network c.start.ensures.pool
