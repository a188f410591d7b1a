use Rattle.std.proofs.Common.{◌≡◌, ℕ, ◌+◌, ◌-◌, List, [], ◌∷◌, Option, Some, None, map, refl, replicate, reverse, sym, ap, ap₂, ◌∙◌}
use Rattle.cfn_model.specs.Network.{Network}
use Rattle.cfn_proof.specs.declared.tree.Node.{Node}
use Rattle.cfn_proof.specs.Nodes.{tree_of, open_node}
use Rattle.cfn_net.specs.Scoring.{Scoring}
use Rattle.cfn_machine.specs.Pool.{opening_part, opening_pool, new_view}
use Rattle.cfn_machine.specs.Parts.{has_leaf}
use Rattle.cfn_leaves.specs.Value.{Holding as Leaves, pool_of}
use Rattle.cfn_core.specs.World.{opening}
use Rattle.cfn_core.specs.Machine.{Machine, found_of, seat_of, world_of}
use Rattle.cfn_core.proofs.Machines.{is_opened}
use Rattle.cfn_core.proofs.world.World.start.Goals as goal

-- one open leaf, and nothing found
opened : (P : Network) (leaves : Leaves) (nodes : List Node) (held : Option (List ℕ)) (shares budget top seen : ℕ) → nodes ≡ open_node None ∷ [] → held ≡ None → seen ≡ top →
    pool_of leaves (record { best = None; seen = top; shares = shares }) ≡ opening_part (has_leaf None) P shares budget (tree_of nodes) None → pool_of leaves (record { best = held; seen = seen; shares = shares }) ≡ opening_pool P shares budget
opened P leaves nodes held shares budget top seen one none same is =
    ap₂ (λ h (s : ℕ). pool_of leaves (record { best = h; seen = s; shares = shares })) none same ∙ is ∙ ap (λ ns. opening_part (has_leaf None) P shares budget (tree_of ns) None) one

same_world : (m : Machine) (P : Network) (workers budget : ℕ) → pool_of m.leaves m.view ≡ opening_pool P (127 - workers) budget → m.word ≡ P.upper → m.views ≡ replicate (workers + 1) (Some (new_view P 1)) → m.notes ≡ [] → m.hands ≡ [] → world_of m ≡ opening P workers budget
same_world m P workers budget pool word views notes hands = cc

pub returns-clause-world : goal.returns-clause-world
returns-clause-world c =
    let P = c.args.network.now in
    let leaves = c.in_ok-leaves.leaves in
    let m : Machine = record {
      network = P;
      leaves = leaves;
      view = record { best = found_of c.in_ok-empty.field-0.held; seen = c.ub-2.result; shares = 127 - c.args.workers };
      word = c.ub-3.result;
      views = map seat_of c.in_ok-new_seats.field-0.items;
      notes = c.new-2.result.items;
      hands = reverse c.new-3.result.items;
    } in
    same_world m P c.args.workers c.args.budget
    (opened P leaves c.in_ok-tree.tree (found_of c.in_ok-empty.field-0.held) (127 - c.args.workers) c.args.budget c.ub.result c.ub-2.result c.in_ok-tree.ensures (ap (λ (s : Scoring). found_of s.held) c.in_ok-empty.ensures) (c.ub-2.ensures ∙ sym c.ub.ensures)
    (c.in_ok-leaves.ensures.pool (127 - c.args.workers) None (sym c.ub.ensures)))
    c.ub-3.ensures c.in_ok-new_seats.ensures.views c.new-2.ensures.items (ap reverse c.new-3.ensures.items)

pub invariant_of-result : goal.invariant_of-result
invariant_of-result c = record {
  machine = is_opened c.args.network.now c.args.workers c.args.budget _ refl c.in_ok-leaves.ensures.network (returns-clause-world c) c.law_limits.ensures c.requires.few;
  own = ap (λ (s : Scoring). s.network) c.in_ok-empty.ensures;
  each = c.in_ok-new_seats.ensures.each;
}
