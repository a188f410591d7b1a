-- The leaves that a replay starts with stand for the opening.
use Rattle.std.proofs.Common.{◌≡◌, ℕ, List, [], ◌∷◌, length, refl, sym, ap, ◌∙◌}
use Rattle.std.specs.Prelude.{Option, None}
use Rattle.cfn_model.specs.Network.{Network}
use Rattle.cfn_model.specs.Tree.{Open}
use Rattle.cfn_machine.specs.Pool.{View, opening_part, price}
use Rattle.cfn_machine.specs.Parts.{has_leaf}
use Rattle.cfn_machine.specs.Word.{all_shares}
use Rattle.cfn_machine.proofs.CallerLemmas.{opens_numbered}
use Rattle.cfn_proof.specs.declared.tree.Node.{Node}
use Rattle.cfn_proof.specs.Nodes.{open_node, tree_of}
use Rattle.cfn_leaves.specs.Value.{Holding, pool_of}
use Rattle.cfn_record.specs.Lines.{AtEvents}
use Rattle.cfn_record.specs.Replaying.{opening}
use Rattle.cfn_record.proofs.CallerLemmas.{comes_first}
use Rattle.cfn_replay.specs.Position.{Position, At}
use Rattle.cfn_replay.specs.Standing.{Stands, opening_lines}

abbrev view_at : ℕ → View
view_at seen = record { best = None; seen = seen; shares = all_shares }

pub starts : (P : Network) (r : Position) (h : Holding) (budget threshold : ℕ) (nodes : List Node) → At P r (opening_lines P budget) (AtEvents []) → nodes ≡ open_node None ∷ [] → threshold ≡ P.upper → h.network ≡ P →
    ((shares : ℕ) (best : Option (List ℕ)) → price P best ≡ threshold → pool_of h (record { best = best; seen = threshold; shares = shares }) ≡ opening_part (has_leaf None) P shares budget (tree_of nodes) best) → Stands P r h P.upper
starts P r h budget threshold nodes at nodes_are threshold_is network opens = record {
  front = opening_lines P budget;
  at = at;
  pool = opening P budget;
  comes = comes_first P (length P.sizes) (length P.functions) P.upper budget;
  held = record {
    network = network;
    own = opens_numbered P all_shares budget (Open []) None;
    is = ap (λ k. pool_of h (view_at k)) (sym threshold_is) ∙ opens all_shares None (sym threshold_is) ∙ ap (λ ns. opening_part (has_leaf None) P all_shares budget (tree_of ns) None) nodes_are;
  };
  seen_is = refl;
}
