use Rattle.std.proofs.Common.{◌∷◌, reverse, refl, sym, ap, subst}
use Rattle.cfn_proof.specs.Nodes.{tree_of}
use Rattle.cfn_rebase.specs.Walking.{leaves_of, IsWalking}
use Rattle.cfn_rebase.proofs.Keepings.{due_at}
use Rattle.cfn_rebase.proofs.Walkings.{starts}
use Rattle.cfn_rebase.proofs.walk.Walk.make.Goals as goal

pub returns : goal.returns
returns c =
    let g = c.in_ok-ground.ground in
    let old = c.args.old.now in
    record {
      at = record {
        due = λ j. due_at g.base (tree_of old);
        walking = subst (λ ws. IsWalking c.args.network.now c.args.threshold old c.in_ok-tree.tree (λ j. due_at g.base (tree_of old)) g (0 ∷ leaves_of ws) ws) (sym (ap reverse c.new-waiting.ensures.items))
            (starts c.args.network.now c.args.threshold old c.in_ok-tree.tree g c.in_ok-ground.ensures.network c.in_ok-ground.ensures.base c.in_ok-tree.ensures);
        threshold = refl;
        here = refl;
        there = c.law_linked.ensures.linked.some;
      };
      none = c.in_ok-ground.ensures.block;
    }
