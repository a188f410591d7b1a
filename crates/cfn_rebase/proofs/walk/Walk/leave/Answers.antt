use Rattle.std.proofs.Common.{reverse, refl, sym, subst, arith}
use Rattle.cfn_proof.specs.Nodes.{tree_at}
use Rattle.cfn_rebase.specs.Walking.{leaves_of, IsWalking}
use Rattle.cfn_rebase.proofs.Walkings.{weight_some, ends_open}
use Rattle.cfn_rebase.proofs.walk.Walk.leave.Goals as goal

pub leave-requires-clause-there : goal.leave-requires-clause-there
leave-requires-clause-there c = c.requires.at.walking.leaves.0

pub leave-requires-clause-free : goal.leave-requires-clause-free
leave-requires-clause-free c = c.requires.at.walking.leaves.1

pub returns-clause-walks : goal.returns-clause-walks
returns-clause-walks c =
    let w = c.args.self.now in
    let r = c.requires in
    let ws = reverse w.waiting.items in
    record {
      due = r.at.due;
      walking = subst (λ ns. IsWalking w.ground.network w.threshold c.args.old.now ns r.at.due w.ground (leaves_of ws) ws) (sym c.leave.ensures)
          (ends_open w.ground.network w.threshold c.args.old.now w.tree r.at.due w.ground c.args.id.number c.args.leaf.number ws r.at.walking r.at.here r.at.there c.law_linked.ensures.linked c.args.block r.block_is r.ending);
      threshold = refl;
    }

pub returns-clause-less : goal.returns-clause-less
returns-clause-less c = let some = weight_some (tree_at c.args.old.now c.args.id.number) in omega (arith, some)
