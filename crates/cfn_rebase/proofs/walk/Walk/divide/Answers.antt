use Rattle.std.proofs.Common.{◌∷◌, ◌++◌, [], reverse, refl, sym, ap, ◌∙◌, subst, arith}
use Rattle.cfn_proof.specs.declared.path.Side.TheVariants.{Holds, Fails}
use Rattle.cfn_rebase.specs.declared.walk.Waiting.{Waiting}
use Rattle.cfn_rebase.specs.Walking.{leaves_of, IsWalking, weights}
use Rattle.cfn_rebase.proofs.Walkings.{ends_parted, fewer, two_more}
use Rattle.cfn_rebase.proofs.walk.Walk.divide.Goals as goal

pub split_behind-requires-clause-there : goal.split_behind-requires-clause-there
split_behind-requires-clause-there c = c.requires.at.walking.leaves.0

pub split_behind-requires-clause-free : goal.split_behind-requires-clause-free
split_behind-requires-clause-free c = c.requires.at.walking.leaves.1

pub returns-clause-walks : goal.returns-clause-walks
returns-clause-walks c =
    let w = c.args.self.now in
    let r = c.requires in
    let old = c.args.old.now in
    let ws = reverse w.waiting.items in
    let a : Waiting = record { old = c.args.first; leaf = c.in_ok-one.one; spot = c.spot-above.result; side = Holds c.args.decision } in
    let b : Waiting = record { old = c.args.second; leaf = c.in_ok-one.two; spot = c.spot-spot.result; side = Fails c.args.decision } in
    let made = ends_parted w.ground.network w.threshold old w.tree r.at.due w.ground c.args.id.number c.args.leaf.number ws r.at.walking r.at.here r.at.there c.law_linked.ensures.linked c.args.block r.block_is
    c.args.decision c.args.first c.args.second r.ending a b c.in_ok-one.ensures.children.0 c.in_ok-one.ensures.children.1 refl refl refl refl c.spot-above.ensures c.spot-spot.ensures in
    let order = two_more w.waiting.items c.push_reserved.new.self.items c.push_reserved-2.new.self.items a b (c.push_reserved.ensures.items ∙ ap (λ l. l ++ b ∷ []) c.in_ok-reserve.ensures.items) c.push_reserved-2.ensures.items in
    record {
      due = made.0;
      walking = subst (λ l. IsWalking w.ground.network w.threshold old c.split_behind.new.self made.0 w.ground (leaves_of l) l) (sym order)
          (subst (λ ns. IsWalking w.ground.network w.threshold old ns made.0 w.ground (leaves_of (a ∷ b ∷ ws)) (a ∷ b ∷ ws)) (sym c.in_ok-one.ensures.ok) made.1);
      threshold = refl;
    }

pub returns-clause-less : goal.returns-clause-less
returns-clause-less c =
    let w = c.args.self.now in
    let r = c.requires in
    let old = c.args.old.now in
    let ws = reverse w.waiting.items in
    let a : Waiting = record { old = c.args.first; leaf = c.in_ok-one.one; spot = c.spot-above.result; side = Holds c.args.decision } in
    let b : Waiting = record { old = c.args.second; leaf = c.in_ok-one.two; spot = c.spot-spot.result; side = Fails c.args.decision } in
    let less = fewer w.ground.network w.threshold old w.tree r.at.due w.ground c.args.id.number c.args.leaf.number ws r.at.walking r.at.here r.at.there c.law_linked.ensures.linked c.args.block r.block_is
    c.args.decision c.args.first c.args.second r.ending a b c.in_ok-one.ensures.children.0 c.in_ok-one.ensures.children.1 refl refl refl refl c.spot-above.ensures c.spot-spot.ensures in
    let order = two_more w.waiting.items c.push_reserved.new.self.items c.push_reserved-2.new.self.items a b (c.push_reserved.ensures.items ∙ ap (λ l. l ++ b ∷ []) c.in_ok-reserve.ensures.items) c.push_reserved-2.ensures.items in
    let e = ap (weights old) order in
    omega (arith, less, e)
