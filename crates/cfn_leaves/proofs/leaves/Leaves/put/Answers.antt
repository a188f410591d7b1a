use Rattle.std.proofs.Common.{◌≡◌, ◌+◌, ◌∙◌, ap, ap₂, sym, subst, refl, arith, length, None, set, ◌++◌, ◌-◌, map, All}
use Rattle.cfn_proof.specs.Nodes.{tree_of, IsLinked}
use Rattle.cfn_leaves.specs.Listed.{IsListed}
use Rattle.cfn_leaves.specs.Placed.{placed, FitsPlace}
use Rattle.cfn_leaves.specs.Standing.{marked}
use Rattle.cfn_leaves.specs.Walked.{spots_of}
use Rattle.cfn_leaves.specs.Out.{IsOutEntry, PutsIn, task_at, piece_at}
use Rattle.cfn_leaves.specs.Value.{Holding, Body, IsBody, pool_of, pool_tree}
use Rattle.cfn_leaves.proofs.HandingOut.{body_of}
use Rattle.cfn_leaves.proofs.Gives.{task_leaf, took, all_fit, Change, reserved}
use Rattle.cfn_leaves.proofs.Outs.{own_task, puts_in}
use Rattle.cfn_leaves.proofs.Insides.{value, body}
use Rattle.cfn_machine.specs.Steps.{PoolGives}
use Rattle.cfn_leaves.proofs.leaves.Leaves.put.Goals as goal

pub graft-requires-clause-there : goal.graft-requires-clause-there
graft-requires-clause-there c =
    let m = value c.self.inside in
    let entry = subst (λ (h : Holding). IsOutEntry h c.args.leaf c.args.worker c.args.grant c.in-Some.entry) (sym c.self.view_is) c.in-Some.ensures in
    let own = own_task m (body c.self.inside) c.args.leaf c.args.worker c.args.grant c.in-Some.entry c.law_same_before.ensures.once refl refl c.self.invariant.body entry in
    let task = task_at c.args.leaf c.args.worker c.args.grant c.in-Some.entry.floor own.path in
    let leaf = task_leaf m (body c.self.inside) task c.in-Some.entry c.law_same_before.ensures.once refl refl c.self.invariant.body own.entry in
    leaf.there

pub graft-requires-clause-free : goal.graft-requires-clause-free
graft-requires-clause-free c =
    let m = value c.self.inside in
    let entry = subst (λ (h : Holding). IsOutEntry h c.args.leaf c.args.worker c.args.grant c.in-Some.entry) (sym c.self.view_is) c.in-Some.ensures in
    let own = own_task m (body c.self.inside) c.args.leaf c.args.worker c.args.grant c.in-Some.entry c.law_same_before.ensures.once refl refl c.self.invariant.body entry in
    let task = task_at c.args.leaf c.args.worker c.args.grant c.in-Some.entry.floor own.path in
    let leaf = task_leaf m (body c.self.inside) task c.in-Some.entry c.law_same_before.ensures.once refl refl c.self.invariant.body own.entry in
    leaf.free

pub place-requires-clause-fit : goal.place-requires-clause-fit
place-requires-clause-fit c =
    let m = value c.self.inside in
    let entry = subst (λ (h : Holding). IsOutEntry h c.args.leaf c.args.worker c.args.grant c.in-Some.entry) (sym c.self.view_is) c.in-Some.ensures in
    let own = own_task m (body c.self.inside) c.args.leaf c.args.worker c.args.grant c.in-Some.entry c.law_same_before.ensures.once refl refl c.self.invariant.body entry in
    let task = task_at c.args.leaf c.args.worker c.args.grant c.in-Some.entry.floor own.path in
    let leaf = task_leaf m (body c.self.inside) task c.in-Some.entry c.law_same_before.ensures.once refl refl c.self.invariant.body own.entry in
    let spots : c.deref.result.now ≡ spots_of c.args.tree c.in-Some.entry.floor = c.deref.ensures.value ∙ c.in-Ok.ensures.spots in
    let linked = subst IsLinked c.in_default-graft.ensures.ok c.graft.ensures.linked in
    let fit = all_fit m.tree c.in-Some.entry.node.number c.args.tree c.in-Some.entry.floor leaf.there c.law_linked.ensures.linked linked in
    subst (λ k. All (FitsPlace k) c.deref.result.now) (sym c.len-nodes.ensures) (subst (All (FitsPlace (length m.tree))) (sym spots) fit)

pub overflow_sub-self-2 : goal.overflow_sub-self-2
overflow_sub-self-2 c =
    let m = value c.self.inside in
    let entry = subst (λ (h : Holding). IsOutEntry h c.args.leaf c.args.worker c.args.grant c.in-Some.entry) (sym c.self.view_is) c.in-Some.ensures in
    let own = own_task m (body c.self.inside) c.args.leaf c.args.worker c.args.grant c.in-Some.entry c.law_same_before.ensures.once refl refl c.self.invariant.body entry in
    let task = task_at c.args.leaf c.args.worker c.args.grant c.in-Some.entry.floor own.path in
    let leaf = task_leaf m (body c.self.inside) task c.in-Some.entry c.law_same_before.ensures.once refl refl c.self.invariant.body own.entry in
    omega (arith, leaf.few, c.self.invariant.body.granted)

pub overflow_add-self-2 : goal.overflow_add-self-2
overflow_add-self-2 c =
    let m = value c.self.inside in
    let entry = subst (λ (h : Holding). IsOutEntry h c.args.leaf c.args.worker c.args.grant c.in-Some.entry) (sym c.self.view_is) c.in-Some.ensures in
    let own = own_task m (body c.self.inside) c.args.leaf c.args.worker c.args.grant c.in-Some.entry c.law_same_before.ensures.once refl refl c.self.invariant.body entry in
    let task = task_at c.args.leaf c.args.worker c.args.grant c.in-Some.entry.floor own.path in
    let leaf = task_leaf m (body c.self.inside) task c.in-Some.entry c.law_same_before.ensures.once refl refl c.self.invariant.body own.entry in
    omega (arith, c.in-Ok.ensures.made, c.requires.few, leaf.few, c.self.invariant.body.granted, c.self.invariant.within, c.self.ranges)

pub invariant_of-self-2 : goal.invariant_of-self-2
invariant_of-self-2 c =
    let m = value c.self.inside in
    let entry = subst (λ (h : Holding). IsOutEntry h c.args.leaf c.args.worker c.args.grant c.in-Some.entry) (sym c.self.view_is) c.in-Some.ensures in
    let own = own_task m (body c.self.inside) c.args.leaf c.args.worker c.args.grant c.in-Some.entry c.law_same_before.ensures.once refl refl c.self.invariant.body entry in
    let task = task_at c.args.leaf c.args.worker c.args.grant c.in-Some.entry.floor own.path in
    let leaf = task_leaf m (body c.self.inside) task c.in-Some.entry c.law_same_before.ensures.once refl refl c.self.invariant.body own.entry in
    let spots : c.deref.result.now ≡ spots_of c.args.tree c.in-Some.entry.floor = c.deref.ensures.value ∙ c.in-Ok.ensures.spots in
    let i = c.in-Some.entry.node.number in
    let cleared : c.clear.new.table.items ≡ set m.table c.args.leaf None = c.clear.ensures.table ∙ ap (λ t. set t c.args.leaf None) c.reserve.ensures.table in
    let table : c.place.new.table.items ≡ set m.table c.args.leaf None ++ map (placed i (length m.tree)) c.deref.result.now =
    c.place.ensures.table ∙ ap₂ (λ t k. t ++ map (placed i k) c.deref.result.now) cleared c.len-nodes.ensures in
    let change : Change m c.reserve.new.list c.place.new.list c.in-Some.entry task c.args.tree c.graft.new.tree c.deref.result.now c.place.new.table.items = record {
      inner = c.law_linked.ensures.linked;
      linked = c.graft.ensures.linked;
      nodes_is = c.in_default-graft.ensures.ok;
      spots_is = spots;
      floor_is = own.low;
      table_is = table;
      listed = λ h. c.place.ensures.listed (subst (λ t. IsListed t c.reserve.new.list.leaves) (sym cleared) h);
      long = c.place.ensures.len;
    } in
    let was : IsBody m.network (body_of m c.reserve.new.list c.self.inside.opened c.self.inside.granted) (pool_tree m) =
    reserved m c.self.inside.list c.reserve.new.list c.self.inside.opened c.self.inside.granted (pool_tree m) c.self.invariant.body c.reserve.ensures.list c.reserve.ensures.room_kept in
    let size : length c.deref.result.now ≡ c.len-more.result = c.deref.ensures.len ∙ sym c.len-more.ensures in
    let t = took m c.reserve.new.list c.place.new.list c.self.inside.opened c.self.inside.granted 0 c.in-Some.entry task c.args.tree c.graft.new.tree c.deref.result.now c.place.new.table.items
    c.law_same_before.ensures.once was own.entry change
    (omega (arith, c.in-Ok-reserve.ensures.all, c.place.ensures.room, ap length c.reserve.ensures.list, size))
    (omega (arith, c.in-Ok-reserve.ensures.few, size)) in
    let b : Body = record { nodes = c.graft.new.tree; table = c.place.new.table.items; listing = c.place.new.list; opened = 0; granted = 0 } in
    let new = marked c.graft.new.tree c.place.new.table.items in
    record {
      body = subst (λ k. IsBody m.network (record b { opened = c.self.inside.opened + k - 1; granted = c.self.inside.granted - c.args.grant }) new) size t.body;
      within = omega (arith, c.in-Ok.ensures.made, c.requires.few, leaf.few, c.self.invariant.body.granted, c.self.invariant.within);
      few = c.self.invariant.few;
      place = c.self.invariant.place;
    }

pub returns-clause-puts : goal.returns-clause-puts
returns-clause-puts c =
    let m = value c.self.inside in
    let entry = subst (λ (h : Holding). IsOutEntry h c.args.leaf c.args.worker c.args.grant c.in-Some.entry) (sym c.self.view_is) c.in-Some.ensures in
    let own = own_task m (body c.self.inside) c.args.leaf c.args.worker c.args.grant c.in-Some.entry c.law_same_before.ensures.once refl refl c.self.invariant.body entry in
    let task = task_at c.args.leaf c.args.worker c.args.grant c.in-Some.entry.floor own.path in
    let leaf = task_leaf m (body c.self.inside) task c.in-Some.entry c.law_same_before.ensures.once refl refl c.self.invariant.body own.entry in
    let spots : c.deref.result.now ≡ spots_of c.args.tree c.in-Some.entry.floor = c.deref.ensures.value ∙ c.in-Ok.ensures.spots in
    let i = c.in-Some.entry.node.number in
    let cleared : c.clear.new.table.items ≡ set m.table c.args.leaf None = c.clear.ensures.table ∙ ap (λ t. set t c.args.leaf None) c.reserve.ensures.table in
    let table : c.place.new.table.items ≡ set m.table c.args.leaf None ++ map (placed i (length m.tree)) c.deref.result.now =
    c.place.ensures.table ∙ ap₂ (λ t k. t ++ map (placed i k) c.deref.result.now) cleared c.len-nodes.ensures in
    let change : Change m c.reserve.new.list c.place.new.list c.in-Some.entry task c.args.tree c.graft.new.tree c.deref.result.now c.place.new.table.items = record {
      inner = c.law_linked.ensures.linked;
      linked = c.graft.ensures.linked;
      nodes_is = c.in_default-graft.ensures.ok;
      spots_is = spots;
      floor_is = own.low;
      table_is = table;
      listed = λ h. c.place.ensures.listed (subst (λ t. IsListed t c.reserve.new.list.leaves) (sym cleared) h);
      long = c.place.ensures.len;
    } in
    let was : IsBody m.network (body_of m c.reserve.new.list c.self.inside.opened c.self.inside.granted) (pool_tree m) =
    reserved m c.self.inside.list c.reserve.new.list c.self.inside.opened c.self.inside.granted (pool_tree m) c.self.invariant.body c.reserve.ensures.list c.reserve.ensures.room_kept in
    let size : length c.deref.result.now ≡ c.len-more.result = c.deref.ensures.len ∙ sym c.len-more.ensures in
    let new : Holding = record m { tree = c.graft.new.tree; table = c.place.new.table.items; nodes = m.nodes + c.in-Ok.walk.made } in
    let tree = tree_of c.args.tree in
    subst (λ (old : Holding). PutsIn old c.args.leaf c.args.worker c.args.grant tree new) c.self.view_is
    (puts_in m new (body c.self.inside) c.args.leaf c.args.worker c.args.grant tree c.in-Some.entry c.law_same_before.ensures.once refl refl c.self.invariant.body entry own
    (λ threshold view word.
    let t = took m c.reserve.new.list c.place.new.list c.self.inside.opened c.self.inside.granted threshold c.in-Some.entry task c.args.tree c.graft.new.tree c.deref.result.now c.place.new.table.items
    c.law_same_before.ensures.once was own.entry change
    (omega (arith, c.in-Ok-reserve.ensures.all, c.place.ensures.room, ap length c.reserve.ensures.list, size))
    (omega (arith, c.in-Ok-reserve.ensures.few, size)) in
    subst (λ k. PoolGives (pool_of m view) word (piece_at task tree threshold) (pool_of (record new { nodes = m.nodes + k }) (record view { seen = word }))) (sym c.in-Ok.ensures.made) (t.gives view word)))
