use Rattle.std.proofs.Common.{◌≡◌, refl, ap, reverse, sym, ◌∙◌, ap₂, subst}
use Rattle.cfn_machine.specs.Steps.{NoneOpen, AllSpent, AllOut}
use Rattle.cfn_machine.specs.Pool.{Task}
use Rattle.std.specs.Prelude.{List, ◌++◌, ◌∷◌, []}
use Rattle.cfn_core.specs.Actions.{Acts, CanTake, Take, Given, Empty, Spent, Again}
use Rattle.cfn_core.specs.Machine.{Machine, world_of}
use Rattle.cfn_core.proofs.Insides.{value, changed}
use Rattle.cfn_core.proofs.Letting.{newest}
use Rattle.cfn_core.proofs.Pools.{handed_out, none_handed}
use Rattle.cfn_core.proofs.world.World.take_leaf.Goals as goal

-- the task that is handed out is the newest in hand
held : (old between new : List Task) (task hand : Task) → new ≡ between ++ hand ∷ [] → between ≡ old → hand ≡ task → reverse new ≡ task ∷ reverse old
held old between new task hand pushed same is = ap reverse (pushed ∙ ap₂ (λ l t. l ++ t ∷ []) same is) ∙ newest old task

pub invariant_of-self-in-Given : goal.invariant_of-self-in-Given
invariant_of-self-in-Given c =
    let m = value c.self.inside in
    let task = c.in-Given.task in
    let can : CanTake (world_of m) c.args.worker c.args.want = subst (λ (old : Machine). CanTake (world_of old) c.args.worker c.args.want) (sym c.self.view_is) c.requires in
    let hands = held c.self.inside.hands.items c.reserve.new.self.items c.push_reserved.new.self.items task.task c.of.result c.push_reserved.ensures.items c.reserve.ensures.items c.of.ensures in
    changed m _ c.self.inside.best c.self.inside.seats.items (Take c.args.worker c.args.want) (Given task.task) c.self.invariant tt
    (handed_out m c.self.invariant.machine.leaves c.args.worker c.args.want task c.take.new.self (reverse c.push_reserved.new.self.items) can c.in-Given.ensures.takes hands) refl c.take.ensures.network

pub returns-in-Given-clause-acts : goal.returns-in-Given-clause-acts
returns-in-Given-clause-acts c =
    let m = value c.self.inside in
    let task = c.in-Given.task in
    let can : CanTake (world_of m) c.args.worker c.args.want = subst (λ (old : Machine). CanTake (world_of old) c.args.worker c.args.want) (sym c.self.view_is) c.requires in
    let hands = held c.self.inside.hands.items c.reserve.new.self.items c.push_reserved.new.self.items task.task c.of.result c.push_reserved.ensures.items c.reserve.ensures.items c.of.ensures in
    subst (λ (old : Machine). Acts old.network (world_of old) (Take c.args.worker c.args.want) (Given task.task) (world_of (record m { leaves = c.take.new.self; hands = reverse c.push_reserved.new.self.items }))) c.self.view_is
    (handed_out m c.self.invariant.machine.leaves c.args.worker c.args.want task c.take.new.self (reverse c.push_reserved.new.self.items) can c.in-Given.ensures.takes hands)

pub returns-in-Empty-clause-acts : goal.returns-in-Empty-clause-acts
returns-in-Empty-clause-acts c =
    let m = value c.self.inside in
    let can : CanTake (world_of m) c.args.worker c.args.want = subst (λ (old : Machine). CanTake (world_of old) c.args.worker c.args.want) (sym c.self.view_is) c.requires in
    let hands = reverse c.reserve.new.self.items in
    subst (λ (old : Machine). Acts old.network (world_of old) (Take c.args.worker c.args.want) Empty (world_of (record m { leaves = c.take.new.self; hands = hands }))) c.self.view_is
    (none_handed m c.args.worker c.args.want NoneOpen c.take.new.self hands can c.in-Empty.ensures.takes.0 (ap reverse c.reserve.ensures.items) c.in-Empty.ensures.takes.1)

pub returns-in-Spent-clause-acts : goal.returns-in-Spent-clause-acts
returns-in-Spent-clause-acts c =
    let m = value c.self.inside in
    let can : CanTake (world_of m) c.args.worker c.args.want = subst (λ (old : Machine). CanTake (world_of old) c.args.worker c.args.want) (sym c.self.view_is) c.requires in
    let hands = reverse c.reserve.new.self.items in
    subst (λ (old : Machine). Acts old.network (world_of old) (Take c.args.worker c.args.want) Spent (world_of (record m { leaves = c.take.new.self; hands = hands }))) c.self.view_is
    (none_handed m c.args.worker c.args.want AllSpent c.take.new.self hands can c.in-Spent.ensures.takes.0 (ap reverse c.reserve.ensures.items) c.in-Spent.ensures.takes.1)

pub returns-in-Again-clause-acts : goal.returns-in-Again-clause-acts
returns-in-Again-clause-acts c =
    let m = value c.self.inside in
    let can : CanTake (world_of m) c.args.worker c.args.want = subst (λ (old : Machine). CanTake (world_of old) c.args.worker c.args.want) (sym c.self.view_is) c.requires in
    let hands = reverse c.reserve.new.self.items in
    subst (λ (old : Machine). Acts old.network (world_of old) (Take c.args.worker c.args.want) Again (world_of (record m { leaves = c.take.new.self; hands = hands }))) c.self.view_is
    (none_handed m c.args.worker c.args.want AllOut c.take.new.self hands can c.in-Again.ensures.takes.0 (ap reverse c.reserve.ensures.items) c.in-Again.ensures.takes.1)
