use Rattle.std.proofs.Common.{refl, ap, reverse, sym, ◌∙◌, subst}
use Rattle.cfn_core.specs.Actions.{Acts, IsThere, Back, NotOut, Done, without}
use Rattle.cfn_core.specs.Machine.{Machine, world_of}
use Rattle.cfn_core.proofs.Insides.{value, changed}
use Rattle.cfn_core.proofs.Pools.{not_out, given_back}
use Rattle.cfn_core.proofs.world.World.back.Goals as goal

pub returns-then-not-back-clause-acts : goal.returns-then-not-back-clause-acts
returns-then-not-back-clause-acts c =
    let m = value c.self.inside in
    let task = c.args.task.now.task in
    let there : IsThere (world_of m) task.worker = subst (λ w. IsThere (world_of m) w) c.worker.ensures (subst (λ (old : Machine). IsThere (world_of old) c.worker.result) (sym c.self.view_is) (c.if-not-has_worker.ensures.0 refl)) in
    subst (λ (old : Machine). Acts old.network (world_of old) (Back task) NotOut (world_of (record m { leaves = c.back.new.self }))) c.self.view_is
    (not_out m task c.back.new.self there (c.if-not-back.ensures.same refl) (c.if-not-back.ensures.none refl))

pub invariant_of-self-2 : goal.invariant_of-self-2
invariant_of-self-2 c =
    let m = value c.self.inside in
    let task = c.args.task.now.task in
    let there : IsThere (world_of m) task.worker = subst (λ w. IsThere (world_of m) w) c.worker.ensures (subst (λ (old : Machine). IsThere (world_of old) c.worker.result) (sym c.self.view_is) (c.if-not-has_worker.ensures.0 refl)) in
    let kept = c.let_go.ensures ∙ ap (λ n. without n m.hands) c.leaf.ensures in
    changed m _ c.self.inside.best c.self.inside.seats.items (Back task) Done c.self.invariant tt
    (given_back m task c.back.new.self (reverse c.let_go.new.hands.items) there (c.if-not-back.ensures.back refl) kept) refl c.if-not-back.ensures.network

pub returns-clause-acts : goal.returns-clause-acts
returns-clause-acts c =
    let m = value c.self.inside in
    let task = c.args.task.now.task in
    let there : IsThere (world_of m) task.worker = subst (λ w. IsThere (world_of m) w) c.worker.ensures (subst (λ (old : Machine). IsThere (world_of old) c.worker.result) (sym c.self.view_is) (c.if-not-has_worker.ensures.0 refl)) in
    let kept = c.let_go.ensures ∙ ap (λ n. without n m.hands) c.leaf.ensures in
    subst (λ (old : Machine). Acts old.network (world_of old) (Back task) Done (world_of (record m { leaves = c.back.new.self; hands = reverse c.let_go.new.hands.items }))) c.self.view_is
    (given_back m task c.back.new.self (reverse c.let_go.new.hands.items) there (c.if-not-back.ensures.back refl) kept)
