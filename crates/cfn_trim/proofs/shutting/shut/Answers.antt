use Rattle.std.proofs.Common.{◌≤◌, length, sym, subst, ◌∙◌}
use Rattle.cfn_model.specs.Network.{Network, IsNetwork}
use Rattle.cfn_store.specs.Standing.{history}
use Rattle.cfn_trim.specs.Shifting.{IsShutting}
use Rattle.cfn_model.specs.Sums.{floor}
use Rattle.cfn_trim.proofs.Emptying.{none_yet}
use Rattle.cfn_trim.proofs.Ending.{all_shut, reached}
use Rattle.cfn_trim.proofs.shutting.shut.Goals as goal

pub lift_all-requires-clause-start : goal.lift_all-requires-clause-start
lift_all-requires-clause-start c = (c.requires.leaf.0, none_yet c.args.store.now c.requires.leaf.0 c.args.k c.requires.leaf.1 c.requires.room)

pub shift_all-requires-clause-threshold : goal.shift_all-requires-clause-threshold
shift_all-requires-clause-threshold c = subst (λ (N : Network). c.args.k ≤ N.upper) (sym (c.lift_all.ensures c.requires.leaf.0 (none_yet c.args.store.now c.requires.leaf.0 c.args.k c.requires.leaf.1 c.requires.room)).adds.network) c.requires.threshold

pub shift_all-requires-clause-start : goal.shift_all-requires-clause-start
shift_all-requires-clause-start c = (c.args.store.now, c.requires.leaf.0, (subst (λ (N : Network). IsShutting c.args.store.now c.lift_all.new.store c.requires.leaf.0 c.args.k (length N.sizes) 0) (sym (c.lift_all.ensures c.requires.leaf.0 (none_yet c.args.store.now c.requires.leaf.0 c.args.k c.requires.leaf.1 c.requires.room)).adds.network) (c.lift_all.ensures c.requires.leaf.0 (none_yet c.args.store.now c.requires.leaf.0 c.args.k c.requires.leaf.1 c.requires.room))))

pub returns-clause-shifts : goal.returns-clause-shifts
returns-clause-shifts c = (c.shift_all.ensures c.args.store.now c.requires.leaf.0 (subst (λ (N : Network). IsShutting c.args.store.now c.lift_all.new.store c.requires.leaf.0 c.args.k (length N.sizes) 0) (sym (c.lift_all.ensures c.requires.leaf.0 (none_yet c.args.store.now c.requires.leaf.0 c.args.k c.requires.leaf.1 c.requires.room)).adds.network) (c.lift_all.ensures c.requires.leaf.0 (none_yet c.args.store.now c.requires.leaf.0 c.args.k c.requires.leaf.1 c.requires.room)))).adds

pub returns-clause-closed : goal.returns-clause-closed
returns-clause-closed c =
    let shut = (c.shift_all.ensures c.args.store.now c.requires.leaf.0 (subst (λ (N : Network). IsShutting c.args.store.now c.lift_all.new.store c.requires.leaf.0 c.args.k (length N.sizes) 0) (sym (c.lift_all.ensures c.requires.leaf.0 (none_yet c.args.store.now c.requires.leaf.0 c.args.k c.requires.leaf.1 c.requires.room)).adds.network) (c.lift_all.ensures c.requires.leaf.0 (none_yet c.args.store.now c.requires.leaf.0 c.args.k c.requires.leaf.1 c.requires.room)))) in
    let network = shut.adds.network ∙ sym (c.lift_all.ensures c.requires.leaf.0 (none_yet c.args.store.now c.requires.leaf.0 c.args.k c.requires.leaf.1 c.requires.room)).adds.network in
    reached (floor c.shift_all.new.store.network (history c.shift_all.new.store)) c.args.k
    (all_shut c.args.store.now c.shift_all.new.store c.requires.leaf.0 c.args.k c.law_equivalence.ensures (subst IsNetwork c.network.ensures c.law_limits.ensures) c.law_exact.ensures
    (subst (λ (N : Network). IsShutting c.args.store.now c.shift_all.new.store c.requires.leaf.0 c.args.k (length N.sizes) (length N.functions)) (sym network) shut))
