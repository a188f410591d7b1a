use Rattle.std.proofs.Common.{ap, sym, subst, arith}
use Rattle.cfn_queue.specs.Waiting.{IsFirst}
use Rattle.cfn_store.specs.Standing.{history}
use Rattle.cfn_gain.specs.Calls.{IsUnchanged}
use Rattle.cfn_gain.proofs.CallerLemmas.{no_shorter, unchanged}
use Rattle.cfn_due.specs.Dues.{Dues, waiting}
use Rattle.cfn_edac.specs.Revising.{HoldsIn, IsKnownIn, Revising}
use Rattle.cfn_edac.proofs.Settling.{looked, fewer_arcs, sides_of}
use Rattle.cfn_edac.proofs.reviser.Reviser.revise_arc.Goals as goal

pub returns-else-block_len-before-clause-revised : goal.returns-else-block_len-before-clause-revised
returns-else-block_len-before-clause-revised c =
    let s = c.args.store.now in let ok = c.in_ok-arc.ensures in let f = c.args.f in
    let e = ap (λ (r : Revising). r.due) c.self.view_is in
    let first = subst (λ (d : Dues). IsFirst d.arcs.items f) (sym e) c.requires.first in
    let before = c.block_len-before.ensures in let after = c.block_len.ensures in let not = c.if-block_len-before.false in
    looked s c.arc.new.store c.args.limits c.args.self.now.due c.done_arc.new.self ok.does.adds (omega (arith, before, after, not))
    (c.done_arc.ensures.holds s.network (history s) f first (subst (HoldsIn s) (sym e) c.requires.holds) (ok.arc (omega (arith, before, after, not, (no_shorter s c.arc.new.store c.args.limits ok.does.adds)))))
    (let less = fewer_arcs c.self.inside.due c.done_arc.new.self f first c.done_arc.ensures.taken in let same = ap waiting e in omega (arith, less, same))

pub returns-else-block_len-before-clause-known : goal.returns-else-block_len-before-clause-known
returns-else-block_len-before-clause-known c =
    let s = c.args.store.now in let ok = c.in_ok-arc.ensures in
    let e = ap (λ (r : Revising). r.sides) c.self.view_is in
    let before = c.block_len-before.ensures in let after = c.block_len.ensures in let not = c.if-block_len-before.false in
    let same : IsUnchanged s c.arc.new.store = omega (arith, before, after, not, (no_shorter s c.arc.new.store c.args.limits ok.does.adds)) in
    subst (λ t. IsKnownIn t c.trust.new.self) (sym (unchanged s c.arc.new.store c.args.limits ok.does.adds same))
    (c.trust.ensures.known s.network (history s) (subst (IsKnownIn s) (sym e) c.requires.known) (sides_of s.network (history s) c.args.f (ok.arc same)))
