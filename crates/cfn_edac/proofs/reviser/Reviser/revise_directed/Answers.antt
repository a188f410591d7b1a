use Rattle.std.proofs.Common.{ap, sym, subst, arith}
use Rattle.cfn_queue.specs.Waiting.{IsFirst}
use Rattle.cfn_store.specs.Standing.{history}
use Rattle.cfn_gain.proofs.CallerLemmas.{no_shorter}
use Rattle.cfn_due.specs.Dues.{Dues, waiting}
use Rattle.cfn_edac.specs.Revising.{HoldsIn, Revising}
use Rattle.cfn_edac.proofs.Settling.{looked, fewer_directed}
use Rattle.cfn_edac.proofs.reviser.Reviser.revise_directed.Goals as goal

pub returns-else-block_len-before-clause-revised : goal.returns-else-block_len-before-clause-revised
returns-else-block_len-before-clause-revised c =
    let s = c.args.store.now in let ok = c.in_ok-directional.ensures in let f = c.args.f in
    let e = ap (λ (r : Revising). r.due) c.self.view_is in
    let first = subst (λ (d : Dues). IsFirst d.directed.items f) (sym e) c.requires.first in
    let before = c.block_len-before.ensures in let after = c.block_len.ensures in let not = c.if-block_len-before.false in
    looked s c.directional.new.store c.args.limits c.args.self.now.due c.done_directed.new.self ok.does.adds (omega (arith, before, after, not))
    (c.done_directed.ensures.holds s.network (history s) f first (subst (HoldsIn s) (sym e) c.requires.holds) (ok.directional (omega (arith, before, after, not, (no_shorter s c.directional.new.store c.args.limits ok.does.adds)))))
    (let less = fewer_directed c.self.inside.due c.done_directed.new.self f first c.done_directed.ensures.taken in let same = ap waiting e in omega (arith, less, same))
