use Rattle.std.proofs.Common.{◌+◌, length, get_or, sym, ap, ◌∙◌, arith}
use Rattle.cfn_model.specs.Network.{arity, scope_at}
use Rattle.cfn_branch.proofs.Counting.{one, open_before, open_one_more, open_no_more, open_grows, two_are_open}
use Rattle.cfn_branch.proofs.choosing.has_two_open.Goals.{then-count-ge2+else-found, else-count-ge2}
use Rattle.cfn_branch.proofs.choosing.has_two_open.Goals as goal

pub returns-then-found : goal.returns-then-found
returns-then-found c =
    let s = c.args.store.now in let f = c.args.f in let i = c.loop-x.x-index in
    let scope = c.scope-x-items.ensures ∙ ap (λ Q. scope_at Q f) c.network-2.ensures in
    let before = c.loop-x.invariant in
    let found = ap one c.if-found.true in
    let more = open_one_more s f i (get_or c.scope-x-items.result.now i 0) (ap (λ l. get_or l i 0) scope) (omega (arith, c.count.ensures, c.if-count-ge2.true)) in
    let all = open_grows s f (i + 1) (arity s.network f) (omega (arith, c.loop-x-test.true, ap length scope)) in
    two_are_open (open_before s f (arity s.network f)) (omega (arith, before, found, more, all))

pub loop-x-preserved : goal.loop-x-preserved
loop-x-preserved c =
    let s = c.args.store.now in let f = c.args.f in let i = c.loop-x.x-index in
    let x = get_or c.scope-x-items.result.now i 0 in
    let scope = c.scope-x-items.ensures ∙ ap (λ Q. scope_at Q f) c.network-2.ensures in
    let before = c.loop-x.invariant in
    elim c.if-count-ge2.branch [
      | then-count-ge2+else-found w ↦
          (let more = open_one_more s f i x (ap (λ l. get_or l i 0) scope) (omega (arith, c.count.ensures, w.if-count-ge2.true)) in
          let was = ap one w.if-found.false in
          let now = ap one w.found-is in
          omega (arith, before, more, was, now))
      | else-count-ge2 w ↦
          open_no_more s f i x (ap (λ l. get_or l i 0) scope) (omega (arith, c.count.ensures, w.if-count-ge2.false)) ∙ before ∙ ap one (sym w.found-is)
    ]
