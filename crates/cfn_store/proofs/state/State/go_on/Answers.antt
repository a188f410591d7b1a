use Rattle.std.proofs.Common.{◌∷◌, ◌++◌, length, reverse, subst, sym, ap, ◌∙◌, arith, length-append}
use Rattle.cfn_store.specs.Events.{with_first}
use Rattle.cfn_scan.specs.Exact.{IsExactAlong}
use Rattle.cfn_store.proofs.Onward.{taken_out, one_made}
use Rattle.cfn_store.proofs.Paths.{exact_next}
use Rattle.cfn_store.proofs.state.State.go_on.Goals as goal

pub enter-requires-clause-exact : goal.enter-requires-clause-exact
enter-requires-clause-exact c =
    exact_next c.args.network.now c.loop-next.self.trail.items c.loop-next.left c.in-Some.event (subst (λ l. IsExactAlong c.args.network.now (reverse l)) (sym (ap (λ n. c.loop-next.self.trail.items ++ with_first n c.loop-next.left) (sym c.in-Some.is) ∙ c.loop-next.invariant.1)) c.requires.exact)

pub enter-requires-clause-room : goal.enter-requires-clause-room
enter-requires-clause-room c =
    let made = c.loop-next.self.trail.items in
    let r = c.requires.room.2 in
    let w = ap length (ap (λ n. c.loop-next.self.trail.items ++ with_first n c.loop-next.left) (sym c.in-Some.is) ∙ c.loop-next.invariant.1) in
    let l = length-append made (c.in-Some.event ∷ c.loop-next.left) in
    (c.requires.room.0, c.loop-next.invariant.2 c.requires.room.0 c.requires.room.1, omega (arith, r, w, l))

pub loop-next-preserved : goal.loop-next-preserved
loop-next-preserved c = (
  c.enter.ensures.state,
  one_made c.loop-next.self.trail.items c.enter.new.self.trail.items c.loop-next.left _ c.in-Some.event c.next-next.result c.next-next.new.self c.enter.ensures.trail (taken_out c.loop-next.left c.next-next.new.self c.next-next.result c.next-next.ensures.steps) (ap (λ n. c.loop-next.self.trail.items ++ with_first n c.loop-next.left) (sym c.in-Some.is) ∙ c.loop-next.invariant.1),
  λ room has. c.enter.ensures.room room (c.loop-next.invariant.2 room has),
)
