use Rattle.std.proofs.Common.{length, drop, get_or, ap, sym, ◌∙◌, arith}
use Rattle.cfn_store.specs.Events.{steps_in}
use Rattle.cfn_store.specs.Standing.{Standing}
use Rattle.cfn_store.proofs.Stores.{block_length}
use Rattle.cfn_store.proofs.store.Store.step.Goals as goal

pub step_from-requires-clause-number : goal.step_from-requires-clause-number
step_from-requires-clause-number c =
    let n = block_length c.self.inside.network.now c.self.inside.base c.self.inside.room c.self.inside.state c.self.invariant.0 in
    let v = ap (λ (s : Standing). length s.block) c.self.view_is in let l = c.requires in omega (arith, n, v, l)

pub returns : goal.returns
returns c = λ other.
    ap (λ (s : Standing). get_or s.block c.args.i other) (sym c.self.view_is)
    ∙ ap (λ events. get_or (steps_in (drop c.self.inside.base events)) c.args.i other) (sym c.deref.ensures.value)
    ∙ c.step_from.ensures other
