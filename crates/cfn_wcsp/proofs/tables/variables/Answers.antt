use Rattle.std.proofs.lemmas.Result.{err_from_is_err_and}
use Rattle.cfn_model.specs.Reading.{scope_from}
use Rattle.cfn_wcsp.specs.Giving.{state}
use Rattle.cfn_wcsp.proofs.Repeating.{scope_on, scope_end, scope_done}
use Rattle.cfn_wcsp.proofs.tables.variables.Goals as goal

pub returns-in_err-x-clause-gives : goal.returns-in_err-x-clause-gives
returns-in_err-x-clause-gives c =
    let p = err_from_is_err_and c.from_residual.result c.from_residual.ensures.1 in
    rw (p.1, p.2) (scope_end c.in_err-x.field-0.0 c.loop.scope.sizes c.loop.scope.variables c.args.arity c.loop.counter (state c.loop.words) (scope_from c.args.scope.now.sizes c.args.scope.now.variables c.args.arity (state c.args.words.now)) c.loop-test.true c.in_err-x.ensures.gives c.loop.invariant.0)

pub loop-preserved : goal.loop-preserved
loop-preserved c =
    rw c.in_ok-push.ensures.ok (scope_on c.loop.scope.sizes c.loop.scope.variables c.args.arity c.loop.counter (state c.loop.words) c.in_ok-x.x (state c.variable.new.words) (scope_from c.args.scope.now.sizes c.args.scope.now.variables c.args.arity (state c.args.words.now)) c.loop-test.true c.in_ok-x.ensures.gives c.loop.invariant.0, c.loop.invariant.1, c.loop.invariant.2)

pub returns-clause-gives : goal.returns-clause-gives
returns-clause-gives c =
    scope_done c.loop.scope.sizes c.loop.scope.variables c.args.arity c.loop.counter (state c.loop.words) (scope_from c.args.scope.now.sizes c.args.scope.now.variables c.args.arity (state c.args.words.now)) c.loop-test.false c.loop.invariant.0
