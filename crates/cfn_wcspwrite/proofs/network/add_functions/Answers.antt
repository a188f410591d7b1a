use Rattle.std.proofs.Common.{◌++◌, ap}
use Rattle.cfn_model.specs.Network.{no_function}
use Rattle.cfn_line.proofs.CallerLemmas.{add_on, add_break}
use Rattle.cfn_wcspwrite.proofs.Parts.{functions-drop}
use Rattle.cfn_wcspwrite.proofs.network.add_functions.Goals as goal

pub returns-in_err-add_function : goal.returns-in_err-add_function
returns-in_err-add_function g c =
    let l = rw c.functions-f-end.ensures at c.loop-f-test.true in
    add_break _ c.from_residual.ensures.0 _ (ap (λ t. c.loop-f.into ++ t) (functions-drop c.args.network.now.sizes c.args.network.now.functions c.loop-f.f no_function l)) c.loop-f.invariant c.in_err-add_function.ensures

pub loop-f-preserved : goal.loop-f-preserved
loop-f-preserved g c =
    let l = rw c.functions-f-end.ensures at c.loop-f-test.true in
    add_on _ (ap (λ t. c.loop-f.into ++ t) (functions-drop c.args.network.now.sizes c.args.network.now.functions c.loop-f.f no_function l)) c.loop-f.invariant c.in_ok-add_function.ensures
