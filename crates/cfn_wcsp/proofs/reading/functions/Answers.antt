use Rattle.std.proofs.Common.{[], sym, ◌∙◌, arith}
use Rattle.std.proofs.lemmas.Result.{err_from_is_err_and}
use Rattle.cfn_wcsp.specs.Giving.{state}
use Rattle.cfn_wcsp.specs.Tables.{functions_onto, tables_of}
use Rattle.cfn_wcsp.proofs.Adding.{go_on, end, done, keeps_sizes, one_more}
use Rattle.cfn_wcsp.proofs.reading.functions.Goals as goal

pub returns : goal.returns
returns c = done c.loop.builder (tables_of c.loop.builder c.loop.shared.items) c.args.count c.loop.counter (state c.loop.words) (functions_onto c.args.builder.now [] c.args.count (state c.args.words.now)) c.loop-test.false c.loop.invariant.so_far

pub returns-in_err-function : goal.returns-in_err-function
returns-in_err-function c =
    let p = err_from_is_err_and c.from_residual.result c.from_residual.ensures.1 in
    rw (p.1, p.2) (end c.in_err-function.field-0.0 c.loop.builder (tables_of c.loop.builder c.loop.shared.items) c.args.count c.loop.counter (state c.loop.words) (functions_onto c.args.builder.now [] c.args.count (state c.args.words.now)) c.loop-test.true c.in_err-function.ensures.gives c.loop.invariant.so_far)

pub loop-preserved : goal.loop-preserved
loop-preserved c =
    let P = c.loop.builder in
    let Q = c.function.new.builder in
    let T = tables_of P c.loop.shared.items in
    let U = tables_of Q c.function.new.shared.items in
    let s = state c.loop.words in
    let after = state c.function.new.words in
    record {
      so_far = go_on P T c.args.count c.loop.counter s Q U after (functions_onto c.args.builder.now [] c.args.count (state c.args.words.now)) c.loop-test.true c.in_ok-function.ensures.gives c.loop.invariant.so_far;
      sizes = c.in_ok-function.ensures.sizes ∙ c.loop.invariant.sizes ∙ sym (keeps_sizes P T s Q U after c.in_ok-function.ensures.gives);
      number = omega (arith, c.in_ok-function.ensures.number, c.loop.invariant.number);
      length = omega (arith, one_more P T s Q U after c.in_ok-function.ensures.gives, c.loop.invariant.length);
      shared = c.in_ok-function.ensures.shared;
    }
