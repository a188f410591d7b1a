use Rattle.std.proofs.Common.{arith}
use Rattle.std.proofs.lemmas.Result.{err_from_is_err_and}
use Rattle.cfn_wcnf.specs.Gathering.{clauses_onto}
use Rattle.cfn_wcnf.proofs.Adding.{go_on, end, done, keeps_binary, one_more}
use Rattle.cfn_wcnf.proofs.reading.clauses.Goals as goal

pub returns : goal.returns
returns c = done c.loop.builder c.args.count c.loop.counter c.loop.tokens (clauses_onto c.args.builder.now c.args.count c.args.tokens.now) c.loop-test.false c.loop.invariant.0

pub returns-in_err-clause : goal.returns-in_err-clause
returns-in_err-clause c =
    let p = err_from_is_err_and c.from_residual.result c.from_residual.ensures.1 in
    rw (p.1, p.2) (end c.in_err-clause.field-0.0 c.loop.builder c.args.count c.loop.counter c.loop.tokens (clauses_onto c.args.builder.now c.args.count c.args.tokens.now) c.loop-test.true c.in_err-clause.ensures c.loop.invariant.0)

pub loop-preserved : goal.loop-preserved
loop-preserved c =
    let P = c.loop.builder in
    let Q = c.clause.new.builder in
    let s = c.loop.tokens in
    let after = c.clause.new.tokens in (
      go_on P c.args.count c.loop.counter s Q after (clauses_onto c.args.builder.now c.args.count c.args.tokens.now) c.loop.invariant.1 c.loop-test.true c.in_ok-clause.ensures c.loop.invariant.0,
      keeps_binary P s Q after c.loop.invariant.1 c.in_ok-clause.ensures,
      omega (arith, one_more P s Q after c.in_ok-clause.ensures, c.loop.invariant.2),
    )
