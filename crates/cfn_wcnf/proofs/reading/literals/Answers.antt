use Rattle.std.proofs.Common.{rules, ◌≡◌, true, false}
use Rattle.std.proofs.lemmas.Int.{ints, to_z-of_z}
use Rattle.std.proofs.lemmas.Result.{err_from_is_err_and}
use Rattle.cfn_wcnf.specs.Clauses.{with_literal}
use Rattle.cfn_wcnf.specs.Reading.{is_zero}
use Rattle.cfn_wcnf.specs.Gathering.{gathered_at}
use Rattle.cfn_wcnf.proofs.Gathering.{go_on, end, done}
use Rattle.cfn_wcnf.proofs.reading.literals.Goals as goal

pub returns-in_err-number-clause-gives : goal.returns-in_err-number-clause-gives
returns-in_err-number-clause-gives c =
    let p = err_from_is_err_and c.from_residual.result c.from_residual.ensures.1 in
    rw (p.1, p.2) (end c.in_err-number.field-0.0 c.loop-number.clause.variables c.args.cells c.loop-number.clause.occurrences c.loop-number.tokens (gathered_at c.args.clause.now.variables c.args.cells c.args.clause.now.occurrences c.args.tokens.now) c.in_err-number.ensures.gives c.loop-number.invariant.0)

pub returns-then-is_end-clause-gives : goal.returns-then-is_end-clause-gives
returns-then-is_end-clause-gives c =
    let e : is_zero c.in_ok-number.number ≡ true = search (rules, ints, to_z-of_z) in
    done c.loop-number.clause.variables c.args.cells c.loop-number.clause.occurrences c.loop-number.tokens c.in_ok-number.number c.number.new.tokens (gathered_at c.args.clause.now.variables c.args.cells c.args.clause.now.occurrences c.args.tokens.now) c.in_ok-number.ensures.gives e c.loop-number.invariant.0

pub loop-number-preserved : goal.loop-number-preserved
loop-number-preserved c =
    let e : is_zero c.in_ok-number.number ≡ false = search (rules, ints, to_z-of_z) in
    let more : c.add.new.self ≡ record { variables = c.loop-number.clause.variables; occurrences = with_literal c.loop-number.clause.occurrences c.in_ok-number.number } = search (rules, ints, to_z-of_z) in
    rw more (go_on c.loop-number.clause.variables c.args.cells c.loop-number.clause.occurrences c.loop-number.tokens c.in_ok-number.number c.number.new.tokens (gathered_at c.args.clause.now.variables c.args.cells c.args.clause.now.occurrences c.args.tokens.now) c.in_ok-number.ensures.gives e c.loop-number.invariant.0, c.loop-number.invariant.1)
