use Rattle.std.proofs.Common.{◌≡◌, ◌++◌, ◌∷◌, [], arith}
use Rattle.std.proofs.lemmas.Result.{err_from_is_err_and}
use Rattle.std.proofs.lemmas.List.{length_push}
use Rattle.cfn_model.specs.Reading.{sizes_at}
use Rattle.cfn_wcsp.specs.Giving.{state}
use Rattle.cfn_wcsp.proofs.Repeating.{go_on, end, done, one_more}
use Rattle.cfn_wcsp.proofs.sizes.domains.Goals as goal

pub returns-in_err-natural-clause-gives : goal.returns-in_err-natural-clause-gives
returns-in_err-natural-clause-gives c =
    let p = err_from_is_err_and c.from_residual.result c.from_residual.ensures.1 in
    rw (p.1, p.2) (end c.in_err-natural.field-0.0 c.loop.sizes.items c.args.variables c.loop.counter (state c.loop.words) (sizes_at c.args.variables (state c.args.words.now)) c.loop-test.true c.in_err-natural.ensures.gives c.loop.invariant.0)

pub loop-preserved : goal.loop-preserved
loop-preserved c =
    let n = c.in_ok-natural.field-0 in
    let e : c.push.new.self.items ≡ c.loop.sizes.items ++ n ∷ [] = c.in_ok-push.ensures.items in
    rw e (
      go_on c.loop.sizes.items c.args.variables c.loop.counter (state c.loop.words) n (state c.natural.new.words) (sizes_at c.args.variables (state c.args.words.now)) c.loop-test.true c.in_ok-natural.ensures.gives c.loop.invariant.0,
      omega (arith, length_push c.loop.sizes.items n, c.loop.invariant.1),
      one_more c.loop.sizes.items n c.loop.invariant.2 c.in_ok-natural.ensures.range.0 c.in_ok-natural.ensures.range.1,
    )

pub returns-clause-gives : goal.returns-clause-gives
returns-clause-gives c = done c.loop.sizes.items c.args.variables c.loop.counter (state c.loop.words) (sizes_at c.args.variables (state c.args.words.now)) c.loop-test.false c.loop.invariant.0
