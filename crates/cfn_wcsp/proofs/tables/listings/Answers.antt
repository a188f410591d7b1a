use Rattle.std.proofs.Common.{◌∙◌}
use Rattle.std.proofs.lemmas.Result.{err_from_is_err_and}
use Rattle.cfn_model.specs.Network.{dims}
use Rattle.cfn_wcsp.specs.Giving.{state}
use Rattle.cfn_wcsp.specs.Tables.{listings_into}
use Rattle.cfn_wcsp.proofs.Listing.{go_on, end, end_at_cost, done, still_some, same_dims}
use Rattle.cfn_wcsp.proofs.tables.listings.Goals as goal

pub returns-in_err-cell : goal.returns-in_err-cell
returns-in_err-cell c =
    let p = err_from_is_err_and c.from_residual.result c.from_residual.ensures.1 in
    let ds = dims c.args.scope.now.sizes c.args.scope.now.variables in
    rw (p.1, p.2) (end c.in_err-cell.field-0.0 c.loop.builder ds c.args.count c.loop.counter (state c.loop.words) (listings_into c.args.builder.now ds c.args.count (state c.args.words.now)) c.loop-test.true c.in_err-cell.ensures.gives c.loop.invariant.0)

pub returns-in_err-cost : goal.returns-in_err-cost
returns-in_err-cost c =
    let p = err_from_is_err_and c.from_residual-in_err-cost.result c.from_residual-in_err-cost.ensures.1 in
    let ds = dims c.args.scope.now.sizes c.args.scope.now.variables in
    rw (p.1, p.2) (end_at_cost c.in_err-cost.field-0.0 c.loop.builder ds c.args.count c.loop.counter (state c.loop.words) c.in_ok-cell.cell (state c.tuple_cell.new.words) (listings_into c.args.builder.now ds c.args.count (state c.args.words.now)) c.loop-test.true c.in_ok-cell.ensures.gives c.in_err-cost.ensures.gives c.loop.invariant.0)

pub loop-preserved : goal.loop-preserved
loop-preserved c =
    let ds = dims c.args.scope.now.sizes c.args.scope.now.variables in
    let total = listings_into c.args.builder.now ds c.args.count (state c.args.words.now) in
    let some = c.loop.invariant.1 in
    rw c.list.ensures (
      go_on c.loop.builder ds c.args.count c.loop.counter (state c.loop.words) c.in_ok-cell.cell (state c.tuple_cell.new.words) c.in_ok-cost.cost (state c.natural.new.words) total c.loop-test.true some c.in_ok-cell.ensures.gives c.in_ok-cost.ensures.gives c.loop.invariant.0,
      still_some c.loop.builder c.in_ok-cell.cell c.in_ok-cost.cost some,
      same_dims c.loop.builder c.in_ok-cell.cell c.in_ok-cost.cost some ∙ c.loop.invariant.2,
    )

pub returns : goal.returns
returns c =
    let ds = dims c.args.scope.now.sizes c.args.scope.now.variables in
    done c.loop.builder ds c.args.count c.loop.counter (state c.loop.words) (listings_into c.args.builder.now ds c.args.count (state c.args.words.now)) c.loop-test.false c.loop.invariant.0
