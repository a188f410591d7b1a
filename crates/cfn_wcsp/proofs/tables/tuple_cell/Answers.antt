use Rattle.std.proofs.Common.{◌<◌, ◌≤◌, length, arith}
use Rattle.std.proofs.lemmas.Result.{err_from_is_err_and}
use Rattle.std.proofs.lemmas.List.{length-map}
use Rattle.std.specs.Prelude.{slice_index}
use Rattle.cfn_model.specs.Network.{dims}
use Rattle.cfn_net.specs.Building.{IsScope}
use Rattle.cfn_wcsp.specs.Giving.{state}
use Rattle.cfn_wcsp.specs.Tables.{cell_at}
use Rattle.cfn_wcsp.proofs.Cells.{go_on, end, done, within, below_all, size_at}
use Rattle.cfn_wcsp.proofs.tables.tuple_cell.Goals as goal

pub returns-in_err-value-clause-gives : goal.returns-in_err-value-clause-gives
returns-in_err-value-clause-gives c =
    let p = err_from_is_err_and c.from_residual.result c.from_residual.ensures.1 in
    let sizes = c.sizes-sizes.result.now in
    let variables = c.variables-variables.result.now in
    let i = c.loop-x.x-index in
    let place : i < length (dims sizes variables) = omega (arith, length-map variables (slice_index sizes), c.loop-x-test.true) in
    rw (p.1, p.2, ← c.sizes-sizes.ensures.value, ← c.variables-variables.ensures.value) (end c.in_err-value.field-0.0 c.loop-x.cell (dims sizes variables) i (slice_index sizes (slice_index variables i)) (state c.loop-x.words) (cell_at (dims sizes variables) (state c.args.words.now)) place (size_at sizes variables i c.loop-x-test.true) c.in_err-value.ensures.gives c.loop-x.invariant.0)

pub overflow_mul-cell : goal.overflow_mul-cell
overflow_mul-cell c =
    let is : IsScope c.sizes-sizes.result.now c.variables-variables.result.now = rw (c.sizes-sizes.ensures.value, c.variables-variables.ensures.value) c.variables-variables.ensures.scope in
    omega (arith, below_all c.sizes-sizes.result.now c.variables-variables.result.now c.loop-x.cell c.loop-x.x-index c.in_ok-value.field-0 c.sizes-sizes.ensures.sizes is c.loop-x-test.true c.in_ok-value.ensures.range c.loop-x.invariant.1)

pub overflow_add-cell : goal.overflow_add-cell
overflow_add-cell c =
    let is : IsScope c.sizes-sizes.result.now c.variables-variables.result.now = rw (c.sizes-sizes.ensures.value, c.variables-variables.ensures.value) c.variables-variables.ensures.scope in
    omega (arith, below_all c.sizes-sizes.result.now c.variables-variables.result.now c.loop-x.cell c.loop-x.x-index c.in_ok-value.field-0 c.sizes-sizes.ensures.sizes is c.loop-x-test.true c.in_ok-value.ensures.range c.loop-x.invariant.1)

pub loop-x-preserved : goal.loop-x-preserved
loop-x-preserved c =
    let sizes = c.sizes-sizes.result.now in
    let variables = c.variables-variables.result.now in
    let i = c.loop-x.x-index in
    let size = slice_index sizes (slice_index variables i) in
    let place : i < length (dims sizes variables) = omega (arith, length-map variables (slice_index sizes), c.loop-x-test.true) in
    let is = size_at sizes variables i c.loop-x-test.true in (
      go_on c.loop-x.cell (dims sizes variables) i size c.in_ok-value.field-0 (state c.loop-x.words) (state c.natural.new.words) (cell_at (dims sizes variables) (state c.args.words.now)) place is c.in_ok-value.ensures.gives c.loop-x.invariant.0,
      within c.loop-x.cell (dims sizes variables) i size c.in_ok-value.field-0 place is c.in_ok-value.ensures.range c.loop-x.invariant.1,
    )

pub returns-clause-gives : goal.returns-clause-gives
returns-clause-gives c =
    let sizes = c.sizes-sizes.result.now in
    let variables = c.variables-variables.result.now in
    let place : length (dims sizes variables) ≤ c.loop-x.x-index = omega (arith, length-map variables (slice_index sizes), c.loop-x-test.false) in
    rw (← c.sizes-sizes.ensures.value, ← c.variables-variables.ensures.value) (done c.loop-x.cell (dims sizes variables) c.loop-x.x-index (state c.loop-x.words) (cell_at (dims sizes variables) (state c.args.words.now)) place c.loop-x.invariant.0)
