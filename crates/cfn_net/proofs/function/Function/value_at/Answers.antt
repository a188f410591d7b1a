use Rattle.std.proofs.Common.{suc, ◌<◌, length, ◌∙◌, arith}
use Rattle.cfn_model.specs.Network.{dims}
use Rattle.cfn_net.proofs.Cells.{Inhabited-dims, cells-drop-pos, length-dims}
use Rattle.cfn_net.proofs.Digits.{cells-behind, cells-behind-le, digit_is, tuple_of, tuple_of-numbered}
use Rattle.cfn_net.proofs.function.Function.value_at.Goals as goal

pub cells_of-requires-clause-few : goal.cells_of-requires-clause-few
cells_of-requires-clause-few c =
    let sizes = c.args.sizes.now in
    let scope = c.args.self.now.scope in
    let l : c.args.place < length (dims sizes scope) = omega (arith, length-dims sizes scope) in
    omega (arith, cells-behind sizes scope c.scope-scope.result.now c.args.place c.scope-scope.ensures, cells-behind-le (dims sizes scope) c.args.place l (Inhabited-dims sizes scope c.requires.sizes c.requires.scope.variables), c.requires.scope.few)

pub nonzero_div-result : goal.nonzero_div-result
nonzero_div-result c =
    let sizes = c.args.sizes.now in
    let scope = c.args.self.now.scope in
    omega (arith, cells-behind sizes scope c.scope-scope.result.now c.args.place c.scope-scope.ensures, cells-drop-pos (dims sizes scope) (suc c.args.place) (Inhabited-dims sizes scope c.requires.sizes c.requires.scope.variables), c.cells_of.ensures)

pub returns-clause-value : goal.returns-clause-value
returns-clause-value c = λ tuple fits is.
    digit_is c.args.sizes.now c.args.self.now.scope c.scope-scope.result.now tuple c.args.place c.args.number c.cells_of.result c.scope-scope.ensures fits is c.requires.place (c.cells_of.ensures ∙ cells-behind c.args.sizes.now c.args.self.now.scope c.scope-scope.result.now c.args.place c.scope-scope.ensures)

pub returns-clause-exists : goal.returns-clause-exists
returns-clause-exists c =
    let n = tuple_of-numbered (dims c.args.sizes.now c.args.self.now.scope) c.args.number c.requires.number in
    (tuple_of (dims c.args.sizes.now c.args.self.now.scope) c.args.number, n.fits, n.number)
