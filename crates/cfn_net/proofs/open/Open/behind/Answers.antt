use Rattle.std.proofs.Common.{◌≡◌, ℕ, [], List, Vec, Global, ap, ◌∙◌, arith}
use Rattle.cfn_net.proofs.Cells.{function_of-constant}
use Rattle.cfn_net.proofs.Drafting.{filled}
use Rattle.cfn_net.proofs.open.Open.behind.Goals.{in-Some+in_ok-close+then-cells-capacity, in-Some+in_ok-close+else-cells-capacity, in_default}
use Rattle.cfn_net.proofs.open.Open.behind.Goals as goal

pub returns-clause-function : goal.returns-clause-function
returns-clause-function c =
    let items : Vec ℕ Global → List ℕ = λ v. v.items in
    let len : Vec ℕ Global → ℕ = λ v. v.len in
    let none : c.match-last.entries.items ≡ [] = elim c.match-last.branch [
      | in-Some+in_ok-close+then-cells-capacity w ↦ ap items w.entries-is ∙ w.clear.ensures.items
      | in-Some+in_ok-close+else-cells-capacity w ↦ ap items w.entries-is ∙ c.in_ok-entries.ensures.items
      | in_default w ↦ ap items w.entries-is ∙ c.in_ok-entries.ensures.items
    ] in
    let empty : c.match-last.entries.len ≡ 0 = elim c.match-last.branch [
      | in-Some+in_ok-close+then-cells-capacity w ↦ ap len w.entries-is ∙ w.clear.ensures.len
      | in-Some+in_ok-close+else-cells-capacity w ↦ ap len w.entries-is ∙ c.in_ok-entries.ensures.len
      | in_default w ↦ ap len w.entries-is ∙ c.in_ok-entries.ensures.len
    ] in
    function_of-constant c.args.network.now.sizes c.args.network.now.upper c.args.scope.now c.args.default c.in_ok-scope.scope.items c.min-default.result c.cells_in-cells.result c.resize.new.self.items c.in_ok-scope.ensures.ok (omega (arith, c.min-default.ensures, c.ub.ensures)) c.cells_in-cells.ensures (filled c.match-last.entries.items c.resize.new.self.items c.match-last.entries.len c.cells_in-cells.result c.min-default.result none empty c.in_ok-resize.ensures.items)
