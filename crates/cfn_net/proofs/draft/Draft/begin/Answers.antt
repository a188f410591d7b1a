use Rattle.std.proofs.Common.{ap, ◌∙◌, arith}
use Rattle.cfn_model.specs.Network.{Function}
use Rattle.cfn_net.proofs.Drafting.{IsOpen-begun, cells-begun}
use Rattle.cfn_net.proofs.draft.Draft.begin.Goals as goal

pub cells-cells-requires : goal.cells-cells-requires
cells-cells-requires c =
    omega (arith, c.requires.scope.few, cells-begun c.self.inside.network c.args.self.now c.self.inside.last c.args.scope.now c.in_ok-open.open.entries.items c.args.default c.self.view_is (ap (λ (f : Function). f.entries) c.in_ok-open.ensures.function))

pub invariant_of-self-2 : goal.invariant_of-self-2
invariant_of-self-2 c =
    IsOpen-begun c.self.inside.network c.behind.new.network c.args.self.now c.self.inside.last c.args.scope.now c.args.default c.in_ok-open.open c.in_ok-open.ensures.network c.self.view_is c.requires c.in_ok-open.ensures.function c.in_ok-open.ensures.shares

pub returns-clause-cells : goal.returns-clause-cells
returns-clause-cells c =
    c.cells-cells.ensures ∙ cells-begun c.self.inside.network c.args.self.now c.self.inside.last c.args.scope.now c.in_ok-open.open.entries.items c.args.default c.self.view_is (ap (λ (f : Function). f.entries) c.in_ok-open.ensures.function)
