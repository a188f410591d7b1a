use Rattle.std.proofs.Common.{ap, ◌∙◌, sym, arith}
use Rattle.cfn_model.specs.Network.{Function, Network, cells, dims_at}
use Rattle.cfn_net.specs.Building.{share_of}
use Rattle.cfn_net.proofs.Drafting.{IsOpen-share, cells-begun}
use Rattle.cfn_net.proofs.draft.Draft.share.Goals as goal

pub copy-requires-clause-cells : goal.copy-requires-clause-cells
copy-requires-clause-cells c =
    cells-begun c.self.inside.network c.args.self.now c.self.inside.last c.args.scope.now c.in_ok-open.open.entries.items 0 c.self.view_is (ap (λ (f : Function). f.entries) c.in_ok-open.ensures.function) ∙ ap cells c.requires.dims ∙ ap (λ (P : Network). cells (dims_at P c.args.earlier)) (sym (c.in_ok-open.ensures.network ∙ c.self.view_is))

pub cells-cells-requires : goal.cells-cells-requires
cells-cells-requires c =
    omega (arith, c.requires.room.scope.few, c.copy.ensures.cells, cells-begun c.self.inside.network c.args.self.now c.self.inside.last c.args.scope.now c.in_ok-open.open.entries.items 0 c.self.view_is (ap (λ (f : Function). f.entries) c.in_ok-open.ensures.function))

pub invariant_of-self-2 : goal.invariant_of-self-2
invariant_of-self-2 c =
    IsOpen-share c.behind.new.network c.args.self.now c.args.earlier c.args.scope.now c.copy.new.self (c.in_ok-open.ensures.network ∙ c.self.view_is) c.law_limits.ensures c.requires.room c.requires.earlier c.requires.dims (c.copy.ensures.function ∙ ap (share_of c.behind.new.network c.args.earlier) (ap (λ (f : Function). f.scope) c.in_ok-open.ensures.function)) c.copy.ensures.shares

pub returns-clause-cells : goal.returns-clause-cells
returns-clause-cells c =
    c.cells-cells.ensures ∙ c.copy.ensures.cells ∙ cells-begun c.self.inside.network c.args.self.now c.self.inside.last c.args.scope.now c.in_ok-open.open.entries.items 0 c.self.view_is (ap (λ (f : Function). f.entries) c.in_ok-open.ensures.function)
