use Rattle.std.proofs.Common.{◌≡◌, sym, ap, ◌∙◌, subst, slice_index, IsTrue}
use Rattle.cfn_model.specs.Network.{variable_at}
use Rattle.cfn_model.specs.Sums.{is_live}
use Rattle.cfn_scan.specs.Lines.{IsLine}
use Rattle.cfn_store.specs.Standing.{history}
use Rattle.cfn_scan.proofs.CallerLemmas.{side_line}
use Rattle.cfn_store.proofs.Stores.{over}
use Rattle.cfn_store.proofs.store.Store.line.Goals as goal

pub line-requires : goal.line-requires
line-requires c =
    let s = c.args.self.now in
    (s.network, history s, c.args.f, c.args.place, c.args.other, c.in_ok-side.ensures.1 c.args.other c.requires.other c.requires.different, c.requires.place)

pub returns : goal.returns
returns c =
    let s = c.args.self.now in
    let x = over c.self.inside.network.now c.self.inside.base c.self.inside.room c.self.inside.state s c.self.invariant.0 c.self.view_is (λ N h. slice_index c.scope.result.now c.args.place ≡ variable_at N c.args.f c.args.place) (ap (λ l. slice_index l c.args.place) c.scope.ensures) in
    let live = sym c.is_live.ensures ∙ c.if-not-is_live.false in
    subst (IsLine s.network (history s) c.args.f c.args.place c.args.value c.args.other) (sym c.line.ensures)
    (side_line s.network (history s) c.args.f c.args.place c.args.other c.in_ok-side.field-0 (c.in_ok-side.ensures.1 c.args.other c.requires.other c.requires.different) c.args.value c.requires.place
    (subst (λ y. IsTrue (is_live (history s) y c.args.value)) x live))
