use Rattle.std.proofs.Common.{◌≡◌, ap, sym, ◌∙◌, length, arith}
use Rattle.cfn_model.specs.Network.{arity}
use Rattle.cfn_scan.specs.Lines.{IsSide}
use Rattle.cfn_store.proofs.Stores.{over}
use Rattle.cfn_store.proofs.store.Store.side.Goals as goal

pub returns : goal.returns
returns c =
    let two = over c.self.inside.network.now c.self.inside.base c.self.inside.room c.self.inside.state c.args.self.now c.self.invariant.0 c.self.view_is (λ N h. arity N c.args.f ≡ 2) (sym (ap length c.scope.ensures) ∙ c.if-scope-ne2.false) in
    let l = c.requires.place in (
      two,
      λ other there apart. over c.self.inside.network.now c.self.inside.base c.self.inside.room c.self.inside.state c.args.self.now c.self.invariant.0 c.self.view_is (λ N h. IsSide N h c.args.f c.args.place other c.side.result)
          (c.side.ensures other (omega (arith, two, l, there, apart))),
    )
