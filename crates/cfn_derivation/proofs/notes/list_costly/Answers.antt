use Rattle.std.proofs.Common.{length, ◌∙◌, ap, arith}
use Rattle.cfn_store.specs.Standing.{history}
use Rattle.cfn_derivation.specs.Watched.{HasCostly}
use Rattle.cfn_derivation.proofs.Noting.{listed_next, all_listed}
use Rattle.cfn_derivation.proofs.notes.list_costly.Goals as goal

pub loop-x-preserved : goal.loop-x-preserved
loop-x-preserved c = record {
  size = c.list_if_costly.ensures.size ∙ c.loop-x.invariant.size;
  listed = listed_next (HasCostly c.args.store.now.network (history c.args.store.now) c.args.q) c.loop-x.costly.items c.list_if_costly.new.costly.items c.loop-x.x c.loop-x.invariant.listed
      c.list_if_costly.ensures.stay c.list_if_costly.ensures.listed;
  only = c.list_if_costly.ensures.only c.loop-x.invariant.only;
}

pub returns-clause-all : goal.returns-clause-all
returns-clause-all c =
    let same = ap (λ P. length P.sizes) c.network.ensures in
    all_listed c.args.store.now.network (history c.args.store.now) c.args.q c.loop-x.costly.items c.loop-x.x (omega (arith, c.loop-x-test.false, c.variables-x-end.ensures, same)) c.loop-x.invariant.listed
