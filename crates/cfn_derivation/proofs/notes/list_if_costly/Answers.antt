use Rattle.cfn_store.specs.Standing.{history}
use Rattle.cfn_derivation.proofs.Noting.{listed_stay, listed_has, listed_only}
use Rattle.cfn_derivation.proofs.notes.list_if_costly.Goals as goal

pub returns-then-has_costly-clause-stay : goal.returns-then-has_costly-clause-stay
returns-then-has_costly-clause-stay c = listed_stay c.args.costly.now c.put.new.self c.args.x c.put.ensures

pub returns-then-has_costly-clause-listed : goal.returns-then-has_costly-clause-listed
returns-then-has_costly-clause-listed c = λ has. listed_has c.args.costly.now c.put.new.self c.args.x c.put.ensures

pub returns-then-has_costly-clause-only : goal.returns-then-has_costly-clause-only
returns-then-has_costly-clause-only c =
    listed_only c.args.store.now.network (history c.args.store.now) c.args.q c.args.costly.now c.put.new.self c.args.x c.put.ensures (c.has_costly.ensures.yes c.if-has_costly.true)
