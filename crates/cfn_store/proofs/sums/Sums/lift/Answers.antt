use Rattle.std.proofs.Common.{◌≡◌, ◌+◌, ◌%◌, ◌^◌, arith, refl, ap, set}
use Rattle.std.proofs.lemmas.List.{get_or_read}
use Rattle.cfn_store.specs.Sums.{lifted_word}
use Rattle.cfn_store.proofs.Moving.{lifts_up}
use Rattle.cfn_store.proofs.sums.Sums.lift.Goals as goal

pub returns : goal.returns
returns c = λ P shape there.
    (let read : c.index.result.now ≡ lifted_word c.args.self.now c.args.x = get_or_read c.args.self.now.lifted.items c.args.x c.index.result.now (omega (arith, there, shape.lifted)) c.index.ensures 0 in
    let e = c.from.ensures in
    lifts_up P c.args.self.now _ c.args.x c.args.amount shape there (omega (arith, e)) refl refl (ap (λ w. set c.args.self.now.lifted.items c.args.x ((w + c.args.amount) % 2 ^ 64)) read))
