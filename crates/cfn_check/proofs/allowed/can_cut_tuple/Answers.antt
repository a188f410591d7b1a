use Rattle.std.proofs.Common.{arith}
use Rattle.std.proofs.lemmas.Int.{ints}
use Rattle.cfn_model.specs.Network.{dims_at}
use Rattle.cfn_net.proofs.CallerLemmas.{tuple_of, tuple_of-numbered}
use Rattle.cfn_check.proofs.allowed.can_cut_tuple.Goals as goal

pub returns : goal.returns
returns c =
    let P = c.args.network.now in
    let clause = c.residual.ensures in
    let low = rw (← c.requires.same) at c.floor.ensures in (
      λ yes tuple fits is. (let r = clause tuple fits is in let h = c.reaches.ensures.0 yes in omega (arith, ints, r, h, low)),
      λ can. (let t = tuple_of-numbered (dims_at P c.args.f) c.args.number c.requires.number.cell in
          let r = clause (tuple_of (dims_at P c.args.f) c.args.number) t.fits t.number in
          let h = can (tuple_of (dims_at P c.args.f) c.args.number) t.fits t.number in
          c.reaches.ensures.1 (omega (arith, ints, r, h, low))),
    )
