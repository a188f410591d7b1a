use Rattle.std.proofs.Common.{length, ap, arith}
use Rattle.cfn_store.specs.Standing.{Standing}
use Rattle.cfn_store.proofs.Stores.{block_length}
use Rattle.cfn_store.proofs.store.Store.block_len.Goals as goal

pub returns : goal.returns
returns c =
    let n = block_length c.self.inside.network.now c.self.inside.base c.self.inside.room c.self.inside.state c.self.invariant.0 in
    let v = ap (λ (s : Standing). length s.block) c.self.view_is in let l = c.len.ensures in omega (arith, n, v, l)
