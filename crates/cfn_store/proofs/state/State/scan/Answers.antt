use Rattle.std.proofs.Common.{refl}
use Rattle.cfn_store.proofs.Reading.{state_reads}
use Rattle.cfn_store.proofs.state.State.scan.Goals as goal

pub returns-clause-reads : goal.returns-clause-reads
returns-clause-reads c = state_reads c.args.network.now c.args.self.now c.args.f _ c.requires.function c.requires.state.keeps c.sizes.ensures c.table.ensures c.ub.ensures refl c.row-2.ensures c.row.ensures
