use Rattle.cfn_derivation.specs.Banned.{bans_of}
use Rattle.cfn_derivation.proofs.Going.{goes_none}
use Rattle.cfn_derivation.proofs.own.own_value.Goals as goal

pub returns-then-not-is_high-clause-goes : goal.returns-then-not-is_high-clause-goes
returns-then-not-is_high-clause-goes c = goes_none c.args.q (bans_of c.args.bans.now) c.args.store.now c.args.work.now c.requires.room
