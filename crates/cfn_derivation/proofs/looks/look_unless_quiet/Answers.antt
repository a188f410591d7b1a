use Rattle.cfn_derivation.specs.Banned.{bans_of}
use Rattle.cfn_derivation.proofs.Going.{goes_none}
use Rattle.cfn_derivation.proofs.looks.look_unless_quiet.Goals as goal

pub returns-then-not-waits-clause-goes : goal.returns-then-not-waits-clause-goes
returns-then-not-waits-clause-goes c = goes_none c.args.q (bans_of c.args.bans.now) c.args.store.now c.args.work.now c.requires.room
