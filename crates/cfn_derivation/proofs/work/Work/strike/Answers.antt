use Rattle.std.proofs.Common.{ap}
use Rattle.cfn_derivation.proofs.Striking.{struck_dead, struck_goes, struck_waits, struck_emptied, struck_alive}
use Rattle.cfn_derivation.proofs.work.Work.strike.Goals as goal

pub returns-clause-goes : goal.returns-clause-goes
returns-clause-goes c = λ q bans is. struck_goes q bans c.args.store.now c.delete.new.store c.args.self.now c.delete.new.self c.args.deletion c.requires.room is c.delete.ensures.store c.delete.ensures.work

pub returns-clause-waits : goal.returns-clause-waits
returns-clause-waits c = struck_waits c.args.self.now c.delete.new.self c.args.deletion c.delete.ensures.work

pub returns-clause-emptied : goal.returns-clause-emptied
returns-clause-emptied c = λ none. struck_emptied c.args.store.now c.delete.new.store c.args.deletion c.count.result c.requires.reason.2.value c.requires.alive c.delete.ensures.store c.count.ensures none

pub returns-clause-alive : goal.returns-clause-alive
returns-clause-alive c = λ some. struck_alive c.args.store.now c.delete.new.store c.args.deletion c.count.result c.requires.alive c.delete.ensures.store c.count.ensures some

pub returns-clause-dead : goal.returns-clause-dead
returns-clause-dead c = struck_dead c.args.store.now c.delete.new.store c.args.deletion c.delete.ensures.store

pub returns-clause-network : goal.returns-clause-network
returns-clause-network c = ap (λ s. s.network) c.delete.ensures.store
