use Rattle.cfn_queue.proofs.Flags.{take_is}
use Rattle.cfn_queue.proofs.queue.Queue.take.Goals as goal

pub invariant_of-self-2 : goal.invariant_of-self-2
invariant_of-self-2 c = take_is _ _ _ _ _ c.in_ok-number.number c.self.invariant c.in_ok-number.ensures.items c.pop_front.ensures.capacity
