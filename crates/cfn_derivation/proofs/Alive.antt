-- What is node consistent has a live value for each variable.
use Rattle.std.proofs.Common.{ℕ, List}
use Rattle.cfn_model.specs.declared.step.Event.{Event}
use Rattle.cfn_model.specs.Network.{Network}
use Rattle.cfn_consistency.specs.Consistency.{IsNodeConsistent}
use Rattle.cfn_derivation.specs.Derived.{AllAlive}

pub alive_of_nodes : (P : Network) (history : List Event) (k : ℕ) → IsNodeConsistent P history k → AllAlive P history
alive_of_nodes P history k nodes x h = (let some = nodes.free x h in (some.0, some.1.value, some.1.live))
