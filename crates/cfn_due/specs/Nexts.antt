-- What is due next.
use Rattle.std.specs.Prelude.{◌≡◌, ◌<◌, []}
use Rattle.cfn_queue.specs.Waiting.{IsFirst}
use Rattle.cfn_due.specs.declared.due.Next.{Next}
use Rattle.cfn_due.specs.declared.due.Next.TheVariants.{Arc, Existing, Directed}
use Rattle.cfn_due.specs.Dues.{Dues}

-- A function has waited longest for arc consistency; or none waits for it, and a variable has waited longest for existential
-- arc consistency; or none of these waits, and a function has waited longest for directional arc consistency.
abbrev pub IsNext : Dues → Next → Type 0
IsNext due (Arc f) = (f < due.arcs.size) × IsFirst due.arcs.items f
IsNext due (Existing x) = (x < due.existing.size) × IsFirst due.existing.items x × (due.arcs.items ≡ [])
IsNext due (Directed f) = (f < due.directed.size) × IsFirst due.directed.items f × (due.arcs.items ≡ []) × (due.existing.items ≡ [])
