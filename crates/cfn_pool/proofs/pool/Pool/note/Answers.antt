use Rattle.std.proofs.Common.{inl, inr, refl}
use Rattle.cfn_pool.proofs.pool.Pool.note.Goals as goal

pub returns-then-is_due : goal.returns-then-is_due
returns-then-is_due g c = record { notes = inl c.note_now.ensures.notes; recorded = c.note_now.ensures.recorded }

pub returns-else-is_due : goal.returns-else-is_due
returns-else-is_due g c = record { notes = inr (refl, c.is_due.ensures c.if-is_due.false); recorded = refl }
