-- Where a checker stands: the network, and the history of the path from the root.
use Rattle.std.specs.Prelude.{◌≡◌, ℕ, ◌≤◌, ◌^◌, Bool, not, List, [], ◌∷◌, length, map, drop}
use Rattle.cfn_model.specs.declared.step.Step.TheVariants.{Project, Extend, Lift, CutValue, CutTuple}
use Rattle.cfn_model.specs.declared.step.Event.{Event}
use Rattle.cfn_model.specs.declared.step.Event.TheVariants.{Did, Took, Refused}
use Rattle.cfn_model.specs.Network.{Network}
use Rattle.cfn_model.specs.Sums.{is_cut}
use Rattle.cfn_check.specs.declared.entry.Entry.{Entry}
use Rattle.cfn_tables.specs.Possible.{IsPossible}
use Rattle.cfn_tables.specs.Tables.{Tables, Says}

pub record Standing : Type 0 where
  pub network : Network
  pub history : List Event

-- The history with one more event, and without its newest events.
abbrev pub with_event : Event → Standing → Standing
with_event event s = record { network = s.network; history = event ∷ s.history }

abbrev pub without : ℕ → Standing → Standing
without n s = record { network = s.network; history = drop n s.history }

-- A cut of a tuple is marked where the tuple was not cut before it.
abbrev pub IsMarked : Event → Bool → List Event → Type 0
IsMarked (Did (Project f i a m)) fresh history = Unit {0}
IsMarked (Did (Extend f i a m)) fresh history = Unit {0}
IsMarked (Did (Lift x m)) fresh history = Unit {0}
IsMarked (Did (CutValue x a)) fresh history = Unit {0}
IsMarked (Did (CutTuple f c)) fresh history = fresh ≡ not (is_cut history f c)
IsMarked (Took d) fresh history = Unit {0}
IsMarked (Refused d) fresh history = Unit {0}

-- What happened, from entries with the newest first.
abbrev pub events_of : List Entry → List Event
events_of entries = map (λ entry. entry.event) entries

-- Every entry is possible, and marked by those before it.
abbrev pub IsTrail : Network → List Entry → Type 0
IsTrail P [] = Unit {0}
IsTrail P (entry ∷ entries) = IsPossible P entry.event × IsMarked entry.event entry.fresh (events_of entries) × IsTrail P entries

-- The tables say what the trail makes of the network, and the trail is short enough for sums of 128 bits.
pub record IsLedger (P : Network) (t : Tables) (entries : List Entry) : Type 0 where
  pub says : Says P (events_of entries) t
  pub trail : IsTrail P entries
  pub short : length entries ≤ 2 ^ 40
