-- A derivation runs until nothing is left to delete.
use Rattle.std.proofs.Common.{◌≡◌, ℕ, ◌<◌, ◌≤◌, Bool, true, false, List, [], ◌++◌, length, append_assoc, refl, ap, ◌∙◌, inl, inr, arith}
use Rattle.std.proofs.lemmas.Bool.{cases_Bool}
use Rattle.std.proofs.lemmas.Int.{ints}
use Rattle.std.specs.Prelude.{Option, None, Some, MatchOption, pos, ◌≤ℤ◌, ◌<ℤ◌, ℤ}
use Rattle.cfn_model.specs.declared.step.Event.{Event}
use Rattle.cfn_model.specs.Network.{Network}
use Rattle.cfn_model.specs.Sums.{unary}
use Rattle.cfn_queue.specs.Waiting.{is_in}
use Rattle.cfn_consistency.specs.Consistency.{HasSupport}
use Rattle.cfn_consistency.specs.Virtual.{Bans, HasCheapTuple, IsClosedFamily}
use Rattle.cfn_store.specs.Standing.{Standing, history}
use Rattle.cfn_derivation.specs.Derived.{value_count, AllAlive}
use Rattle.cfn_derivation.specs.Working.{Work, HasRoom, NoneWaitsBehind, IsLow, IsDone, Goes, Extends}
use Rattle.cfn_derivation.specs.Watched.{TouchedAre, CostlyAre}
use Rattle.cfn_derivation.proofs.Counting.{at_most_all}
use Rattle.cfn_derivation.proofs.Going.{goes_none, derived_then, done_goes, low_goes}

-- an arc consistent function has nothing to delete
cheap_support : (P : Network) (history : List Event) (q f i a : ℕ) → 0 < q → HasSupport P history f i a → HasCheapTuple P history f i a q
cheap_support P history q f i a some has = record {
  tuple = has.tuple;
  fits = has.fits;
  at = has.at;
  live = has.live;
  cheap = (let e = has.free in omega (arith, ints, e, some));
}

pub untouched_done : (P : Network) (history : List Event) (q : ℕ) (bans : Bans) (touched waiting : List ℕ) (f : ℕ) → 0 < q → TouchedAre P history touched → is_in f touched ≡ false → IsDone P history q bans waiting f
untouched_done P history q bans touched waiting f some are apart part i a none place live unbanned = cheap_support P history q f i a some (are f apart part i a place live)

pub looked_done : (q : ℕ) (bans : Bans) (before now : Standing) (old new : Work) (touched : List ℕ) (f : ℕ) → 0 < q → Goes q bans before now old new → TouchedAre before.network (history before) touched → is_in f touched ≡ false → IsDone now.network (history now) q bans new.waiting.items f
looked_done q bans before now old new touched f some goes are apart = done_goes q bans before now old new f goes (untouched_done before.network (history before) q bans touched old.waiting.items f some are apart)

-- a variable with no costly value
below_q : (z : ℤ) (q : ℕ) → (pos q ≤ℤ z → ⊥) → z <ℤ pos q
below_q z q h = grind (arith, ints, h)

not_both : (b : Bool) → b ≡ true → b ≡ false → ⊥
not_both true h k = absurd cc
not_both false h k = absurd cc

pub uncostly_low : (P : Network) (history : List Event) (q : ℕ) (bans : Bans) (costly : List ℕ) (x : ℕ) → CostlyAre P history q costly → is_in x costly ≡ false → IsLow P history q bans x
uncostly_low P history q bans costly x are apart a value live unbanned = below_q (unary P history x a) q (λ high. not_both (is_in x costly) (are x a value live high) apart)

pub all_low : (q : ℕ) (bans : Bans) (before now : Standing) (old new : Work) (costly : List ℕ) → Goes q bans before now old new → CostlyAre before.network (history before) q costly → ((x : ℕ) → is_in x costly ≡ true → IsLow now.network (history now) q bans x) → (x : ℕ) → IsLow now.network (history now) q bans x
all_low q bans before now old new costly goes are low x = elim (cases_Bool (is_in x costly)) [
  | inl there ↦ low x there
  | inr apart ↦ low_goes before now q bans goes.deletions x goes.derived (uncostly_low before.network (history before) q bans costly x are apart)
]

-- parts of a derivation, whatever waits
pub extends_of : (q : ℕ) (bans : Bans) (before now : Standing) (old new : Work) → Goes q bans before now old new → Extends q bans before now old new
extends_of q bans before now old new goes = record { deletions = goes.deletions; list = goes.list; derived = goes.derived; room = goes.room; capacity = goes.capacity }

pub extends_none : (q : ℕ) (bans : Bans) (s : Standing) (work : Work) → HasRoom s work → Extends q bans s s work work
extends_none q bans s work room = extends_of q bans s s work work (goes_none q bans s work room)

pub extends_then : (q : ℕ) (bans : Bans) (first middle last : Standing) (one two three : Work) → Extends q bans first middle one two → Extends q bans middle last two three → Extends q bans first last one three
extends_then q bans first middle last one two three a b = record {
  deletions = a.deletions ++ b.deletions;
  list = b.list ∙ ap (λ l. l ++ b.deletions) a.list ∙ append_assoc one.deletions a.deletions b.deletions;
  derived = derived_then first middle last q bans a.deletions b.deletions a.derived b.derived;
  room = b.room;
  capacity = b.capacity ∙ a.capacity;
}

-- a variable waits no longer
pub room_taken : (s : Standing) (work taken : Work) → HasRoom s work → taken.deletions ≡ work.deletions → taken.room ≡ work.room → taken.waiting.size ≡ work.waiting.size → HasRoom s taken
room_taken s work taken room list capacity size = record {
  list = (let a = room.list in let e = ap length list in omega (arith, a, e, capacity));
  spare = room.spare;
  size = size ∙ room.size;
}

pub extends_taken : (q : ℕ) (bans : Bans) (first now : Standing) (one work taken : Work) → Extends q bans first now one work → taken.deletions ≡ work.deletions → taken.room ≡ work.room → taken.waiting.size ≡ work.waiting.size → Extends q bans first now one taken
extends_taken q bans first now one work taken is list capacity size = record {
  deletions = is.deletions;
  list = list ∙ is.list;
  derived = is.derived;
  room = room_taken now work taken is.room list capacity size;
  capacity = capacity ∙ is.capacity;
}

-- the end
pub none_waiting : (P : Network) (f i : ℕ) → NoneWaitsBehind P [] f i
none_waiting P f i x h on = absurd cc

pub closes : (P : Network) (history : List Event) (q : ℕ) (bans : Bans) → AllAlive P history → ((x : ℕ) → IsLow P history q bans x) → ((f : ℕ) → IsDone P history q bans [] f) → IsClosedFamily P history q bans
closes P history q bans alive low done = record {
  some = alive;
  own = low;
  by = λ f i a part place live unbanned. done f part i a (none_waiting P f i) place live unbanned;
}

pub extends_low : (q : ℕ) (bans : Bans) (before now : Standing) (old new : Work) → Extends q bans before now old new → ((x : ℕ) → IsLow before.network (history before) q bans x) → (x : ℕ) → IsLow now.network (history now) q bans x
extends_low q bans before now old new is low x = low_goes before now q bans is.deletions x is.derived (low x)

-- room at the start
pub room_at_first : (s : Standing) (work : Work) → work.deletions ≡ [] → work.waiting.size ≡ length s.network.sizes → value_count s.network ≤ work.room → value_count s.network ≤ s.spare → HasRoom s work
room_at_first s work list size room spare =
    let most = at_most_all s.network (history s) in
    record {
      list = (let e = ap length list in omega (arith, e, most, room));
      spare = omega (arith, most, spare);
      size = size;
    }

-- one variable more that waits no longer
pub settle_next : (q : ℕ) (bans : Bans) (first now next : Standing) (one work taken new : Work) → Extends q bans first now one work → taken.deletions ≡ work.deletions → taken.room ≡ work.room → taken.waiting.size ≡ work.waiting.size → Goes q bans now next taken new → Extends q bans first next one new
settle_next q bans first now next one work taken new is list capacity size goes =
    extends_then q bans first now next one taken new (extends_taken q bans first now one work taken is list capacity size) (extends_of q bans now next taken new goes)

pub ends_closed : (A B : Type 0) (C : ℕ → Type 0) (result : Option ℕ) → MatchOption result A C → (result ≡ None → A → B) → MatchOption result B C
ends_closed A B C None ends then = then refl ends
ends_closed A B C (Some x) ends then = ends
