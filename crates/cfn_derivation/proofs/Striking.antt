-- A value is deleted.
use Rattle.std.proofs.Common.{◌≡◌, ℕ, ◌<◌, true, false, length, sym, ap, ◌∙◌, subst, inl, inr, arith}
use Rattle.std.proofs.lemmas.Bool.{cases_eq}
use Rattle.std.proofs.lemmas.Bool.Decides.{nat_tests}
use Rattle.std.specs.Prelude.{slice_index, ◌==◌, IsTrue}
use Rattle.cfn_model.specs.declared.step.Step.TheVariants.{CutValue}
use Rattle.cfn_model.specs.Sums.{is_live}
use Rattle.cfn_model.specs.Steps.{IsValue}
use Rattle.cfn_queue.specs.Waiting.{is_in}
use Rattle.cfn_consistency.specs.declared.deletion.Deletion.{Deletion}
use Rattle.cfn_consistency.specs.Virtual.{Bans, IsDeletion}
use Rattle.cfn_rows.specs.Sets.{live_count}
use Rattle.cfn_rows.proofs.CallerLemmas.{live_below_none}
use Rattle.cfn_store.specs.Rooms.{sets_of}
use Rattle.cfn_store.specs.Standing.{Standing, history, with_step}
use Rattle.cfn_derivation.specs.Derived.{AllAlive, EmptiesLast}
use Rattle.cfn_derivation.specs.Working.{Work, with_deletion, HasRoom, Goes}
use Rattle.cfn_derivation.proofs.Counting.{one_less, some_live, cut_itself, cut_other_variable}
use Rattle.cfn_derivation.proofs.Going.{goes_one, along_one, with_has}

-- there is room for one
pub room_for_cut : (s : Standing) (work : Work) (x a : ℕ) → HasRoom s work → IsValue s.network x a → IsTrue (is_live (history s) x a) → 0 < s.spare
room_for_cut s work x a room value live = let less = one_less s.network (history s) x a value live in let r = room.spare in omega (arith, less, r)

pub room_in_list : (s : Standing) (work : Work) (x a : ℕ) → HasRoom s work → IsValue s.network x a → IsTrue (is_live (history s) x a) → length work.deletions < work.room
room_in_list s work x a room value live = let less = one_less s.network (history s) x a value live in let r = room.list in omega (arith, less, r)

-- it is a part of a derivation
pub struck_goes : (q : ℕ) (bans : Bans) (s t : Standing) (work new : Work) (d : Deletion) → HasRoom s work → IsDeletion s.network (history s) q bans d → t ≡ with_step s (CutValue d.variable d.value) → new ≡ with_deletion work d → Goes q bans s t work new
struck_goes q bans s t work new d room is e f =
    subst (λ t. Goes q bans s t work new) (sym e) (subst (λ w. Goes q bans s (with_step s (CutValue d.variable d.value)) work w) (sym f) (goes_one q bans s work d room is))

pub struck_waits : (work new : Work) (d : Deletion) → new ≡ with_deletion work d → is_in d.variable new.waiting.items ≡ true
struck_waits work new d f = subst (λ w. is_in d.variable w.waiting.items ≡ true) (sym f) (with_has work.waiting d.variable)

pub struck_dead : (s t : Standing) (d : Deletion) → t ≡ with_step s (CutValue d.variable d.value) → is_live (history t) d.variable d.value ≡ false
struck_dead s t d e = subst (λ t. is_live (history t) d.variable d.value ≡ false) (sym e) (ap (λ past. is_live past d.variable d.value) (along_one s d.variable d.value) ∙ cut_itself (history s) d.variable d.value)

-- and the variable is emptied, or all have a live value
none_counted : (n : ℕ) → (n == 0) ≡ true → n ≡ 0
none_counted n h = grind (arith, nat_tests)

some_counted : (n : ℕ) → (n == 0) ≡ false → 0 < n
some_counted n h = grind (arith, nat_tests)

emptied_here : (s : Standing) (d : Deletion) (n : ℕ) → IsValue s.network d.variable d.value → AllAlive s.network (history s) → n ≡ live_count (sets_of (with_step s (CutValue d.variable d.value))) d.variable → (n == 0) ≡ true → EmptiesLast s.network (history (with_step s (CutValue d.variable d.value))) d.variable
emptied_here s d n value alive is none = record {
  emptied = (value.variable, λ a there. live_below_none (history (with_step s (CutValue d.variable d.value))) d.variable (slice_index s.network.sizes d.variable) a (sym is ∙ none_counted n none) there.value);
  value = d.value;
  before = history s;
  newest = along_one s d.variable d.value;
  alive = alive;
}

pub struck_emptied : (s t : Standing) (d : Deletion) (n : ℕ) → IsValue s.network d.variable d.value → AllAlive s.network (history s) → t ≡ with_step s (CutValue d.variable d.value) → n ≡ live_count (sets_of t) d.variable → (n == 0) ≡ true → EmptiesLast t.network (history t) d.variable
struck_emptied s t d n value alive e is none =
    subst (λ t. EmptiesLast t.network (history t) d.variable) (sym e) (emptied_here s d n value alive (subst (λ t. n ≡ live_count (sets_of t) d.variable) e is) none)

alive_here : (s : Standing) (d : Deletion) (n : ℕ) → AllAlive s.network (history s) → n ≡ live_count (sets_of (with_step s (CutValue d.variable d.value))) d.variable → (n == 0) ≡ false → AllAlive s.network (history (with_step s (CutValue d.variable d.value)))
alive_here s d n alive is some x h = elim (cases_eq x d.variable) [
  | inl e ↦
      (let found = some_live (history (with_step s (CutValue d.variable d.value))) d.variable (slice_index s.network.sizes d.variable) (subst (λ m. 0 < m) is (some_counted n some)) in
      subst (λ y. (a : ℕ) × IsValue s.network y a × IsTrue (is_live (history (with_step s (CutValue d.variable d.value))) y a)) (sym e)
      (found.0, record { variable = subst (λ y. y < length s.network.sizes) e h; value = found.1 }, found.2))
  | inr other ↦
      (let was = alive x h in
      (was.0, was.1, ap (λ past. is_live past x was.0) (along_one s d.variable d.value) ∙ cut_other_variable (history s) d.variable d.value x was.0 (λ e. other (sym e)) ∙ was.2))
]

pub struck_alive : (s t : Standing) (d : Deletion) (n : ℕ) → AllAlive s.network (history s) → t ≡ with_step s (CutValue d.variable d.value) → n ≡ live_count (sets_of t) d.variable → (n == 0) ≡ false → AllAlive t.network (history t)
struck_alive s t d n alive e is some =
    subst (λ t. AllAlive t.network (history t)) (sym e) (alive_here s d n alive (subst (λ t. n ≡ live_count (sets_of t) d.variable) e is) some)
