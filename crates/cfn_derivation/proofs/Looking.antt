-- Functions are looked at, place by place and value by value.
use Rattle.std.proofs.Common.{◌≡◌, ℕ, suc, ◌+◌, ◌-◌, ◌<◌, ◌≤◌, Bool, true, false, ◌||◌, List, [], ◌∷◌, length, refl, sym, ap, ◌∙◌, subst, inl, inr, arith}
use Rattle.std.proofs.lemmas.Bool.{cases_eq, eqb-true}
use Rattle.std.specs.Prelude.{Option, None, Some, is_some, MatchOption, slice_index, ◌==◌}
use Rattle.cfn_model.specs.declared.step.Event.{Event}
use Rattle.cfn_model.specs.Network.{Network, arity, variable_at, dims_at}
use Rattle.cfn_model.proofs.CallerLemmas.{eqb_other}
use Rattle.cfn_queue.specs.Waiting.{is_in}
use Rattle.cfn_consistency.specs.Openness.{TakesPart}
use Rattle.cfn_consistency.specs.Virtual.{Bans}
use Rattle.cfn_incidence.specs.declared.incidence.Place.{Place}
use Rattle.cfn_incidence.specs.Places.{StandsAt, ArePlaces, place_at}
use Rattle.cfn_incidence.proofs.CallerLemmas.{place_found}
use Rattle.cfn_store.specs.Standing.{Standing, history}
use Rattle.cfn_derivation.specs.Derived.{AllAlive}
use Rattle.cfn_due.proofs.CallerLemmas.{two_take_part}
use Rattle.cfn_derivation.specs.Working.{Work, HasRoom, IsBehind, NoneWaitsBehind, IsQuietAt, IsDone, Goes}
use Rattle.cfn_derivation.proofs.Going.{goes_none, goes_then, part_goes, done_goes, done_besides}

-- the value a at place i, unless a variable waits that may change it
abbrev pub MayBeQuiet : Standing → Work → ℕ → Bans → ℕ → ℕ → ℕ → Type 0
MayBeQuiet s work q bans f i a = NoneWaitsBehind s.network work.waiting.items f i → IsQuietAt s.network (history s) q bans f i a

quiet_goes : (q : ℕ) (bans : Bans) (now next : Standing) (old new : Work) (f i a : ℕ) → Goes q bans now next old new → MayBeQuiet now old q bans f i a → MayBeQuiet next new q bans f i a
quiet_goes q bans now next old new f i a goes was none =
    let same = goes.derived.network in
    let none_now = subst (λ P. NoneWaitsBehind P new.waiting.items f i) same none in
    subst (λ P. IsQuietAt P (history next) q bans f i a) (sym same)
    (goes.quiet f i a none_now (was (λ x h on. none_now x (goes.waits x h) on)))

pub record IsLooking (q : ℕ) (bans : Bans) (before now : Standing) (old new : Work) (f i n : ℕ) : Type 0 where
  pub goes : Goes q bans before now old new
  pub alive : AllAlive now.network (history now)
  pub part : TakesPart now.network (history now) f
  pub quiet : (a : ℕ) → a < n → MayBeQuiet now new q bans f i a

pub looking_start : (q : ℕ) (bans : Bans) (s : Standing) (work : Work) (f i : ℕ) → HasRoom s work → AllAlive s.network (history s) → TakesPart s.network (history s) f → IsLooking q bans s s work work f i 0
looking_start q bans s work f i room alive part = record { goes = goes_none q bans s work room; alive = alive; part = part; quiet = λ a h. absurd (omega (arith, h)) }

pub looking_next : (q : ℕ) (bans : Bans) (before now next : Standing) (old middle new : Work) (f i n : ℕ) → IsLooking q bans before now old middle f i n → Goes q bans now next middle new → AllAlive next.network (history next) → MayBeQuiet next new q bans f i n → IsLooking q bans before next old new f i (n + 1)
looking_next q bans before now next old middle new f i n is goes alive here = record {
  goes = goes_then q bans before now next old middle new is.goes goes;
  alive = alive;
  part = part_goes now next q bans goes.deletions f goes.derived is.part;
  quiet = λ a h. elim (cases_eq a n) [
    | inl e ↦ subst (MayBeQuiet next new q bans f i) (sym e) here
    | inr d ↦ quiet_goes q bans now next middle new f i a goes (is.quiet a (omega (arith, h, d)))
  ];
}

pub looking_end : (q : ℕ) (bans : Bans) (before now : Standing) (old new : Work) (f i n : ℕ) → slice_index (dims_at before.network f) i ≤ n → IsLooking q bans before now old new f i n → (a : ℕ) → MayBeQuiet now new q bans f i a
looking_end q bans before now old new f i n all is a none place =
    is.quiet a (let h = place.value in let e = ap (λ P. slice_index (dims_at P f) i) is.goes.derived.network in omega (arith, h, e, all)) none place

-- the places below a number
pub record IsLookingAlong (q : ℕ) (bans : Bans) (before now : Standing) (old new : Work) (f n : ℕ) : Type 0 where
  pub goes : Goes q bans before now old new
  pub alive : AllAlive now.network (history now)
  pub part : TakesPart now.network (history now) f
  pub quiet : (i : ℕ) → i < n → (a : ℕ) → MayBeQuiet now new q bans f i a

pub along_start : (q : ℕ) (bans : Bans) (s : Standing) (work : Work) (f : ℕ) → HasRoom s work → AllAlive s.network (history s) → TakesPart s.network (history s) f → IsLookingAlong q bans s s work work f 0
along_start q bans s work f room alive part = record { goes = goes_none q bans s work room; alive = alive; part = part; quiet = λ i h. absurd (omega (arith, h)) }

pub along_next : (q : ℕ) (bans : Bans) (before now next : Standing) (old middle new : Work) (f n : ℕ) → IsLookingAlong q bans before now old middle f n → Goes q bans now next middle new → AllAlive next.network (history next) → ((a : ℕ) → MayBeQuiet next new q bans f n a) → IsLookingAlong q bans before next old new f (n + 1)
along_next q bans before now next old middle new f n is goes alive here = record {
  goes = goes_then q bans before now next old middle new is.goes goes;
  alive = alive;
  part = part_goes now next q bans goes.deletions f goes.derived is.part;
  quiet = λ i h. elim (cases_eq i n) [
    | inl e ↦ subst (λ j. (a : ℕ) → MayBeQuiet next new q bans f j a) (sym e) here
    | inr d ↦ λ a. quiet_goes q bans now next middle new f i a goes (is.quiet i (omega (arith, h, d)) a)
  ];
}

pub along_end : (q : ℕ) (bans : Bans) (before now : Standing) (old new : Work) (f n : ℕ) → arity before.network f ≤ n → IsLookingAlong q bans before now old new f n → IsDone now.network (history now) q bans new.waiting.items f
along_end q bans before now old new f n all is part i a none place =
    is.quiet i (let h = place.place in let e = ap (λ P. arity P f) is.goes.derived.network in omega (arith, h, e, all)) a none place

-- functions one after another: all are done but those that come
abbrev pub NotAhead : (ℕ → ℕ) → ℕ → ℕ → ℕ → Type 0
NotAhead items n size f = (j : ℕ) → n ≤ j → j < size → items j ≡ f → ⊥

pub record AreLooking (q : ℕ) (bans : Bans) (before now : Standing) (old new : Work) (items : ℕ → ℕ) (size n : ℕ) : Type 0 where
  pub goes : Goes q bans before now old new
  pub alive : AllAlive now.network (history now)
  pub done : (f : ℕ) → NotAhead items n size f → IsDone now.network (history now) q bans new.waiting.items f

pub looks_start : (q : ℕ) (bans : Bans) (s : Standing) (work : Work) (items : ℕ → ℕ) (size : ℕ) → HasRoom s work → AllAlive s.network (history s) → ((f : ℕ) → NotAhead items 0 size f → IsDone s.network (history s) q bans work.waiting.items f) → AreLooking q bans s s work work items size 0
looks_start q bans s work items size room alive done = record { goes = goes_none q bans s work room; alive = alive; done = done }

pub looks_next : (q : ℕ) (bans : Bans) (before now next : Standing) (old middle new : Work) (items : ℕ → ℕ) (size n : ℕ) → AreLooking q bans before now old middle items size n → Goes q bans now next middle new → AllAlive next.network (history next) → IsDone next.network (history next) q bans new.waiting.items (items n) → AreLooking q bans before next old new items size (n + 1)
looks_next q bans before now next old middle new items size n is goes alive here = record {
  goes = goes_then q bans before now next old middle new is.goes goes;
  alive = alive;
  done = λ f apart. elim (cases_eq (items n) f) [
    | inl e ↦ subst (IsDone next.network (history next) q bans new.waiting.items) e here
    | inr d ↦ done_goes q bans now next middle new f goes (is.done f (λ j low high e. elim (cases_eq j n) [
      | inl same ↦ d (ap items (sym same) ∙ e)
      | inr other ↦ apart j (omega (arith, low, other)) high e
    ]))
  ];
}

pub looks_end : (q : ℕ) (bans : Bans) (before now : Standing) (old new : Work) (items : ℕ → ℕ) (size n : ℕ) → size ≤ n → AreLooking q bans before now old new items size n → (f : ℕ) → IsDone now.network (history now) q bans new.waiting.items f
looks_end q bans before now old new items size n all is f = is.done f (λ j low high e. absurd (omega (arith, low, high, all)))

-- what stands nowhere in a list is not in it
pub none_in : (items : List ℕ) (f : ℕ) → ((j : ℕ) → j < length items → slice_index items j ≡ f → ⊥) → is_in f items ≡ false
none_in [] f none = refl
none_in (y ∷ items) f none = ap (λ b. b || is_in f items) (eqb_other f y (λ e. none 0 (omega arith) (sym e))) ∙ none_in items f (λ j h e. none (suc j) (omega (arith, h)) e)

-- where x waits no longer, what is not on it is done as before
pub around_start : (P : Network) (history : List Event) (q : ℕ) (bans : Bans) (x : ℕ) (waiting : List ℕ) (places : List Place) → ArePlaces P x places → ((f : ℕ) → IsDone P history q bans (x ∷ waiting) f) → (f : ℕ) → NotAhead (λ j. (place_at places j).function) 0 (length places) f → IsDone P history q bans waiting f
around_start P history q bans x waiting places are done f apart part i a none = done f part i a (λ y h on. by y h on (y == x) refl)
  where
    by : (y : ℕ) → is_in y (x ∷ waiting) ≡ true → IsBehind P y f i → (b : Bool) → (y == x) ≡ b → ⊥
    by y h on true e =
        let on_x = subst (λ z. IsBehind P z f i) (eqb-true y x e) on in
        let found = place_found P x f on_x.0 places are on_x.1 on_x.2 in
        apart found.0 (omega arith) found.1 (ap (λ (p : Place). p.function) found.2)
    by y h on false e = none y (sym (ap (λ b. b || is_in y waiting) e) ∙ h) on

-- the functions at the places of x, which waits no longer: all are done but for x
pub record AreLookingAround (q : ℕ) (bans : Bans) (before now : Standing) (old new : Work) (x : ℕ) (places : List Place) (n : ℕ) : Type 0 where
  pub looking : AreLooking q bans before now old new (λ j. (place_at places j).function) (length places) n
  pub besides : (f : ℕ) → IsDone now.network (history now) q bans (x ∷ new.waiting.items) f

pub around_next : (q : ℕ) (bans : Bans) (before now next : Standing) (old middle new : Work) (x : ℕ) (places : List Place) (n : ℕ) → AreLookingAround q bans before now old middle x places n → Goes q bans now next middle new → AllAlive next.network (history next) → IsDone next.network (history next) q bans new.waiting.items (place_at places n).function → AreLookingAround q bans before next old new x places (n + 1)
around_next q bans before now next old middle new x places n is goes alive here = record {
  looking = looks_next q bans before now next old middle new (λ j. (place_at places j).function) (length places) n is.looking goes alive here;
  besides = λ f. done_besides q bans now next middle new x f goes (is.besides f);
}

-- a function has two variables where another one goes with the place of x
pub two_of : (P : Network) (x : ℕ) (p : Place) → StandsAt P x p → (p.other ≡ x → ⊥) → arity P p.function ≡ 2
two_of P x p stands other = elim (cases_eq (arity P p.function) 2) [
  | inl e ↦ e
  | inr d ↦ absurd (other (stands.alone d))
]

-- where the other variable of two does not wait, the place of x has nothing to delete
pub own_quiet : (P : Network) (history : List Event) (q : ℕ) (bans : Bans) (x : ℕ) (waiting : List ℕ) (p : Place) (a : ℕ) → StandsAt P x p → (p.other ≡ x → ⊥) → IsDone P history q bans (x ∷ waiting) p.function → NoneWaitsBehind P waiting p.function p.place → IsQuietAt P history q bans p.function p.place a
own_quiet P history q bans x waiting p a stands other done none = done (two_take_part P history p.function two) p.place a (λ y h on. by y h on (y == x) refl)
  where
    two : arity P p.function ≡ 2
    two = two_of P x p stands other

    by : (y : ℕ) → is_in y (x ∷ waiting) ≡ true → IsBehind P y p.function p.place → (b : Bool) → (y == x) ≡ b → ⊥
    by y h on true e =
        let apart = on.3 two in
        let l = on.1 in
        let k = stands.place in
        let at : on.0 ≡ 1 - p.place = omega (arith, apart, l, k, two) in
        other (stands.other two ∙ ap (variable_at P p.function) (sym at) ∙ on.2 ∙ eqb-true y x e)
    by y h on false e = none y (sym (ap (λ b. b || is_in y waiting) e) ∙ h) on

-- no variable was emptied
pub is_none : (result : Option ℕ) → is_some result ≡ false → result ≡ None
is_none None h = refl
is_none (Some x) h = absurd cc

pub where_none : (A : Type 0) (B : ℕ → Type 0) (result : Option ℕ) → result ≡ None → MatchOption result A B → A
where_none A B None e ends = ends
where_none A B (Some x) e ends = absurd cc
