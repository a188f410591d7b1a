-- A derivation goes on.
use Rattle.std.proofs.Common.{◌≡◌, ℕ, ◌+◌, ◌<◌, ◌≤◌, Bool, true, false, ◌||◌, List, [], ◌∷◌, ◌++◌, length, append_assoc, refl, sym, ap, ◌∙◌, subst, inl, inr, arith, eq-eqb}
use Rattle.std.proofs.lemmas.List.{length-append}
use Rattle.std.specs.Prelude.{if◌then◌else◌, ◌==◌, pos, ◌<ℤ◌}
use Rattle.cfn_model.specs.declared.step.Step.{Step}
use Rattle.cfn_model.specs.declared.step.Step.TheVariants.{CutValue}
use Rattle.cfn_model.specs.declared.step.Event.{Event}
use Rattle.cfn_model.specs.declared.step.Event.TheVariants.{Did}
use Rattle.cfn_model.specs.Network.{Network, variable_at}
use Rattle.cfn_model.specs.Sums.{is_live}
use Rattle.cfn_model.specs.Steps.{after}
use Rattle.std.proofs.lemmas.Bool.{cases_eq, or_right}
use Rattle.cfn_model.proofs.CallerLemmas.{eqb_other}
use Rattle.cfn_queue.specs.Waiting.{Waiting, is_in, with_item}
use Rattle.cfn_queue.proofs.CallerLemmas.{in_behind}
use Rattle.cfn_consistency.specs.declared.deletion.Deletion.{Deletion}
use Rattle.cfn_consistency.specs.Openness.{TakesPart}
use Rattle.cfn_consistency.specs.Virtual.{Bans, without, IsDeletion, IsDerivation}
use Rattle.cfn_consistency.proofs.CallerLemmas.{Within, without_within, part_within, without_more, derivations_join}
use Rattle.cfn_store.specs.Standing.{Standing, history, with_step}
use Rattle.cfn_derivation.specs.Derived.{live_values, cuts_of, IsDerived}
use Rattle.cfn_derivation.specs.Working.{Work, with_deletion, HasRoom, NoneWaitsBehind, IsLow, IsQuietAt, IsDone, Goes}
use Rattle.cfn_derivation.proofs.Counting.{one_less}
use Rattle.cfn_derivation.proofs.Agreeing.{cut_part, cut_quiet}

none_behind : {A : Type 0} (items : List A) → items ≡ items ++ []
none_behind [] = refl
none_behind (x ∷ items) = ap (λ l. x ∷ l) (none_behind items)

no_cut : (s : Standing) → s.block ≡ s.block ++ cuts_of []
no_cut s = none_behind s.block

-- no deletion
pub goes_none : (q : ℕ) (bans : Bans) (s : Standing) (work : Work) → HasRoom s work → Goes q bans s s work work
goes_none q bans s work room = record {
  deletions = [];
  list = none_behind work.deletions;
  derived = record { network = refl; base = refl; block = no_cut s; spare = omega arith; along = refl; derivation = tt };
  room = room;
  capacity = refl;
  waits = λ x h. h;
  part = λ f i none part. part;
  quiet = λ f i a none quiet. quiet;
  fewer = omega arith;
}

-- one deletion
after_one : (steps : List Step) (step : Step) (base : List Event) → after (steps ++ step ∷ []) base ≡ Did step ∷ after steps base
after_one [] step base = refl
after_one (first ∷ steps) step base = after_one steps step (Did first ∷ base)

pub along_one : (s : Standing) (x a : ℕ) → history (with_step s (CutValue x a)) ≡ Did (CutValue x a) ∷ history s
along_one s x a = after_one s.block (CutValue x a) s.base

in_with : (queue : Waiting) (x y : ℕ) → is_in y (with_item queue x).items ≡ (is_in y queue.items || (y == x))
in_with queue x y = by (is_in x queue.items) refl
  where
    or_false : (b : Bool) → (b || false) ≡ b
    or_false true = refl
    or_false false = refl

    or_true : (b : Bool) → (b || true) ≡ true
    or_true true = refl
    or_true false = refl

    all : Waiting
    all = record { size = queue.size; items = queue.items ++ x ∷ [] }

    by : (b : Bool) → is_in x queue.items ≡ b → is_in y (if b then queue else all).items ≡ (is_in y queue.items || (y == x))
    by false is = in_behind y x queue.items
    by true is = elim (cases_eq y x) [
      | inl e ↦ ap (λ z. is_in z queue.items) e ∙ is ∙ sym (ap (λ t. is_in y queue.items || t) (eq-eqb y x e) ∙ or_true (is_in y queue.items))
      | inr d ↦ sym (ap (λ t. is_in y queue.items || t) (eqb_other y x d) ∙ or_false (is_in y queue.items))
    ]

or_one : (a b : Bool) → a ≡ true → (a || b) ≡ true
or_one true b h = refl
or_one false b h = absurd cc

pub with_stays : (queue : Waiting) (x y : ℕ) → is_in y queue.items ≡ true → is_in y (with_item queue x).items ≡ true
with_stays queue x y h = in_with queue x y ∙ or_one (is_in y queue.items) (y == x) h

pub with_has : (queue : Waiting) (x : ℕ) → is_in x (with_item queue x).items ≡ true
with_has queue x = in_with queue x x ∙ or_right (is_in x queue.items) (x == x) (eq-eqb x x refl)

pub with_only : (queue : Waiting) (x y : ℕ) → (y ≡ x → ⊥) → is_in y (with_item queue x).items ≡ true → is_in y queue.items ≡ true
with_only queue x y other h = or_first (is_in y queue.items) (y == x) (eqb_other y x other) (sym (in_with queue x y) ∙ h)
  where
    or_first : (a b : Bool) → b ≡ false → (a || b) ≡ true → a ≡ true
    or_first true b e h = refl
    or_first false b e h = absurd cc

with_longer : (queue : Waiting) (x : ℕ) → length (with_item queue x).items ≤ length queue.items + 1
with_longer queue x = by (is_in x queue.items)
  where
    by : (b : Bool) → length (if b then queue else record { size = queue.size; items = queue.items ++ x ∷ [] }).items ≤ length queue.items + 1
    by true = omega arith
    by false = let e = length-append queue.items (x ∷ []) in omega (arith, e)

pub with_size : (queue : Waiting) (x : ℕ) → (with_item queue x).size ≡ queue.size
with_size queue x = by (is_in x queue.items)
  where
    by : (b : Bool) → (if b then queue else record { size = queue.size; items = queue.items ++ x ∷ [] }).size ≡ queue.size
    by true = refl
    by false = refl

pub with_all : (queue new : Waiting) (x : ℕ) → new ≡ with_item queue x → ((i : ℕ) → i < x → is_in i queue.items ≡ true) → (i : ℕ) → i < x + 1 → is_in i new.items ≡ true
with_all queue new x e all i h = ap (λ w. is_in i w.items) e ∙ elim (cases_eq i x) [
  | inl same ↦ ap (λ j. is_in j (with_item queue x).items) same ∙ with_has queue x
  | inr other ↦ with_stays queue x i (all i (omega (arith, h, other)))
]

longer : (deletions : List Deletion) (d : Deletion) → length (deletions ++ d ∷ []) ≡ length deletions + 1
longer deletions d = length-append deletions (d ∷ [])

pub goes_one : (q : ℕ) (bans : Bans) (s : Standing) (work : Work) (d : Deletion) → HasRoom s work → IsDeletion s.network (history s) q bans d → Goes q bans s (with_step s (CutValue d.variable d.value)) work (with_deletion work d)
goes_one q bans s work d room is =
    let P = s.network in
    let less = one_less P (history s) d.variable d.value is.value is.live in
    let along = along_one s d.variable d.value in
    let counted : live_values P (history (with_step s (CutValue d.variable d.value))) + 1 ≡ live_values P (history s) = subst (λ h. live_values P h + 1 ≡ live_values P (history s)) (sym along) less in
    let list = longer work.deletions d in
    record {
      deletions = d ∷ [];
      list = refl;
      derived = record { network = refl; base = refl; block = refl; spare = (let a = room.spare in omega (arith, a, counted)); along = along; derivation = (is, tt) };
      room = record {
        list = (let a = room.list in omega (arith, a, counted, list));
        spare = (let a = room.spare in omega (arith, a, counted));
        size = with_size work.waiting d.variable ∙ room.size;
      };
      capacity = refl;
      waits = λ x h. with_stays work.waiting d.variable x h;
      part = λ f i none part. cut_part P (history s) d.variable d.value f i (none d.variable (with_has work.waiting d.variable)) (subst (λ h. TakesPart P h f) along part);
      quiet = λ f i a none quiet. subst (λ h. IsQuietAt P h q bans f i a) (sym along) (cut_quiet P (history s) d.variable d.value q bans f i a (none d.variable (with_has work.waiting d.variable)) quiet);
      fewer = (let a = with_longer work.waiting d.variable in omega (arith, a, counted));
    }

-- deletions behind deletions
cuts_join : (deletions more : List Deletion) → cuts_of (deletions ++ more) ≡ cuts_of deletions ++ cuts_of more
cuts_join [] more = refl
cuts_join (d ∷ deletions) more = ap (λ l. CutValue d.variable d.value ∷ l) (cuts_join deletions more)

pub derived_then : (first middle last : Standing) (q : ℕ) (bans : Bans) (one other : List Deletion) → IsDerived first middle q bans one → IsDerived middle last q bans other → IsDerived first last q bans (one ++ other)
derived_then first middle last q bans one other a b = record {
  network = b.network ∙ a.network;
  base = b.base ∙ a.base;
  block = b.block ∙ ap (λ l. l ++ cuts_of other) a.block ∙ append_assoc first.block (cuts_of one) (cuts_of other) ∙ ap (λ l. first.block ++ l) (sym (cuts_join one other));
  spare = (let e = a.spare in let f = b.spare in let l = length-append one other in omega (arith, e, f, l));
  along = b.along ∙ ap (without other) a.along ∙ sym (without_more one other (history first));
  derivation = derivations_join first.network (history first) q bans one other a.derivation
      (subst (λ h. IsDerivation first.network h q bans other) a.along (subst (λ P. IsDerivation P (history middle) q bans other) a.network b.derivation));
}

pub goes_then : (q : ℕ) (bans : Bans) (first middle last : Standing) (one two three : Work) → Goes q bans first middle one two → Goes q bans middle last two three → Goes q bans first last one three
goes_then q bans first middle last one two three a b =
    let same = a.derived.network in
    let none_waits : (f i : ℕ) → NoneWaitsBehind first.network three.waiting.items f i → NoneWaitsBehind first.network two.waiting.items f i = λ f i none x h on. none x (b.waits x h) on in
    record {
      deletions = a.deletions ++ b.deletions;
      list = b.list ∙ ap (λ l. l ++ b.deletions) a.list ∙ append_assoc one.deletions a.deletions b.deletions;
      derived = derived_then first middle last q bans a.deletions b.deletions a.derived b.derived;
      room = b.room;
      capacity = b.capacity ∙ a.capacity;
      waits = λ x h. b.waits x (a.waits x h);
      part = λ f i none part. a.part f i (none_waits f i none)
          (subst (λ P. NoneWaitsBehind P three.waiting.items f i → TakesPart P (history last) f → TakesPart P (history middle) f) same (b.part f i) none part);
      quiet = λ f i c none quiet.
          subst (λ P. NoneWaitsBehind P three.waiting.items f i → IsQuietAt P (history middle) q bans f i c → IsQuietAt P (history last) q bans f i c) same (b.quiet f i c) none
          (a.quiet f i c (none_waits f i none) quiet);
      fewer = (let g = a.fewer in let h = subst (λ P. length three.waiting.items + live_values P (history last) ≤ length two.waiting.items + live_values P (history middle)) same b.fewer in omega (arith, g, h));
    }

-- what stays over deletions
pub within_of : (before after : Standing) (q : ℕ) (bans : Bans) (deletions : List Deletion) → IsDerived before after q bans deletions → Within before.network (history after) (history before)
within_of before after q bans deletions is = subst (λ h. Within before.network h (history before)) (sym is.along) (without_within before.network deletions (history before))

pub part_goes : (before after : Standing) (q : ℕ) (bans : Bans) (deletions : List Deletion) (f : ℕ) → IsDerived before after q bans deletions → TakesPart before.network (history before) f → TakesPart after.network (history after) f
part_goes before after q bans deletions f is part =
    subst (λ P. TakesPart P (history after) f) (sym is.network) (part_within before.network (history after) (history before) f (within_of before after q bans deletions is) part)

pub low_goes : (before after : Standing) (q : ℕ) (bans : Bans) (deletions : List Deletion) (x : ℕ) → IsDerived before after q bans deletions → IsLow before.network (history before) q bans x → IsLow after.network (history after) q bans x
low_goes before after q bans deletions x is low = subst (λ P. IsLow P (history after) q bans x) (sym is.network)
    (λ a value live unbanned. (let w = within_of before after q bans deletions is in
    subst (λ u. u <ℤ pos q) (sym (w.unary x a)) (low a value (w.live x a live) unbanned)))

-- what is done stays so, where those that waited wait still, and those that wait now are among them
pub done_among : (q : ℕ) (bans : Bans) (before after : Standing) (old new : Work) (was now : List ℕ) (f : ℕ) → Goes q bans before after old new → ((x : ℕ) → is_in x was ≡ true → is_in x now ≡ true) → ((x : ℕ) → is_in x new.waiting.items ≡ true → is_in x now ≡ true) → IsDone before.network (history before) q bans was f → IsDone after.network (history after) q bans now f
done_among q bans before next old new was now f goes stays all done = subst (λ P. IsDone P (history next) q bans now f) (sym goes.derived.network)
    (λ part i a none.
    let none_new : NoneWaitsBehind before.network new.waiting.items f i = λ x h on. none x (all x h) on in
    goes.quiet f i a none_new (done (goes.part f i none_new part) i a (λ x h on. none x (stays x h) on)))

pub done_goes : (q : ℕ) (bans : Bans) (before after : Standing) (old new : Work) (f : ℕ) → Goes q bans before after old new → IsDone before.network (history before) q bans old.waiting.items f → IsDone after.network (history after) q bans new.waiting.items f
done_goes q bans before after old new f goes = done_among q bans before after old new old.waiting.items new.waiting.items f goes goes.waits (λ x h. h)

-- also where one waits besides
or_more : (b c d : Bool) → (c ≡ true → d ≡ true) → (b || c) ≡ true → (b || d) ≡ true
or_more true c d more h = refl
or_more false c d more h = more h

pub done_besides : (q : ℕ) (bans : Bans) (before after : Standing) (old new : Work) (x f : ℕ) → Goes q bans before after old new → IsDone before.network (history before) q bans (x ∷ old.waiting.items) f → IsDone after.network (history after) q bans (x ∷ new.waiting.items) f
done_besides q bans before after old new x f goes = done_among q bans before after old new (x ∷ old.waiting.items) (x ∷ new.waiting.items) f goes
    (λ y. or_more (y == x) (is_in y old.waiting.items) (is_in y new.waiting.items) (goes.waits y))
    (λ y h. or_right (y == x) (is_in y new.waiting.items) h)

-- what was deleted is quiet
pub dead_quiet : (P : Network) (t : Standing) (q : ℕ) (bans : Bans) (f i a x : ℕ) → t.network ≡ P → x ≡ variable_at P f i → is_live (history t) x a ≡ false → IsQuietAt t.network (history t) q bans f i a
dead_quiet P t q bans f i a x same is dead place live unbanned =
    absurd (true_false (sym live ∙ ap (λ N. is_live (history t) (variable_at N f i) a) same ∙ ap (λ y. is_live (history t) y a) (sym is) ∙ dead))
  where
    true_false : true ≡ false → ⊥
    true_false e = absurd cc
