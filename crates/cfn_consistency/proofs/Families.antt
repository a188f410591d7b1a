-- Why a derivation deletes nothing that is live in a closed family.
use Rattle.std.proofs.Common.{◌≡◌, ℕ, zero, suc, ◌≤◌, inl, inr, List, [], ◌∷◌, refl, sym, ◌∙◌, subst, arith}
use Rattle.std.proofs.lemmas.Int.{ints}
use Rattle.std.specs.Prelude.{ℤ, pos, ◌+ℤ◌, ◌<ℤ◌, ◌≤ℤ◌, Bool, true, false, not, ◌&&◌, ◌==◌, slice_index, nat_le, nat_lt, if◌then◌else◌}
use Rattle.cfn_model.specs.declared.step.Event.{Event}
use Rattle.cfn_model.specs.declared.step.Event.TheVariants.{Did}
use Rattle.cfn_model.specs.declared.step.Step.TheVariants.{CutValue}
use Rattle.cfn_model.specs.Network.{Network, arity, scope_at, variable_at, dims_at, entry_at, cell}
use Rattle.cfn_model.specs.Sums.{unary, residual, is_live, is_live_tuple, all_live, is_cut}
use Rattle.cfn_consistency.specs.declared.deletion.Reason.{Reason}
use Rattle.cfn_consistency.specs.declared.deletion.Reason.TheVariants.{Own, By}
use Rattle.cfn_consistency.specs.declared.deletion.Deletion.{Deletion}
use Rattle.cfn_consistency.specs.Openness.{count_below, live_count, is_open, open_count, TakesPart}
use Rattle.cfn_consistency.specs.Virtual.{Bans, without, IsReason, IsDeletion, IsDerivation, IsClosedFamily}
use Rattle.cfn_consistency.specs.Laws.{ClosedStaysClosed}

-- Of two histories that differ in cuts of values alone, what is live behind the one is live behind the other.
pub record Within (P : Network) (one other : List Event) : Type 0 where
  pub live : (x a : ℕ) → is_live one x a ≡ true → is_live other x a ≡ true
  pub cut : (f c : ℕ) → is_cut one f c ≡ is_cut other f c
  pub unary : (x a : ℕ) → unary P one x a ≡ unary P other x a
  pub residual : (f : ℕ) (tuple : List ℕ) → residual P one f tuple ≡ residual P other f tuple

nothing_more : (z : ℤ) → (pos 0 +ℤ z) ≡ z
nothing_more z = omega (arith, ints)

-- cuts of values alone
second : (a b : Bool) → (a && b) ≡ true → b ≡ true
second true b e = e
second false b e = absurd cc

cut_within : (P : Network) (now : List Event) (x a : ℕ) → Within P (Did (CutValue x a) ∷ now) now
cut_within P now x a = record {
  live = λ y b e. second (not ((x == y) && (a == b))) (is_live now y b) e;
  cut = λ f c. refl;
  unary = λ y b. nothing_more (unary P now y b);
  residual = λ f tuple. nothing_more (residual P now f tuple);
}

itself : (P : Network) (history : List Event) → Within P history history
itself P history = record { live = λ x a e. e; cut = λ f c. refl; unary = λ x a. refl; residual = λ f tuple. refl }

through : (P : Network) (one other third : List Event) → Within P one other → Within P other third → Within P one third
through P one other third first next = record {
  live = λ x a e. next.live x a (first.live x a e);
  cut = λ f c. first.cut f c ∙ next.cut f c;
  unary = λ x a. first.unary x a ∙ next.unary x a;
  residual = λ f tuple. first.residual f tuple ∙ next.residual f tuple;
}

pub without_within : (P : Network) (deletions : List Deletion) (history : List Event) → Within P (without deletions history) history
without_within P [] history = itself P history
without_within P (d ∷ deletions) history =
    through P (without (d ∷ deletions) history) (Did (CutValue d.variable d.value) ∷ history) history
    (without_within P deletions (Did (CutValue d.variable d.value) ∷ history))
    (cut_within P history d.variable d.value)

-- a count is the less, the fewer numbers pass
abbrev one_if : Bool → ℕ
one_if b = if b then 1 else 0

one_if_within : (b c : Bool) → (b ≡ true → c ≡ true) → one_if b ≤ one_if c
one_if_within true true h = omega arith
one_if_within true false h = absurd (let e : false ≡ true = h refl in cc)
one_if_within false c h = omega arith

count_within : (test other : ℕ → Bool) (n : ℕ) → ((a : ℕ) → test a ≡ true → other a ≡ true) → count_below test n ≤ count_below other n
count_within test other zero h = omega arith
count_within test other (suc n) h =
    let one : one_if (test n) ≤ one_if (other n) = one_if_within (test n) (other n) (h n) in
    let rest : count_below test n ≤ count_below other n = count_within test other n h in
    omega (arith, one, rest)

two_within : (n m : ℕ) → n ≤ m → nat_le 2 n ≡ true → nat_le 2 m ≡ true
two_within n m le e = grind (arith, le, e)

open_within : (P : Network) (one other : List Event) (x : ℕ) → Within P one other → is_open P one x ≡ true → is_open P other x ≡ true
open_within P one other x w =
    two_within (live_count P one x) (live_count P other x) (count_within (is_live one x) (is_live other x) (slice_index P.sizes x) (w.live x))

open_count_within : (P : Network) (one other : List Event) (f : ℕ) → Within P one other → open_count P one f ≤ open_count P other f
open_count_within P one other f w =
    count_within (λ i. is_open P one (variable_at P f i)) (λ i. is_open P other (variable_at P f i)) (arity P f) (λ i. open_within P one other (variable_at P f i) w)

pub part_within : (P : Network) (one other : List Event) (f : ℕ) → Within P one other → TakesPart P other f → TakesPart P one f
part_within P one other f w (inl is) =
    let few : open_count P other f ≤ 2 = is.few in
    let less : open_count P one f ≤ open_count P other f = open_count_within P one other f w in
    inl (record { function = is.function; some = is.some; few = omega (arith, few, less) })
part_within P one other f w (inr small) = inr small

-- a tuple that is live in the one is live in the other
both : (a b : Bool) → (a && b) ≡ true → (a ≡ true) × (b ≡ true)
both true true e = (refl, refl)
both true false e = absurd cc
both false b e = absurd cc

all_within : (P : Network) (one other : List Event) (scope tuple : List ℕ) → Within P one other → all_live one scope tuple ≡ true → all_live other scope tuple ≡ true
all_within P one other [] tuple w e = refl
all_within P one other (x ∷ scope) [] w e = refl
all_within P one other (x ∷ scope) (a ∷ tuple) w e =
    let parts = both (is_live one x a) (all_live one scope tuple) e in
    rw (w.live x a parts.0, all_within P one other scope tuple w parts.1)

pub tuple_within : (P : Network) (one other : List Event) (f : ℕ) (tuple : List ℕ) → Within P one other → is_live_tuple P one f tuple ≡ true → is_live_tuple P other f tuple ≡ true
tuple_within P one other f tuple w e =
    let below = nat_lt (entry_at P f tuple) P.upper in
    let first = both (all_live one (scope_at P f) tuple && below) (not (is_cut one f (cell (dims_at P f) tuple))) e in
    let next = both (all_live one (scope_at P f) tuple) below first.0 in
    let live : all_live other (scope_at P f) tuple ≡ true = all_within P one other (scope_at P f) tuple w next.0 in
    let uncut : not (is_cut other f (cell (dims_at P f) tuple)) ≡ true = subst (λ b. not b ≡ true) (w.cut f (cell (dims_at P f) tuple)) first.1 in
    three (all_live other (scope_at P f) tuple) below (not (is_cut other f (cell (dims_at P f) tuple))) live next.1 uncut
  where
    three : (a b c : Bool) → a ≡ true → b ≡ true → c ≡ true → ((a && b) && c) ≡ true
    three true true true x y z = refl
    three false b c x y z = absurd cc
    three true false c x y z = absurd cc
    three true true false x y z = absurd cc

-- a value that is live in a closed family has no reason to be deleted in a history in which all of the family is live
no_less : (u v : ℤ) (q : ℕ) → u ≡ v → u <ℤ pos q → pos q ≤ℤ v → ⊥
no_less u v q e below above = absurd (omega (arith, ints, e, below, above))

no_reason : (P : Network) (closed now : List Event) (q : ℕ) (bans : Bans) (d : Deletion) → IsClosedFamily P closed q bans → Within P closed now
    → IsDeletion P now q bans d → is_live closed d.variable d.value ≡ true → ⊥
no_reason P closed now q bans d family w is live = by_reason d.reason is.reason
  where
    by_reason : (reason : Reason) → IsReason P now q bans d.variable d.value reason → ⊥
    by_reason Own why = no_less (unary P closed d.variable d.value) (unary P now d.variable d.value) q (w.unary d.variable d.value) (family.own d.variable d.value is.value live why.0) (why.1 is.live)
    by_reason (By f i) (unbanned, part, place, at, enough) =
        let cheap = family.by f i d.value (part_within P closed now f w part) place (subst (λ x. is_live closed x d.value ≡ true) (sym at) live) unbanned in
        no_less (residual P closed f cheap.tuple) (residual P now f cheap.tuple) q (w.residual f cheap.tuple) cheap.cheap (enough cheap.tuple cheap.fits cheap.at (tuple_within P closed now f cheap.tuple w cheap.live))

-- so all of it stays live behind a deletion
kept : (P : Network) (closed now : List Event) (q : ℕ) (bans : Bans) (d : Deletion) → IsClosedFamily P closed q bans → Within P closed now
    → IsDeletion P now q bans d → Within P closed (Did (CutValue d.variable d.value) ∷ now)
kept P closed now q bans d family w is = record {
  live = λ x a e. other x a (w.live x a e) (λ same other. no_reason P closed now q bans d family w is (subst (λ y. is_live closed y d.value ≡ true) (sym same) (subst (λ b. is_live closed x b ≡ true) (sym other) e)));
  cut = w.cut;
  unary = λ x a. w.unary x a ∙ sym (nothing_more (unary P now x a));
  residual = λ f tuple. w.residual f tuple ∙ sym (nothing_more (residual P now f tuple));
}
  where
    other : (x a : ℕ) → is_live now x a ≡ true → (d.variable ≡ x → d.value ≡ a → ⊥) → (not ((d.variable == x) && (d.value == a)) && is_live now x a) ≡ true
    other x a live differs = grind (arith, live, differs)

stays : (P : Network) (closed now : List Event) (q : ℕ) (bans : Bans) (others : List Deletion) → IsClosedFamily P closed q bans → Within P closed now
    → IsDerivation P now q bans others → Within P closed (without others now)
stays P closed now q bans [] family w is = w
stays P closed now q bans (d ∷ others) family w is =
    stays P closed (Did (CutValue d.variable d.value) ∷ now) q bans others family (kept P closed now q bans d family w is.0) is.1

pub closed_stays_closed : ClosedStaysClosed
closed_stays_closed P history q bans closed others network family is x h =
    let some = family.some x h in
    let all = stays P (without closed history) history q bans others family (without_within P closed history) is in
    (some.0, some.1, all.live x some.0 some.2)
