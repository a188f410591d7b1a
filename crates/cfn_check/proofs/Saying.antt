-- What tables say after an event, and before it.
use Rattle.std.proofs.Common.{◌≡◌, ℕ, ◌+◌, List, ◌∷◌, length, refl, sym, ap, ap₂, ◌∙◌, subst, inl, inr, arith}
use Rattle.std.proofs.lemmas.Bool.{and_parts, eqb-true, cases_lt, false≢true}
use Rattle.std.proofs.lemmas.List.{get_or_past}
use Rattle.std.proofs.lemmas.Int.{ints}
use Rattle.std.specs.Prelude.{Bool, true, false, not, ◌&&◌, ◌||◌, ◌==◌, if◌then◌else◌, pos, slice_index, slice_index_or}
use Rattle.cfn_model.specs.declared.step.Step.TheVariants.{Project, Extend, Lift, CutValue, CutTuple}
use Rattle.cfn_model.specs.declared.step.Event.{Event}
use Rattle.cfn_model.specs.declared.step.Event.TheVariants.{Did, Took, Refused}
use Rattle.cfn_model.specs.Network.{Network}
use Rattle.cfn_model.specs.Sums.{removes, cuts, is_cut}
use Rattle.cfn_model.proofs.CallerLemmas.{eqb_same}
use Rattle.cfn_tables.specs.Tables.{Tables, HasShape, Says, SaysSame, Adds, Cuts, Has, HasFlag, no_values, tuples_at, takers, cut_at}
use Rattle.cfn_check.specs.declared.entry.Entry.{Entry}
use Rattle.cfn_tables.specs.Possible.{IsPossible}
use Rattle.cfn_check.specs.Standing.{IsMarked, IsLedger, events_of}

pub says_more : (P : Network) (event : Event) (history : List Event) (old new : Tables) → Says P history old → HasShape P new → Adds P event old new → Cuts P event true old new → Says P (event ∷ history) new
says_more P event history old new s shape adds cut = record {
  shape = shape;
  floor = omega (arith, adds.floor, s.floor);
  unary = λ x a l m. (let e = adds.unary x a l m in let d = s.unary x a l m in omega (arith, ints, e, d));
  takers = λ x a l m. (let e = adds.takers x a l m in let d = s.takers x a l m in e ∙ ap (λ n. (if removes event x a then 1 else 0) + n) d);
  shifts = λ f n l m. (let e = adds.shifts f n l m in let d = s.shifts f n l m in omega (arith, ints, e, d));
  cut = λ f c l m. cut f c l m ∙ either (cuts event f c) (cut_at old f c) ∙ ap (λ b. cuts event f c || b) (s.cut f c l m);
}
  where
    either : (b c : Bool) → (if b then true else c) ≡ (b || c)
    either true c = refl
    either false c = refl

-- tables that say the same
pub says_same : (P : Network) (history : List Event) (old new : Tables) → Says P history old → HasShape P new → SaysSame old new → Says P history new
says_same P history old new s shape same = record {
  shape = shape;
  floor = same.floor ∙ s.floor;
  unary = λ x a l m. ap (λ vs. slice_index_or (slice_index_or vs x no_values).costs a (pos 0)) same.variables ∙ s.unary x a l m;
  takers = λ x a l m. ap (λ vs. slice_index (slice_index_or vs x no_values).takers a) same.variables ∙ s.takers x a l m;
  shifts = λ f n l m. same.shifts f n ∙ s.shifts f n l m;
  cut = λ f c l m. same.cut f c ∙ s.cut f c l m;
}

pub ledger_same : (P : Network) (old new : Tables) (entries : List Entry) → HasShape P new → SaysSame old new → IsLedger P old entries → IsLedger P new entries
ledger_same P old new entries shape same ledger = record {
  says = says_same P (events_of entries) old new ledger.says shape same;
  trail = ledger.trail;
  short = ledger.short;
}

-- what is cut has a flag
pub has_flag : (P : Network) (event : Event) (history : List Event) (t : Tables) → IsPossible P event → Says P (event ∷ history) t → HasFlag event t
has_flag P (Did (Project f i a m)) history t possible s = tt
has_flag P (Did (Extend f i a m)) history t possible s = tt
has_flag P (Did (Lift x m)) history t possible s = tt
has_flag P (Did (CutValue x a)) history t possible s = tt
has_flag P (Did (CutTuple f c)) history t possible s = elim (cases_lt c (length (tuples_at t f).cut)) [
  | inl there ↦ there
  | inr past ↦ absurd (let cut = ap₂ (λ b d. (b && d) || is_cut history f c) (eqb_same f f refl) (eqb_same c c refl) in
      false≢true (sym (get_or_past (tuples_at t f).cut c false past) ∙ s.cut f c possible.0.function possible.0.cell ∙ cut))
]
has_flag P (Took d) history t possible s = tt
has_flag P (Refused d) history t possible s = tt

pub newest_flag : (P : Network) (t : Tables) (entries : List Entry) (entry : Entry) (rest : List Entry) → entries ≡ entry ∷ rest → IsLedger P t entries → HasFlag entry.event t
newest_flag P t entries entry rest is ledger =
    let known : IsLedger P t (entry ∷ rest) = subst (λ (es : List Entry). IsLedger P t es) is ledger in
    has_flag P entry.event (events_of rest) t known.trail.0 known.says

pub has : (P : Network) (event : Event) (history : List Event) (t : Tables) → Says P (event ∷ history) t → Has P event t
has P event history t s = record {
  floor = omega (arith, s.floor);
  takers = λ x a l m taken. (let e = s.takers x a l m ∙ ap (λ b. (if b then 1 else 0) + takers history x a) taken in omega (arith, e));
}

pub says_less : (P : Network) (event : Event) (fresh : Bool) (history : List Event) (old new : Tables) → Says P (event ∷ history) old → IsMarked event fresh history → HasShape P new → Adds P event new old → Cuts P event (not fresh) old new → Says P history new
says_less P event fresh history old new s marked shape adds cut = record {
  shape = shape;
  floor = omega (arith, adds.floor, s.floor);
  unary = λ x a l m. (let e = adds.unary x a l m in let d = s.unary x a l m in omega (arith, ints, e, d));
  takers = λ x a l m. (let e = adds.takers x a l m in let d = s.takers x a l m in omega (arith, e, d));
  shifts = λ f n l m. (let e = adds.shifts f n l m in let d = s.shifts f n l m in omega (arith, ints, e, d));
  cut = λ f c l m. cut f c l m ∙ uncut event history fresh f c (cut_at old f c) marked (s.cut f c l m);
}
  where
    same : (b c d : Bool) → (b ≡ true → d ≡ c) → (if b then d else (b || c)) ≡ c
    same true c d h = h refl
    same false c d h = refl

    double : (b : Bool) → not (not b) ≡ b
    double true = refl
    double false = refl

    uncut : (event : Event) (history : List Event) (fresh : Bool) (f c : ℕ) (before : Bool) → IsMarked event fresh history → before ≡ (cuts event f c || is_cut history f c) → (if cuts event f c then not fresh else before) ≡ is_cut history f c
    uncut (Did (Project g i a m)) history fresh f c before marked is = is
    uncut (Did (Extend g i a m)) history fresh f c before marked is = is
    uncut (Did (Lift x m)) history fresh f c before marked is = is
    uncut (Did (CutValue x a)) history fresh f c before marked is = is
    uncut (Did (CutTuple g d)) history fresh f c before marked is =
        ap (λ b. if (g == f) && (d == c) then not fresh else b) is
        ∙ same ((g == f) && (d == c)) (is_cut history f c) (not fresh) (λ here. let parts = and_parts (g == f) (d == c) here in
        ap not marked ∙ double (is_cut history g d) ∙ ap (λ n. is_cut history n d) (eqb-true g f parts.0) ∙ ap (λ n. is_cut history f n) (eqb-true d c parts.1))
    uncut (Took d) history fresh f c before marked is = is
    uncut (Refused d) history fresh f c before marked is = is

-- the newest event undone
pub undone : (P : Network) (old new : Tables) (entries : List Entry) (entry : Entry) (rest : List Entry) → entries ≡ entry ∷ rest → HasShape P new → Adds P entry.event new old → Cuts P entry.event (not entry.fresh) old new → IsLedger P old entries → IsLedger P new rest
undone P old new entries entry rest is shape adds cut ledger =
    let known : IsLedger P old (entry ∷ rest) = subst (λ (es : List Entry). IsLedger P old es) is ledger in
    record {
      says = says_less P entry.event entry.fresh (events_of rest) old new known.says known.trail.1 shape adds cut;
      trail = known.trail.2;
      short = omega (arith, known.short);
    }
