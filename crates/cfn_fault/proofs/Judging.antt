-- A text whose lines are right up to one that fails has its fault there; where all are right, the certificate is good but
-- for its lower bound.
use Rattle.std.proofs.Common.{◌≡◌, ℕ, zero, suc, ◌≤◌, ◌+◌, ◌⊎◌, inl, inr, List, [], ◌∷◌, ◌++◌, length, refl, sym, ap, ap₂, subst, ◌∙◌, arith, append_assoc, length-append, append-nil}
use Rattle.std.proofs.lemmas.Bool.{cases_lt}
use Rattle.std.proofs.lemmas.Grind.{flat_map-append}
use Rattle.std.specs.List.{AllByRecursion}
use Rattle.cfn_model.specs.declared.step.Step.{Step}
use Rattle.cfn_model.specs.declared.step.Step.TheVariants.{Project, Extend, Lift, CutValue, CutTuple}
use Rattle.cfn_model.specs.declared.step.Event.{Event}
use Rattle.cfn_model.specs.Network.{Network, cost}
use Rattle.cfn_model.specs.Steps.{InRange, Allowed}
use Rattle.cfn_model.specs.Text.{spelling}
use Rattle.cfn_fault.specs.declared.kind.FaultKind.{FaultKind}
use Rattle.cfn_fault.specs.declared.kind.FaultKind.TheVariants as kinds
use Rattle.cfn_fault.specs.Nodes.{Item, Makes, LeavesOpen, Closes, Splits}
use Rattle.cfn_fault.specs.Fault.{Begins, NoneBeginsWith, FailsStep, OutOfRange, NotAllowed, FailsPlace, Fails, AsText, InCertificate, Fault, First}
use Rattle.cfn_fault.specs.Lines.{Line, Version, Numbers, Lower, NoBest, Best, Values, Root, Node, End, bytes_of, text_of, IsSpelledLine, lines_of, State, AtVersion, AtNumbers, AtLower, AtBest, AtValues, AtRoot, AtNodes, AtOver, Follows, Runs}
use Rattle.cfn_fault.specs.Judging.{threshold_in, NodeFails, LineFails, NoneFails, PassesPlace, NodePasses, LinePasses, AllPass}
use Rattle.cfn_fault.proofs.Running.{same_end, run_split, run_one_more, runs_certificate, spelled_front, nothing_over, told, begun}
use Rattle.cfn_fault.proofs.Beginning.{spelling_is, front_of_lines, begins_with, text_fails}
use Rattle.cfn_fault.proofs.Placing.{fails_at, fails_line}

-- two ways to part a list
pub same_head : {A : Type 0} {x y : A} {xs ys : List A} → x ∷ xs ≡ y ∷ ys → x ≡ y
same_head e = cc

pub same_tail : {A : Type 0} {x y : A} {xs ys : List A} → x ∷ xs ≡ y ∷ ys → xs ≡ ys
same_tail e = cc

record Parted {A : Type 0} (ls : List A) (last : A) (front : List A) (l : A) (back : List A) : Type 0 where
  more : List A
  whole : ls ≡ front ++ l ∷ more

by_last : {A : Type 0} (ls : List A) (last : A) (front : List A) (l : A) (back : List A) → ls ++ last ∷ [] ≡ front ++ l ∷ back → ((ls ≡ front) × (last ≡ l)) ⊎ Parted ls last front l back
by_last [] last [] l back e = inl (refl, same_head e)
by_last [] last (a ∷ []) l back e = absurd (let t : [] ≡ l ∷ back = same_tail e in cc)
by_last [] last (a ∷ b ∷ front) l back e = absurd (let t : [] ≡ b ∷ (front ++ l ∷ back) = same_tail e in cc)
by_last (x ∷ ls) last [] l back e = inr (record { more = ls; whole = ap (λ y. y ∷ ls) (same_head e) })
by_last (x ∷ ls) last (a ∷ front) l back e = elim (by_last ls last front l back (same_tail e)) [
  | inl at ↦ inl (ap₂ (λ y ys. y ∷ ys) (same_head e) at.0, at.1)
  | inr parted ↦ inr (record { more = parted.more; whole = ap₂ (λ y ys. y ∷ ys) (same_head e) parted.whole })
]

-- one right line more
pub one_more_passes : (P : Network) (ls : List Line) (s : State) (l : Line) → Runs AtVersion ls s → AllPass P ls → LinePasses P ls s l → AllPass P (ls ++ l ∷ [])
one_more_passes P ls s l run all passes front back m t e behind = elim (by_last ls l front m back e) [
  | inl at ↦
      let Q : List Line → Type 0 = λ x. Runs AtVersion x s in
      let same : s ≡ t = same_end AtVersion s t front (subst Q at.0 run) behind in
      let R : List Line → Type 0 = λ x. LinePasses P x s l in
      let S : State → Type 0 = λ x. LinePasses P front x l in
      let T : Line → Type 0 = λ x. LinePasses P front t x in
      subst T at.1 (subst S same (subst R at.0 passes))
  | inr parted ↦ all front parted.more m t parted.whole behind
]

pub none_pass_yet : (P : Network) → AllPass P []
none_pass_yet P [] back l s e run = absurd cc
none_pass_yet P (a ∷ front) back l s e run = absurd cc

-- what is right does not fail
allowed_in_range : (P : Network) (history : List Event) (k : ℕ) (step : Step) → Allowed P history k step → InRange P step
allowed_in_range P history k (Project f i a m) allowed = allowed.0
allowed_in_range P history k (Extend f i a m) allowed = allowed.0
allowed_in_range P history k (Lift x m) allowed = allowed.0
allowed_in_range P history k (CutValue x a) allowed = allowed.0
allowed_in_range P history k (CutTuple f c) allowed = allowed.0

step_right : (P : Network) (k : ℕ) (history : List Event) (step : Step) (kind : FaultKind) → Allowed P history k step → FailsStep P k history step kind → ⊥
step_right P k history step kind allowed (OutOfRange is out) = out (allowed_in_range P history k step allowed)
step_right P k history step kind allowed (NotAllowed is within not) = not allowed

pub place_right : (P : Network) (k : ℕ) (history : List Event) (item : Item) (kind : FaultKind) → PassesPlace P k history item → FailsPlace P k history item kind → ⊥
place_right P k history (Makes step) kind passes fails = step_right P k history step kind passes fails
place_right P k history LeavesOpen kind passes fails = fails
place_right P k history Closes kind passes fails = fails.1 passes
place_right P k history (Splits d) kind passes fails = fails.1 passes

node_right : (P : Network) (k : ℕ) (s : State) (item : Item) (kind : FaultKind) → NodePasses P k s item → NodeFails P k s item kind → ⊥
node_right P k (AtNodes version (history ∷ paths)) item kind passes fails = place_right P k history item kind passes fails
node_right P k (AtNodes version []) item kind passes fails = fails
node_right P k AtVersion item kind passes fails = fails
node_right P k (AtNumbers version) item kind passes fails = fails
node_right P k (AtLower version) item kind passes fails = fails
node_right P k (AtBest version) item kind passes fails = fails
node_right P k (AtValues version) item kind passes fails = fails
node_right P k (AtRoot version) item kind passes fails = fails
node_right P k AtOver item kind passes fails = fails

line_right : (P : Network) (front : List Line) (s : State) (l : Line) (kind : FaultKind) → LinePasses P front s l → LineFails P front s l kind → ⊥
line_right P front s (Version version) kind passes fails = fails
line_right P front s (Numbers n e upper) kind passes fails = fails.1 passes
line_right P front s (Lower lower) kind passes fails = fails
line_right P front s NoBest kind passes fails = fails
line_right P front s (Best cost) kind passes fails = absurd (let above : P.upper ≤ cost = fails.1 in omega arith)
line_right P front s (Values values) kind passes fails = fails.1 passes
line_right P front s Root kind passes fails = fails
line_right P front s (Node item) kind passes fails = node_right P (threshold_in front) s item kind passes fails
line_right P front s End kind passes fails = fails

pub none_fails : (P : Network) (ls : List Line) → AllPass P ls → NoneFails P ls
none_fails P ls all front back l s kind e run fails = line_right P front s l kind (all front back l s e run) fails

-- the front of a list up to a length
record Cut (ls : List Line) (n : ℕ) : Type 0 where
  front : List Line
  back : List Line
  whole : ls ≡ front ++ back
  long : length front ≡ n

cut : (ls : List Line) (n : ℕ) → n ≤ length ls → Cut ls n
cut ls zero le = record { front = []; back = ls; whole = refl; long = refl }
cut [] (suc n) le = absurd (omega arith)
cut (l ∷ ls) (suc n) le = let more = cut ls n (omega arith) in record { front = l ∷ more.front; back = more.back; whole = ap (λ r. l ∷ r) more.whole; long = omega (arith, more.long) }

pub same_front : {A : Type 0} (a b : List A) (x : A) (xs ys : List A) → a ++ xs ≡ b ++ x ∷ ys → length a ≡ length b + 1 → a ≡ b ++ x ∷ []
same_front [] b x xs ys e long = absurd (omega arith)
same_front (y ∷ []) [] x xs ys e long = ap (λ z. z ∷ []) (same_head e)
same_front (y ∷ z ∷ a) [] x xs ys e long = absurd (omega arith)
same_front (y ∷ a) (w ∷ b) x xs ys e long = ap₂ (λ z zs. z ∷ zs) (same_head e) (same_front a b x xs ys (same_tail e) (omega arith))

text_append : (a b : List Line) → text_of (a ++ b) ≡ text_of a ++ text_of b
text_append a b = flat_map-append bytes_of a b

-- no line fails among lines that are right
pub none_before : (P : Network) (bytes rest : List ℕ) (ls : List Line) (s : State) → Runs AtVersion ls s → AllByRecursion IsSpelledLine ls → bytes ≡ text_of ls ++ rest → NoneFails P ls
    → (l : ℕ) (kind : FaultKind) → l ≤ length ls → Fails P bytes l kind → ⊥
none_before P bytes rest ls s run spelled is none l kind le (AsText text fault) =
    let c = begun ls s run spelled in
    fault.none c.certificate c.spelled (λ i lt. begins_with c.certificate bytes rest ls c.rest c.spelled c.lines is i (omega arith))
none_before P bytes rest ls s run spelled is none l kind le (InCertificate c all begins fails) =
    let at = fails_at P c l kind all fails in
    let parts = cut ls l le in
    let Q : List Line → Type 0 = AllByRecursion IsSpelledLine in
    let text : bytes ≡ text_of parts.front ++ (text_of parts.back ++ rest) = is ∙ ap (λ x. text_of x ++ rest) parts.whole ∙ ap (λ x. x ++ rest) (text_append parts.front parts.back) ∙ append_assoc (text_of parts.front) (text_of parts.back) rest in
    let its = front_of_lines c bytes (text_of parts.back ++ rest) parts.front l all (spelled_front parts.front parts.back (subst Q parts.whole spelled)) text (omega (arith, parts.long)) begins in
    let same : parts.front ≡ at.front ++ at.line ∷ [] = same_front parts.front at.front at.line its.rest at.back (sym its.whole ∙ at.whole) (omega (arith, parts.long, at.number)) in
    none at.front parts.back at.line at.state kind (parts.whole ∙ ap (λ x. x ++ parts.back) same ∙ append_assoc at.front (at.line ∷ []) parts.back) at.run at.fails

-- the first line that fails, by the grammar and by the table
pub text_fault : (P : Network) (bytes rest : List ℕ) (ls : List Line) (s : State) → Runs AtVersion ls s → AllByRecursion IsSpelledLine ls → bytes ≡ text_of ls ++ rest → NoneFails P ls
    → NoneBeginsWith bytes (length ls + 1) → Fault P bytes (length ls + 1) kinds.Text
text_fault P bytes rest ls s run spelled is none never =
    First (AsText refl (text_fails bytes rest ls s run spelled is never)) (λ l kind lt fails. none_before P bytes rest ls s run spelled is none l kind (omega arith) fails)

pub line_fault : (P : Network) (bytes rest : List ℕ) (ls : List Line) (s t : State) (l : Line) (kind : FaultKind) → Runs AtVersion ls s → Follows s l t → AllByRecursion IsSpelledLine (ls ++ l ∷ []) → bytes ≡ text_of (ls ++ l ∷ []) ++ rest → NoneFails P ls
    → LineFails P ls s l kind → Fault P bytes (length ls + 1) kind
line_fault P bytes rest ls s t l kind run follows spelled is none fails =
    let c = begun (ls ++ l ∷ []) t (run_one_more AtVersion s t ls l run follows) spelled in
    let whole : lines_of c.certificate ≡ ls ++ l ∷ c.rest = c.lines ∙ append_assoc ls (l ∷ []) c.rest in
    let begins : Begins c.certificate bytes (length ls + 1) = λ i lt. begins_with c.certificate bytes rest (ls ++ l ∷ []) c.rest c.spelled c.lines is i (omega (arith, length-append ls (l ∷ []))) in
    let front : bytes ≡ text_of ls ++ (text_of (l ∷ []) ++ rest) = is ∙ ap (λ x. x ++ rest) (text_append ls (l ∷ [])) ∙ append_assoc (text_of ls) (text_of (l ∷ [])) rest in
    First (InCertificate c.certificate c.spelled begins (fails_line P c.certificate s kind ls l c.rest whole run fails))
    (λ earlier other lt before. none_before P bytes (text_of (l ∷ []) ++ rest) ls s run (spelled_front ls (l ∷ []) spelled) front none earlier other (omega arith) before)

-- where all lines of a whole text are right, none fails
pub none_at_all : (P : Network) (bytes : List ℕ) (ls : List Line) → Runs AtVersion ls AtOver → AllByRecursion IsSpelledLine ls → bytes ≡ text_of ls → NoneFails P ls → (l : ℕ) (kind : FaultKind) → Fails P bytes l kind → ⊥
none_at_all P bytes ls run spelled is none l kind (AsText text fault) =
    let c = told ls run spelled in
    let same : spelling c.certificate ≡ bytes = spelling_is c.certificate ∙ ap text_of (sym c.lines) ∙ sym is in
    let R : List ℕ → Type 0 = λ x. Begins c.certificate x l in
    fault.none c.certificate c.spelled (subst R same (λ i lt. refl))
none_at_all P bytes ls run spelled is none l kind (InCertificate c all begins fails) =
    elim (cases_lt (length ls) l) [
      | inr le ↦ none_before P bytes [] ls AtOver run spelled (is ∙ sym (append-nil (text_of ls))) none l kind le (InCertificate c all begins fails)
      | inl lt ↦
          let at = fails_at P c l kind all fails in
          let its = front_of_lines c bytes [] ls l all spelled (is ∙ sym (append-nil (text_of ls))) (omega arith) begins in
          let Q : List Line → Type 0 = λ x. Runs AtVersion x AtOver in
          let parts = run_split AtVersion AtOver ls its.rest (subst Q its.whole (runs_certificate c all)) in
          let R : State → Type 0 = λ x. Runs x its.rest AtOver in
          let over : its.rest ≡ [] = nothing_over its.rest AtOver (subst R (same_end AtVersion parts.0 AtOver ls parts.1 run) parts.2) in
          let both : at.front ++ at.line ∷ at.back ≡ ls = sym at.whole ∙ its.whole ∙ ap (λ x. ls ++ x) over ∙ append-nil ls in
          absurd (omega (arith, ap length both, length-append at.front (at.line ∷ at.back), at.number))
    ]
