-- One fault at most, none where the certificate is good, and what the lines of a text say of its fault.
use Rattle.std.proofs.Common.{◌≡◌, ℕ, ◌<◌, ◌+◌, inl, inr, List, [], ◌∷◌, ◌++◌, length, map, refl, sym, ap, ap₂, subst, ◌∙◌, arith, append_assoc, length-append, append-nil}
use Rattle.std.proofs.lemmas.Bool.{cases_order}
use Rattle.std.proofs.lemmas.List.{map-append}
use Rattle.std.specs.Prelude.{Option, Some, None, slice_index_or}
use Rattle.std.specs.List.{AllByRecursion}
use Rattle.cfn_model.specs.declared.step.Step.{Step}
use Rattle.cfn_model.specs.declared.step.Event.{Event}
use Rattle.cfn_model.specs.Network.{Network, cost}
use Rattle.cfn_model.specs.Tree.{bound}
use Rattle.cfn_model.specs.Certificate.{Solution, Certificate, Good, threshold, threshold_of, IsBest}
use Rattle.cfn_model.specs.Text.{IsSpelled, Spells}
use Rattle.cfn_fault.specs.declared.kind.FaultKind.{FaultKind}
use Rattle.cfn_fault.specs.Nodes.{Item, Makes, LeavesOpen, Closes, Splits}
use Rattle.cfn_fault.specs.Fault.{lines, Begins, Place, FailsStep, OutOfRange, NotAllowed, FailsPlace, FailsLine, OtherNetwork, NotBelow, NoSolution, AtPlace, Fails, AsText, InCertificate, First, LowerAbove}
use Rattle.cfn_fault.specs.Lines.{Line, Version, Numbers, Lower, NoBest, Best, Values, Root, Node, End, bytes_of, text_of, IsSpelledLine, lines_of_tree, lines_of_best, lines_of, State, AtVersion, AtNumbers, AtLower, AtBest, AtValues, AtRoot, AtNodes, AtOver, Follows, Runs}
use Rattle.cfn_fault.specs.Judging.{threshold_in, lower_in, NodeFails, LineFails, AllPass, open_floors, lowest, bound_in}
use Rattle.cfn_fault.specs.Laws.{OneFault, NoFaultWhereGood, SomeBegins, AllBegin, WholeSpells, TextFaults, LineFaults, WholeTexts, OneMorePasses}
use Rattle.cfn_fault.proofs.Running.{same_end, run_split, runs_certificate, spelled_lines, spelled_front, nothing_over, told, begun}
use Rattle.cfn_fault.proofs.Beginning.{FrontOf, agree, begins_with, front_of_lines, lines_of_spelling, spelling_is}
use Rattle.cfn_fault.proofs.Placing.{fails_at, fails_line}
use Rattle.cfn_fault.proofs.Judging.{none_fails, text_fault, line_fault, none_at_all, one_more_passes, same_front, same_head, same_tail, place_right}
use Rattle.cfn_fault.proofs.Whole.{AllPlaces, places_by_valid, place_passes, good_by_lines, bound_by_lines}

-- a line fails with one kind alone
one_kind_step : (P : Network) (k : ℕ) (history : List Event) (step : Step) (a b : FaultKind) → FailsStep P k history step a → FailsStep P k history step b → a ≡ b
one_kind_step P k history step a b (OutOfRange is out) (OutOfRange is' out') = is ∙ sym is'
one_kind_step P k history step a b (OutOfRange is out) (NotAllowed is' within not') = absurd (out within)
one_kind_step P k history step a b (NotAllowed is within not) (OutOfRange is' out') = absurd (out' within)
one_kind_step P k history step a b (NotAllowed is within not) (NotAllowed is' within' not') = is ∙ sym is'

pub one_kind_place : (P : Network) (k : ℕ) (history : List Event) (item : Item) (a b : FaultKind) → FailsPlace P k history item a → FailsPlace P k history item b → a ≡ b
one_kind_place P k history (Makes step) a b f g = one_kind_step P k history step a b f g
one_kind_place P k history LeavesOpen a b f g = absurd f
one_kind_place P k history Closes a b f g = f.0 ∙ sym g.0
one_kind_place P k history (Splits d) a b f g = f.0 ∙ sym g.0

one_kind_node : (P : Network) (k : ℕ) (s : State) (item : Item) (a b : FaultKind) → NodeFails P k s item a → NodeFails P k s item b → a ≡ b
one_kind_node P k (AtNodes version (history ∷ paths)) item a b f g = one_kind_place P k history item a b f g
one_kind_node P k (AtNodes version []) item a b f g = absurd f
one_kind_node P k AtVersion item a b f g = absurd f
one_kind_node P k (AtNumbers version) item a b f g = absurd f
one_kind_node P k (AtLower version) item a b f g = absurd f
one_kind_node P k (AtBest version) item a b f g = absurd f
one_kind_node P k (AtValues version) item a b f g = absurd f
one_kind_node P k (AtRoot version) item a b f g = absurd f
one_kind_node P k AtOver item a b f g = absurd f

one_kind : (P : Network) (front : List Line) (s : State) (l : Line) (a b : FaultKind) → LineFails P front s l a → LineFails P front s l b → a ≡ b
one_kind P front s (Version version) a b f g = absurd f
one_kind P front s (Numbers n e upper) a b f g = f.0 ∙ sym g.0
one_kind P front s (Lower lower) a b f g = absurd f
one_kind P front s NoBest a b f g = absurd f
one_kind P front s (Best cost) a b f g = f.0 ∙ sym g.0
one_kind P front s (Values values) a b f g = f.0 ∙ sym g.0
one_kind P front s Root a b f g = absurd f
one_kind P front s (Node item) a b f g = one_kind_node P (threshold_in front) s item a b f g
one_kind P front s End a b f g = absurd f

-- two certificates that begin with the same lines of a text
shared : (c other : Certificate) (bytes : List ℕ) (l : ℕ) (front : List Line) (line : Line) (back : List Line) → IsSpelled c → IsSpelled other → Begins c bytes l → Begins other bytes l → lines_of c ≡ front ++ line ∷ back → l ≡ length front + 1
    → FrontOf (lines_of other) (front ++ line ∷ [])
shared c other bytes l front line back hc ho begins also whole number =
    let P : List Line → Type 0 = AllByRecursion IsSpelledLine in
    let parted : lines_of c ≡ (front ++ line ∷ []) ++ back = whole ∙ sym (append_assoc front (line ∷ []) back) in
    agree (lines_of other) (front ++ line ∷ []) (map bytes_of back) (spelled_lines other ho) (spelled_front (front ++ line ∷ []) back (subst P parted (spelled_lines c hc)))
    (λ i lt. let le : i < l = omega (arith, length-append front (line ∷ [])) in
    sym (ap (λ x. slice_index_or x i []) (lines_of_spelling other ho)) ∙ also i le ∙ sym (begins i le) ∙ ap (λ x. slice_index_or x i []) (lines_of_spelling c hc ∙ ap (map bytes_of) parted ∙ map-append bytes_of (front ++ line ∷ []) back))

last_same : {A : Type 0} (a b : List A) (x y : A) → a ++ x ∷ [] ≡ b ++ y ∷ [] → (a ≡ b) × (x ≡ y)
last_same [] [] x y e = (refl, same_head e)
last_same [] (z ∷ []) x y e = absurd (let t : [] ≡ y ∷ [] = same_tail e in cc)
last_same [] (z ∷ w ∷ b) x y e = absurd (let t : [] ≡ w ∷ (b ++ y ∷ []) = same_tail e in cc)
last_same (z ∷ []) [] x y e = absurd (let t : x ∷ [] ≡ [] = same_tail e in cc)
last_same (z ∷ w ∷ a) [] x y e = absurd (let t : w ∷ (a ++ x ∷ []) ≡ [] = same_tail e in cc)
last_same (z ∷ a) (w ∷ b) x y e = let more = last_same a b x y (same_tail e) in (ap₂ (λ p q. p ∷ q) (same_head e) more.0, more.1)

one_kind_at : (P : Network) (c other : Certificate) (bytes : List ℕ) (l : ℕ) (a b : FaultKind) → IsSpelled c → IsSpelled other → Begins c bytes l → Begins other bytes l → FailsLine P c l a → FailsLine P other l b → a ≡ b
one_kind_at P c other bytes l a b hc ho begins also f g =
    let at = fails_at P c l a hc f in
    let its = fails_at P other l b ho g in
    let front = shared c other bytes l at.front at.line at.back hc ho begins also at.whole at.number in
    let long : length (at.front ++ at.line ∷ []) ≡ length its.front + 1 = omega (arith, length-append at.front (at.line ∷ []), at.number, its.number) in
    let same : at.front ++ at.line ∷ [] ≡ its.front ++ its.line ∷ [] = same_front (at.front ++ at.line ∷ []) its.front its.line front.rest its.back (sym front.whole ∙ its.whole) long in
    let parts = last_same at.front its.front at.line its.line same in
    let Q : List Line → Type 0 = λ x. Runs AtVersion x at.state in
    let states : at.state ≡ its.state = same_end AtVersion at.state its.state its.front (subst Q parts.0 at.run) its.run in
    let R : List Line → Type 0 = λ x. LineFails P x at.state at.line a in
    let S : State → Type 0 = λ x. LineFails P its.front x at.line a in
    let T : Line → Type 0 = λ x. LineFails P its.front its.state x a in
    one_kind P its.front its.state its.line a b (subst T parts.1 (subst S states (subst R parts.0 at.fails))) its.fails

one_kind_of_line : (P : Network) (bytes : List ℕ) (l : ℕ) (a b : FaultKind) → Fails P bytes l a → Fails P bytes l b → a ≡ b
one_kind_of_line P bytes l a b (AsText is fault) (AsText is' fault') = is ∙ sym is'
one_kind_of_line P bytes l a b (AsText is fault) (InCertificate c spelled begins fails) = absurd (fault.none c spelled begins)
one_kind_of_line P bytes l a b (InCertificate c spelled begins fails) (AsText is fault) = absurd (fault.none c spelled begins)
one_kind_of_line P bytes l a b (InCertificate c spelled begins fails) (InCertificate other its also fails') = one_kind_at P c other bytes l a b spelled its begins also fails fails'

pub one_fault : OneFault
one_fault P bytes l m kind other (First fails before) (First fails' before') = elim (cases_order l m) [
  | inl same ↦ let Q : ℕ → Type 0 = λ x. Fails P bytes x kind in (same, one_kind_of_line P bytes m kind other (subst Q same fails) fails')
  | inr unequal ↦ elim unequal [ inl lt ↦ absurd (before' l kind lt fails) | inr lt ↦ absurd (before m other lt fails') ]
]
one_fault P bytes l m kind other (First fails before) (LowerAbove c number is none spells above) = absurd (none l kind fails)
one_fault P bytes l m kind other (LowerAbove c number is none spells above) (First fails before) = absurd (none m other fails)
one_fault P bytes l m kind other (LowerAbove c number is none spells above) (LowerAbove c' number' is' none' spells' above') = (number ∙ sym number', is ∙ sym is')

-- a good certificate fails at no line
good_line : (P : Network) (c : Certificate) (l : ℕ) (kind : FaultKind) → Good P c → FailsLine P c l kind → ⊥
good_line P c l kind good (OtherNetwork number is other) = other (record { variables = good.variables; functions = good.functions; upper = good.upper })
good_line P c l kind good (NotBelow best number is some above) =
    let Q : Option Solution → Type 0 = IsBest P in
    let solution = subst Q some good.best in
    absurd (omega (arith, solution.below))
good_line P c l kind good (NoSolution best number is some none) =
    let Q : Option Solution → Type 0 = IsBest P in
    let solution = subst Q some good.best in
    none (solution.fits, solution.cost)
good_line P c l kind good (AtPlace before behind at number is fails) =
    let Q : List Place → Type 0 = AllPlaces P (threshold c) in
    place_right P (threshold c) at.history at.item kind (place_passes P (threshold c) before at behind (subst Q is (places_by_valid P (threshold c) [] c.tree good.valid))) fails

-- what the lines of a certificate say
threshold_of_lines : (c : Certificate) → threshold_in (lines_of c) ≡ threshold c
threshold_of_lines c = by_best c.best
  where
    by_best : (best : Option Solution) → threshold_in ((Version c.version ∷ Numbers c.variables c.functions c.upper ∷ Lower c.lower ∷ lines_of_best best) ++ Root ∷ (lines_of_tree c.tree ++ End ∷ [])) ≡ threshold_of c.upper best
    by_best None = refl
    by_best (Some best) = refl

bound_of_lines : (P : Network) (c : Certificate) → bound P [] c.tree (threshold c) ≡ bound_in P (lines_of c)
bound_of_lines P c = bound_by_lines P c ∙ ap (λ k. lowest k (open_floors P ([] ∷ []) (lines_of c))) (sym (threshold_of_lines c))

pub spelled_text : (c : Certificate) (bytes : List ℕ) (l : ℕ) → Spells c bytes → Begins c bytes l
spelled_text c bytes l spells = let R : List ℕ → Type 0 = λ x. Begins c x l in subst R (sym spells.exact) (λ i lt. refl)

pub front_whole : (c other : Certificate) (bytes : List ℕ) → Spells c bytes → Spells other bytes → lines_of c ≡ lines_of other
front_whole c other bytes sc so =
    let front = agree (lines_of other) (lines_of c) [] (spelled_lines other so.spelled) (spelled_lines c sc.spelled)
    (λ i lt. ap (λ x. slice_index_or x i []) (sym (lines_of_spelling other so.spelled) ∙ ap lines (sym so.exact ∙ sc.exact) ∙ lines_of_spelling c sc.spelled ∙ sym (append-nil (map bytes_of (lines_of c))))) in
    let Q : List Line → Type 0 = λ x. Runs AtVersion x AtOver in
    let parts = run_split AtVersion AtOver (lines_of c) front.rest (subst Q front.whole (runs_certificate other so.spelled)) in
    let R : State → Type 0 = λ x. Runs x front.rest AtOver in
    let over = nothing_over front.rest AtOver (subst R (same_end AtVersion parts.0 AtOver (lines_of c) parts.1 (runs_certificate c sc.spelled)) parts.2) in
    sym (front.whole ∙ ap (λ x. lines_of c ++ x) over ∙ append-nil (lines_of c))

pub no_fault_where_good : NoFaultWhereGood
no_fault_where_good P bytes c l kind spells good (First (AsText is fault) before) = fault.none c spells.spelled (spelled_text c bytes l spells)
no_fault_where_good P bytes c l kind spells good (First (InCertificate other its also fails) before) =
    let at = fails_at P other l kind its fails in
    let front = shared other c bytes l at.front at.line at.back its spells.spelled also (spelled_text c bytes l spells) at.whole at.number in
    let whole : lines_of c ≡ at.front ++ at.line ∷ front.rest = front.whole ∙ append_assoc at.front (at.line ∷ []) front.rest in
    good_line P c (length at.front + 1) kind good (fails_line P c at.state kind at.front at.line front.rest whole at.run at.fails)
no_fault_where_good P bytes c l kind spells good (LowerAbove other number is none its above) =
    let same = front_whole c other bytes spells its in
    let lower : c.lower ≡ other.lower = ap lower_in same in
    let bounds : bound P [] c.tree (threshold c) ≡ bound P [] other.tree (threshold other) = bound_of_lines P c ∙ ap (bound_in P) same ∙ sym (bound_of_lines P other) in
    absurd (omega (arith, good.lower))

-- what lines say of certificates
pub some_begins : SomeBegins
some_begins bytes rest ls s fronts = let c = begun ls s fronts.run fronts.spelled in (c.certificate, c.spelled, begins_with c.certificate bytes rest ls c.rest c.spelled c.lines fronts.text)

pub all_begin : AllBegin
all_begin bytes rest ls s c fronts spelled begins = let front = front_of_lines c bytes rest ls (length ls) spelled fronts.spelled fronts.text (omega arith) begins in (front.rest, front.whole)

pub whole_spells : WholeSpells
whole_spells bytes ls fronts =
    let c = told ls fronts.run fronts.spelled in
    (c.certificate, record { spelled = c.spelled; exact = fronts.text ∙ append-nil (text_of ls) ∙ ap text_of c.lines ∙ sym (spelling_is c.certificate) }, sym c.lines)

-- what a checker that goes over the lines may conclude
pub text_faults : TextFaults
text_faults P bytes rest ls s fronts all never = text_fault P bytes rest ls s fronts.run fronts.spelled fronts.text (none_fails P ls all) never

one_line_run : (ls : List Line) (l : Line) (s t : State) → Runs AtVersion ls s → Runs AtVersion (ls ++ l ∷ []) t → Follows s l t
one_line_run ls l s t run whole =
    let parts = run_split AtVersion t ls (l ∷ []) whole in
    let Q : State → Type 0 = λ x. Runs x (l ∷ []) t in
    let last = subst Q (same_end AtVersion parts.0 s ls parts.1 run) parts.2 in
    let R : State → Type 0 = Follows s l in
    subst R last.2 last.1

pub line_faults : LineFaults
line_faults P bytes rest ls s t l kind run fronts all fails =
    line_fault P bytes rest ls s t l kind run (one_line_run ls l s t run fronts.run) fronts.spelled fronts.text (none_fails P ls all) fails

pub whole_texts : WholeTexts
whole_texts P bytes ls fronts all =
    let c = told ls fronts.run fronts.spelled in
    let text : bytes ≡ text_of ls = fronts.text ∙ append-nil (text_of ls) in
    let spells : Spells c.certificate bytes = record { spelled = c.spelled; exact = text ∙ ap text_of c.lines ∙ sym (spelling_is c.certificate) } in
    let Q : List Line → Type 0 = AllPass P in
    let bounds : bound P [] c.certificate.tree (threshold c.certificate) ≡ bound_in P ls = bound_of_lines P c.certificate ∙ ap (bound_in P) (sym c.lines) in
    let lower : c.certificate.lower ≡ lower_in ls = ap lower_in (sym c.lines) in (
      c.certificate,
      record {
        spells = spells;
        lines = sym c.lines;
        good = λ le. good_by_lines P c.certificate c.spelled (subst Q c.lines all) (omega arith);
        fault = λ lt. LowerAbove c.certificate refl refl (none_at_all P bytes ls fronts.run fronts.spelled text (none_fails P ls all)) spells (omega arith);
      },
    )

pub one_more : OneMorePasses
one_more = one_more_passes
