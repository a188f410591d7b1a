-- Every text spells a certificate, or fails at one line, whatever the network: its lines are read one by one.
use Rattle.std.proofs.Common.{◌≡◌, ℕ, zero, suc, ◌<◌, ◌+◌, ◌⊎◌, inl, inr, List, [], ◌∷◌, ◌++◌, length, refl, subst, arith}
use Rattle.std.proofs.lemmas.Bool.{cases_order}
use Rattle.cfn_model.specs.declared.step.Step.{Step}
use Rattle.cfn_model.specs.declared.step.Event.{Event}
use Rattle.cfn_model.specs.declared.step.Step.TheVariants.{Project, Extend, Lift, CutValue, CutTuple}
use Rattle.cfn_model.specs.Network.{Network}
use Rattle.cfn_model.specs.Certificate.{Certificate, threshold}
use Rattle.cfn_model.specs.Text.{Spells}
use Rattle.cfn_fault.specs.declared.kind.FaultKind.TheVariants as kinds
use Rattle.cfn_fault.specs.Nodes.{Item, Makes, LeavesOpen, Closes, Splits}
use Rattle.cfn_fault.specs.Fault.{line_at, refusal_of, OutOfRange, NotAllowed, FailsPlace, FailsLine, OtherNetwork, NotBelow, NoSolution, AtPlace, TextFault, AsText, InCertificate, First, LowerAbove}
use Rattle.cfn_fault.specs.Lines.{Line, State, AtVersion, AtOver}
use Rattle.cfn_fault.specs.Laws.{Fronts, SpellsOrTextFault, NoTextFaultWhereSpelled, OneTextFault, FaultOfText}
use Rattle.cfn_fault.proofs.Beginning.{some_rest, none_begins, text_fails}
use Rattle.cfn_fault.proofs.Faults.{spelled_text, whole_spells}
use Rattle.cfn_fault.proofs.Deciding.{Next, NoNext, next, is_over, one_line_more}

Read : List ℕ → Type 0
Read bytes = ((c : Certificate) × Spells c bytes) ⊎ ((l : ℕ) × TextFault bytes l)

stops : (bytes rest : List ℕ) (ls : List Line) (s : State) → Fronts bytes rest ls s → NoNext rest s → (s ≡ AtOver → line_at rest 0 ≡ [] → ⊥) → Read bytes
unfolding Read
stops bytes rest ls s fronts none more =
    inr (length ls + 1, text_fails bytes rest ls s fronts.run fronts.spelled fronts.text (none_begins bytes rest ls s fronts.run fronts.spelled fronts.text none more))

read_end : (bytes rest : List ℕ) (ls : List Line) (s : State) → Fronts bytes rest ls s → NoNext rest s → Read bytes
unfolding Read
read_end bytes [] ls s fronts none = elim (is_over s) [
  | inl over ↦ let Q : State → Type 0 = Fronts bytes [] ls in let whole = whole_spells bytes ls (subst Q over fronts) in inl (whole.0, whole.1)
  | inr other ↦ stops bytes [] ls s fronts none (λ over e. other over)
]
read_end bytes (b ∷ rest) ls s fronts none = stops bytes (b ∷ rest) ls s fronts none (λ over e. some_rest b rest e)

read_by : (bytes : List ℕ) (n : ℕ) (rest : List ℕ) (ls : List Line) (s : State) → (Next rest s ⊎ NoNext rest s) → length rest < suc n → Fronts bytes rest ls s
    → ((others : List ℕ) (more : List Line) (t : State) → length others < n → Fronts bytes others more t → Read bytes) → Read bytes
read_by bytes n rest ls s (inl it) lt fronts recur = recur it.others (ls ++ it.line ∷ []) it.state (omega (arith, it.less)) (one_line_more bytes rest ls s it fronts)
read_by bytes n rest ls s (inr none) lt fronts recur = read_end bytes rest ls s fronts none

read : (bytes : List ℕ) (n : ℕ) (rest : List ℕ) (ls : List Line) (s : State) → length rest < n → Fronts bytes rest ls s → Read bytes
read bytes zero rest ls s lt fronts = absurd (omega arith)
read bytes (suc n) rest ls s lt fronts = read_by bytes n rest ls s (next rest s) lt fronts (λ others more t less fronts'. read bytes n others more t less fronts')

pub spells_or_text_fault : SpellsOrTextFault
unfolding Read
spells_or_text_fault bytes = read bytes (suc (length bytes)) bytes [] AtVersion (omega arith) (record { text = refl; run = refl; spelled = tt })

pub no_text_fault_where_spelled : NoTextFaultWhereSpelled
no_text_fault_where_spelled bytes c l spells fault = fault.none c spells.spelled (spelled_text c bytes l spells)

pub one_text_fault : OneTextFault
one_text_fault bytes l m one other = elim (cases_order l m) [
  | inl same ↦ same
  | inr unequal ↦ elim unequal [
    | inl lt ↦ (let c = other.some l lt in absurd (one.none c.0 c.1 c.2))
    | inr lt ↦ (let c = one.some m lt in absurd (other.none c.0 c.1 c.2))
  ]
]

-- no line of a certificate fails as a text
no_step : (step : Step) → kinds.Text ≡ refusal_of step → ⊥
no_step (Project f i a m) e = cc
no_step (Extend f i a m) e = cc
no_step (Lift x m) e = cc
no_step (CutValue x a) e = cc
no_step (CutTuple f c) e = cc

no_place : (P : Network) (k : ℕ) (history : List Event) (item : Item) → FailsPlace P k history item kinds.Text → ⊥
no_place P k history (Makes step) (OutOfRange is out) = cc
no_place P k history (Makes step) (NotAllowed is within not) = no_step step is
no_place P k history LeavesOpen fails = fails
no_place P k history Closes fails = let e : kinds.Text ≡ kinds.Close = fails.0 in cc
no_place P k history (Splits d) fails = let e : kinds.Text ≡ kinds.Range = fails.0 in cc

no_line : (P : Network) (c : Certificate) (l : ℕ) → FailsLine P c l kinds.Text → ⊥
no_line P c l (OtherNetwork number is other) = cc
no_line P c l (NotBelow best number is some above) = cc
no_line P c l (NoSolution best number is some none) = cc
no_line P c l (AtPlace before behind at number is fails) = no_place P (threshold c) at.history at.item fails

pub fault_of_text : FaultOfText
fault_of_text P bytes l (First (AsText is fault) before) = fault
fault_of_text P bytes l (First (InCertificate c spelled begins fails) before) = absurd (no_line P c l fails)
fault_of_text P bytes l (LowerAbove c number is none spells above) = absurd cc
