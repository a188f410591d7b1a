-- One line is right and leads on, or it fails.
use Rattle.std.proofs.Common.{◌≡◌, ℕ, ◌+◌, true, false, List, [], ◌∷◌, ◌++◌, length, refl, sym, ap, ◌∙◌, subst, length-append}
use Rattle.std.specs.Prelude.{Option, Some, None}
use Rattle.cfn_model.specs.Network.{Network}
use Rattle.cfn_fault.specs.Lines as lines
use Rattle.cfn_record.specs.declared.kind.RecordFault.{RecordFault}
use Rattle.cfn_record.specs.declared.kind.RecordFault.TheVariants as kinds
use Rattle.cfn_record.specs.Lines.{RecordLine, Heading, Budget, Says, bytes_of, State, AtHeading, AtNumbers, AtBudget, AtOver, LineFollows, HeadingFollows, NumbersFollow, BudgetFollows}
use Rattle.cfn_record.specs.Fault.{LinePasses, LineFails, MayCome, HasPassed, Fault, ByGrammar, ByLine}
use Rattle.cfn_record.proofs.CallerLemmas.{one_more_passes, same_line}
use Rattle.cfn_replay.specs.declared.kinds.Numbers.{Numbers}
use Rattle.cfn_replay.specs.Position.{Position, IsRead, Tells, At}
use Rattle.cfn_replay.specs.Standing.{heading_lines, numbers_lines}
use Rattle.cfn_replay.specs.Kinds.{is_heading, numbers_in, budget_in}

pub at_start : (P : Network) (bytes : List ℕ) → At P (record { text = bytes; rest = bytes; count = 0 }) [] AtHeading
at_start P bytes = record { count = refl; passed = record { text = refl; right = refl } }

module _ (P : Network) (old new : Position) (front : List RecordLine) (s : State) (o : Option RecordLine) (at : At P old front s) (tells : Tells old new o) where
  pub goes_on : (l : RecordLine) (t : State) → o ≡ Some l → LineFollows s l t → LinePasses P front new.rest l → At P new (front ++ l ∷ []) t
  goes_on l t is follows right =
      let read : IsRead old new l = subst (Tells old new) is tells in
      let passed = one_more_passes P old.text old.rest new.rest front s t l at.passed (record { spelled = read.spelled; follows = follows; right = right }) read.rest in
      record { count = read.count ∙ ap (λ n. n + 1) at.count ∙ sym (length-append front (l ∷ [])); passed = subst (λ x. HasPassed P x new.rest (front ++ l ∷ []) t) (sym read.text) passed }

  pub no_line : (s ≡ AtOver → ⊥) → ((l : RecordLine) (t : State) → o ≡ Some l → LineFollows s l t → ⊥) → Fault P old.text (old.count + 1) kinds.Text
  no_line more never = ByGrammar old.rest front s at.passed (record { line = by_line o tells never; over = λ e rest. more e }) (ap (λ n. n + 1) at.count) refl
    where
      by_line : (o : Option RecordLine) → Tells old new o → ((l : RecordLine) (t : State) → o ≡ Some l → LineFollows s l t → ⊥) → (l : RecordLine) (behind : List ℕ) → MayCome s l → old.rest ≡ bytes_of l ++ behind → ⊥
      by_line None tells never l behind may e = tells l behind may.0 e
      by_line (Some its) read never l behind may e =
          let same = same_line its l new.rest behind read.spelled may.0 (sym read.rest ∙ e) in
          never its may.1 refl (subst (λ x. LineFollows s x may.1) (sym same.line) may.2)

  pub wrong_line : (l : RecordLine) (t : State) (kind : RecordFault) → o ≡ Some l → LineFollows s l t → LineFails P front new.rest l kind → Fault P old.text (old.count + 1) kind
  wrong_line l t kind is follows fails =
      let read : IsRead old new l = subst (Tells old new) is tells in
      ByLine old.rest new.rest front s l at.passed (read.spelled, t, follows) read.rest fails (ap (λ n. n + 1) at.count)

-- what a line is that was told
pub headed : (o : Option RecordLine) → is_heading o ≡ true → o ≡ Some Heading
headed (Some Heading) e = refl
headed _ e = absurd cc

pub numbered : (o : Option RecordLine) (n : Numbers) → numbers_in o ≡ Some n → o ≡ Some (Says (lines.Numbers n.variables n.functions n.upper))
numbered (Some (Says (lines.Numbers n e upper))) its is =
    let same : record { variables = n; functions = e; upper = upper } ≡ its = cc in
    subst (λ (x : Numbers). Some (Says (lines.Numbers n e upper)) ≡ Some (Says (lines.Numbers x.variables x.functions x.upper))) same refl
numbered _ its is = absurd cc

pub budgeted : (o : Option RecordLine) (k : ℕ) → budget_in o ≡ Some k → o ≡ Some (Budget k)
budgeted (Some (Budget n)) k e = let same : n ≡ k = cc in subst (λ x. Some (Budget n) ≡ Some (Budget x)) same refl
budgeted _ k e = absurd cc

-- a line that is none of these may not come
module _ (o : Option RecordLine) where
  pub no_heading : is_heading o ≡ false → (l : RecordLine) (t : State) → o ≡ Some l → LineFollows AtHeading l t → ⊥
  no_heading none l t is HeadingFollows = let h : true ≡ false = subst (λ x. is_heading x ≡ false) is none in absurd cc

  pub no_numbers : numbers_in o ≡ None → (l : RecordLine) (t : State) → o ≡ Some l → LineFollows AtNumbers l t → ⊥
  no_numbers none l t is (NumbersFollow {n = n} {e = e} {upper = upper}) = let h : Some (record { variables = n; functions = e; upper = upper }) ≡ None = subst (λ x. numbers_in x ≡ None) is none in absurd cc

  pub no_budget : budget_in o ≡ None → (l : RecordLine) (t : State) → o ≡ Some l → LineFollows AtBudget l t → ⊥
  no_budget none l t is (BudgetFollows {budget = budget}) = let h : Some budget ≡ None = subst (λ x. budget_in x ≡ None) is none in absurd cc

-- the numbers are the network's
pub same_numbers : (P : Network) (r : Position) (n : Numbers) → (n.variables ≡ length P.sizes) × (n.functions ≡ length P.functions) × (n.upper ≡ P.upper) → At P r (heading_lines ++ Says (lines.Numbers n.variables n.functions n.upper) ∷ []) AtBudget → At P r (numbers_lines P) AtBudget
same_numbers P r n h at =
    let T : ℕ → ℕ → ℕ → Type 0 = λ a b c. At P r (Heading ∷ Says (lines.Numbers a b c) ∷ []) AtBudget in
    subst (λ a. T a (length P.functions) P.upper) h.0 (subst (λ b. T n.variables b P.upper) h.1 (subst (λ c. T n.variables n.functions c) h.2 at))
