-- What a plan asks rises by what an extend takes.
use Rattle.std.proofs.Common.{◌≡◌, ℕ, ◌+◌, ◌<◌, ◌≤◌, min, List, [], ◌∷◌, ◌++◌, length, true, false, refl, sym, ap, ◌∙◌, subst, inl, inr, arith, reverse}
use Rattle.std.proofs.lemmas.List.{reverse-append}
use Rattle.std.proofs.lemmas.Bool.{cases_eq}
use Rattle.std.specs.Prelude.{sum_by, ◌⊎◌, Bool, ◌&&◌, ◌==◌, if◌then◌else◌}
use Rattle.std.proofs.lemmas.List.Sums.{sum_by-cons}
use Rattle.cfn_model.specs.declared.limits.TheConstants.{GREATEST}
use Rattle.cfn_model.specs.declared.step.Step.{Step}
use Rattle.cfn_model.specs.declared.step.Step.TheVariants.{Extend}
use Rattle.cfn_model.specs.Network.{Network, IsNetwork, variable_at}
use Rattle.cfn_model.specs.Steps.{IsPlace, IsValue}
use Rattle.cfn_model.proofs.CallerLemmas.{eqb_same, eqb_other}
use Rattle.cfn_consistency.specs.Virtual.{takes, asked}
use Rattle.cfn_vac.specs.Tables.{item, AreFilled, AreWants, AreOfSteps}
use Rattle.cfn_vac.specs.Plans.{IsPlanned}
use Rattle.cfn_vac.proofs.Numbers.{written, written_here, written_there, written_shape, within}
use Rattle.cfn_vac.proofs.Running.{shifts_more}
use Rattle.cfn_vac.proofs.Gathering.{value_of}

asked_here : (P : Network) (plan : List Step) (f j b m y c : ℕ) → variable_at P f j ≡ y → b ≡ c → asked P (Extend f j b m ∷ plan) y c ≡ min GREATEST (m + sum_by (λ step. takes P step y c) plan)
asked_here P plan f j b m y c e d =
    ap (min GREATEST) (sum_by-cons (λ step. takes P step y c) (Extend f j b m) plan)
    ∙ ap (λ t. min GREATEST ((if t then m else 0) + sum_by (λ step. takes P step y c) plan)) (both_true (variable_at P f j == y) (b == c) (eqb_same (variable_at P f j) y e) (eqb_same b c d))
  where
    both_true : (p q : Bool) → p ≡ true → q ≡ true → (p && q) ≡ true
    both_true p q g h = rw g (rw h refl)

asked_there : (P : Network) (plan : List Step) (f j b m y c : ℕ) → (variable_at P f j ≡ y → b ≡ c → ⊥) → asked P (Extend f j b m ∷ plan) y c ≡ asked P plan y c
asked_there P plan f j b m y c apart =
    let none : ((variable_at P f j == y) && (b == c)) ≡ false = elim (cases_eq (variable_at P f j) y) [
      | inl e ↦ not_both (variable_at P f j == y) (b == c) (inr (eqb_other b c (apart e)))
      | inr e ↦ not_both (variable_at P f j == y) (b == c) (inl (eqb_other (variable_at P f j) y e))
    ] in
    let rest = sum_by (λ step. takes P step y c) plan in
    let bare : min GREATEST (0 + rest) ≡ min GREATEST rest = omega arith in
    ap (min GREATEST) (sum_by-cons (λ step. takes P step y c) (Extend f j b m) plan)
    ∙ ap (λ t. min GREATEST ((if t then m else 0) + rest)) none ∙ bare
  where
    not_both : (p q : Bool) → (p ≡ false) ⊎ (q ≡ false) → (p && q) ≡ false
    not_both p q (inl h) = rw h refl
    not_both true q (inr h) = h
    not_both false q (inr h) = refl

wants_more : (P : Network) (plan : List Step) (rows : List (List ℕ)) (f j b m : ℕ) → AreWants P plan rows → IsValue P (variable_at P f j) b → AreWants P (Extend f j b m ∷ plan) (written rows (variable_at P f j) b (min GREATEST (m + item rows (variable_at P f j) b)))
wants_more P plan rows f j b m are value =
    let x = variable_at P f j in let now = min GREATEST (m + item rows x b) in
    let at = within P rows x b are.shape value in
    record {
      shape = written_shape P rows x b now are.shape value.variable;
      is = λ y c v. elim (cases_eq x y) [
        | inl e ↦ (elim (cases_eq b c) [
          | inl d ↦ subst (λ n. item (written rows x b now) n c ≡ asked P (Extend f j b m ∷ plan) n c) e (subst (λ n. item (written rows x b now) x n ≡ asked P (Extend f j b m ∷ plan) x n) d
              (written_here rows x b now at.0 at.1
              ∙ (let old = are.is x b value in
              let total = sum_by (λ step. takes P step x b) plan in
              let is : min GREATEST (m + item rows x b) ≡ min GREATEST (m + total) = omega (arith, old) in is)
              ∙ sym (asked_here P plan f j b m x b refl refl)))
          | inr d ↦ written_there rows x b now y c at.0 (λ same other. d other) ∙ are.is y c v ∙ sym (asked_there P plan f j b m y c (λ same other. d other))
        ])
        | inr e ↦ written_there rows x b now y c at.0 (λ same other. e same) ∙ are.is y c v ∙ sym (asked_there P plan f j b m y c (λ same other. e same))
      ];
    }

pub planned_extend : (P : Network) (steps : List Step) (rows new : List (List ℕ)) (f j b m x wanted : ℕ) → IsNetwork P → IsPlanned P steps rows → IsPlace P f j b → 0 < m → m ≤ GREATEST → x ≡ variable_at P f j → wanted ≡ item rows x b
    → new ≡ written rows x b (min GREATEST (m + wanted)) → IsPlanned P (steps ++ Extend f j b m ∷ []) new
planned_extend P steps rows new f j b m x wanted net is place some most x_is wanted_is new_is = record {
  shifts = shifts_more P steps (Extend f j b m) is.shifts (record { range = place; some = some; spelled = most });
  wants = subst (λ p. AreWants P p new) (sym (reverse-append steps (Extend f j b m ∷ [])))
      (subst (AreWants P (Extend f j b m ∷ reverse steps))
      (sym (new_is ∙ ap (λ w. written rows x b (min GREATEST (m + w))) wanted_is ∙ ap (λ y. written rows y b (min GREATEST (m + item rows y b))) x_is))
      (wants_more P (reverse steps) rows f j b m is.wants (value_of P f j b net place)));
}

-- what steps ask is taken back, the last of them first
pub forgetting_start : (P : Network) (steps : List Step) (rows : List (List ℕ)) → AreWants P steps rows → AreOfSteps P steps rows
forgetting_start P steps rows are = record { shape = are.shape; none = λ y c v nothing. are.is y c v ∙ nothing }

pub forgetting_more : (P : Network) (left earlier : List Step) (step : Step) (rows : List (List ℕ)) → left ≡ earlier ++ step ∷ [] → AreOfSteps P (reverse left) rows → AreOfSteps P (step ∷ reverse earlier) rows
forgetting_more P left earlier step rows is are = subst (λ l. AreOfSteps P l rows) (ap reverse is ∙ reverse-append earlier (step ∷ [])) are

no_step : (left : List Step) → length left ≡ 0 → left ≡ []
no_step [] h = refl
no_step (step ∷ left) h = absurd (omega (arith, h))

pub all_forgotten : (P : Network) (left : List Step) (rows : List (List ℕ)) → length left ≡ 0 → AreOfSteps P (reverse left) rows → AreFilled P 0 rows
all_forgotten P left rows none are =
    let last : AreOfSteps P [] rows = subst (λ l. AreOfSteps P (reverse l) rows) (no_step left none) are in
    record { shape = last.shape; all = λ y c v. last.none y c v refl }
