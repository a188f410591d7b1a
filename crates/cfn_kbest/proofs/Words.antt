-- Why a search ended.
use Rattle.std.proofs.Common.{◌≡◌, ℕ, ◌<◌, ◌≤◌, inl, inr, None, Some, Bool, true, false, refl, subst, arith}
use Rattle.std.proofs.lemmas.Bool.{cases_eq, false≢true}
use Rattle.std.specs.Prelude.{◌↔◌, Option, IfSome, IsTrue, is_some}
use Rattle.cfn_model.specs.Network.{Network}
use Rattle.cfn_ranking.specs.declared.word.ListWord.{ListWord}
use Rattle.cfn_ranking.specs.declared.word.ListWord.TheVariants.{Complete, Budget, Time, Memory}
use Rattle.cfn_kbest.specs.declared.search.Best.{Best}
use Rattle.cfn_kbest.specs.Searching.{HasListCause, IsBestOf, word_of}

-- words are told apart
abbrev IsComplete : ListWord → Type 0
IsComplete Complete = Unit {0}
IsComplete Budget = ⊥
IsComplete Time = ⊥
IsComplete Memory = ⊥

abbrev IsBudget : ListWord → Type 0
IsBudget Complete = ⊥
IsBudget Budget = Unit {0}
IsBudget Time = ⊥
IsBudget Memory = ⊥

abbrev IsTime : ListWord → Type 0
IsTime Complete = ⊥
IsTime Budget = ⊥
IsTime Time = Unit {0}
IsTime Memory = ⊥

abbrev IsMemory : ListWord → Type 0
IsMemory Complete = ⊥
IsMemory Budget = ⊥
IsMemory Time = ⊥
IsMemory Memory = Unit {0}

zero_or : (n : ℕ) → (0 < n → ⊥) → n ≡ 0
zero_or n none = elim (cases_eq n 0) [
  | inl is ↦ is
  | inr other ↦ absurd (none (omega (arith, other)))
]

below : (spent budget : ℕ) → spent ≤ budget → (spent ≡ budget → ⊥) → spent < budget
below spent budget within other = elim (cases_eq spent budget) [
  | inl is ↦ absurd (other is)
  | inr less ↦ omega (arith, less, within)
]

pub has_cause : (is_open is_spent timed : Bool) (budget spent opened : ℕ) → spent ≤ budget → (IsTrue is_open ↔ (0 < opened)) → (is_spent ≡ true → spent ≡ budget) → (spent ≡ budget → is_spent ≡ true) → HasListCause budget timed spent opened (word_of is_open is_spent timed)
has_cause false is_spent timed budget spent opened within opened_is spent_is is = record {
  complete = (λ e. zero_or opened (λ some. absurd (false≢true (opened_is.1 some))), λ none. refl);
  budget_is = (λ e. absurd (subst IsComplete e tt), λ h. absurd (false≢true (opened_is.1 h.0)));
  time = λ e. absurd (subst IsComplete e tt);
  memory = λ e. absurd (subst IsComplete e tt);
}
has_cause true true timed budget spent opened within opened_is spent_is is = record {
  complete = (λ e. absurd (subst IsBudget e tt), λ none. absurd (let some = opened_is.0 refl in omega (arith, some, none)));
  budget_is = (λ e. (opened_is.0 refl, spent_is refl), λ h. refl);
  time = λ e. absurd (subst IsBudget e tt);
  memory = λ e. absurd (subst IsBudget e tt);
}
has_cause true false true budget spent opened within opened_is spent_is is = record {
  complete = (λ e. absurd (subst IsTime e tt), λ none. absurd (let some = opened_is.0 refl in omega (arith, some, none)));
  budget_is = (λ e. absurd (subst IsTime e tt), λ h. absurd (false≢true (is h.1)));
  time = λ e. (opened_is.0 refl, below spent budget within (λ same. false≢true (is same)), refl);
  memory = λ e. absurd (subst IsTime e tt);
}
has_cause true false false budget spent opened within opened_is spent_is is = record {
  complete = (λ e. absurd (subst IsMemory e tt), λ none. absurd (let some = opened_is.0 refl in omega (arith, some, none)));
  budget_is = (λ e. absurd (subst IsMemory e tt), λ h. absurd (false≢true (is h.1)));
  time = λ e. absurd (subst IsMemory e tt);
  memory = λ e. (opened_is.0 refl, below spent budget within (λ same. false≢true (is same)));
}

-- a limit of time that was past was there
pub timed_by : {T : Type 0} (P : Network) (n budget : ℕ) (past : Option T) (b : Bool) (best : Best) → IfSome past (λ _. b ≡ true) → IsBestOf P n budget (is_some past) best → IsBestOf P n budget b best
timed_by P n budget None b best is of = record {
  list = of.list;
  within = of.within;
  cause = record {
    complete = of.cause.complete;
    budget_is = of.cause.budget_is;
    time = λ e. absurd (false≢true (of.cause.time e).2);
    memory = of.cause.memory;
  };
}
timed_by P n budget (Some past) b best is of = record {
  list = of.list;
  within = of.within;
  cause = record {
    complete = of.cause.complete;
    budget_is = of.cause.budget_is;
    time = λ e. (let t = of.cause.time e in (t.0, t.1, is));
    memory = of.cause.memory;
  };
}
