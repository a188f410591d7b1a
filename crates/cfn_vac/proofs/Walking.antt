-- The deletions of a derivation put steps before a plan, the last of them first.
use Rattle.std.proofs.Common.{◌≡◌, ℕ, ◌≤◌, List, [], ◌∷◌, ◌++◌, length, length-append, take, reverse, append_assoc, refl, sym, ap, ◌∙◌, subst, arith}
use Rattle.std.proofs.lemmas.List.{reverse-append, append-nil}
use Rattle.std.proofs.Math.Seq.{take-append_seam}
use Rattle.cfn_model.specs.declared.step.Step.{Step}
use Rattle.cfn_model.specs.declared.step.Step.TheVariants.{Project}
use Rattle.cfn_model.specs.declared.step.Event.{Event}
use Rattle.cfn_model.specs.Network.{Network}
use Rattle.cfn_consistency.specs.declared.deletion.Deletion.{Deletion}
use Rattle.cfn_consistency.specs.Virtual.{Bans, without, IsDeletion, IsDerivation, Puts, ArePut}
use Rattle.cfn_vac.specs.declared.sources.Target.{Target}
use Rattle.cfn_vac.specs.Tables.{AreBefore, ArePositions}
use Rattle.cfn_vac.specs.Plans.{Gathers, Feeds, extends}
use Rattle.cfn_vac.proofs.Derived.{derivation_from}

-- what gathers for a target, with its project
pub feeds : (P : Network) (history : List Event) (q : ℕ) (t : Target) (earlier : List Deletion) (old mid new : List Step) → mid ≡ Project t.function t.place t.value t.amount ∷ old
    → Gathers P history q t.function t.place t.value t.amount earlier mid new → Feeds P history q t earlier old new
feeds P history q t earlier old mid new mid_is g = (g.sources, g.are, g.put ∙ ap (λ l. extends t.function t.amount g.sources ++ l) mid_is ∙ sym (append_assoc (extends t.function t.amount g.sources) (Project t.function t.place t.value t.amount ∷ []) old))

-- where the walk is: what those that are left put completes it
pub record IsWalking (P : Network) (history : List Event) (q : ℕ) (deletions left : List Deletion) (old now : List Step) : Type 0 where
  pub done : List Deletion
  pub all : deletions ≡ left ++ done
  pub rest : (steps : List Step) → ArePut P history q (reverse left) now steps → ArePut P history q (reverse deletions) old steps

pub walking_start : (P : Network) (history : List Event) (q : ℕ) (deletions : List Deletion) (old : List Step) → IsWalking P history q deletions deletions old old
walking_start P history q deletions old = record { done = []; all = sym (append-nil deletions); rest = λ steps are. are }

pub walking_more : (P : Network) (history : List Event) (q : ℕ) (deletions left earlier : List Deletion) (old now next : List Step) (d : Deletion) → IsWalking P history q deletions left old now → left ≡ earlier ++ d ∷ []
    → Puts P history q d d.reason (reverse earlier) now next → IsWalking P history q deletions earlier old next
walking_more P history q deletions left earlier old now next d w left_is puts = record {
  done = d ∷ w.done;
  all = w.all ∙ ap (λ l. l ++ w.done) left_is ∙ append_assoc earlier (d ∷ []) w.done;
  rest = λ steps are. w.rest steps (subst (λ l. ArePut P history q l now steps) (sym (ap reverse left_is ∙ reverse-append earlier (d ∷ []))) (next, puts, are));
}

pub all_put : (P : Network) (history : List Event) (q : ℕ) (deletions left : List Deletion) (old now : List Step) → IsWalking P history q deletions left old now → left ≡ [] → ArePut P history q (reverse deletions) old now
all_put P history q deletions left old now w none = w.rest now (subst (λ l. ArePut P history q (reverse l) now now) (sym none) refl)

pub next_before : (P : Network) (history : List Event) (q : ℕ) (deletions left earlier : List Deletion) (old now : List Step) (rows : List (List ℕ)) (d : Deletion) → IsWalking P history q deletions left old now → left ≡ earlier ++ d ∷ []
    → ArePositions P deletions rows → AreBefore P earlier rows
next_before P history q deletions left earlier old now rows d w left_is are =
    let all = w.all ∙ ap (λ l. l ++ w.done) left_is ∙ append_assoc earlier (d ∷ []) w.done in
    let long = ap length all ∙ length-append earlier (d ∷ w.done) in
    subst (λ l. AreBefore P l rows) (ap (take (length earlier)) all ∙ take-append_seam earlier (d ∷ w.done)) (are (length earlier) (omega (arith, long)))

pub next_is : (P : Network) (history : List Event) (q : ℕ) (bans : Bans) (deletions left earlier : List Deletion) (old now : List Step) (d : Deletion) → IsWalking P history q deletions left old now → left ≡ earlier ++ d ∷ []
    → IsDerivation P history q bans deletions → IsDeletion P (without earlier history) q bans d
next_is P history q bans deletions left earlier old now d w left_is is =
    let all = w.all ∙ ap (λ l. l ++ w.done) left_is ∙ append_assoc earlier (d ∷ []) w.done in
    (derivation_from P history q bans earlier (d ∷ w.done) (subst (IsDerivation P history q bans) all is)).0

pub next_few : (P : Network) (history : List Event) (q : ℕ) (deletions left earlier : List Deletion) (old now : List Step) (d : Deletion) → IsWalking P history q deletions left old now → left ≡ earlier ++ d ∷ [] → length earlier ≤ length deletions
next_few P history q deletions left earlier old now d w left_is =
    let all = w.all ∙ ap (λ l. l ++ w.done) left_is ∙ append_assoc earlier (d ∷ []) w.done in
    let long = ap length all ∙ length-append earlier (d ∷ w.done) in omega (arith, long)
