-- Steps behind steps.
use Rattle.std.proofs.Common.{◌≡◌, ℕ, zero, suc, [], ◌++◌, sym, ap, ◌∙◌, subst}
use Rattle.std.proofs.lemmas.List.{append-nil, append_assoc}
use Rattle.cfn_model.specs.Steps.{Run, after}
use Rattle.cfn_gain.specs.declared.limits.Limits.{Limits}
use Rattle.cfn_gain.specs.Calls.{Adds}
use Rattle.cfn_store.specs.Standing.{Standing, history}
use Rattle.cfn_model.specs.Network.{Network}
use Rattle.cfn_consistency.specs.Groups.{IsBegun}
use Rattle.cfn_gain.specs.declared.settling.Settling.{Settling}
use Rattle.cfn_gain.specs.declared.settling.Settling.TheVariants.{Settled, Dead, Spent}
use Rattle.cfn_gain.specs.Gains.{IsOpen}
use Rattle.cfn_gain.proofs.CallerLemmas.{opened}
use Rattle.cfn_dive.specs.Enforcing.{GoesOn, Finds, Groups, IsAtPlace, AreRounds}
use Rattle.cfn_proof.proofs.CallerLemmas.{after_append, run_append}

pub goes_still : (s t : Standing) (k : ℕ) → t.network ≡ s.network → t.base ≡ s.base → t.block ≡ s.block → GoesOn s t k
goes_still s t k network base block = record { network = network; base = base; steps = []; block = block ∙ sym (append-nil s.block); runs = tt }

pub goes_by : (s t : Standing) (limits : Limits) (k : ℕ) → limits.threshold ≡ k → Adds s t limits → GoesOn s t k
goes_by s t limits k is adds = record { network = adds.network; base = adds.base; steps = adds.steps; block = adds.block; runs = subst (Run s.network (history s) adds.steps) is adds.runs }

pub goes_along : (s t u : Standing) (k : ℕ) → GoesOn s t k → GoesOn t u k → GoesOn s u k
goes_along s t u k one two =
    let way : history t ≡ after one.steps (history s) = ap (λ b. after b t.base) one.block ∙ ap (after (s.block ++ one.steps)) one.base ∙ after_append s.block one.steps s.base in
    record {
      network = two.network ∙ one.network;
      base = two.base ∙ one.base;
      steps = one.steps ++ two.steps;
      block = two.block ∙ ap (λ b. b ++ two.steps) one.block ∙ append_assoc s.block one.steps two.steps;
      runs = run_append s.network (history s) one.steps two.steps k one.runs
          (subst (λ h. Run s.network h two.steps k) way (subst (λ P. Run P (history t) two.steps k) one.network two.runs));
    }

-- at a place, whatever room there is
pub at_place : (s t : Standing) → t.network ≡ s.network → t.base ≡ s.base → t.block ≡ s.block → IsAtPlace s t
at_place s t network base block = record { network = network; base = base; block = block }

pub groups_open : (before now : Standing) (found : Settling) → Groups before now found → IsOpen before now
groups_open before now Settled groups = opened before now IsBegun groups
groups_open before now Dead groups = groups
groups_open before now Spent groups = groups

open_at : (before now next : Standing) → IsOpen before now → IsAtPlace now next → IsOpen before next
open_at before now next groups at = record {
  network = at.network ∙ groups.network;
  base = at.base ∙ groups.base;
  steps = groups.steps;
  block = at.block ∙ groups.block;
  lead = groups.lead;
}

pub rounds_at : (P : Network) (n : ℕ) (before now next : Standing) → AreRounds P n before now → IsAtPlace now next → AreRounds P n before next
rounds_at P zero before now next rounds at = record { network = at.network ∙ rounds.network; base = at.base ∙ rounds.base; block = at.block ∙ rounds.block }
rounds_at P (suc n) before now next rounds at =
    let last = rounds.2 in
    (rounds.0, rounds.1, record { start = last.start; at = last.at; lifted = last.lifted; lifts = last.lifts; groups = open_at last.lifted now next last.groups at })

pub finds_at : (s t : Standing) (k : ℕ) (found : Settling) → IsAtPlace s t → Finds s.network (history s) k found → Finds t.network (history t) k found
finds_at s t k found at finds =
    let way : history t ≡ history s = ap (λ b. after b t.base) at.block ∙ ap (after s.block) at.base in
    subst (λ P. Finds P (history t) k found) (sym at.network) (subst (λ h. Finds s.network h k found) (sym way) finds)
