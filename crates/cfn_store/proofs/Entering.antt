-- A state that goes on by an event, or back by its newest one.
use Rattle.std.proofs.Common.{◌≡◌, ◌<◌, ◌^◌, List, [], ◌∷◌, ◌++◌, reverse, sym, ap, subst, ◌∙◌}
use Rattle.std.proofs.lemmas.List.{reverse-append}
use Rattle.cfn_model.specs.declared.step.Event.{Event}
use Rattle.cfn_model.specs.Network.{Network}
use Rattle.cfn_model.specs.Sums.{lifted}
use Rattle.cfn_rows.specs.Sets.{Sets}
use Rattle.cfn_store.specs.Sums.{IsSums}
use Rattle.cfn_store.specs.Cutting.{IsCuts}
use Rattle.cfn_store.specs.declared.state.State.{State}
use Rattle.cfn_scan.specs.Exact.{IsExact, IsExactAlong, LiftsFit}
use Rattle.cfn_store.specs.Peaks.{ArePeaks, AreForgotten}
use Rattle.cfn_store.specs.State.{Keeps, IsState, history_of}
use Rattle.cfn_store.proofs.Peaking.{peaks_on, peaks_back}

-- a state keeps what another does that has the same sums, live values and cuts
pub same_kept : (P : Network) (history : List Event) (old new : State) → new.sums ≡ old.sums → new.live ≡ old.live → new.cuts ≡ old.cuts → Keeps P history old → Keeps P history new
same_kept P history old new sums live cuts keeps = record {
  sums = subst (λ s. IsSums P history s) (sym sums) keeps.sums;
  cuts = subst (λ s. IsCuts P history s) (sym cuts) keeps.cuts;
  sizes = ap (λ (s : Sets). s.sizes) live ∙ keeps.sizes;
  live = ap (λ (s : Sets). s.history) live ∙ keeps.live;
}

pub entered : (P : Network) (event : Event) (old new : State) → new.trail.items ≡ old.trail.items ++ event ∷ [] → IsState P old → IsExact P (event ∷ history_of old) → lifted event < 2 ^ 64
    → Keeps P (event ∷ history_of old) new → AreForgotten P event old.peaks.items new.peaks.items → IsState P new
entered P event old new trail is exact small keeps forgotten =
    let newest : event ∷ history_of old ≡ history_of new = sym (ap reverse trail ∙ reverse-append old.trail.items (event ∷ [])) in
    record {
      keeps = subst (λ h. Keeps P h new) newest keeps;
      exact = subst (IsExactAlong P) newest (exact, is.exact);
      lifts = subst LiftsFit newest (small, is.lifts);
      peaks = subst (λ h. ArePeaks P h new.peaks.items) newest (peaks_on P event (history_of old) old.peaks.items new.peaks.items is.peaks forgotten);
    }

pub left : (P : Network) (event : Event) (old new : State) → old.trail.items ≡ new.trail.items ++ event ∷ [] → IsState P old
    → (Keeps P (event ∷ history_of new) old → Keeps P (history_of new) new) → AreForgotten P event old.peaks.items new.peaks.items → IsState P new
left P event old new trail is keeps forgotten =
    let newest : history_of old ≡ event ∷ history_of new = ap reverse trail ∙ reverse-append new.trail.items (event ∷ []) in
    record {
      keeps = keeps (subst (λ h. Keeps P h old) newest is.keeps);
      exact = (subst (IsExactAlong P) newest is.exact).1;
      lifts = (subst LiftsFit newest is.lifts).1;
      peaks = peaks_back P event (history_of new) old.peaks.items new.peaks.items (subst (λ h. ArePeaks P h old.peaks.items) newest is.peaks) forgotten;
    }
