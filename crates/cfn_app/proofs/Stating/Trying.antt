-- What each status of `trial` says, from how a run of it ends.
use Rattle.std.proofs.Common.{◌≡◌, ◌⊎◌, inl, inr, refl}
use Rattle.cfn_desk.specs.Outside.{Outside, IsIdle}
use Rattle.cfn_cli.specs.Request.Trying.{TrialRequest}
use Rattle.cfn_app.specs.declared.status.Status.{Status}
use Rattle.cfn_app.specs.declared.status.Status.TheVariants.{Done}
use Rattle.cfn_app.specs.Endings.{Ends, IsHindered}
use Rattle.cfn_app.specs.Runs.Trying.{Tries}
use Rattle.cfn_app.specs.Runs.Trying as trying
use Rattle.cfn_app.specs.Saying.{Counts}
use Rattle.cfn_app.specs.Runs.Trying.{TrialSays, TrialStatus}
use Rattle.cfn_app.proofs.Counting.{by, counted, ends_idle, hindered, unheard}

module _ (ask : TrialRequest) (old new : Outside) (status : Status) (same : new.files ≡ old.files) where
  -- memory was refused before the words were understood
  pub trial_unheard : Ends (unheard old) new.calls status → TrialStatus ask old new status
  trial_unheard ends = record {
    says = by (TrialSays ask old new) _ new.calls status ends (λ calls. (_, (calls, same))) tt;
    tried = inr (hindered old new status ends);
  }

  pub trial_status : Tries ask old.calls new.calls status → TrialStatus ask old new status
  trial_status (trying.solved least is ends) = record {
    says = by (TrialSays ask old new) _ new.calls status ends (λ calls. (least, is, (calls, same))) tt;
    tried = by (λ s. (s ≡ Done) ⊎ IsHindered s) _ new.calls status ends (λ calls. inl refl) (inr (inl refl));
  }
  trial_status (trying.no_memory ends) = record {
    says = by (TrialSays ask old new) _ new.calls status ends (λ calls. (_, (calls, same))) tt;
    tried = by (λ s. (s ≡ Done) ⊎ IsHindered s) _ new.calls status ends (λ calls. inr (inr refl)) (inr (inl refl));
  }

  pub trial_counts : Tries ask old.calls new.calls status → Counts old.calls new.calls status
  trial_counts (trying.solved least is ends) = counted old.calls _ new.calls status ends refl
  trial_counts (trying.no_memory ends) = counted old.calls _ new.calls status ends refl

  pub trial_idle : Tries ask old.calls new.calls status → IsIdle old.calls → IsIdle new.calls
  trial_idle (trying.solved least is ends) idle = ends_idle _ new.calls status ends idle
  trial_idle (trying.no_memory ends) idle = ends_idle _ new.calls status ends idle
