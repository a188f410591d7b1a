-- What each status of `normal` says, from how a run of it ends.
use Rattle.std.proofs.Common.{◌≡◌, ◌⊎◌, inl, inr, ℕ, List, refl, sym}
use Rattle.cfn_wcnf.specs.declared.fault.Unread.{Unread as FirstUnread}
use Rattle.cfn_model.specs.Network.{Network}
use Rattle.cfn_desk.specs.Outside.{Outside, IsIdle}
use Rattle.cfn_cli.specs.Request.Normalizing.{NormalRequest}
use Rattle.cfn_app.specs.declared.status.Status.{Status}
use Rattle.cfn_app.specs.declared.status.Status.TheVariants.{Done, Refused}
use Rattle.cfn_app.specs.Endings.{Ends, IsHindered}
use Rattle.cfn_app.specs.Loading.{ReadsAs, RefusesAs, Tells, loaded}
use Rattle.cfn_app.specs.Loading as loading
use Rattle.cfn_app.specs.Runs.Normalizing.{Normalizes}
use Rattle.cfn_app.specs.Runs.Normalizing as normalizing
use Rattle.cfn_app.specs.Saying.{Counts}
use Rattle.cfn_app.specs.Runs.Normalizing.{NormalSays, NormalStatus}
use Rattle.cfn_app.proofs.Counting.{by, counted, ends_idle, hindered, unheard, by_due, one_more}
use Rattle.cfn_app.proofs.Files.{same_bytes, read_refused}

module _ (ask : NormalRequest) (old new : Outside) (status : Status) (same : new.files ≡ old.files) where
  says_normal : Normalizes ask old new.calls status → NormalSays ask old new status
  says_normal (normalizing.unloaded (loading.unread ends)) = by (NormalSays ask old new) _ new.calls status ends (λ calls. tt) tt
  says_normal (normalizing.unloaded (loading.no_memory ends)) = by (NormalSays ask old new) _ new.calls status ends (λ calls. (_, (calls, same))) tt
  says_normal (normalizing.unread bytes has (loading.refused refusal refuses ends)) = by (NormalSays ask old new) _ new.calls status ends (λ calls. (bytes, refusal, has, refuses, (calls, same))) tt
  says_normal (normalizing.unread bytes has (loading.no_memory ends)) = by (NormalSays ask old new) _ new.calls status ends (λ calls. (_, (calls, same))) tt
  says_normal (normalizing.normalized bytes P has reads again ends) = by (NormalSays ask old new) _ new.calls status ends (λ calls. (bytes, P, has, reads, again, (calls, same))) tt

  says_refused : (bytes : List ℕ) (refusal : FirstUnread) → Tells old ask.file bytes → RefusesAs ask.format bytes refusal → Normalizes ask old new.calls status → (status ≡ Refused) ⊎ IsHindered status
  says_refused bytes refusal told refuses (normalizing.unloaded (loading.unread ends)) = by_due Refused _ new.calls status ends (inr (inl refl))
  says_refused bytes refusal told refuses (normalizing.unloaded (loading.no_memory ends)) = by_due Refused _ new.calls status ends (inr (inr refl))
  says_refused bytes refusal told refuses (normalizing.unread other has (loading.refused r also ends)) = by_due Refused _ new.calls status ends (inl refl)
  says_refused bytes refusal told refuses (normalizing.unread other has (loading.no_memory ends)) = by_due Refused _ new.calls status ends (inr (inr refl))
  says_refused bytes refusal told refuses (normalizing.normalized other P has reads again ends) =
      absurd (read_refused ask.format other bytes P refusal (same_bytes old ask.file other bytes told has) reads refuses)

  says_text : (bytes : List ℕ) (P : Network) → Tells old ask.file bytes → ReadsAs ask.format bytes P → Normalizes ask old new.calls status → (status ≡ Done) ⊎ IsHindered status
  says_text bytes P told reads (normalizing.unloaded (loading.unread ends)) = by_due Done _ new.calls status ends (inr (inl refl))
  says_text bytes P told reads (normalizing.unloaded (loading.no_memory ends)) = by_due Done _ new.calls status ends (inr (inr refl))
  says_text bytes P told reads (normalizing.unread other has (loading.refused refusal refuses ends)) =
      absurd (read_refused ask.format bytes other P refusal (sym (same_bytes old ask.file other bytes told has)) reads refuses)
  says_text bytes P told reads (normalizing.unread other has (loading.no_memory ends)) = by_due Done _ new.calls status ends (inr (inr refl))
  says_text bytes P told reads (normalizing.normalized other Q has also again ends) = by_due Done _ new.calls status ends (inl refl)

  -- memory was refused before the words were understood
  pub normal_unheard : Ends (unheard old) new.calls status → NormalStatus ask old new status
  normal_unheard ends = record {
    says = by (NormalSays ask old new) _ new.calls status ends (λ calls. (_, (calls, same))) tt;
    refused = (λ bytes refusal told refuses. inr (hindered old new status ends));
    normalized = (λ bytes P told reads. inr (hindered old new status ends));
  }

  pub normal_status : Normalizes ask old new.calls status → NormalStatus ask old new status
  normal_status run = record {
    says = says_normal run;
    refused = (λ bytes refusal told refuses. says_refused bytes refusal told refuses run);
    normalized = (λ bytes P told reads. says_text bytes P told reads run);
  }

  pub normal_counts : Normalizes ask old new.calls status → Counts old.calls new.calls status
  normal_counts (normalizing.unloaded (loading.unread ends)) = counted old.calls _ new.calls status ends (one_more old.calls)
  normal_counts (normalizing.unloaded (loading.no_memory ends)) = counted old.calls _ new.calls status ends refl
  normal_counts (normalizing.unread bytes has (loading.refused refusal refuses ends)) = counted old.calls _ new.calls status ends refl
  normal_counts (normalizing.unread bytes has (loading.no_memory ends)) = counted old.calls _ new.calls status ends refl
  normal_counts (normalizing.normalized bytes P has reads again ends) = counted old.calls _ new.calls status ends refl

  pub normal_idle : Normalizes ask old new.calls status → IsIdle old.calls → IsIdle new.calls
  normal_idle (normalizing.unloaded (loading.unread ends)) idle = ends_idle _ new.calls status ends idle
  normal_idle (normalizing.unloaded (loading.no_memory ends)) idle = ends_idle _ new.calls status ends idle
  normal_idle (normalizing.unread bytes has (loading.refused refusal refuses ends)) idle = ends_idle _ new.calls status ends idle
  normal_idle (normalizing.unread bytes has (loading.no_memory ends)) idle = ends_idle _ new.calls status ends idle
  normal_idle (normalizing.normalized bytes P has reads again ends) idle = ends_idle _ new.calls status ends idle
