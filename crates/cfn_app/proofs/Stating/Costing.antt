-- What each status of `cost` says, from how a run of it ends.
use Rattle.std.proofs.Common.{◌≡◌, ◌⊎◌, inl, inr, ℕ, List, refl, sym, subst}
use Rattle.cfn_wcnf.specs.declared.fault.Unread.{Unread as FirstUnread}
use Rattle.cfn_model.specs.Network.{Network, Fits}
use Rattle.cfn_desk.specs.Outside.{Outside, Call, HasFile, IsIdle}
use Rattle.cfn_cli.specs.Request.Costing.{CostRequest}
use Rattle.cfn_app.specs.declared.status.Status.{Status}
use Rattle.cfn_app.specs.declared.status.Status.TheVariants.{Done, Refused}
use Rattle.cfn_app.specs.Endings.{Ends, IsHindered}
use Rattle.cfn_app.specs.Loading.{ReadsAs, RefusesAs, Tells, loaded}
use Rattle.cfn_app.specs.Loading as loading
use Rattle.cfn_app.specs.Runs.Costing.{Costs, Prices}
use Rattle.cfn_app.specs.Runs.Costing as costing
use Rattle.cfn_app.specs.Saying.{Counts}
use Rattle.cfn_app.specs.Runs.Costing.{CostSays, CostStatus}
use Rattle.cfn_app.proofs.Counting.{by, counted, ends_idle, hindered, unheard, by_due, one_more}
use Rattle.cfn_app.proofs.Files.{same_bytes, read_refused, read_one, fits_length, misfit_fits}

module _ (ask : CostRequest) (old new : Outside) (status : Status) (same : new.files ≡ old.files) where
  says_priced : (bytes : List ℕ) (P : Network) → HasFile old ask.file bytes → ReadsAs ask.format bytes P → Prices P ask.values (loaded ask.file bytes old.calls) new.calls status → CostSays ask old new status
  says_priced bytes P has reads (costing.costs fits ends) = by (CostSays ask old new) _ new.calls status ends (λ calls. (bytes, P, has, reads, fits, (calls, same))) tt
  says_priced bytes P has reads (costing.wrong_number other ends) = by (CostSays ask old new) _ new.calls status ends (λ calls. inr (bytes, P, has, reads, inl (other, (calls, same)))) tt
  says_priced bytes P has reads (costing.wrong_value x misfit ends) = by (CostSays ask old new) _ new.calls status ends (λ calls. inr (bytes, P, has, reads, inr (x, misfit, (calls, same)))) tt

  says_cost : Costs ask old new.calls status → CostSays ask old new status
  says_cost (costing.unloaded (loading.unread ends)) = by (CostSays ask old new) _ new.calls status ends (λ calls. tt) tt
  says_cost (costing.unloaded (loading.no_memory ends)) = by (CostSays ask old new) _ new.calls status ends (λ calls. (_, (calls, same))) tt
  says_cost (costing.unread bytes has (loading.refused refusal refuses ends)) = by (CostSays ask old new) _ new.calls status ends (λ calls. inl (bytes, refusal, has, refuses, (calls, same))) tt
  says_cost (costing.unread bytes has (loading.no_memory ends)) = by (CostSays ask old new) _ new.calls status ends (λ calls. (_, (calls, same))) tt
  says_cost (costing.priced bytes P has reads prices) = says_priced bytes P has reads prices

  says_refused : (bytes : List ℕ) (refusal : FirstUnread) → Tells old ask.file bytes → RefusesAs ask.format bytes refusal → Costs ask old new.calls status → (status ≡ Refused) ⊎ IsHindered status
  says_refused bytes refusal told refuses (costing.unloaded (loading.unread ends)) = by_due Refused _ new.calls status ends (inr (inl refl))
  says_refused bytes refusal told refuses (costing.unloaded (loading.no_memory ends)) = by_due Refused _ new.calls status ends (inr (inr refl))
  says_refused bytes refusal told refuses (costing.unread other has (loading.refused r also ends)) = by_due Refused _ new.calls status ends (inl refl)
  says_refused bytes refusal told refuses (costing.unread other has (loading.no_memory ends)) = by_due Refused _ new.calls status ends (inr (inr refl))
  says_refused bytes refusal told refuses (costing.priced other P has reads prices) =
      absurd (read_refused ask.format other bytes P refusal (same_bytes old ask.file other bytes told has) reads refuses)

  -- an assignment that fits, and one that does not
  fitting : (P Q : Network) (calls : List Call) → Q ≡ P → Fits P.sizes ask.values → Prices Q ask.values calls new.calls status → (status ≡ Done) ⊎ IsHindered status
  fitting P Q calls is fits (costing.costs also ends) = by_due Done _ new.calls status ends (inl refl)
  fitting P Q calls is fits (costing.wrong_number other ends) = absurd (other (fits_length Q.sizes ask.values (subst (λ N. Fits N.sizes ask.values) (sym is) fits)))
  fitting P Q calls is fits (costing.wrong_value x misfit ends) = absurd (misfit_fits Q.sizes ask.values x misfit (subst (λ N. Fits N.sizes ask.values) (sym is) fits))

  misfitting : (P Q : Network) (calls : List Call) → Q ≡ P → (Fits P.sizes ask.values → ⊥) → Prices Q ask.values calls new.calls status → (status ≡ Refused) ⊎ IsHindered status
  misfitting P Q calls is misfits (costing.costs fits ends) = absurd (misfits (subst (λ N. Fits N.sizes ask.values) is fits))
  misfitting P Q calls is misfits (costing.wrong_number other ends) = by_due Refused _ new.calls status ends (inl refl)
  misfitting P Q calls is misfits (costing.wrong_value x misfit ends) = by_due Refused _ new.calls status ends (inl refl)

  module _ (wanted : Status) (bytes : List ℕ) (P : Network) (told : Tells old ask.file bytes) (reads : ReadsAs ask.format bytes P) (priced : (Q : Network) (calls : List Call) → Q ≡ P → Prices Q ask.values calls new.calls status → (status ≡ wanted) ⊎ IsHindered status) where
    says_judged : Costs ask old new.calls status → (status ≡ wanted) ⊎ IsHindered status
    says_judged (costing.unloaded (loading.unread ends)) = by_due wanted _ new.calls status ends (inr (inl refl))
    says_judged (costing.unloaded (loading.no_memory ends)) = by_due wanted _ new.calls status ends (inr (inr refl))
    says_judged (costing.unread other has (loading.refused refusal refuses ends)) =
        absurd (read_refused ask.format bytes other P refusal (sym (same_bytes old ask.file other bytes told has)) reads refuses)
    says_judged (costing.unread other has (loading.no_memory ends)) = by_due wanted _ new.calls status ends (inr (inr refl))
    says_judged (costing.priced other Q has also prices) = priced Q _ (read_one ask.format other bytes Q P (same_bytes old ask.file other bytes told has) also reads) prices

  -- memory was refused before the words were understood
  pub cost_unheard : Ends (unheard old) new.calls status → CostStatus ask old new status
  cost_unheard ends = record {
    says = by (CostSays ask old new) _ new.calls status ends (λ calls. (_, (calls, same))) tt;
    refused = (λ bytes refusal told refuses. inr (hindered old new status ends));
    costed = (λ bytes P told reads fits. inr (hindered old new status ends));
    misfits = (λ bytes P told reads misfits. inr (hindered old new status ends));
  }

  pub cost_status : Costs ask old new.calls status → CostStatus ask old new status
  cost_status costs = record {
    says = says_cost costs;
    refused = (λ bytes refusal told refuses. says_refused bytes refusal told refuses costs);
    costed = (λ bytes P told reads fits. says_judged Done bytes P told reads (λ Q calls is prices. fitting P Q calls is fits prices) costs);
    misfits = (λ bytes P told reads misfits. says_judged Refused bytes P told reads (λ Q calls is prices. misfitting P Q calls is misfits prices) costs);
  }

  pub cost_counts : Costs ask old new.calls status → Counts old.calls new.calls status
  cost_counts (costing.unloaded (loading.unread ends)) = counted old.calls _ new.calls status ends (one_more old.calls)
  cost_counts (costing.unloaded (loading.no_memory ends)) = counted old.calls _ new.calls status ends refl
  cost_counts (costing.unread bytes has (loading.refused refusal refuses ends)) = counted old.calls _ new.calls status ends refl
  cost_counts (costing.unread bytes has (loading.no_memory ends)) = counted old.calls _ new.calls status ends refl
  cost_counts (costing.priced bytes P has reads (costing.costs fits ends)) = counted old.calls _ new.calls status ends refl
  cost_counts (costing.priced bytes P has reads (costing.wrong_number other ends)) = counted old.calls _ new.calls status ends refl
  cost_counts (costing.priced bytes P has reads (costing.wrong_value x misfit ends)) = counted old.calls _ new.calls status ends refl

  pub cost_idle : Costs ask old new.calls status → IsIdle old.calls → IsIdle new.calls
  cost_idle (costing.unloaded (loading.unread ends)) idle = ends_idle _ new.calls status ends idle
  cost_idle (costing.unloaded (loading.no_memory ends)) idle = ends_idle _ new.calls status ends idle
  cost_idle (costing.unread bytes has (loading.refused refusal refuses ends)) idle = ends_idle _ new.calls status ends idle
  cost_idle (costing.unread bytes has (loading.no_memory ends)) idle = ends_idle _ new.calls status ends idle
  cost_idle (costing.priced bytes P has reads (costing.costs fits ends)) idle = ends_idle _ new.calls status ends idle
  cost_idle (costing.priced bytes P has reads (costing.wrong_number other ends)) idle = ends_idle _ new.calls status ends idle
  cost_idle (costing.priced bytes P has reads (costing.wrong_value x misfit ends)) idle = ends_idle _ new.calls status ends idle
