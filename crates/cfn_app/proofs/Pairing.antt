-- Two files that were loaded, and a run that ends where they were not.
use Rattle.std.proofs.Common.{◌≡◌, ◌⊎◌, inl, inr, ℕ, List, ◌∷◌, refl, sym, ap, ◌∙◌, subst}
use Rattle.std.specs.Prelude.{Result, Ok, Err, IfErr, IsErrAnd}
use Rattle.cfn_wcnf.specs.declared.fault.Unread.{Unread as FirstUnread}
use Rattle.cfn_model.specs.Network.{Network}
use Rattle.cfn_model.specs.Text.{memory_fault_text}
use Rattle.cfn_desk.specs.Outside.{Outside, Call, Load, Bytes, HasFile, IsIdle, after, faults, says, written}
use Rattle.cfn_cli.specs.declared.format.Format.{Format}
use Rattle.cfn_app.specs.declared.status.Status.{Status}
use Rattle.cfn_app.specs.declared.status.Status.TheVariants.{Refused, Fault, NoMemory}
use Rattle.cfn_app.specs.Endings.{IsHindered}
use Rattle.cfn_app.specs.Loading.{ReadsAs, RefusesAs, Unloaded, Unread, Paired, Unpaired, Tells, loaded, unread_text}
use Rattle.cfn_app.specs.Loading as loading
use Rattle.cfn_app.specs.Saying.{Counts}
use Rattle.cfn_app.proofs.Counting.{by, counted, ends_idle, one_more}
use Rattle.cfn_app.proofs.Files.{same_bytes, read_refused}

-- an end that is passed on
pub passed_on : {T : Type 0} (r : Result T Status) (ends : Status) (F : Status → Type 0) → IsErrAnd r (λ status. status ≡ ends) → F ends → IfErr r F
passed_on (Ok x) ends F is holds = tt
passed_on (Err status) ends F is holds = subst F (sym is) holds

module _ (format : Format) (file certificate : List ℕ) (old : Outside) where
  -- both were loaded, or not
  pub were_paired : (first second last : Outside) (bytes text : List ℕ) (P : Network) → HasFile old file bytes → first ≡ after (Load file (Bytes bytes)) old → HasFile first certificate text → second ≡ after (Load certificate (Bytes text)) first → ReadsAs format bytes P → last ≡ second → Paired format file certificate old P text last
  were_paired first second last bytes text P has at certified also reads same = record {
    bytes = bytes;
    has = has;
    certified = subst (λ o. HasFile o certificate text) at certified;
    reads = reads;
    calls = ap (λ o. o.calls) same ∙ ap (λ o. o.calls) also ∙ ap (λ o. Load certificate (Bytes text) ∷ o.calls) at;
    files = ap (λ o. o.files) same ∙ ap (λ o. o.files) also ∙ ap (λ o. o.files) at;
  }

  pub not_certified : (first : Outside) (now : List Call) (status : Status) (bytes : List ℕ) → HasFile old file bytes → first ≡ after (Load file (Bytes bytes)) old → Unloaded certificate first.calls now status → Unpaired format file certificate old now status
  not_certified first now status bytes has at unloaded = loading.uncertified bytes has (subst (λ (cs : List Call). Unloaded certificate cs now status) (ap (λ o. o.calls) at) unloaded)

  pub not_legible : (first second : Outside) (now : List Call) (status : Status) (bytes text : List ℕ) → HasFile old file bytes → first ≡ after (Load file (Bytes bytes)) old → HasFile first certificate text → second ≡ after (Load certificate (Bytes text)) first → Unread format bytes second.calls now status → Unpaired format file certificate old now status
  not_legible first second now status bytes text has at certified also unread =
      loading.illegible bytes text has (subst (λ o. HasFile o certificate text) at certified)
      (subst (λ (cs : List Call). Unread format bytes cs now status) (ap (λ o. o.calls) also ∙ ap (λ o. Load certificate (Bytes text) ∷ o.calls) at) unread)

  -- after they were loaded no more calls have failed, and no file is being written
  pub pair_faults : (P : Network) (text : List ℕ) (middle : Outside) → Paired format file certificate old P text middle → faults middle.calls ≡ faults old.calls
  pair_faults P text middle paired = ap faults paired.calls

  pub pair_idle : (P : Network) (text : List ℕ) (middle : Outside) → Paired format file certificate old P text middle → IsIdle old.calls → IsIdle middle.calls
  pair_idle P text middle paired idle = ap written paired.calls ∙ idle

module _ (format : Format) (file certificate : List ℕ) (old : Outside) (now : List Call) (status : Status) where
  -- what holds of a fault, of memory that was refused, and of a file that was refused holds of such a run's status
  pub unpaired_by : (F : Status → Type 0) → F Fault → ((calls : List Call) → now ≡ says memory_fault_text calls → F NoMemory)
      → ((bytes text : List ℕ) (refusal : FirstUnread) → HasFile old file bytes → HasFile old certificate text → RefusesAs format bytes refusal → now ≡ says (unread_text refusal) (loaded certificate text (loaded file bytes old.calls)) → F Refused)
      → Unpaired format file certificate old now status → F status
  unpaired_by F fault late refused (loading.unloaded (loading.unread ends)) = by F _ now status ends (λ calls. fault) fault
  unpaired_by F fault late refused (loading.unloaded (loading.no_memory ends)) = by F _ now status ends (λ calls. late _ calls) fault
  unpaired_by F fault late refused (loading.uncertified bytes has (loading.unread ends)) = by F _ now status ends (λ calls. fault) fault
  unpaired_by F fault late refused (loading.uncertified bytes has (loading.no_memory ends)) = by F _ now status ends (λ calls. late _ calls) fault
  unpaired_by F fault late refused (loading.illegible bytes text has certified (loading.refused refusal refuses ends)) = by F _ now status ends (λ calls. refused bytes text refusal has certified refuses calls) fault
  unpaired_by F fault late refused (loading.illegible bytes text has certified (loading.no_memory ends)) = by F _ now status ends (λ calls. late _ calls) fault

  -- it ends so where the file is refused, and else it was hindered
  pub unpaired_refused : Unpaired format file certificate old now status → (status ≡ Refused) ⊎ IsHindered status
  unpaired_refused unpaired = unpaired_by (λ s. (s ≡ Refused) ⊎ IsHindered s) (inr (inl refl)) (λ calls is. inr (inr refl)) (λ bytes text refusal has certified refuses is. inl refl) unpaired

  pub unpaired_hindered : (wanted : Status) (bytes : List ℕ) (P : Network) → Tells old file bytes → ReadsAs format bytes P → Unpaired format file certificate old now status → (status ≡ wanted) ⊎ IsHindered status
  unpaired_hindered wanted bytes P told reads unpaired =
      unpaired_by (λ s. (s ≡ wanted) ⊎ IsHindered s) (inr (inl refl)) (λ calls is. inr (inr refl))
      (λ other text refusal has certified refuses is. absurd (read_refused format bytes other P refusal (sym (same_bytes old file other bytes told has)) reads refuses)) unpaired

  pub unpaired_counts : Unpaired format file certificate old now status → Counts old.calls now status
  unpaired_counts (loading.unloaded (loading.unread ends)) = counted old.calls _ now status ends (one_more old.calls)
  unpaired_counts (loading.unloaded (loading.no_memory ends)) = counted old.calls _ now status ends refl
  unpaired_counts (loading.uncertified bytes has (loading.unread ends)) = counted old.calls _ now status ends (one_more old.calls)
  unpaired_counts (loading.uncertified bytes has (loading.no_memory ends)) = counted old.calls _ now status ends refl
  unpaired_counts (loading.illegible bytes text has certified (loading.refused refusal refuses ends)) = counted old.calls _ now status ends refl
  unpaired_counts (loading.illegible bytes text has certified (loading.no_memory ends)) = counted old.calls _ now status ends refl

  pub unpaired_idle : Unpaired format file certificate old now status → IsIdle old.calls → IsIdle now
  unpaired_idle (loading.unloaded (loading.unread ends)) idle = ends_idle _ now status ends idle
  unpaired_idle (loading.unloaded (loading.no_memory ends)) idle = ends_idle _ now status ends idle
  unpaired_idle (loading.uncertified bytes has (loading.unread ends)) idle = ends_idle _ now status ends idle
  unpaired_idle (loading.uncertified bytes has (loading.no_memory ends)) idle = ends_idle _ now status ends idle
  unpaired_idle (loading.illegible bytes text has certified (loading.refused refusal refuses ends)) idle = ends_idle _ now status ends idle
  unpaired_idle (loading.illegible bytes text has certified (loading.no_memory ends)) idle = ends_idle _ now status ends idle
