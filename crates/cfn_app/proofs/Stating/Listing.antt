-- What each status of `kbest` says, from how a run of it ends.
use Rattle.std.proofs.Common.{◌≡◌, ◌⊎◌, inl, inr, ℕ, suc, ◌<◌, true, List, [], ◌∷◌, length, refl, sym, ap, ◌∙◌, arith}
use Rattle.cfn_wcnf.specs.declared.fault.Unread.{Unread as FirstUnread}
use Rattle.cfn_model.specs.Network.{Network}
use Rattle.cfn_model.specs.Certificate.{Solution}
use Rattle.cfn_best.specs.List.{ListCertificate}
use Rattle.cfn_ranking.specs.declared.word.ListWord.{ListWord}
use Rattle.cfn_ranking.specs.declared.word.ListWord.TheVariants as words
use Rattle.cfn_ranking.specs.Certificates.{spelling}
use Rattle.cfn_certwrite.specs.ListTexts.{list_report}
use Rattle.cfn_desk.specs.Outside.{Outside, Call, Load, Open, Bytes, HasFile, IsIdle, after, faults, says}
use Rattle.cfn_cli.specs.Request.Listing.{KBestRequest}
use Rattle.cfn_app.specs.declared.status.Status.{Status}
use Rattle.cfn_app.specs.declared.status.Status.TheVariants.{Refused}
use Rattle.cfn_app.specs.Endings.{Ending, Ends, IsHindered, Outputs}
use Rattle.cfn_app.specs.Endings as endings
use Rattle.cfn_app.specs.Loading.{ReadsAs, RefusesAs, Tells, loaded}
use Rattle.cfn_app.specs.Loading as loading
use Rattle.cfn_app.specs.Runs.Solving.{IsReported}
use Rattle.cfn_app.specs.Runs.Listing.{Lists, ListsBest, PromisesList, ListedBest, KBestSays, KBestStatus, list_status, status_when_complete}
use Rattle.cfn_app.specs.Runs.Listing as listing
use Rattle.cfn_app.specs.Saying.{Counts}
use Rattle.cfn_app.proofs.Counting.{by, counted, ends_idle, hindered, unheard, by_due, one_more}
use Rattle.cfn_app.proofs.Writing.{stored_at, output_counts, output_idle}
use Rattle.cfn_app.proofs.Files.{same_bytes, read_refused}

module _ (ask : KBestRequest) (old new : Outside) where
  reported_complete : (found : ListedBest ask old new words.Complete) (list : List Solution) → found.certificate.list ≡ list → KBestSays ask old new (status_when_complete list)
  reported_complete found [] is = (found, is)
  reported_complete found (s ∷ list) is = let long : length found.certificate.list ≡ suc (length list) = ap length is in (found, omega (arith, long))

  reported : (word : ListWord) (found : ListedBest ask old new word) → KBestSays ask old new (list_status word found.certificate.list)
  reported words.Complete found = reported_complete found found.certificate.list refl
  reported words.Budget found = inl found
  reported words.Time found = inr found
  reported words.Memory found = inr found

  module _ (status : Status) where
    says_output : (bytes : List ℕ) (P : Network) (spent : ℕ) (c : ListCertificate) (word : ListWord) → HasFile old ask.file bytes → ReadsAs ask.format bytes P → PromisesList P ask spent c word →
        Outputs (spelling c) (list_report c word) (list_status word c.list) (after (Open ask.certificate true) (after (Load ask.file (Bytes bytes)) old)) new status → KBestSays ask old new status
    says_output bytes P spent c word has reads promise (endings.unwritten middle not same ends) = by (KBestSays ask old new) _ new.calls status ends (λ calls. tt) tt
    says_output bytes P spent c word has reads promise (endings.wrote middle wrote same ends) = by (KBestSays ask old new) _ new.calls status ends (λ calls. reported word (record {
      bytes = bytes;
      network = P;
      spent = spent;
      certificate = c;
      file = has;
      reads = reads;
      promise = promise;
      stored = stored_at old new ask.certificate (spelling c) (loaded ask.file bytes old.calls) middle same wrote.stored;
      calls = calls ∙ ap (says (list_report c word)) wrote.calls;
    })) tt

    says_lists : (bytes : List ℕ) (P : Network) → HasFile old ask.file bytes → ReadsAs ask.format bytes P → Lists P ask (after (Load ask.file (Bytes bytes)) old) new status → KBestSays ask old new status
    says_lists bytes P has reads (listing.unopened same ends) = by (KBestSays ask old new) _ new.calls status ends (λ calls. tt) tt
    says_lists bytes P has reads (listing.no_memory same ends) = by (KBestSays ask old new) _ new.calls status ends (λ calls. inl (_, (calls, same))) tt
    says_lists bytes P has reads (listing.listed spent c word promise out) = says_output bytes P spent c word has reads promise out

    says_best : ListsBest ask old new status → KBestSays ask old new status
    says_best (listing.unloaded same (loading.unread ends)) = by (KBestSays ask old new) _ new.calls status ends (λ calls. tt) tt
    says_best (listing.unloaded same (loading.no_memory ends)) = by (KBestSays ask old new) _ new.calls status ends (λ calls. inl (_, (calls, same))) tt
    says_best (listing.unread bytes has same (loading.refused refusal refuses ends)) = by (KBestSays ask old new) _ new.calls status ends (λ calls. (bytes, refusal, has, refuses, (calls, same))) tt
    says_best (listing.unread bytes has same (loading.no_memory ends)) = by (KBestSays ask old new) _ new.calls status ends (λ calls. inl (_, (calls, same))) tt
    says_best (listing.read bytes P has reads lists) = says_lists bytes P has reads lists

    says_refused : (bytes : List ℕ) (refusal : FirstUnread) → Tells old ask.file bytes → RefusesAs ask.format bytes refusal → ListsBest ask old new status → (status ≡ Refused) ⊎ IsHindered status
    says_refused bytes refusal told refuses (listing.unloaded same (loading.unread ends)) = by_due Refused _ new.calls status ends (inr (inl refl))
    says_refused bytes refusal told refuses (listing.unloaded same (loading.no_memory ends)) = by_due Refused _ new.calls status ends (inr (inr refl))
    says_refused bytes refusal told refuses (listing.unread other has same (loading.refused r also ends)) = by_due Refused _ new.calls status ends (inl refl)
    says_refused bytes refusal told refuses (listing.unread other has same (loading.no_memory ends)) = by_due Refused _ new.calls status ends (inr (inr refl))
    says_refused bytes refusal told refuses (listing.read other P has reads lists) =
        absurd (read_refused ask.format other bytes P refusal (same_bytes old ask.file other bytes told has) reads refuses)

    -- a file that reads as a network
    by_result : (due : Ending) → Ends due new.calls status → IsReported due.status ⊎ IsHindered due.status → IsReported status ⊎ IsHindered status
    by_result due ends is = by (λ s. IsReported s ⊎ IsHindered s) due new.calls status ends (λ calls. is) (inr (inl refl))

    complete_reported : (list : List Solution) → IsReported (status_when_complete list) ⊎ IsHindered (status_when_complete list)
    complete_reported [] = inl (inr (inl refl))
    complete_reported (s ∷ list) = inl (inl refl)

    word_reported : (word : ListWord) (list : List Solution) → IsReported (list_status word list) ⊎ IsHindered (list_status word list)
    word_reported words.Complete list = complete_reported list
    word_reported words.Budget list = inl (inr (inr refl))
    word_reported words.Time list = inl (inr (inr refl))
    word_reported words.Memory list = inr (inr refl)

    lists_reported : (P : Network) (before : Outside) → Lists P ask before new status → IsReported status ⊎ IsHindered status
    lists_reported P before (listing.unopened same ends) = by_result _ ends (inr (inl refl))
    lists_reported P before (listing.no_memory same ends) = by_result _ ends (inr (inr refl))
    lists_reported P before (listing.listed spent c word promise (endings.unwritten middle not same ends)) = by_result _ ends (inr (inl refl))
    lists_reported P before (listing.listed spent c word promise (endings.wrote middle wrote same ends)) = by_result _ ends (word_reported word c.list)

    says_listed : (bytes : List ℕ) (P : Network) → Tells old ask.file bytes → ReadsAs ask.format bytes P → ListsBest ask old new status → IsReported status ⊎ IsHindered status
    says_listed bytes P told reads (listing.unloaded same (loading.unread ends)) = by_result _ ends (inr (inl refl))
    says_listed bytes P told reads (listing.unloaded same (loading.no_memory ends)) = by_result _ ends (inr (inr refl))
    says_listed bytes P told reads (listing.unread other has same (loading.refused refusal refuses ends)) =
        absurd (read_refused ask.format bytes other P refusal (sym (same_bytes old ask.file other bytes told has)) reads refuses)
    says_listed bytes P told reads (listing.unread other has same (loading.no_memory ends)) = by_result _ ends (inr (inr refl))
    says_listed bytes P told reads (listing.read other Q has also lists) = lists_reported Q _ lists

    -- memory was refused before the words were understood
    pub k_best_unheard : new.files ≡ old.files → Ends (unheard old) new.calls status → KBestStatus ask old new status
    k_best_unheard same ends = record {
      says = by (KBestSays ask old new) _ new.calls status ends (λ calls. inl (_, (calls, same))) tt;
      refused = (λ bytes refusal told refuses. inr (hindered old new status ends));
      listed = (λ bytes P told reads. inr (hindered old new status ends));
    }

    pub k_best_status : ListsBest ask old new status → KBestStatus ask old new status
    k_best_status lists = record {
      says = says_best lists;
      refused = (λ bytes refusal told refuses. says_refused bytes refusal told refuses lists);
      listed = (λ bytes P told reads. says_listed bytes P told reads lists);
    }

    -- the count of failed calls
    complete_counts : (before now : List Call) (list : List Solution) → faults now ≡ faults before → Counts before now (status_when_complete list)
    complete_counts before now [] same = same
    complete_counts before now (s ∷ list) same = same

    word_counts : (before now : List Call) (word : ListWord) (list : List Solution) → faults now ≡ faults before → Counts before now (list_status word list)
    word_counts before now words.Complete list same = complete_counts before now list same
    word_counts before now words.Budget list same = same
    word_counts before now words.Time list same = same
    word_counts before now words.Memory list same = same

    lists_counts : (P : Network) (start : List Call) (before : Outside) → faults before.calls ≡ faults start → Lists P ask before new status → Counts start new.calls status
    lists_counts P start before same (listing.unopened also ends) = counted start _ new.calls status ends (let more : faults start < suc (faults before.calls) = omega (arith, same) in more)
    lists_counts P start before same (listing.no_memory also ends) = counted start _ new.calls status ends same
    lists_counts P start before same (listing.listed spent c word promise out) = output_counts _ new (spelling c) _ (list_status word c.list) status start same (λ now. word_counts start now word c.list) out

    lists_idle : (P : Network) (before : Outside) → Lists P ask before new status → IsIdle new.calls
    lists_idle P before (listing.unopened also ends) = ends_idle _ new.calls status ends refl
    lists_idle P before (listing.no_memory also ends) = ends_idle _ new.calls status ends refl
    lists_idle P before (listing.listed spent c word promise out) = output_idle _ new (spelling c) _ (list_status word c.list) status out

    pub k_best_counts : ListsBest ask old new status → Counts old.calls new.calls status
    k_best_counts (listing.unloaded same (loading.unread ends)) = counted old.calls _ new.calls status ends (one_more old.calls)
    k_best_counts (listing.unloaded same (loading.no_memory ends)) = counted old.calls _ new.calls status ends refl
    k_best_counts (listing.unread bytes has same (loading.refused refusal refuses ends)) = counted old.calls _ new.calls status ends refl
    k_best_counts (listing.unread bytes has same (loading.no_memory ends)) = counted old.calls _ new.calls status ends refl
    k_best_counts (listing.read bytes P has reads lists) = lists_counts P old.calls _ refl lists

    pub k_best_idle : ListsBest ask old new status → IsIdle old.calls → IsIdle new.calls
    k_best_idle (listing.unloaded same (loading.unread ends)) idle = ends_idle _ new.calls status ends idle
    k_best_idle (listing.unloaded same (loading.no_memory ends)) idle = ends_idle _ new.calls status ends idle
    k_best_idle (listing.unread bytes has same (loading.refused refusal refuses ends)) idle = ends_idle _ new.calls status ends idle
    k_best_idle (listing.unread bytes has same (loading.no_memory ends)) idle = ends_idle _ new.calls status ends idle
    k_best_idle (listing.read bytes P has reads lists) idle = lists_idle P _ lists
