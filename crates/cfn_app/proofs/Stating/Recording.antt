-- What each status of `solve` with a record says, from how a run of it ends.
use Rattle.std.proofs.Common.{◌≡◌, ◌⊎◌, inl, inr, ℕ, suc, ◌<◌, true, List, refl, sym, ap, ◌∙◌, subst, arith}
use Rattle.cfn_model.specs.declared.report.Row.{Row}
use Rattle.cfn_model.specs.declared.report.ResultWord.{ResultWord}
use Rattle.cfn_model.specs.declared.report.ResultWord.TheVariants as words
use Rattle.cfn_wcnf.specs.declared.fault.Unread.{Unread as FirstUnread}
use Rattle.cfn_model.specs.Network.{Network}
use Rattle.cfn_model.specs.Certificate.{Certificate}
use Rattle.cfn_model.specs.Text.{spelling, report}
use Rattle.cfn_record.specs.Lines.{Record}
use Rattle.cfn_certwrite.specs.Records as records
use Rattle.cfn_desk.specs.Outside.{Outside, Call, Load, Open, Bytes, HasFile, IsIdle, after, faults, says, written}
use Rattle.cfn_cli.specs.Request.Recording.{RecordedRequest}
use Rattle.cfn_low.specs.Outcome.{fresh}
use Rattle.cfn_app.specs.declared.status.Status.{Status}
use Rattle.cfn_app.specs.declared.status.Status.TheVariants.{Refused}
use Rattle.cfn_app.specs.Endings.{Ends, IsHindered, Outputs, Wrote}
use Rattle.cfn_app.specs.Endings as endings
use Rattle.cfn_app.specs.Headline.{Promise}
use Rattle.cfn_app.specs.Loading.{ReadsAs, RefusesAs, Tells, loaded}
use Rattle.cfn_app.specs.Loading as loading
use Rattle.cfn_app.specs.Saying.{Counts}
use Rattle.cfn_app.specs.Runs.Solving.{IsReported, limits_of, status_of}
use Rattle.cfn_app.specs.Runs.Recording.{Certified, IsRecordOf, OutputsBoth, PutsRecord, Recorded, RecordedSays, RecordedStatus, Records, SearchesRecorded}
use Rattle.cfn_app.specs.Runs.Recording as recording
use Rattle.cfn_app.proofs.Causes.{none_others}
use Rattle.cfn_app.proofs.Counting.{by, counted, ends_idle, hindered, unheard, by_due, one_more}
use Rattle.cfn_app.proofs.Files.{same_bytes, read_refused}
use Rattle.cfn_app.proofs.Stating.Solving.{by_result, word_counts, word_reported}
use Rattle.cfn_app.proofs.Writing.{stored_at, not_written_counts, not_written_idle, output_counts, output_idle, wrote_counts}

module _ (ask : RecordedRequest) (old new : Outside) where
  reported : (word : ResultWord) → Recorded ask old new word → RecordedSays ask old new (status_of word)
  reported words.Optimum done = done
  reported words.Nothing done = done
  reported words.Budget done = inl done
  reported words.Time done = inr done
  reported words.Part done = absurd (none_others done.certified.certificate.tree (done.certified.promise.causes.left_to_others.0 refl))
  reported words.Memory done = inr done

  -- ---- a network that was searched

  module _ (status : Status) (bytes : List ℕ) (P : Network) (has : HasFile old ask.solve.file bytes) (reads : ReadsAs ask.solve.format bytes P)
      (nodes : ℕ) (c : Certificate) (rows : List Row) (word : ResultWord) (promise : Promise P (fresh P) (limits_of ask.solve) nodes c rows word) where
    abbrev start : Outside
    start = after (Open ask.solve.certificate true) (after (Load ask.solve.file (Bytes bytes)) old)

    abbrev certified : (middle : Outside) → Wrote (spelling c) start middle → Certified ask old word middle
    certified middle wrote = record {
      bytes = bytes;
      network = P;
      nodes = nodes;
      certificate = c;
      rows = rows;
      file = has;
      reads = reads;
      promise = promise;
      stored = stored_at old middle ask.solve.certificate (spelling c) (loaded ask.solve.file bytes old.calls) middle refl wrote.stored;
      calls = wrote.calls;
    }

    says_record : (middle : Outside) (r : Record) → Wrote (spelling c) start middle → IsRecordOf P ask.solve.budget c r → PutsRecord ask.recording (records.spelling r) (report ask.solve.workers c rows nodes word) (status_of word) middle new status → RecordedSays ask old new status
    says_record middle r wrote is (recording.unopened same ends) = by (RecordedSays ask old new) _ new.calls status ends (λ calls. tt) tt
    says_record middle r wrote is (recording.put_out (endings.unwritten last not same ends)) = by (RecordedSays ask old new) _ new.calls status ends (λ calls. tt) tt
    says_record middle r wrote is (recording.put_out (endings.wrote last behind same ends)) = by (RecordedSays ask old new) _ new.calls status ends (λ calls. reported word (record {
      middle = middle;
      certified = certified middle wrote;
      recording = r;
      is = is;
      stored = stored_at middle new ask.recording (records.spelling r) middle.calls last same behind.stored;
      calls = calls ∙ ap (says (report ask.solve.workers c rows nodes word)) behind.calls;
    })) tt

    says_both : (r : Record) → IsRecordOf P ask.solve.budget c r → OutputsBoth (spelling c) ask.recording (records.spelling r) (report ask.solve.workers c rows nodes word) (status_of word) start new status → RecordedSays ask old new status
    says_both r is (recording.unwritten middle not same ends) = by (RecordedSays ask old new) _ new.calls status ends (λ calls. tt) tt
    says_both r is (recording.wrote middle wrote puts) = says_record middle r wrote is puts

  -- ---- all runs

  module _ (status : Status) where
    says_records : Records ask old new status → RecordedSays ask old new status
    says_records (recording.unloaded same (loading.unread ends)) = by (RecordedSays ask old new) _ new.calls status ends (λ calls. tt) tt
    says_records (recording.unloaded same (loading.no_memory ends)) = by (RecordedSays ask old new) _ new.calls status ends (λ calls. inl (_, (calls, same))) tt
    says_records (recording.unread bytes has same (loading.refused refusal refuses ends)) = by (RecordedSays ask old new) _ new.calls status ends (λ calls. (bytes, refusal, has, refuses, (calls, same))) tt
    says_records (recording.unread bytes has same (loading.no_memory ends)) = by (RecordedSays ask old new) _ new.calls status ends (λ calls. inl (_, (calls, same))) tt
    says_records (recording.read bytes P has reads (recording.unbegun same ends)) = by (RecordedSays ask old new) _ new.calls status ends (λ calls. inl (_, (calls, same))) tt
    says_records (recording.read bytes P has reads (recording.unopened same ends)) = by (RecordedSays ask old new) _ new.calls status ends (λ calls. tt) tt
    says_records (recording.read bytes P has reads (recording.no_memory same ends)) = by (RecordedSays ask old new) _ new.calls status ends (λ calls. inl (_, (calls, same))) tt
    says_records (recording.read bytes P has reads (recording.searched nodes c rows word r promise is out)) = says_both status bytes P has reads nodes c rows word promise r is out

    says_refused : (bytes : List ℕ) (refusal : FirstUnread) → Tells old ask.solve.file bytes → RefusesAs ask.solve.format bytes refusal → Records ask old new status → (status ≡ Refused) ⊎ IsHindered status
    says_refused bytes refusal told refuses (recording.unloaded same (loading.unread ends)) = by_due Refused _ new.calls status ends (inr (inl refl))
    says_refused bytes refusal told refuses (recording.unloaded same (loading.no_memory ends)) = by_due Refused _ new.calls status ends (inr (inr refl))
    says_refused bytes refusal told refuses (recording.unread other has same (loading.refused r also ends)) = by_due Refused _ new.calls status ends (inl refl)
    says_refused bytes refusal told refuses (recording.unread other has same (loading.no_memory ends)) = by_due Refused _ new.calls status ends (inr (inr refl))
    says_refused bytes refusal told refuses (recording.read other P has reads search) =
        absurd (read_refused ask.solve.format other bytes P refusal (same_bytes old ask.solve.file other bytes told has) reads refuses)

    -- a file that reads as a network
    both_reported : (certificate name record_text report_text : List ℕ) (word : ResultWord) (before : Outside) → OutputsBoth certificate name record_text report_text (status_of word) before new status → IsReported status ⊎ IsHindered status
    both_reported certificate name record_text report_text word before (recording.unwritten middle not same ends) = by_result ask.solve old new status _ ends (inr (inl refl))
    both_reported certificate name record_text report_text word before (recording.wrote middle wrote (recording.unopened same ends)) = by_result ask.solve old new status _ ends (inr (inl refl))
    both_reported certificate name record_text report_text word before (recording.wrote middle wrote (recording.put_out (endings.unwritten last not same ends))) = by_result ask.solve old new status _ ends (inr (inl refl))
    both_reported certificate name record_text report_text word before (recording.wrote middle wrote (recording.put_out (endings.wrote last behind same ends))) = by_result ask.solve old new status _ ends (word_reported ask.solve old new status word)

    says_solved : (bytes : List ℕ) (P : Network) → Tells old ask.solve.file bytes → ReadsAs ask.solve.format bytes P → Records ask old new status → IsReported status ⊎ IsHindered status
    says_solved bytes P told reads (recording.unloaded same (loading.unread ends)) = by_result ask.solve old new status _ ends (inr (inl refl))
    says_solved bytes P told reads (recording.unloaded same (loading.no_memory ends)) = by_result ask.solve old new status _ ends (inr (inr refl))
    says_solved bytes P told reads (recording.unread other has same (loading.refused refusal refuses ends)) =
        absurd (read_refused ask.solve.format bytes other P refusal (sym (same_bytes old ask.solve.file other bytes told has)) reads refuses)
    says_solved bytes P told reads (recording.unread other has same (loading.no_memory ends)) = by_result ask.solve old new status _ ends (inr (inr refl))
    says_solved bytes P told reads (recording.read other Q has also (recording.unbegun same ends)) = by_result ask.solve old new status _ ends (inr (inr refl))
    says_solved bytes P told reads (recording.read other Q has also (recording.unopened same ends)) = by_result ask.solve old new status _ ends (inr (inl refl))
    says_solved bytes P told reads (recording.read other Q has also (recording.no_memory same ends)) = by_result ask.solve old new status _ ends (inr (inr refl))
    says_solved bytes P told reads (recording.read other Q has also (recording.searched nodes c rows word r promise is out)) = both_reported _ _ _ _ word _ out

    -- memory was refused before the words were understood
    pub recorded_unheard : new.files ≡ old.files → Ends (unheard old) new.calls status → RecordedStatus ask old new status
    recorded_unheard same ends = record {
      says = by (RecordedSays ask old new) _ new.calls status ends (λ calls. inl (_, (calls, same))) tt;
      refused = (λ bytes refusal told refuses. inr (hindered old new status ends));
      solved = (λ bytes P told reads. inr (hindered old new status ends));
    }

    pub recorded_status : Records ask old new status → RecordedStatus ask old new status
    recorded_status run = record {
      says = says_records run;
      refused = (λ bytes refusal told refuses. says_refused bytes refusal told refuses run);
      solved = (λ bytes P told reads. says_solved bytes P told reads run);
    }

    -- the count of failed calls
    both_counts : (certificate name record_text report_text : List ℕ) (word : ResultWord) (before : List Call) (from : Outside) → faults from.calls ≡ faults before → OutputsBoth certificate name record_text report_text (status_of word) from new status → Counts before new.calls status
    both_counts certificate name record_text report_text word before from same (recording.unwritten middle not also ends) =
        let more = not_written_counts from middle certificate not in
        counted before _ new.calls status ends (omega (arith, more, same))
    both_counts certificate name record_text report_text word before from same (recording.wrote middle wrote (recording.unopened also ends)) =
        let at = wrote_counts from middle certificate wrote ∙ same in
        counted before _ new.calls status ends (let more : faults before < suc (faults middle.calls) = omega (arith, at) in more)
    both_counts certificate name record_text report_text word before from same (recording.wrote middle wrote (recording.put_out out)) =
        output_counts _ new record_text report_text (status_of word) status before (wrote_counts from middle certificate wrote ∙ same) (λ now. word_counts ask.solve old new status before now word) out

    pub recorded_counts : Records ask old new status → Counts old.calls new.calls status
    recorded_counts (recording.unloaded same (loading.unread ends)) = counted old.calls _ new.calls status ends (one_more old.calls)
    recorded_counts (recording.unloaded same (loading.no_memory ends)) = counted old.calls _ new.calls status ends refl
    recorded_counts (recording.unread bytes has same (loading.refused refusal refuses ends)) = counted old.calls _ new.calls status ends refl
    recorded_counts (recording.unread bytes has same (loading.no_memory ends)) = counted old.calls _ new.calls status ends refl
    recorded_counts (recording.read bytes P has reads (recording.unbegun same ends)) = counted old.calls _ new.calls status ends refl
    recorded_counts (recording.read bytes P has reads (recording.unopened same ends)) = counted old.calls _ new.calls status ends (one_more old.calls)
    recorded_counts (recording.read bytes P has reads (recording.no_memory same ends)) = counted old.calls _ new.calls status ends refl
    recorded_counts (recording.read bytes P has reads (recording.searched nodes c rows word r promise is out)) = both_counts _ _ _ _ word old.calls _ refl out

    -- no file is being written at the end
    both_idle : (certificate name record_text report_text : List ℕ) (due : Status) (from : Outside) → OutputsBoth certificate name record_text report_text due from new status → IsIdle new.calls
    both_idle certificate name record_text report_text due from (recording.unwritten middle not also ends) = ends_idle _ new.calls status ends (not_written_idle from middle certificate not)
    both_idle certificate name record_text report_text due from (recording.wrote middle wrote (recording.unopened also ends)) = ends_idle _ new.calls status ends refl
    both_idle certificate name record_text report_text due from (recording.wrote middle wrote (recording.put_out out)) = output_idle _ new record_text report_text due status out

    pub recorded_idle : Records ask old new status → IsIdle old.calls → IsIdle new.calls
    recorded_idle (recording.unloaded same (loading.unread ends)) idle = ends_idle _ new.calls status ends idle
    recorded_idle (recording.unloaded same (loading.no_memory ends)) idle = ends_idle _ new.calls status ends idle
    recorded_idle (recording.unread bytes has same (loading.refused refusal refuses ends)) idle = ends_idle _ new.calls status ends idle
    recorded_idle (recording.unread bytes has same (loading.no_memory ends)) idle = ends_idle _ new.calls status ends idle
    recorded_idle (recording.read bytes P has reads (recording.unbegun same ends)) idle = ends_idle _ new.calls status ends idle
    recorded_idle (recording.read bytes P has reads (recording.unopened same ends)) idle = ends_idle _ new.calls status ends refl
    recorded_idle (recording.read bytes P has reads (recording.no_memory same ends)) idle = ends_idle _ new.calls status ends refl
    recorded_idle (recording.read bytes P has reads (recording.searched nodes c rows word r promise is out)) idle = both_idle _ _ _ _ (status_of word) _ out
