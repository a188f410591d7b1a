-- What each status of `solve` says, from how a run of it ends.
use Rattle.std.proofs.Common.{◌≡◌, ◌⊎◌, inl, inr, ℕ, suc, ◌<◌, true, List, refl, sym, ap, ◌∙◌, arith}
use Rattle.cfn_model.specs.declared.report.Row.{Row}
use Rattle.cfn_model.specs.declared.report.ResultWord.{ResultWord}
use Rattle.cfn_model.specs.declared.report.ResultWord.TheVariants as words
use Rattle.cfn_wcnf.specs.declared.fault.Unread.{Unread as FirstUnread}
use Rattle.cfn_model.specs.Network.{Network}
use Rattle.cfn_model.specs.Certificate.{Certificate}
use Rattle.cfn_model.specs.Text.{spelling, report}
use Rattle.cfn_desk.specs.Outside.{Outside, Call, Load, Open, Bytes, HasFile, IsIdle, after, faults, says}
use Rattle.cfn_cli.specs.Request.Solving.{SolveRequest}
use Rattle.cfn_app.specs.declared.status.Status.{Status}
use Rattle.cfn_app.specs.declared.status.Status.TheVariants.{Refused}
use Rattle.cfn_app.specs.Endings.{Ending, Ends, IsHindered}
use Rattle.cfn_low.specs.Outcome.{Start, fresh}
use Rattle.cfn_app.specs.Headline.{Promise}
use Rattle.cfn_app.specs.Loading.{ReadsAs, RefusesAs, Tells, loaded}
use Rattle.cfn_app.specs.Loading as loading
use Rattle.cfn_app.specs.Endings.{Outputs}
use Rattle.cfn_app.specs.Endings as endings
use Rattle.cfn_app.specs.Runs.Solving.{Searches, Solves, limits_of, status_of}
use Rattle.cfn_app.specs.Runs.Solving as solving
use Rattle.cfn_app.specs.Saying.{Counts}
use Rattle.cfn_app.specs.Runs.Solving.{SolveSays, Solved, IsReported, SolveStatus}
use Rattle.cfn_app.proofs.Causes.{none_others}
use Rattle.cfn_app.proofs.Counting.{by, counted, ends_idle, hindered, unheard, by_due, one_more}
use Rattle.cfn_app.proofs.Writing.{stored_at, output_counts, output_idle}
use Rattle.cfn_app.proofs.Files.{same_bytes, read_refused}

module _ (ask : SolveRequest) (old new : Outside) where
  reported : (word : ResultWord) → Solved ask old new word → SolveSays ask old new (status_of word)
  reported words.Optimum solved = solved
  reported words.Nothing solved = solved
  reported words.Budget solved = inl solved
  reported words.Time solved = inr solved
  reported words.Part solved = absurd (none_others solved.certificate.tree (solved.promise.causes.left_to_others.0 refl))
  reported words.Memory solved = inr solved

  module _ (status : Status) where
    says_output : (bytes : List ℕ) (P : Network) (nodes : ℕ) (c : Certificate) (rows : List Row) (word : ResultWord) → HasFile old ask.file bytes → ReadsAs ask.format bytes P → Promise P (fresh P) (limits_of ask) nodes c rows word →
        Outputs (spelling c) (report ask.workers c rows nodes word) (status_of word) (after (Open ask.certificate true) (after (Load ask.file (Bytes bytes)) old)) new status → SolveSays ask old new status
    says_output bytes P nodes c rows word has reads promise (endings.unwritten middle not same ends) = by (SolveSays ask old new) _ new.calls status ends (λ calls. tt) tt
    says_output bytes P nodes c rows word has reads promise (endings.wrote middle wrote same ends) = by (SolveSays ask old new) _ new.calls status ends (λ calls. reported word (record {
      bytes = bytes;
      network = P;
      nodes = nodes;
      certificate = c;
      rows = rows;
      file = has;
      reads = reads;
      promise = promise;
      stored = stored_at old new ask.certificate (spelling c) (loaded ask.file bytes old.calls) middle same wrote.stored;
      calls = calls ∙ ap (says (report ask.workers c rows nodes word)) wrote.calls;
    })) tt

    says_search : (bytes : List ℕ) (P : Network) → HasFile old ask.file bytes → ReadsAs ask.format bytes P → Searches P (fresh P) ask (after (Load ask.file (Bytes bytes)) old) new status → SolveSays ask old new status
    says_search bytes P has reads (solving.unbegun same ends) = by (SolveSays ask old new) _ new.calls status ends (λ calls. inl (_, (calls, same))) tt
    says_search bytes P has reads (solving.unopened same ends) = by (SolveSays ask old new) _ new.calls status ends (λ calls. tt) tt
    says_search bytes P has reads (solving.no_memory same ends) = by (SolveSays ask old new) _ new.calls status ends (λ calls. inl (_, (calls, same))) tt
    says_search bytes P has reads (solving.searched nodes c rows word promise out) = says_output bytes P nodes c rows word has reads promise out

    says_solve : Solves ask old new status → SolveSays ask old new status
    says_solve (solving.unloaded same (loading.unread ends)) = by (SolveSays ask old new) _ new.calls status ends (λ calls. tt) tt
    says_solve (solving.unloaded same (loading.no_memory ends)) = by (SolveSays ask old new) _ new.calls status ends (λ calls. inl (_, (calls, same))) tt
    says_solve (solving.unread bytes has same (loading.refused refusal refuses ends)) = by (SolveSays ask old new) _ new.calls status ends (λ calls. (bytes, refusal, has, refuses, (calls, same))) tt
    says_solve (solving.unread bytes has same (loading.no_memory ends)) = by (SolveSays ask old new) _ new.calls status ends (λ calls. inl (_, (calls, same))) tt
    says_solve (solving.read bytes P has reads search) = says_search bytes P has reads search

    says_refused : (bytes : List ℕ) (refusal : FirstUnread) → Tells old ask.file bytes → RefusesAs ask.format bytes refusal → Solves ask old new status → (status ≡ Refused) ⊎ IsHindered status
    says_refused bytes refusal told refuses (solving.unloaded same (loading.unread ends)) = by_due Refused _ new.calls status ends (inr (inl refl))
    says_refused bytes refusal told refuses (solving.unloaded same (loading.no_memory ends)) = by_due Refused _ new.calls status ends (inr (inr refl))
    says_refused bytes refusal told refuses (solving.unread other has same (loading.refused r also ends)) = by_due Refused _ new.calls status ends (inl refl)
    says_refused bytes refusal told refuses (solving.unread other has same (loading.no_memory ends)) = by_due Refused _ new.calls status ends (inr (inr refl))
    says_refused bytes refusal told refuses (solving.read other P has reads search) =
        absurd (read_refused ask.format other bytes P refusal (same_bytes old ask.file other bytes told has) reads refuses)

    -- a file that reads as a network
    pub by_result : (due : Ending) → Ends due new.calls status → IsReported due.status ⊎ IsHindered due.status → IsReported status ⊎ IsHindered status
    by_result due ends is = by (λ s. IsReported s ⊎ IsHindered s) due new.calls status ends (λ calls. is) (inr (inl refl))

    pub word_reported : (word : ResultWord) → IsReported (status_of word) ⊎ IsHindered (status_of word)
    word_reported words.Optimum = inl (inl refl)
    word_reported words.Nothing = inl (inr (inl refl))
    word_reported words.Budget = inl (inr (inr refl))
    word_reported words.Time = inl (inr (inr refl))
    word_reported words.Part = inl (inr (inr refl))
    word_reported words.Memory = inr (inr refl)

    pub search_reported : (P : Network) (begin : Start) (before : Outside) → Searches P begin ask before new status → IsReported status ⊎ IsHindered status
    search_reported P begin before (solving.unbegun same ends) = by_result _ ends (inr (inr refl))
    search_reported P begin before (solving.unopened same ends) = by_result _ ends (inr (inl refl))
    search_reported P begin before (solving.no_memory same ends) = by_result _ ends (inr (inr refl))
    search_reported P begin before (solving.searched nodes c rows word promise (endings.unwritten middle not same ends)) = by_result _ ends (inr (inl refl))
    search_reported P begin before (solving.searched nodes c rows word promise (endings.wrote middle wrote same ends)) = by_result _ ends (word_reported word)

    says_solved : (bytes : List ℕ) (P : Network) → Tells old ask.file bytes → ReadsAs ask.format bytes P → Solves ask old new status → IsReported status ⊎ IsHindered status
    says_solved bytes P told reads (solving.unloaded same (loading.unread ends)) = by_result _ ends (inr (inl refl))
    says_solved bytes P told reads (solving.unloaded same (loading.no_memory ends)) = by_result _ ends (inr (inr refl))
    says_solved bytes P told reads (solving.unread other has same (loading.refused refusal refuses ends)) =
        absurd (read_refused ask.format bytes other P refusal (sym (same_bytes old ask.file other bytes told has)) reads refuses)
    says_solved bytes P told reads (solving.unread other has same (loading.no_memory ends)) = by_result _ ends (inr (inr refl))
    says_solved bytes P told reads (solving.read other Q has also search) = search_reported Q _ _ search

    -- memory was refused before the words were understood
    pub solve_unheard : new.files ≡ old.files → Ends (unheard old) new.calls status → SolveStatus ask old new status
    solve_unheard same ends = record {
      says = by (SolveSays ask old new) _ new.calls status ends (λ calls. inl (_, (calls, same))) tt;
      refused = (λ bytes refusal told refuses. inr (hindered old new status ends));
      solved = (λ bytes P told reads. inr (hindered old new status ends));
    }

    pub solve_status : Solves ask old new status → SolveStatus ask old new status
    solve_status solves = record {
      says = says_solve solves;
      refused = (λ bytes refusal told refuses. says_refused bytes refusal told refuses solves);
      solved = (λ bytes P told reads. says_solved bytes P told reads solves);
    }

    -- the count of failed calls
    pub word_counts : (before now : List Call) (word : ResultWord) → faults now ≡ faults before → Counts before now (status_of word)
    word_counts before now words.Optimum same = same
    word_counts before now words.Nothing same = same
    word_counts before now words.Budget same = same
    word_counts before now words.Time same = same
    word_counts before now words.Part same = same
    word_counts before now words.Memory same = same

    pub search_counts : (P : Network) (begin : Start) (start : List Call) (before : Outside) → faults before.calls ≡ faults start → Searches P begin ask before new status → Counts start new.calls status
    search_counts P begin start before same (solving.unbegun also ends) = counted start _ new.calls status ends same
    search_counts P begin start before same (solving.unopened also ends) = counted start _ new.calls status ends (let more : faults start < suc (faults before.calls) = omega (arith, same) in more)
    search_counts P begin start before same (solving.no_memory also ends) = counted start _ new.calls status ends same
    search_counts P begin start before same (solving.searched nodes c rows word promise out) = output_counts _ new (spelling c) _ (status_of word) status start same (λ now. word_counts start now word) out

    pub search_idle : (P : Network) (begin : Start) (before : Outside) → IsIdle before.calls → Searches P begin ask before new status → IsIdle new.calls
    search_idle P begin before idle (solving.unbegun also ends) = ends_idle _ new.calls status ends idle
    search_idle P begin before idle (solving.unopened also ends) = ends_idle _ new.calls status ends refl
    search_idle P begin before idle (solving.no_memory also ends) = ends_idle _ new.calls status ends refl
    search_idle P begin before idle (solving.searched nodes c rows word promise out) = output_idle _ new (spelling c) _ (status_of word) status out

    pub solve_counts : Solves ask old new status → Counts old.calls new.calls status
    solve_counts (solving.unloaded same (loading.unread ends)) = counted old.calls _ new.calls status ends (one_more old.calls)
    solve_counts (solving.unloaded same (loading.no_memory ends)) = counted old.calls _ new.calls status ends refl
    solve_counts (solving.unread bytes has same (loading.refused refusal refuses ends)) = counted old.calls _ new.calls status ends refl
    solve_counts (solving.unread bytes has same (loading.no_memory ends)) = counted old.calls _ new.calls status ends refl
    solve_counts (solving.read bytes P has reads search) = search_counts P _ old.calls _ refl search

    pub solve_idle : Solves ask old new status → IsIdle old.calls → IsIdle new.calls
    solve_idle (solving.unloaded same (loading.unread ends)) idle = ends_idle _ new.calls status ends idle
    solve_idle (solving.unloaded same (loading.no_memory ends)) idle = ends_idle _ new.calls status ends idle
    solve_idle (solving.unread bytes has same (loading.refused refusal refuses ends)) idle = ends_idle _ new.calls status ends idle
    solve_idle (solving.unread bytes has same (loading.no_memory ends)) idle = ends_idle _ new.calls status ends idle
    solve_idle (solving.read bytes P has reads search) idle = search_idle P _ _ idle search
