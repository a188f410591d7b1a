-- The record of a search, and how a run ends that writes one.
use Rattle.std.proofs.Common.{◌≡◌, ℕ, ◌≤◌, true, false, List, [], ◌∷◌, refl, sym, ap, ◌∙◌, subst, arith}
use Rattle.std.specs.Prelude.{Option, Result, Ok, Err, is_ok, is_err, OnOk, OnErr, if◌then◌else◌}
use Rattle.std.specs.List.{AllByRecursion}
use Rattle.cfn_model.specs.declared.report.Row.{Row}
use Rattle.cfn_model.specs.declared.report.ResultWord.{ResultWord}
use Rattle.cfn_model.specs.declared.version.Version.TheVariants.{Second}
use Rattle.cfn_model.specs.Network.{Network}
use Rattle.cfn_model.specs.Tree.{Tree, bound}
use Rattle.cfn_model.specs.Certificate.{Solution, Certificate, Good, threshold, threshold_of}
use Rattle.cfn_model.specs.Text.{spelling, report, write_fault_text, memory_fault_text}
use Rattle.cfn_proof.specs.Certificates as searched
use Rattle.cfn_proof.specs.declared.certificate.Certificate as found
use Rattle.cfn_machine.specs.Pool.{Pool, tree_of}
use Rattle.cfn_record.specs.Histories.{HistoryValue}
use Rattle.cfn_record.specs.Entries.{Entry, Took, Gave, Freed, CalledBack, Swept, Follows, Runs}
use Rattle.cfn_record.specs.Lines.{Record, Spells}
use Rattle.cfn_record.specs.Replaying.{certificate_of}
use Rattle.cfn_record.proofs.CallerLemmas.{seen_is}
use Rattle.cfn_certwrite.specs.Records as records
use Rattle.cfn_search.specs.Recording.{IsRecorded}
use Rattle.cfn_desk.specs.Outside.{Outside, Call, Load, Open, Bytes, HasFile, IsIdle, after, written}
use Rattle.cfn_line.specs.Appending.{Appends}
use Rattle.cfn_line.specs.declared.channel.Channel.TheVariants.{Screen}
use Rattle.cfn_cli.specs.Request.Recording.{RecordedRequest}
use Rattle.cfn_low.specs.Outcome.{fresh}
use Rattle.cfn_app.specs.declared.status.Status.{Status}
use Rattle.cfn_app.specs.Headline.{Promise}
use Rattle.cfn_app.specs.Loading.{ReadsAs, Unread}
use Rattle.cfn_app.specs.declared.status.Status.TheVariants.{Fault, NoMemory}
use Rattle.cfn_app.specs.Endings.{Outputs, Wrote, NotWritten}
use Rattle.cfn_app.specs.Runs.Solving.{limits_of, status_of}
use Rattle.cfn_app.specs.Runs.Recording.{IsAbove, IsRecordOf, OutputsBoth, PutsRecord, Records, SearchesRecorded}
use Rattle.cfn_app.specs.Runs.Recording as recording
use Rattle.cfn_app.proofs.Ends.{ends_saying}

-- ---- the thresholds of a record

lower_above : (j k : ℕ) → j ≤ k → (entry : Entry) → IsAbove k entry → IsAbove j entry
lower_above j k le (Took worker want leaf grant) above = tt
lower_above j k le (Gave worker leaf grant at seen tree) above = let a = above.0 in let s = above.1 in (omega (arith, le, a), omega (arith, le, s))
lower_above j k le (Freed worker leaf grant) above = tt
lower_above j k le CalledBack above = tt
lower_above j k le (Swept seen) above = omega (arith, le, above)

-- what an entry's thresholds are, against what the pool has seen behind it
seen_least : (P : Network) (pool new : Pool) (entry : Entry) → Follows P pool entry new → (new.view.seen ≤ pool.view.seen) × IsAbove new.view.seen entry
seen_least P pool new (Took worker want leaf grant) step = let s = ap (λ v. v.seen) (seen_is P pool new (Took worker want leaf grant) step) in (omega (arith, s), tt)
seen_least P pool new (Gave worker leaf grant at seen tree) step =
    let s = ap (λ v. v.seen) (seen_is P pool new (Gave worker leaf grant at seen tree) step) in
    let below = step.9 in
    let before = step.10 in
    (omega (arith, s, before), (omega (arith, s, below), omega (arith, s)))
seen_least P pool new (Freed worker leaf grant) step = let s = ap (λ v. v.seen) (seen_is P pool new (Freed worker leaf grant) step) in (omega (arith, s), tt)
seen_least P pool new CalledBack step = let s = ap (λ v. v.seen) (seen_is P pool new CalledBack step) in (omega (arith, s), tt)
seen_least P pool new (Swept seen) step =
    let s = ap (λ v. v.seen) (seen_is P pool new (Swept seen) step) in
    let before = step.1 in
    (omega (arith, s, before), omega (arith, s))

-- the last that was seen is the least
seen_last : (P : Network) (pool new : Pool) (entries : List Entry) → Runs P pool entries new → (new.view.seen ≤ pool.view.seen) × AllByRecursion (IsAbove new.view.seen) entries
seen_last P pool new [] run = let s = ap (λ (p : Pool). p.view.seen) run in (omega (arith, s), tt)
seen_last P pool new (entry ∷ entries) run =
    let one = seen_least P pool run.0 entry run.1 in
    let more = seen_last P run.0 new entries run.2 in
    let first = one.0 in
    let later = more.0 in
    (omega (arith, first, later), (lower_above new.view.seen run.0.view.seen later entry one.1, more.1))

-- ---- what was recorded of a search

abbrev certificate_with : Option Solution → ℕ → ℕ → ℕ → ℕ → Tree → Certificate
certificate_with best n e u l t = record { version = Second; variables = n; functions = e; upper = u; best = best; lower = l; tree = t }

same_certificate : (best : Option Solution) (n m e f u v l k : ℕ) (t s : Tree) → n ≡ m → e ≡ f → u ≡ v → l ≡ k → t ≡ s → certificate_with best n e u l t ≡ certificate_with best m f v k s
same_certificate best n m e f u v l k t s a b c d g = cc

module _ (P : Network) (budget : ℕ) (k : found.Certificate) where
  -- the certificate that a tree comes to is the one that a search found, whose lower bound is its tree's bound
  comes_to : (tree : Tree) → tree ≡ (searched.certificate_of k).tree → Good P (searched.certificate_of k) → (searched.certificate_of k).lower ≡ bound P [] (searched.certificate_of k).tree (threshold (searched.certificate_of k)) → certificate_of P (searched.certificate_of k).best tree ≡ searched.certificate_of k
  comes_to tree is good lower =
      let c = searched.certificate_of k in
      same_certificate c.best _ c.variables _ c.functions _ c.upper _ c.lower tree c.tree (sym good.variables) (sym good.functions) (sym good.upper)
      (ap (λ t. bound P [] t (threshold_of P.upper c.best)) is ∙ ap (λ u. bound P [] c.tree (threshold_of u c.best)) (sym good.upper) ∙ sym lower) is

  -- the record of a search is one of its certificate
  pub is_record : (history : HistoryValue) → IsRecorded P budget (searched.certificate_of k) history → Good P (searched.certificate_of k) → (searched.certificate_of k).lower ≡ bound P [] (searched.certificate_of k).tree (threshold (searched.certificate_of k))
      → Spells (records.recorded history k) (records.spelling (records.recorded history k)) → IsRecordOf P budget (searched.certificate_of k) (records.recorded history k)
  is_record history is good lower spells =
      let c = searched.certificate_of k in
      record {
        spells = spells;
        budget_is = is.budget_is;
        good = is.good;
        comes = comes_to (tree_of is.good.pool.tree) is.tree good lower;
        above = subst (λ n. AllByRecursion (IsAbove n) (records.recorded history k).entries) (is.good.seen ∙ ap (λ u. threshold_of u c.best) (sym good.upper)) (seen_last P _ is.good.pool _ is.good.run).1;
      }

-- ---- how a run ends that writes both

module _ (certificate name record_text report_text : List ℕ) (due : Status) (old middle new : Outside) (status : Status) where
  -- the certificate was not written, and that is said
  pub both_unwritten : {T E U F : Type 0} (result : Result T E) (said : Result U F) → is_err result ≡ true → OnErr result (NotWritten certificate old middle) → Appends Screen middle write_fault_text said new → status ≡ (if is_ok said then Fault else Fault) → OutputsBoth certificate name record_text report_text due old new status
  both_unwritten (Ok x) said failed not one is = absurd (let no : false ≡ true = failed in cc)
  both_unwritten (Err e) said failed not one is = recording.unwritten middle not one.files (ends_saying middle.calls middle new write_fault_text said Fault status refl one is)

  -- both were to be written
  pub both_recorded : {T E : Type 0} (result : Result T E) → is_err result ≡ false → OnOk result (Wrote certificate old middle) → PutsRecord name record_text report_text due middle new status → OutputsBoth certificate name record_text report_text due old new status
  both_recorded (Ok x) fine wrote puts = recording.wrote middle wrote puts
  both_recorded (Err e) fine wrote puts = absurd (let no : true ≡ false = fine in cc)

-- a record behind a file that was opened
pub recorded_behind : {T E : Type 0} (name text report_text : List ℕ) (due : Status) (old middle new : Outside) (opened : Result T E) (status : Status) → is_err opened ≡ false → middle ≡ after (Open name (is_ok opened)) old →
    Outputs text report_text due middle new status → PutsRecord name text report_text due old new status
recorded_behind name text report_text due old middle new (Ok x) status fine at out = recording.put_out (subst (λ o. Outputs text report_text due o new status) at out)
recorded_behind name text report_text due old middle new (Err e) status fine at out = absurd (let no : true ≡ false = fine in cc)

-- after a certificate was written no file is being written
pub wrote_idle : {T E : Type 0} (text : List ℕ) (old middle : Outside) (result : Result T E) → is_err result ≡ false → OnOk result (Wrote text old middle) → IsIdle middle.calls
wrote_idle text old middle (Ok x) fine wrote = ap written wrote.calls
wrote_idle text old middle (Err e) fine wrote = absurd (let no : true ≡ false = fine in cc)

-- a search behind a file that was opened
pub searched_behind : {T E : Type 0} (P : Network) (ask : RecordedRequest) (old middle new : Outside) (opened : Result T E) (status : Status) (nodes : ℕ) (c : Certificate) (rows : List Row) (word : ResultWord) (r : Record) → is_err opened ≡ false → middle ≡ after (Open ask.solve.certificate (is_ok opened)) old →
    Promise P (fresh P) (limits_of ask.solve) nodes c rows word → IsRecordOf P ask.solve.budget c r → OutputsBoth (spelling c) ask.recording (records.spelling r) (report ask.solve.workers c rows nodes word) (status_of word) middle new status → SearchesRecorded P ask old new status
searched_behind P ask old middle new (Ok x) status nodes c rows word r fine at promise is out =
    recording.searched nodes c rows word r promise is (subst (λ o. OutputsBoth (spelling c) ask.recording (records.spelling r) (report ask.solve.workers c rows nodes word) (status_of word) o new status) at out)
searched_behind P ask old middle new (Err e) status nodes c rows word r fine at promise is out = absurd (let no : true ≡ false = fine in cc)

module _ (ask : RecordedRequest) (old middle new : Outside) (status : Status) (bytes : List ℕ) (has : HasFile old ask.solve.file bytes) (at : middle ≡ after (Load ask.solve.file (Bytes bytes)) old) where
  pub records_unread : new.files ≡ middle.files → Unread ask.solve.format bytes middle.calls new.calls status → Records ask old new status
  records_unread same unread = recording.unread bytes has (same ∙ ap (λ o. o.files) at) (subst (λ (cs : List Call). Unread ask.solve.format bytes cs new.calls status) (ap (λ o. o.calls) at) unread)

  pub records_read : (last : Outside) (P : Network) → ReadsAs ask.solve.format bytes P → last ≡ middle → SearchesRecorded P ask last new status → Records ask old new status
  records_read last P reads same search = recording.read bytes P has reads (subst (λ o. SearchesRecorded P ask o new status) (same ∙ at) search)
