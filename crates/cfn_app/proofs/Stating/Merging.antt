-- What each status of `merge` says, from how a run of it ends.
use Rattle.std.proofs.Common.{◌≡◌, ◌⊎◌, inl, inr, ℕ, suc, ◌<◌, ◌≤◌, List, [], ◌∷◌, ◌++◌, map, true, refl, sym, ap, ◌∙◌, subst, arith}
use Rattle.std.specs.List.{AllByRecursion}
use Rattle.cfn_wcnf.specs.declared.fault.Unread.{Unread as FirstUnread}
use Rattle.cfn_model.specs.Network.{Network}
use Rattle.cfn_model.specs.Certificate.{Certificate, Good}
use Rattle.cfn_model.specs.Text.{Spells, IsSpelled, spelling}
use Rattle.cfn_fault.specs.declared.kind.FaultKind.{FaultKind}
use Rattle.cfn_fault.specs.Fault as faulty
use Rattle.cfn_fault.proofs.CallerLemmas.{no_fault_where_good}
use Rattle.cfn_mending.proofs.CallerLemmas.{all_merged_good, all_merged_lower, all_merged_spelled}
use Rattle.cfn_merge.specs.Same.{same as one_split}
use Rattle.cfn_merge.proofs.CallerLemmas.{is_test}
use Rattle.cfn_check.specs.Checking.{cost_of}
use Rattle.cfn_report.specs.Texts.{merged_text}
use Rattle.cfn_desk.specs.Outside.{Outside, Call, Load, Open, Close, Bytes, HasFile, IsIdle, Stored, Writing, after, faults, puts, says}
use Rattle.cfn_cli.specs.Request.Merging.{MergeRequest}
use Rattle.cfn_app.specs.declared.status.Status.{Status}
use Rattle.cfn_app.specs.declared.status.Status.TheVariants.{Done, Refused, Disproved}
use Rattle.cfn_app.specs.Endings.{Ends, IsHindered}
use Rattle.cfn_app.specs.Endings as endings
use Rattle.cfn_app.specs.Loading.{ReadsAs, RefusesAs, Tells, loaded}
use Rattle.cfn_app.specs.Loading as loading
use Rattle.cfn_app.specs.Saying.{Counts}
use Rattle.cfn_app.specs.Runs.Merging.{Part, names_of, IsPart, IsToldPart, all_loaded, merged_of, AllTaken, NotAllTaken, Writes, Merges, MergeSays, MergeStatus}
use Rattle.cfn_app.specs.Runs.Merging as merging
use Rattle.cfn_app.proofs.Counting.{by, counted, ends_idle, hindered, one_more, unheard, by_due}
use Rattle.cfn_app.proofs.Merges.{loads_written}
use Rattle.cfn_app.proofs.Files.{same_bytes, read_refused, read_one}
use Rattle.cfn_app.proofs.Writing.{stored_at, output_counts, output_idle}

-- ---- parts

all_good : (P : Network) (old : Outside) (parts : List Part) → AllByRecursion (IsPart P old) parts → AllByRecursion (Good P) (map (λ p. p.certificate) parts)
all_good P old [] all = tt
all_good P old (part ∷ parts) all = (all.0.verifies.good, all_good P old parts all.1)

all_spelled : (P : Network) (old : Outside) (parts : List Part) → AllByRecursion (IsPart P old) parts → AllByRecursion IsSpelled (map (λ p. p.certificate) parts)
all_spelled P old [] all = tt
all_spelled P old (part ∷ parts) all = (all.0.verifies.spells.spelled, all_spelled P old parts all.1)

all_lower : (n : ℕ) (parts : List Part) → AllByRecursion (λ (d : Certificate). d.lower ≤ n) (map (λ p. p.certificate) parts) → AllByRecursion (λ (p : Part). p.certificate.lower ≤ n) parts
all_lower n [] all = tt
all_lower n (part ∷ parts) all = (all.0, all_lower n parts all.1)

-- the same files as before another was loaded
all_before : (P : Network) (old : Outside) (name bytes : List ℕ) (parts : List Part) → AllByRecursion (IsPart P (after (Load name (Bytes bytes)) old)) parts → AllByRecursion (IsPart P old) parts
all_before P old name bytes [] all = tt
all_before P old name bytes (part ∷ parts) all = (record { has = all.0.has; verifies = all.0.verifies }, all_before P old name bytes parts all.1)

loads_faults : (parts : List Part) (calls : List Call) → faults (all_loaded parts calls) ≡ faults calls
loads_faults [] calls = refl
loads_faults (part ∷ parts) calls = loads_faults parts (loaded part.name part.text calls)

-- a name among those of parts is that of one
head_is : (a b : List ℕ) (x y : List (List ℕ)) → a ∷ x ≡ b ∷ y → a ≡ b
head_is a b x y e = cc

tail_is : (a b : List ℕ) (x y : List (List ℕ)) → a ∷ x ≡ b ∷ y → x ≡ y
tail_is a b x y e = cc

named : (F : Part → Type 0) (parts : List Part) (before rest : List (List ℕ)) (name : List ℕ) → names_of parts ≡ before ++ name ∷ rest → AllByRecursion F parts → (p : Part) × (p.name ≡ name) × F p
named F [] [] rest name is all = absurd cc
named F [] (b ∷ before) rest name is all = absurd cc
named F (part ∷ parts) [] rest name is all = (part, head_is _ _ _ _ is, all.0)
named F (part ∷ parts) (b ∷ before) rest name is all = named F parts before rest name (tail_is _ _ _ _ is) all.1

-- ---- statuses

module _ (ask : MergeRequest) (old new : Outside) (status : Status) where
  abbrev start : List ℕ → Outside
  start bytes = after (Load ask.file (Bytes bytes)) old

  says_written : (bytes : List ℕ) (P : Network) → HasFile old ask.file bytes → ReadsAs ask.format bytes P → (c : Certificate) (middle : Outside) (t : AllTaken P ask.certificates (start bytes) c middle) → Writes (merged_of P t.first t.others) ask.out middle new status → MergeSays ask old new status
  says_written bytes P has reads c middle t (merging.unopened same ends) = by (MergeSays ask old new) _ new.calls status ends (λ calls. tt) tt
  says_written bytes P has reads c middle t (merging.put_out (endings.unwritten last not same ends)) = by (MergeSays ask old new) _ new.calls status ends (λ calls. tt) tt
  says_written bytes P has reads c middle t (merging.put_out (endings.wrote last wrote same ends)) = by (MergeSays ask old new) _ new.calls status ends (λ calls.
      let parts = all_before P old ask.file bytes (t.first ∷ t.others) t.parts in
      let network = parts.0.verifies.network in
      let first = parts.0.verifies.good in
      let others = all_good P old t.others parts.1 in
      let so_far = merged_of P t.first t.others in
      let text = merged_text so_far.lower (cost_of so_far.best) in
      record {
        bytes = bytes;
        network = P;
        first = t.first;
        others = t.others;
        file = has;
        reads = reads;
        names = t.names_are;
        parts = parts;
        good = all_merged_good one_split P t.first.certificate (map (λ (p : Part). p.certificate) t.others) is_test network first others;
        lower = all_lower so_far.lower (t.first ∷ t.others) (all_merged_lower one_split P t.first.certificate (map (λ (p : Part). p.certificate) t.others) is_test network first others);
        spells = record { spelled = all_merged_spelled one_split P t.first.certificate (map (λ (p : Part). p.certificate) t.others) is_test network first others parts.0.verifies.spells.spelled (all_spelled P old t.others parts.1); exact = refl };
        stored = subst (λ files. Stored files (Writing ask.out (spelling so_far)) new.files) (ap (λ o. o.files) t.outside) (stored_at middle new ask.out (spelling so_far) middle.calls last same wrote.stored);
        calls = calls ∙ ap (says text) wrote.calls ∙ ap (λ (cs : List Call). says text (Close true ∷ puts (spelling so_far) (Open ask.out true ∷ cs))) (ap (λ o. o.calls) t.outside);
      }) tt

  says_not_all : (bytes : List ℕ) (P : Network) → HasFile old ask.file bytes → ReadsAs ask.format bytes P → new.files ≡ old.files → NotAllTaken P ask.certificates (start bytes) new.calls status → MergeSays ask old new status
  says_not_all bytes P has reads same (merging.not_taken before name rest is parts (merging.unloaded (loading.unread ends))) = by (MergeSays ask old new) _ new.calls status ends (λ calls. tt) tt
  says_not_all bytes P has reads same (merging.not_taken before name rest is parts (merging.unloaded (loading.no_memory ends))) = by (MergeSays ask old new) _ new.calls status ends (λ calls. (_, (calls, same))) tt
  says_not_all bytes P has reads same (merging.not_taken before name rest is parts (merging.disproved text l kind there fault ends)) = by (MergeSays ask old new) _ new.calls status ends (λ calls. record {
    bytes = bytes;
    network = P;
    before = before;
    name = name;
    text = text;
    rest = rest;
    line = l;
    kind = kind;
    file = has;
    reads = reads;
    names = is;
    parts = all_before P old ask.file bytes before parts;
    has = there;
    fault = fault;
    says = (calls, same);
  }) tt
  says_not_all bytes P has reads same (merging.not_taken before name rest is parts (merging.no_memory text there ends)) = by (MergeSays ask old new) _ new.calls status ends (λ calls. (_, (calls, same))) tt
  says_not_all bytes P has reads same (merging.no_memory parts is all ends) = by (MergeSays ask old new) _ new.calls status ends (λ calls. (_, (calls, same))) tt

  says_merge : Merges ask old new status → MergeSays ask old new status
  says_merge (merging.unloaded same (loading.unread ends)) = by (MergeSays ask old new) _ new.calls status ends (λ calls. tt) tt
  says_merge (merging.unloaded same (loading.no_memory ends)) = by (MergeSays ask old new) _ new.calls status ends (λ calls. (_, (calls, same))) tt
  says_merge (merging.unread bytes has same (loading.refused refusal refuses ends)) = by (MergeSays ask old new) _ new.calls status ends (λ calls. (bytes, refusal, has, refuses, (calls, same))) tt
  says_merge (merging.unread bytes has same (loading.no_memory ends)) = by (MergeSays ask old new) _ new.calls status ends (λ calls. (_, (calls, same))) tt
  says_merge (merging.read bytes P has reads (merging.not_all same not)) = says_not_all bytes P has reads same not
  says_merge (merging.read bytes P has reads (merging.writes c middle t writes)) = says_written bytes P has reads c middle t (subst (λ d. Writes d ask.out middle new status) t.is writes)

  -- a file that is refused
  says_refused : (bytes : List ℕ) (refusal : FirstUnread) → Tells old ask.file bytes → RefusesAs ask.format bytes refusal → Merges ask old new status → (status ≡ Refused) ⊎ IsHindered status
  says_refused bytes refusal told refuses (merging.unloaded same (loading.unread ends)) = by_due Refused _ new.calls status ends (inr (inl refl))
  says_refused bytes refusal told refuses (merging.unloaded same (loading.no_memory ends)) = by_due Refused _ new.calls status ends (inr (inr refl))
  says_refused bytes refusal told refuses (merging.unread words has same (loading.refused other also ends)) = by_due Refused _ new.calls status ends (inl refl)
  says_refused bytes refusal told refuses (merging.unread words has same (loading.no_memory ends)) = by_due Refused _ new.calls status ends (inr (inr refl))
  says_refused bytes refusal told refuses (merging.read words P has reads into) = absurd (read_refused ask.format words bytes P refusal (same_bytes old ask.file words bytes told has) reads refuses)

  -- what is merged is written, or the run was hindered
  is_written : (c : Certificate) (before : Outside) → Writes c ask.out before new status → (status ≡ Done) ⊎ IsHindered status
  is_written c before (merging.unopened same ends) = by_due Done _ new.calls status ends (inr (inl refl))
  is_written c before (merging.put_out (endings.unwritten last not same ends)) = by_due Done _ new.calls status ends (inr (inl refl))
  is_written c before (merging.put_out (endings.wrote last wrote same ends)) = by_due Done _ new.calls status ends (inl refl)

  -- a part that is told to be good has no fault
  no_fault : (P Q : Network) (p : Part) (name text : List ℕ) (l : ℕ) (kind : FaultKind) → Q ≡ P → p.name ≡ name → IsToldPart P old p → HasFile old name text → faulty.Fault Q text l kind → ⊥
  no_fault P Q p name text l kind is at told has fault =
      let words : text ≡ p.text = same_bytes old name text p.text (subst (λ n. Tells old n p.text) at told.told) has in
      no_fault_where_good P p.text p.certificate l kind told.spells told.good (subst (λ N. faulty.Fault N p.text l kind) is (subst (λ w. faulty.Fault Q w l kind) words fault))

  not_all_good : (P Q : Network) (bytes : List ℕ) (parts : List Part) → Q ≡ P → ask.certificates ≡ names_of parts → AllByRecursion (IsToldPart P old) parts → NotAllTaken Q ask.certificates (start bytes) new.calls status → (status ≡ Done) ⊎ IsHindered status
  not_all_good P Q bytes parts is names all (merging.not_taken before name rest at judged (merging.unloaded (loading.unread ends))) = by_due Done _ new.calls status ends (inr (inl refl))
  not_all_good P Q bytes parts is names all (merging.not_taken before name rest at judged (merging.unloaded (loading.no_memory ends))) = by_due Done _ new.calls status ends (inr (inr refl))
  not_all_good P Q bytes parts is names all (merging.not_taken before name rest at judged (merging.disproved text l kind has fault ends)) =
      let p = named (IsToldPart P old) parts (names_of before) rest name (sym names ∙ at) all in
      absurd (no_fault P Q p.0 name text l kind is p.1 p.2 has fault)
  not_all_good P Q bytes parts is names all (merging.not_taken before name rest at judged (merging.no_memory text has ends)) = by_due Done _ new.calls status ends (inr (inr refl))
  not_all_good P Q bytes parts is names all (merging.no_memory judged at good ends) = by_due Done _ new.calls status ends (inr (inr refl))

  says_merged : (bytes : List ℕ) (P : Network) (parts : List Part) → Tells old ask.file bytes → ReadsAs ask.format bytes P → ask.certificates ≡ names_of parts → AllByRecursion (IsToldPart P old) parts → Merges ask old new status → (status ≡ Done) ⊎ IsHindered status
  says_merged bytes P parts told reads names all (merging.unloaded same (loading.unread ends)) = by_due Done _ new.calls status ends (inr (inl refl))
  says_merged bytes P parts told reads names all (merging.unloaded same (loading.no_memory ends)) = by_due Done _ new.calls status ends (inr (inr refl))
  says_merged bytes P parts told reads names all (merging.unread words has same (loading.refused refusal refuses ends)) = absurd (read_refused ask.format bytes words P refusal (sym (same_bytes old ask.file words bytes told has)) reads refuses)
  says_merged bytes P parts told reads names all (merging.unread words has same (loading.no_memory ends)) = by_due Done _ new.calls status ends (inr (inr refl))
  says_merged bytes P parts told reads names all (merging.read words Q has also (merging.not_all same not)) =
      not_all_good P Q words parts (read_one ask.format words bytes Q P (same_bytes old ask.file words bytes told has) also reads) names all not
  says_merged bytes P parts told reads names all (merging.read words Q has also (merging.writes c middle t writes)) = is_written c middle writes

  -- a certificate with a fault
  not_all_refuted : (Q : Network) (bytes : List ℕ) → NotAllTaken Q ask.certificates (start bytes) new.calls status → (status ≡ Disproved) ⊎ IsHindered status
  not_all_refuted Q bytes (merging.not_taken before name rest at judged (merging.unloaded (loading.unread ends))) = by_due Disproved _ new.calls status ends (inr (inl refl))
  not_all_refuted Q bytes (merging.not_taken before name rest at judged (merging.unloaded (loading.no_memory ends))) = by_due Disproved _ new.calls status ends (inr (inr refl))
  not_all_refuted Q bytes (merging.not_taken before name rest at judged (merging.disproved text l kind has fault ends)) = by_due Disproved _ new.calls status ends (inl refl)
  not_all_refuted Q bytes (merging.not_taken before name rest at judged (merging.no_memory text has ends)) = by_due Disproved _ new.calls status ends (inr (inr refl))
  not_all_refuted Q bytes (merging.no_memory judged at good ends) = by_due Disproved _ new.calls status ends (inr (inr refl))

  taken_good : (P Q : Network) (p : Part) (name text : List ℕ) (l : ℕ) (kind : FaultKind) → Q ≡ P → p.name ≡ name → IsPart Q old p → Tells old name text → faulty.Fault P text l kind → ⊥
  taken_good P Q p name text l kind is at part told fault =
      let words : p.text ≡ text = same_bytes old name p.text text told (subst (λ n. HasFile old n p.text) at part.has) in
      no_fault_where_good P text p.certificate l kind (subst (λ w. Spells p.certificate w) words part.verifies.spells) (subst (λ N. Good N p.certificate) is part.verifies.good) fault

  says_refuted : (bytes text name : List ℕ) (P : Network) (before rest : List (List ℕ)) (l : ℕ) (kind : FaultKind) → Tells old ask.file bytes → ReadsAs ask.format bytes P → ask.certificates ≡ before ++ name ∷ rest → Tells old name text → faulty.Fault P text l kind → Merges ask old new status →
      (status ≡ Disproved) ⊎ IsHindered status
  says_refuted bytes text name P before rest l kind told reads names written fault (merging.unloaded same (loading.unread ends)) = by_due Disproved _ new.calls status ends (inr (inl refl))
  says_refuted bytes text name P before rest l kind told reads names written fault (merging.unloaded same (loading.no_memory ends)) = by_due Disproved _ new.calls status ends (inr (inr refl))
  says_refuted bytes text name P before rest l kind told reads names written fault (merging.unread words has same (loading.refused refusal refuses ends)) =
      absurd (read_refused ask.format bytes words P refusal (sym (same_bytes old ask.file words bytes told has)) reads refuses)
  says_refuted bytes text name P before rest l kind told reads names written fault (merging.unread words has same (loading.no_memory ends)) = by_due Disproved _ new.calls status ends (inr (inr refl))
  says_refuted bytes text name P before rest l kind told reads names written fault (merging.read words Q has also (merging.not_all same not)) = not_all_refuted Q words not
  says_refuted bytes text name P before rest l kind told reads names written fault (merging.read words Q has also (merging.writes c middle t writes)) =
      let p = named (IsPart Q old) (t.first ∷ t.others) before rest name (sym t.names_are ∙ names) (all_before Q old ask.file words (t.first ∷ t.others) t.parts) in
      absurd (taken_good P Q p.0 name text l kind (read_one ask.format words bytes Q P (same_bytes old ask.file words bytes told has) also reads) p.1 p.2 written fault)

  -- memory was refused before the words were understood
  pub merge_unheard : new.files ≡ old.files → Ends (unheard old) new.calls status → MergeStatus ask old new status
  merge_unheard same ends = record {
    says = by (MergeSays ask old new) _ new.calls status ends (λ calls. (_, (calls, same))) tt;
    refused = (λ bytes refusal told refuses. inr (hindered old new status ends));
    merged = (λ bytes P parts told reads names all. inr (hindered old new status ends));
    refuted = (λ bytes text name P before rest l kind told reads names written fault. inr (hindered old new status ends));
  }

  pub merge_status : Merges ask old new status → MergeStatus ask old new status
  merge_status merges = record {
    says = says_merge merges;
    refused = (λ bytes refusal told refuses. says_refused bytes refusal told refuses merges);
    merged = (λ bytes P parts told reads names all. says_merged bytes P parts told reads names all merges);
    refuted = (λ bytes text name P before rest l kind told reads names written fault. says_refuted bytes text name P before rest l kind told reads names written fault merges);
  }

  -- ---- calls

  taken_faults : (bytes : List ℕ) (P : Network) (c : Certificate) (middle : Outside) → AllTaken P ask.certificates (start bytes) c middle → faults middle.calls ≡ faults old.calls
  taken_faults bytes P c middle t = ap faults (ap (λ o. o.calls) t.outside) ∙ loads_faults (t.first ∷ t.others) (start bytes).calls

  loads_more : (parts : List Part) (bytes : List ℕ) → faults old.calls < suc (faults (all_loaded parts (start bytes).calls))
  loads_more parts bytes = let e : faults (all_loaded parts (start bytes).calls) ≡ faults old.calls = loads_faults parts (start bytes).calls in omega (arith, e)

  write_counts : (c : Certificate) (before : Outside) → faults before.calls ≡ faults old.calls → Writes c ask.out before new status → Counts old.calls new.calls status
  write_counts c before same (merging.unopened also ends) = counted old.calls _ new.calls status ends (let more : faults old.calls < suc (faults before.calls) = omega (arith, same) in more)
  write_counts c before same (merging.put_out out) = output_counts _ new (spelling c) (merged_text c.lower (cost_of c.best)) Done status old.calls same (λ now is. is) out

  pub merge_counts : Merges ask old new status → Counts old.calls new.calls status
  merge_counts (merging.unloaded same (loading.unread ends)) = counted old.calls _ new.calls status ends (one_more old.calls)
  merge_counts (merging.unloaded same (loading.no_memory ends)) = counted old.calls _ new.calls status ends refl
  merge_counts (merging.unread bytes has same (loading.refused refusal refuses ends)) = counted old.calls _ new.calls status ends refl
  merge_counts (merging.unread bytes has same (loading.no_memory ends)) = counted old.calls _ new.calls status ends refl
  merge_counts (merging.read bytes P has reads (merging.not_all same (merging.not_taken before name rest at judged (merging.unloaded (loading.unread ends))))) = counted old.calls _ new.calls status ends (loads_more before bytes)
  merge_counts (merging.read bytes P has reads (merging.not_all same (merging.not_taken before name rest at judged (merging.unloaded (loading.no_memory ends))))) = counted old.calls _ new.calls status ends (loads_faults before (start bytes).calls)
  merge_counts (merging.read bytes P has reads (merging.not_all same (merging.not_taken before name rest at judged (merging.disproved text l kind there fault ends)))) = counted old.calls _ new.calls status ends (loads_faults before (start bytes).calls)
  merge_counts (merging.read bytes P has reads (merging.not_all same (merging.not_taken before name rest at judged (merging.no_memory text there ends)))) = counted old.calls _ new.calls status ends (loads_faults before (start bytes).calls)
  merge_counts (merging.read bytes P has reads (merging.not_all same (merging.no_memory parts at good ends))) = counted old.calls _ new.calls status ends (loads_faults parts (start bytes).calls)
  merge_counts (merging.read bytes P has reads (merging.writes c middle t writes)) = write_counts c middle (taken_faults bytes P c middle t) writes

  pub merge_idle : Merges ask old new status → IsIdle old.calls → IsIdle new.calls
  merge_idle (merging.unloaded same (loading.unread ends)) idle = ends_idle _ new.calls status ends idle
  merge_idle (merging.unloaded same (loading.no_memory ends)) idle = ends_idle _ new.calls status ends idle
  merge_idle (merging.unread bytes has same (loading.refused refusal refuses ends)) idle = ends_idle _ new.calls status ends idle
  merge_idle (merging.unread bytes has same (loading.no_memory ends)) idle = ends_idle _ new.calls status ends idle
  merge_idle (merging.read bytes P has reads (merging.not_all same (merging.not_taken before name rest at judged (merging.unloaded (loading.unread ends))))) idle = ends_idle _ new.calls status ends (loads_written before (start bytes).calls ∙ idle)
  merge_idle (merging.read bytes P has reads (merging.not_all same (merging.not_taken before name rest at judged (merging.unloaded (loading.no_memory ends))))) idle = ends_idle _ new.calls status ends (loads_written before (start bytes).calls ∙ idle)
  merge_idle (merging.read bytes P has reads (merging.not_all same (merging.not_taken before name rest at judged (merging.disproved text l kind there fault ends)))) idle = ends_idle _ new.calls status ends (loads_written before (start bytes).calls ∙ idle)
  merge_idle (merging.read bytes P has reads (merging.not_all same (merging.not_taken before name rest at judged (merging.no_memory text there ends)))) idle = ends_idle _ new.calls status ends (loads_written before (start bytes).calls ∙ idle)
  merge_idle (merging.read bytes P has reads (merging.not_all same (merging.no_memory parts at good ends))) idle = ends_idle _ new.calls status ends (loads_written parts (start bytes).calls ∙ idle)
  merge_idle (merging.read bytes P has reads (merging.writes c middle t (merging.unopened same ends))) idle = ends_idle _ new.calls status ends refl
  merge_idle (merging.read bytes P has reads (merging.writes c middle t (merging.put_out out))) idle = output_idle _ new (spelling c) (merged_text c.lower (cost_of c.best)) Done status out
