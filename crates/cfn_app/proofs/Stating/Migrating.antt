-- What each status of `migrate` says, from how a run of it ends.
use Rattle.std.proofs.Common.{◌≡◌, ◌⊎◌, inl, inr, ℕ, suc, ◌<◌, List, refl, ap, ◌∙◌, subst, arith}
use Rattle.cfn_wcnf.specs.declared.fault.Unread.{Unread as FirstUnread}
use Rattle.cfn_model.specs.Network.{Network}
use Rattle.cfn_model.specs.Certificate.{Certificate, Good, in_second}
use Rattle.cfn_model.specs.Text.{Spells, spelling}
use Rattle.cfn_model.proofs.CallerLemmas.{good_in_second, spelled_in_second}
use Rattle.cfn_fault.specs.declared.kind.FaultKind.{FaultKind}
use Rattle.cfn_fault.specs.Fault as faulty
use Rattle.cfn_fault.proofs.CallerLemmas.{no_fault_where_good}
use Rattle.cfn_report.specs.Texts.{migrated_text}
use Rattle.cfn_desk.specs.Outside.{Outside, IsIdle, Stored, Writing, faults, says}
use Rattle.cfn_cli.specs.Request.Migrating.{MigrateRequest}
use Rattle.cfn_cli.specs.declared.format.Format.TheVariants.{Wcsp}
use Rattle.cfn_app.specs.declared.status.Status.{Status}
use Rattle.cfn_app.specs.declared.status.Status.TheVariants.{Done, Refused, Disproved}
use Rattle.cfn_app.specs.Endings.{Ends, IsHindered}
use Rattle.cfn_app.specs.Loading.{ReadsAs, RefusesAs, Paired, Tells}
use Rattle.cfn_app.specs.Runs.Checking.{Verifies}
use Rattle.cfn_app.specs.Endings as endings
use Rattle.cfn_app.specs.Runs.Migrating.{Migrates, Rewrites, Upgrades}
use Rattle.cfn_app.specs.Runs.Migrating as migrating
use Rattle.cfn_app.specs.Saying.{Counts}
use Rattle.cfn_app.specs.Runs.Migrating.{MigrateSays, MigrateStatus}
use Rattle.cfn_app.proofs.Counting.{by, counted, ends_idle, hindered, unheard, by_due}
use Rattle.cfn_app.proofs.Files.{same_bytes, read_refused, read_one}
use Rattle.cfn_app.proofs.Pairing.{unpaired_by, unpaired_refused, unpaired_hindered, unpaired_counts, unpaired_idle, pair_faults, pair_idle}
use Rattle.cfn_app.proofs.Writing.{stored_at, output_counts, output_idle}

module _ (ask : MigrateRequest) (old new : Outside) (status : Status) where
  says_upgraded : (P : Network) (text : List ℕ) (middle : Outside) → Paired Wcsp ask.file ask.certificate old P text middle → (c : Certificate) → Verifies P text c → Rewrites (spelling (in_second c)) ask.out middle new status → MigrateSays ask old new status
  says_upgraded P text middle paired c verifies (migrating.unopened same ends) = by (MigrateSays ask old new) _ new.calls status ends (λ calls. tt) tt
  says_upgraded P text middle paired c verifies (migrating.put_out (endings.unwritten last not same ends)) = by (MigrateSays ask old new) _ new.calls status ends (λ calls. tt) tt
  says_upgraded P text middle paired c verifies (migrating.put_out (endings.wrote last wrote same ends)) = by (MigrateSays ask old new) _ new.calls status ends (λ calls. record {
    network = P;
    text = text;
    certificate = c;
    middle = middle;
    paired = paired;
    verifies = verifies;
    spells = record { spelled = spelled_in_second c verifies.spells.spelled; exact = refl };
    good = good_in_second P c verifies.good;
    stored = subst (λ files. Stored files (Writing ask.out (spelling (in_second c))) new.files) paired.files (stored_at middle new ask.out (spelling (in_second c)) middle.calls last same wrote.stored);
    calls = calls ∙ ap (says migrated_text) wrote.calls;
  }) tt

  says_judged : (P : Network) (text : List ℕ) (middle : Outside) → Paired Wcsp ask.file ask.certificate old P text middle → Upgrades P text ask.out middle new status → MigrateSays ask old new status
  says_judged P text middle paired (migrating.disproved l kind fault same ends) = by (MigrateSays ask old new) _ new.calls status ends (λ calls. (P, text, l, kind, middle, paired, fault, (calls, same ∙ paired.files))) tt
  says_judged P text middle paired (migrating.no_memory same ends) = by (MigrateSays ask old new) _ new.calls status ends (λ calls. (_, (calls, same ∙ paired.files))) tt
  says_judged P text middle paired (migrating.upgraded c verifies rewrites) = says_upgraded P text middle paired c verifies rewrites

  says_migrate : Migrates ask old new status → MigrateSays ask old new status
  says_migrate (migrating.unpaired same unpaired) =
      unpaired_by Wcsp ask.file ask.certificate old new.calls status (MigrateSays ask old new) tt (λ calls is. (calls, (is, same)))
      (λ bytes text refusal has certified refuses is. (text, certified, (bytes, refusal, has, refuses, (is, same)))) unpaired
  says_migrate (migrating.judged P text middle paired upgrades) = says_judged P text middle paired upgrades

  says_refused : (bytes : List ℕ) (refusal : FirstUnread) → Tells old ask.file bytes → RefusesAs Wcsp bytes refusal → Migrates ask old new status → (status ≡ Refused) ⊎ IsHindered status
  says_refused bytes refusal told refuses (migrating.unpaired same unpaired) = unpaired_refused Wcsp ask.file ask.certificate old new.calls status unpaired
  says_refused bytes refusal told refuses (migrating.judged P text middle paired upgrades) =
      absurd (read_refused Wcsp paired.bytes bytes P refusal (same_bytes old ask.file paired.bytes bytes told paired.has) paired.reads refuses)

  -- a certificate that is written is good, or the run was hindered
  rewritten : (second : List ℕ) (before : Outside) → Rewrites second ask.out before new status → (status ≡ Done) ⊎ IsHindered status
  rewritten second before (migrating.unopened same ends) = by_due Done _ new.calls status ends (inr (inl refl))
  rewritten second before (migrating.put_out (endings.unwritten last not same ends)) = by_due Done _ new.calls status ends (inr (inl refl))
  rewritten second before (migrating.put_out (endings.wrote last wrote same ends)) = by_due Done _ new.calls status ends (inl refl)

  -- a good certificate
  judged_migrated : (P Q : Network) (text words : List ℕ) (c : Certificate) (before : Outside) → Q ≡ P → words ≡ text → Spells c text → Good P c → Upgrades Q words ask.out before new status → (status ≡ Done) ⊎ IsHindered status
  judged_migrated P Q text words c before is at spells good (migrating.disproved l kind fault same ends) =
      absurd (no_fault_where_good P text c l kind spells good (subst (λ N. faulty.Fault N text l kind) is (subst (λ w. faulty.Fault Q w l kind) at fault)))
  judged_migrated P Q text words c before is at spells good (migrating.no_memory same ends) = by_due Done _ new.calls status ends (inr (inr refl))
  judged_migrated P Q text words c before is at spells good (migrating.upgraded d verifies rewrites) = rewritten _ before rewrites

  says_migrated : (bytes text : List ℕ) (P : Network) (c : Certificate) → Tells old ask.file bytes → Tells old ask.certificate text → ReadsAs Wcsp bytes P → Spells c text → Good P c → Migrates ask old new status → (status ≡ Done) ⊎ IsHindered status
  says_migrated bytes text P c told written reads spells good (migrating.unpaired same unpaired) = unpaired_hindered Wcsp ask.file ask.certificate old new.calls status Done bytes P told reads unpaired
  says_migrated bytes text P c told written reads spells good (migrating.judged Q words middle paired upgrades) =
      judged_migrated P Q text words c middle (read_one Wcsp paired.bytes bytes Q P (same_bytes old ask.file paired.bytes bytes told paired.has) paired.reads reads) (same_bytes old ask.certificate words text written paired.certified) spells good upgrades

  -- a certificate with a fault
  judged_refuted : (P Q : Network) (text words : List ℕ) (l : ℕ) (kind : FaultKind) (before : Outside) → Q ≡ P → words ≡ text → faulty.Fault P text l kind → Upgrades Q words ask.out before new status → (status ≡ Disproved) ⊎ IsHindered status
  judged_refuted P Q text words l kind before is at fault (migrating.disproved m other also same ends) = by_due Disproved _ new.calls status ends (inl refl)
  judged_refuted P Q text words l kind before is at fault (migrating.no_memory same ends) = by_due Disproved _ new.calls status ends (inr (inr refl))
  judged_refuted P Q text words l kind before is at fault (migrating.upgraded c verifies rewrites) =
      absurd (no_fault_where_good P text c l kind (subst (λ w. Spells c w) at verifies.spells) (subst (λ N. Good N c) is verifies.good) fault)

  says_refuted : (bytes text : List ℕ) (P : Network) (l : ℕ) (kind : FaultKind) → Tells old ask.file bytes → Tells old ask.certificate text → ReadsAs Wcsp bytes P → faulty.Fault P text l kind → Migrates ask old new status → (status ≡ Disproved) ⊎ IsHindered status
  says_refuted bytes text P l kind told written reads fault (migrating.unpaired same unpaired) = unpaired_hindered Wcsp ask.file ask.certificate old new.calls status Disproved bytes P told reads unpaired
  says_refuted bytes text P l kind told written reads fault (migrating.judged Q words middle paired upgrades) =
      judged_refuted P Q text words l kind middle (read_one Wcsp paired.bytes bytes Q P (same_bytes old ask.file paired.bytes bytes told paired.has) paired.reads reads) (same_bytes old ask.certificate words text written paired.certified) fault upgrades

  -- memory was refused before the words were understood
  pub migrate_unheard : new.files ≡ old.files → Ends (unheard old) new.calls status → MigrateStatus ask old new status
  migrate_unheard same ends = record {
    says = by (MigrateSays ask old new) _ new.calls status ends (λ calls. (_, (calls, same))) tt;
    refused = (λ bytes refusal told refuses. inr (hindered old new status ends));
    migrated = (λ bytes text P c told written reads spells good. inr (hindered old new status ends));
    refuted = (λ bytes text P l kind told written reads fault. inr (hindered old new status ends));
  }

  pub migrate_status : Migrates ask old new status → MigrateStatus ask old new status
  migrate_status migrates = record {
    says = says_migrate migrates;
    refused = (λ bytes refusal told refuses. says_refused bytes refusal told refuses migrates);
    migrated = (λ bytes text P c told written reads spells good. says_migrated bytes text P c told written reads spells good migrates);
    refuted = (λ bytes text P l kind told written reads fault. says_refuted bytes text P l kind told written reads fault migrates);
  }

  rewrite_counts : (second : List ℕ) (before : Outside) → faults before.calls ≡ faults old.calls → Rewrites second ask.out before new status → Counts old.calls new.calls status
  rewrite_counts second before same (migrating.unopened also ends) = counted old.calls _ new.calls status ends (let more : faults old.calls < suc (faults before.calls) = omega (arith, same) in more)
  rewrite_counts second before same (migrating.put_out out) = output_counts _ new second migrated_text Done status old.calls same (λ now is. is) out

  pub migrate_counts : Migrates ask old new status → Counts old.calls new.calls status
  migrate_counts (migrating.unpaired same unpaired) = unpaired_counts Wcsp ask.file ask.certificate old new.calls status unpaired
  migrate_counts (migrating.judged P text middle paired (migrating.disproved l kind fault same ends)) = counted old.calls _ new.calls status ends (pair_faults Wcsp ask.file ask.certificate old P text middle paired)
  migrate_counts (migrating.judged P text middle paired (migrating.no_memory same ends)) = counted old.calls _ new.calls status ends (pair_faults Wcsp ask.file ask.certificate old P text middle paired)
  migrate_counts (migrating.judged P text middle paired (migrating.upgraded c verifies rewrites)) = rewrite_counts _ middle (pair_faults Wcsp ask.file ask.certificate old P text middle paired) rewrites

  pub migrate_idle : Migrates ask old new status → IsIdle old.calls → IsIdle new.calls
  migrate_idle (migrating.unpaired same unpaired) idle = unpaired_idle Wcsp ask.file ask.certificate old new.calls status unpaired idle
  migrate_idle (migrating.judged P text middle paired (migrating.disproved l kind fault same ends)) idle = ends_idle _ new.calls status ends (pair_idle Wcsp ask.file ask.certificate old P text middle paired idle)
  migrate_idle (migrating.judged P text middle paired (migrating.no_memory same ends)) idle = ends_idle _ new.calls status ends (pair_idle Wcsp ask.file ask.certificate old P text middle paired idle)
  migrate_idle (migrating.judged P text middle paired (migrating.upgraded c verifies (migrating.unopened same ends))) idle = ends_idle _ new.calls status ends refl
  migrate_idle (migrating.judged P text middle paired (migrating.upgraded c verifies (migrating.put_out out))) idle = output_idle _ new (spelling (in_second c)) migrated_text Done status out
