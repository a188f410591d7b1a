-- What each status of `checkbest` says, from how a run of it ends.
use Rattle.std.proofs.Common.{◌≡◌, ◌⊎◌, inl, inr, ℕ, Bool, true, false, List, refl, ◌∙◌, subst}
use Rattle.cfn_wcnf.specs.declared.fault.Unread.{Unread as FirstUnread}
use Rattle.cfn_model.specs.Network.{Network}
use Rattle.cfn_model.proofs.CallerLemmas.{eqb_same}
use Rattle.cfn_best.specs.List.{ListCertificate, GoodList, is_complete}
use Rattle.cfn_best.specs.Lines.{Spells}
use Rattle.cfn_best.specs.declared.kind.ListFault.{ListFault}
use Rattle.cfn_best.specs.Fault as faulty
use Rattle.cfn_best.proofs.CallerLemmas.{no_fault_where_good, one_list}
use Rattle.cfn_desk.specs.Outside.{Outside, Call, IsIdle, written}
use Rattle.cfn_cli.specs.Request.CheckingBest.{CheckBestRequest}
use Rattle.cfn_app.specs.declared.status.Status.{Status}
use Rattle.cfn_app.specs.declared.status.Status.TheVariants.{Done, LimitSpent, Refused, Disproved}
use Rattle.cfn_app.specs.Endings.{Ends, IsHindered}
use Rattle.cfn_app.specs.Loading.{ReadsAs, RefusesAs, Paired, Tells}
use Rattle.cfn_app.specs.Runs.CheckingBest.{ChecksBest, JudgesBest, VerifiesBest}
use Rattle.cfn_app.specs.Runs.CheckingBest as checking
use Rattle.cfn_app.specs.Saying.{Counts}
use Rattle.cfn_app.specs.Runs.CheckingBest.{CheckBestSays, CheckBestStatus}
use Rattle.cfn_app.proofs.Counting.{by, counted, ends_idle, hindered, unheard, by_due}
use Rattle.cfn_app.proofs.Files.{same_bytes, read_refused, read_one}
use Rattle.cfn_app.proofs.Pairing.{unpaired_by, unpaired_refused, unpaired_hindered, unpaired_counts, unpaired_idle, pair_faults, pair_idle}

module _ (ask : CheckBestRequest) (old new : Outside) (status : Status) (same : new.files ≡ old.files) where
  says_judged : (P : Network) (text : List ℕ) (middle : Outside) → Paired ask.format ask.file ask.certificate old P text middle → JudgesBest ask.complete P text middle.calls new.calls status → CheckBestSays ask old new status
  says_judged P text middle paired (checking.verified c verifies whole ends) = by (CheckBestSays ask old new) _ new.calls status ends (λ calls. (P, text, c, middle, paired, verifies, whole, (calls, same))) tt
  says_judged P text middle paired (checking.left_open c verifies asked is ends) = by (CheckBestSays ask old new) _ new.calls status ends (λ calls. (P, text, c, middle, paired, verifies, asked, is, (calls, same))) tt
  says_judged P text middle paired (checking.disproved l kind fault ends) = by (CheckBestSays ask old new) _ new.calls status ends (λ calls. (P, text, l, kind, middle, paired, fault, (calls, same))) tt
  says_judged P text middle paired (checking.no_memory ends) = by (CheckBestSays ask old new) _ new.calls status ends (λ calls. (_, (calls, same))) tt

  says_check_best : ChecksBest ask old new.calls status → CheckBestSays ask old new status
  says_check_best (checking.unpaired unpaired) =
      unpaired_by ask.format ask.file ask.certificate old new.calls status (CheckBestSays ask old new) tt (λ calls is. (calls, (is, same)))
      (λ bytes text refusal has certified refuses is. (text, certified, (bytes, refusal, has, refuses, (is, same)))) unpaired
  says_check_best (checking.judged P text middle paired judges) = says_judged P text middle paired judges

  says_refused : (bytes : List ℕ) (refusal : FirstUnread) → Tells old ask.file bytes → RefusesAs ask.format bytes refusal → ChecksBest ask old new.calls status → (status ≡ Refused) ⊎ IsHindered status
  says_refused bytes refusal told refuses (checking.unpaired unpaired) = unpaired_refused ask.format ask.file ask.certificate old new.calls status unpaired
  says_refused bytes refusal told refuses (checking.judged P text middle paired judges) =
      absurd (read_refused ask.format paired.bytes bytes P refusal (same_bytes old ask.file paired.bytes bytes told paired.has) paired.reads refuses)

  -- a text spells lists that are all complete, or none
  as_complete : (P Q : Network) (text words : List ℕ) (c d : ListCertificate) → Q ≡ P → words ≡ text → Spells c text → GoodList P c → VerifiesBest Q words d → is_complete P c ≡ is_complete Q d
  as_complete P Q text words c d is at spells good verifies =
      let one = one_list P text c d spells (subst (λ w. Spells d w) at verifies.spells) good (subst (λ N. GoodList N d) is verifies.good) in
      rw (is, one.count, one.lower, one.list) refl

  both : (b : Bool) → b ≡ true → b ≡ false → ⊥
  both b t f = cc

  -- a good list
  module _ (P Q : Network) (text words : List ℕ) (c : ListCertificate) (calls : List Call) (is : Q ≡ P) (at : words ≡ text) (spells : Spells c text) (good : GoodList P c) where
    judged_verified : (ask.complete ≡ true → is_complete P c ≡ true) → JudgesBest ask.complete Q words calls new.calls status → (status ≡ Done) ⊎ IsHindered status
    judged_verified whole (checking.verified d verifies complete ends) = by_due Done _ new.calls status ends (inl refl)
    judged_verified whole (checking.left_open d verifies asked left ends) =
        absurd (both (is_complete P c) (whole asked) (as_complete P Q text words c d is at spells good verifies ∙ left))
    judged_verified whole (checking.disproved l kind fault ends) =
        absurd (no_fault_where_good P text c l kind spells good (subst (λ N. faulty.Fault N text l kind) is (subst (λ w. faulty.Fault Q w l kind) at fault)))
    judged_verified whole (checking.no_memory ends) = by_due Done _ new.calls status ends (inr (inr refl))

    judged_open : ask.complete ≡ true → is_complete P c ≡ false → JudgesBest ask.complete Q words calls new.calls status → (status ≡ LimitSpent) ⊎ IsHindered status
    judged_open asked left (checking.verified d verifies complete ends) =
        absurd (both (is_complete P c) (as_complete P Q text words c d is at spells good verifies ∙ eqb_same d.lower _ (complete asked).lower) left)
    judged_open asked left (checking.left_open d verifies also is_left ends) = by_due LimitSpent _ new.calls status ends (inl refl)
    judged_open asked left (checking.disproved l kind fault ends) =
        absurd (no_fault_where_good P text c l kind spells good (subst (λ N. faulty.Fault N text l kind) is (subst (λ w. faulty.Fault Q w l kind) at fault)))
    judged_open asked left (checking.no_memory ends) = by_due LimitSpent _ new.calls status ends (inr (inr refl))

  says_verified : (bytes text : List ℕ) (P : Network) (c : ListCertificate) → Tells old ask.file bytes → Tells old ask.certificate text → ReadsAs ask.format bytes P → Spells c text → GoodList P c → (ask.complete ≡ true → is_complete P c ≡ true) → ChecksBest ask old new.calls status → (status ≡ Done) ⊎ IsHindered status
  says_verified bytes text P c told written reads spells good whole (checking.unpaired unpaired) = unpaired_hindered ask.format ask.file ask.certificate old new.calls status Done bytes P told reads unpaired
  says_verified bytes text P c told written reads spells good whole (checking.judged Q words middle paired judges) =
      judged_verified P Q text words c _ (read_one ask.format paired.bytes bytes Q P (same_bytes old ask.file paired.bytes bytes told paired.has) paired.reads reads) (same_bytes old ask.certificate words text written paired.certified) spells good whole judges

  says_open : (bytes text : List ℕ) (P : Network) (c : ListCertificate) → Tells old ask.file bytes → Tells old ask.certificate text → ReadsAs ask.format bytes P → Spells c text → GoodList P c → ask.complete ≡ true → is_complete P c ≡ false → ChecksBest ask old new.calls status → (status ≡ LimitSpent) ⊎ IsHindered status
  says_open bytes text P c told written reads spells good asked left (checking.unpaired unpaired) = unpaired_hindered ask.format ask.file ask.certificate old new.calls status LimitSpent bytes P told reads unpaired
  says_open bytes text P c told written reads spells good asked left (checking.judged Q words middle paired judges) =
      judged_open P Q text words c _ (read_one ask.format paired.bytes bytes Q P (same_bytes old ask.file paired.bytes bytes told paired.has) paired.reads reads) (same_bytes old ask.certificate words text written paired.certified) spells good asked left judges

  -- a list with a fault
  judged_refuted : (P Q : Network) (text words : List ℕ) (l : ℕ) (kind : ListFault) (calls : List Call) → Q ≡ P → words ≡ text → faulty.Fault P text l kind → JudgesBest ask.complete Q words calls new.calls status → (status ≡ Disproved) ⊎ IsHindered status
  judged_refuted P Q text words l kind calls is at fault (checking.verified c verifies whole ends) =
      absurd (no_fault_where_good P text c l kind (subst (λ w. Spells c w) at verifies.spells) (subst (λ N. GoodList N c) is verifies.good) fault)
  judged_refuted P Q text words l kind calls is at fault (checking.left_open c verifies asked left ends) =
      absurd (no_fault_where_good P text c l kind (subst (λ w. Spells c w) at verifies.spells) (subst (λ N. GoodList N c) is verifies.good) fault)
  judged_refuted P Q text words l kind calls is at fault (checking.disproved m other also ends) = by_due Disproved _ new.calls status ends (inl refl)
  judged_refuted P Q text words l kind calls is at fault (checking.no_memory ends) = by_due Disproved _ new.calls status ends (inr (inr refl))

  says_refuted : (bytes text : List ℕ) (P : Network) (l : ℕ) (kind : ListFault) → Tells old ask.file bytes → Tells old ask.certificate text → ReadsAs ask.format bytes P → faulty.Fault P text l kind → ChecksBest ask old new.calls status → (status ≡ Disproved) ⊎ IsHindered status
  says_refuted bytes text P l kind told written reads fault (checking.unpaired unpaired) = unpaired_hindered ask.format ask.file ask.certificate old new.calls status Disproved bytes P told reads unpaired
  says_refuted bytes text P l kind told written reads fault (checking.judged Q words middle paired judges) =
      judged_refuted P Q text words l kind _ (read_one ask.format paired.bytes bytes Q P (same_bytes old ask.file paired.bytes bytes told paired.has) paired.reads reads) (same_bytes old ask.certificate words text written paired.certified) fault judges

  -- memory was refused before the words were understood
  pub check_best_unheard : Ends (unheard old) new.calls status → CheckBestStatus ask old new status
  check_best_unheard ends = record {
    says = by (CheckBestSays ask old new) _ new.calls status ends (λ calls. (_, (calls, same))) tt;
    refused = (λ bytes refusal told refuses. inr (hindered old new status ends));
    verified = (λ bytes text P c told written reads spells good whole. inr (hindered old new status ends));
    left_open = (λ bytes text P c told written reads spells good asked left. inr (hindered old new status ends));
    refuted = (λ bytes text P l kind told written reads fault. inr (hindered old new status ends));
  }

  pub check_best_status : ChecksBest ask old new.calls status → CheckBestStatus ask old new status
  check_best_status checks = record {
    says = says_check_best checks;
    refused = (λ bytes refusal told refuses. says_refused bytes refusal told refuses checks);
    verified = (λ bytes text P c told written reads spells good whole. says_verified bytes text P c told written reads spells good whole checks);
    left_open = (λ bytes text P c told written reads spells good asked left. says_open bytes text P c told written reads spells good asked left checks);
    refuted = (λ bytes text P l kind told written reads fault. says_refuted bytes text P l kind told written reads fault checks);
  }

  pub check_best_counts : ChecksBest ask old new.calls status → Counts old.calls new.calls status
  check_best_counts (checking.unpaired unpaired) = unpaired_counts ask.format ask.file ask.certificate old new.calls status unpaired
  check_best_counts (checking.judged P text middle paired (checking.verified c verifies whole ends)) = counted old.calls _ new.calls status ends (pair_faults ask.format ask.file ask.certificate old P text middle paired)
  check_best_counts (checking.judged P text middle paired (checking.left_open c verifies asked left ends)) = counted old.calls _ new.calls status ends (pair_faults ask.format ask.file ask.certificate old P text middle paired)
  check_best_counts (checking.judged P text middle paired (checking.disproved l kind fault ends)) = counted old.calls _ new.calls status ends (pair_faults ask.format ask.file ask.certificate old P text middle paired)
  check_best_counts (checking.judged P text middle paired (checking.no_memory ends)) = counted old.calls _ new.calls status ends (pair_faults ask.format ask.file ask.certificate old P text middle paired)

  pub check_best_idle : ChecksBest ask old new.calls status → IsIdle old.calls → IsIdle new.calls
  check_best_idle (checking.unpaired unpaired) idle = unpaired_idle ask.format ask.file ask.certificate old new.calls status unpaired idle
  check_best_idle (checking.judged P text middle paired (checking.verified c verifies whole ends)) idle = ends_idle _ new.calls status ends (pair_idle ask.format ask.file ask.certificate old P text middle paired idle)
  check_best_idle (checking.judged P text middle paired (checking.left_open c verifies asked left ends)) idle = ends_idle _ new.calls status ends (pair_idle ask.format ask.file ask.certificate old P text middle paired idle)
  check_best_idle (checking.judged P text middle paired (checking.disproved l kind fault ends)) idle = ends_idle _ new.calls status ends (pair_idle ask.format ask.file ask.certificate old P text middle paired idle)
  check_best_idle (checking.judged P text middle paired (checking.no_memory ends)) idle = ends_idle _ new.calls status ends (pair_idle ask.format ask.file ask.certificate old P text middle paired idle)
