-- Certificates are taken one after another, and joined.
use Rattle.std.proofs.Common.{◌≡◌, ℕ, zero, suc, ◌+◌, ◌<◌, ◌≤◌, List, [], ◌∷◌, ◌++◌, length, map, drop, get_or, refl, sym, ap, ◌∙◌, subst, arith, append_assoc, length-append}
use Rattle.std.proofs.lemmas.List.{append-nil, map-append, nil_from_length, length-drop, length-map}
use Rattle.std.proofs.lemmas.List.Sums.{fold-append}
use Rattle.std.specs.Prelude.{Result, Ok, Err, is_ok, is_err, if◌then◌else◌, fold, Option, Some, None, true, false, is_some, IsTrue}
use Rattle.std.specs.List.{AllByRecursion}
use Rattle.cfn_model.specs.declared.version.Version.TheVariants.{Second}
use Rattle.cfn_model.specs.Network.{Network, IsNetwork}
use Rattle.cfn_model.specs.Certificate.{Certificate, Solution, IsBest, Good, threshold_of}
use Rattle.cfn_model.specs.Tree.{bound}
use Rattle.cfn_model.specs.Text.{memory_fault_text, spelling, Spells}
use Rattle.cfn_model.proofs.CallerLemmas.{lower_bounds}
use Rattle.cfn_fault.specs.declared.kind.FaultKind.{FaultKind}
use Rattle.cfn_fault.specs.Fault as faults
use Rattle.cfn_proof.specs.Nodes.{tree_of}
use Rattle.cfn_mending.specs.Joining.{join}
use Rattle.cfn_mending.specs.Merging.{anew, cheaper, merged}
use Rattle.cfn_mending.proofs.CallerLemmas.{merged_good, all_merged_good, all_merged_anew}
use Rattle.cfn_merge.specs.Same.{same}
use Rattle.cfn_merge.specs.Finding.{certified}
use Rattle.cfn_merge.proofs.CallerLemmas.{is_test}
use Rattle.cfn_merge.specs.declared.findings.Findings.{Findings}
use Rattle.cfn_merge.specs.Judging.{HasFound, IsFound}
use Rattle.cfn_report.specs.Texts.{merged_text, refused_in_text}
use Rattle.cfn_line.specs.Appending.{Appends}
use Rattle.cfn_line.specs.declared.channel.Channel.TheVariants.{Screen}
use Rattle.cfn_desk.specs.Outside.{Outside, Call, Load, Open, Bytes, HasFile, after, written}
use Rattle.cfn_app.specs.declared.status.Status.{Status}
use Rattle.cfn_app.specs.declared.status.Status.TheVariants.{Done, Fault, NoMemory, Disproved}
use Rattle.cfn_app.specs.Endings.{Ends, Outputs}
use Rattle.cfn_app.specs.Loading.{ReadsAs, Unread, loaded}
use Rattle.cfn_cli.specs.Request.Merging.{MergeRequest}
use Rattle.cfn_check.specs.Checking.{cost_of}
use Rattle.cfn_app.specs.Merging.{Joins, Takes}
use Rattle.cfn_app.specs.Runs.Merging.{Part, names_of, IsPart, all_loaded, merged_of, NotTaken, AllTaken, NotAllTaken, Writes, Merges, MergesInto}
use Rattle.cfn_app.specs.Runs.Merging as merging
use Rattle.cfn_app.proofs.Ends.{ends_saying}

-- ---- one certificate

module _ (P : Network) (name : List ℕ) (number : ℕ) (old middle : Outside) (text seen : List ℕ) (has : HasFile old name text) (at : middle ≡ after (Load name (Bytes text)) old) (same_bytes : seen ≡ text) where
  calls_are : middle.calls ≡ loaded name text old.calls
  calls_are = ap (λ o. o.calls) at

  pub takes : (found : Findings) → IsNetwork P → HasFound P seen found → Takes P name found old middle
  takes found network good =
      let c = good.certificate in
      record {
        text = text;
        certificate = c;
        has = has;
        verifies = record { spells = subst (λ t. Spells c t) same_bytes good.spells; good = good.good; network = network; bounds = λ values fits. lower_bounds P c values network good.good fits };
        is = good.is;
        outside = at;
      }

  pub takes_refused : {T E : Type 0} (last : Outside) (l : ℕ) (kind : FaultKind) (result : Result T E) (status : Status) → faults.Fault P seen l kind → Appends Screen middle (refused_in_text kind l number) result last → status ≡ (if is_ok result then Disproved else Fault) → NotTaken P name number old last.calls status
  takes_refused last l kind result status fault one is =
      merging.disproved text l kind has (subst (λ t. faults.Fault P t l kind) same_bytes fault)
      (subst (λ (cs : List Call). Ends (record { calls = cs; text = refused_in_text kind l number; status = Disproved }) last.calls status) calls_are
      (ends_saying middle.calls middle last (refused_in_text kind l number) result Disproved status refl one is))

  pub takes_late : {T E : Type 0} (last : Outside) (result : Result T E) (status : Status) → Appends Screen middle memory_fault_text result last → status ≡ (if is_ok result then NoMemory else Fault) → NotTaken P name number old last.calls status
  takes_late last result status one is =
      merging.no_memory text has
      (subst (λ (cs : List Call). Ends (record { calls = cs; text = memory_fault_text; status = NoMemory }) last.calls status) calls_are
      (ends_saying middle.calls middle last memory_fault_text result NoMemory status refl one is))

-- what was taken is joined, or memory is refused
pub joins : (P : Network) (name : List ℕ) (before next joined : Findings) (old new : Outside) → Takes P name next old new → before.best.network ≡ P → joined.best.network ≡ before.best.network → joined.best.held ≡ cheaper before.best.held next.best.held → tree_of joined.tree ≡ join same (tree_of before.tree) (tree_of next.tree) → Joins P name before joined old new
joins P name before next joined old new t own network best tree = record {
  text = t.text;
  certificate = t.certificate;
  has = t.has;
  verifies = t.verifies;
  network = network ∙ own;
  best = best ∙ ap (cheaper before.best.held) t.is.best;
  tree = tree ∙ ap (join same (tree_of before.tree)) t.is.tree;
  outside = t.outside;
}

pub joins_late : {T E : Type 0} (P : Network) (name : List ℕ) (number : ℕ) (next : Findings) (old middle last : Outside) (result : Result T E) (status : Status) → Takes P name next old middle → Appends Screen middle memory_fault_text result last → status ≡ (if is_ok result then NoMemory else Fault) → NotTaken P name number old last.calls status
joins_late P name number next old middle last result status t one is = takes_late P name number old middle t.text t.text t.has t.outside refl last result status one is

-- ---- one after another

loaded_more : (parts : List Part) (part : Part) (calls : List Call) → all_loaded (parts ++ part ∷ []) calls ≡ loaded part.name part.text (all_loaded parts calls)
loaded_more [] part calls = refl
loaded_more (p ∷ parts) part calls = loaded_more parts part (loaded p.name p.text calls)

all_more : {X : Type 0} (F : X → Type 0) (xs : List X) (x : X) → AllByRecursion F xs → F x → AllByRecursion F (xs ++ x ∷ [])
all_more F [] x all one = (one, tt)
all_more F (y ∷ xs) x all one = (all.0, all_more F xs x all.1 one)

-- a name and those behind it
name_at : {X : Type 0} (f : X → List ℕ) (xs : List X) (i : ℕ) (x : X) → i < length xs → x ≡ get_or xs i x → drop i (map f xs) ≡ f x ∷ drop (suc i) (map f xs)
name_at f [] i x there is = absurd (omega (arith, there))
name_at f (y ∷ xs) zero x there is = ap (λ z. f z ∷ map f xs) (sym is)
name_at f (y ∷ xs) (suc i) x there is = name_at f xs i x (omega (arith, there)) is

pub name_here : {X : Type 0} (f : X → List ℕ) (xs : List X) (i : ℕ) (x : X) (name : List ℕ) → i < length xs → x ≡ get_or xs i x → name ≡ f x → drop i (map f xs) ≡ name ∷ drop (i + 1) (map f xs)
name_here f xs i x name there is named =
    let next : suc i ≡ i + 1 = omega arith in
    name_at f xs i x there is ∙ ap (λ n. n ∷ drop (suc i) (map f xs)) (sym named) ∙ ap (λ n. name ∷ drop n (map f xs)) next

pub none_behind : {X : Type 0} (f : X → List ℕ) (xs : List X) (i : ℕ) → length xs ≤ i → drop i (map f xs) ≡ []
none_behind f xs i past = nil_from_length (drop i (map f xs)) (let a = length-drop i (map f xs) in let b = length-map xs f in omega (arith, a, b, past))

-- these certificates were taken, and those of the rest of the names are left
pub record IsMerging (P : Network) (names : List (List ℕ)) (old : Outside) (done : ℕ) (rest : List (List ℕ)) (found : Findings) (now : Outside) : Type 0 where
  pub first : Part
  pub others : List Part
  pub names_are : names ≡ names_of (first ∷ others) ++ rest
  pub count : length (first ∷ others) ≡ done
  pub parts : AllByRecursion (IsPart P old) (first ∷ others)
  pub good : Good P (merged_of P first others)
  pub found_is : IsFound P (merged_of P first others) found
  pub outside : now ≡ record { calls = all_loaded (first ∷ others) old.calls; files = old.files }

module _ (P : Network) (names : List (List ℕ)) (old : Outside) (network : IsNetwork P) where
  pub one_taken : (name : List ℕ) (rest : List (List ℕ)) (found : Findings) (now : Outside) → names ≡ name ∷ rest → Takes P name found old now → IsMerging P names old 1 rest found now
  one_taken name rest found now is t = record {
    first = record { name = name; text = t.text; certificate = t.certificate };
    others = [];
    names_are = is;
    count = refl;
    parts = (record { has = t.has; verifies = t.verifies }, tt);
    good = all_merged_good same P t.certificate [] is_test network t.verifies.good tt;
    found_is = record { network = t.is.network; best = t.is.best; tree = t.is.tree };
    outside = t.outside;
  }

  pub next_taken : (done : ℕ) (name : List ℕ) (rest : List (List ℕ)) (found joined : Findings) (now new : Outside) → IsMerging P names old done (name ∷ rest) found now → Joins P name found joined now new → IsMerging P names old (done + 1) rest joined new
  next_taken done name rest found joined now new m j =
      let c = j.certificate in
      let part : Part = record { name = name; text = j.text; certificate = c } in
      let others = m.others ++ part ∷ [] in
      let so_far = merged_of P m.first m.others in
      let more : merged_of P m.first others ≡ merged same P so_far c =
      ap (λ l. fold (merged same P) (anew P m.first.certificate) l) (map-append (λ (p : Part). p.certificate) m.others (part ∷ []))
      ∙ fold-append (merged same P) (anew P m.first.certificate) (map (λ (p : Part). p.certificate) m.others) (c ∷ []) in
      let has : HasFile old name j.text = subst (λ o. HasFile o name j.text) m.outside j.has in
      let len = length-append m.others (part ∷ []) in
      let count = m.count in
      record {
        first = m.first;
        others = others;
        names_are = m.names_are ∙ ap (λ l. m.first.name ∷ l) (sym (append_assoc (names_of m.others) (name ∷ []) rest)) ∙ ap (λ l. m.first.name ∷ (l ++ rest)) (sym (map-append (λ (p : Part). p.name) m.others (part ∷ [])));
        count = omega (arith, len, count);
        parts = all_more (IsPart P old) (m.first ∷ m.others) part m.parts (record { has = has; verifies = j.verifies });
        good = subst (Good P) (sym more) (merged_good same P so_far c is_test network m.good j.verifies.good);
        found_is = record {
          network = j.network;
          best = j.best ∙ ap (λ b. cheaper b c.best) m.found_is.best ∙ ap (λ (d : Certificate). d.best) (sym more);
          tree = j.tree ∙ ap (λ t. join same t c.tree) m.found_is.tree ∙ ap (λ (d : Certificate). d.tree) (sym more);
        };
        outside = j.outside ∙ ap (after (Load name (Bytes j.text))) m.outside ∙ ap (λ calls. record { calls = calls; files = old.files }) (sym (loaded_more (m.first ∷ m.others) part old.calls));
      }

  -- what was found is kept where it fits
  pub found_fits : (done : ℕ) (rest : List (List ℕ)) (found : Findings) (now : Outside) → IsMerging P names old done rest found now → IsBest P found.best.held
  found_fits done rest found now m = subst (IsBest P) (sym m.found_is.best) m.good.best

  certified_is : (m : Certificate) → Good P m → certified P m.best m.tree ≡ anew P m
  certified_is m good =
      ap (λ v. record { version = Second; variables = v; functions = length P.functions; upper = P.upper; best = m.best; lower = bound P [] m.tree (threshold_of P.upper m.best); tree = m.tree }) (sym good.variables)
      ∙ ap (λ e. record { version = Second; variables = m.variables; functions = e; upper = P.upper; best = m.best; lower = bound P [] m.tree (threshold_of P.upper m.best); tree = m.tree }) (sym good.functions)
      ∙ ap (λ u. record { version = Second; variables = m.variables; functions = m.functions; upper = u; best = m.best; lower = bound P [] m.tree (threshold_of u m.best); tree = m.tree }) (sym good.upper)

  pub all_taken : (done : ℕ) (rest : List (List ℕ)) (found : Findings) (now : Outside) (c : Certificate) → rest ≡ [] → IsMerging P names old done rest found now → c ≡ certified P found.best.held (tree_of found.tree) → AllTaken P names old c now
  all_taken done rest found now c none m is =
      let so_far = merged_of P m.first m.others in
      record {
        first = m.first;
        others = m.others;
        names_are = m.names_are ∙ ap (λ l. names_of (m.first ∷ m.others) ++ l) none ∙ append-nil (names_of (m.first ∷ m.others));
        parts = m.parts;
        is = is ∙ ap (λ b. certified P b (tree_of found.tree)) m.found_is.best ∙ ap (certified P so_far.best) m.found_is.tree ∙ certified_is so_far m.good
            ∙ sym (all_merged_anew same P m.first.certificate (map (λ (p : Part). p.certificate) m.others));
        outside = m.outside;
      }

  -- one is not taken
  pub not_first : (name : List ℕ) (rest : List (List ℕ)) (calls : List Call) (status : Status) → names ≡ name ∷ rest → NotTaken P name 1 old calls status → NotAllTaken P names old calls status
  not_first name rest calls status is not = merging.not_taken [] name rest is tt not

  pub not_next : (done number : ℕ) (name : List ℕ) (rest : List (List ℕ)) (found : Findings) (now : Outside) (calls : List Call) (status : Status) → IsMerging P names old done (name ∷ rest) found now → number ≡ done + 1 → NotTaken P name number now calls status → NotAllTaken P names old calls status
  not_next done number name rest found now calls status m is not =
      let count = m.count in
      let at : number ≡ length (m.first ∷ m.others) + 1 = omega (arith, is, count) in
      merging.not_taken (m.first ∷ m.others) name rest m.names_are m.parts (subst (λ o. NotTaken P name (length (m.first ∷ m.others) + 1) o calls status) m.outside (subst (λ n. NotTaken P name n now calls status) at not))

  pub not_at_end : {T E : Type 0} (done : ℕ) (rest : List (List ℕ)) (found : Findings) (now last : Outside) (result : Result T E) (status : Status) → rest ≡ [] → IsMerging P names old done rest found now → Appends Screen now memory_fault_text result last → status ≡ (if is_ok result then NoMemory else Fault) → NotAllTaken P names old last.calls status
  not_at_end done rest found now last result status none m one is =
      merging.no_memory (m.first ∷ m.others) (m.names_are ∙ ap (λ l. names_of (m.first ∷ m.others) ++ l) none ∙ append-nil (names_of (m.first ∷ m.others))) m.parts
      (subst (λ (cs : List Call). Ends (record { calls = cs; text = memory_fault_text; status = NoMemory }) last.calls status) (ap (λ o. o.calls) m.outside)
      (ends_saying now.calls now last memory_fault_text result NoMemory status refl one is))

-- ---- a run

pub loads_written : (parts : List Part) (calls : List Call) → written (all_loaded parts calls) ≡ written calls
loads_written [] calls = refl
loads_written (part ∷ parts) calls = loads_written parts (loaded part.name part.text calls)

-- the cost of what is held
pub cost_held : (held : Option Solution) (upper price : ℕ) → IsTrue (is_some held) → price ≡ threshold_of upper held → Some price ≡ cost_of held
cost_held None upper price some is = absurd (let no : false ≡ true = some in cc)
cost_held (Some best) upper price some is = ap (λ n. Some n) is

pub written_behind : {T E : Type 0} (c : Certificate) (out : List ℕ) (old middle new : Outside) (opened : Result T E) (status : Status) → is_err opened ≡ false → middle ≡ after (Open out (is_ok opened)) old →
    Outputs (spelling c) (merged_text c.lower (cost_of c.best)) Done middle new status → Writes c out old new status
written_behind c out old middle new (Ok x) status fine at put = merging.put_out (subst (λ o. Outputs (spelling c) (merged_text c.lower (cost_of c.best)) Done o new status) at put)
written_behind c out old middle new (Err e) status fine at put = absurd (let no : true ≡ false = fine in cc)

module _ (ask : MergeRequest) (old middle new : Outside) (status : Status) (bytes : List ℕ) (has : HasFile old ask.file bytes) (at : middle ≡ after (Load ask.file (Bytes bytes)) old) where
  pub merges_unread : new.files ≡ middle.files → Unread ask.format bytes middle.calls new.calls status → Merges ask old new status
  merges_unread same unread = merging.unread bytes has (same ∙ ap (λ o. o.files) at) (subst (λ (cs : List Call). Unread ask.format bytes cs new.calls status) (ap (λ o. o.calls) at) unread)

  pub merges_read : (last : Outside) (P : Network) → ReadsAs ask.format bytes P → last ≡ middle → MergesInto P ask.certificates ask.out last new status → Merges ask old new status
  merges_read last P reads same merges = merging.read bytes P has reads (subst (λ o. MergesInto P ask.certificates ask.out o new status) (same ∙ at) merges)
