-- What a list comes to where all of its lines are right, and that an answer is exact.
use Rattle.std.proofs.Common.{◌≡◌, ℕ, ◌<◌, ◌≤◌, Bool, List, [], length, refl, sym, ap, ap₂, subst, ◌∙◌, arith}
use Rattle.std.specs.Prelude.{◌==◌}
use Rattle.cfn_model.specs.Network.{Network, IsNetwork}
use Rattle.cfn_fault.specs.declared.kind.FaultKind.TheVariants as kinds
use Rattle.cfn_best.specs.declared.kind.ListFault.TheVariants.{Certificate}
use Rattle.cfn_best.specs.List.{is_complete}
use Rattle.cfn_best.specs.Lines.{AtOver, threshold}
use Rattle.cfn_best.specs.Fault.{HasPassed, Fault}
use Rattle.cfn_best.proofs.CallerLemmas.{faults_are_one, no_fault_where_good, one_list, others_cost_more, whole_texts}
use Rattle.cfn_bestcheck.specs.declared.answer.BestCheck.{BestCheck}
use Rattle.cfn_bestcheck.specs.declared.answer.BestCheck.TheVariants.{Verified, Refused}
use Rattle.cfn_bestcheck.specs.declared.entry.Entry.{Entry}
use Rattle.cfn_bestcheck.specs.declared.opening.Opening.{Opening}
use Rattle.cfn_bestcheck.specs.Position.{Position, At}
use Rattle.cfn_bestcheck.proofs.Entries.{as_many}
use Rattle.cfn_bestcheck.specs.Checking.{IsVerified, IsChecked, IsExact, claim_of}

verified_is : {lower other count number : ℕ} {complete whole : Bool} → lower ≡ other → count ≡ number → complete ≡ whole → Verified lower count complete ≡ Verified other number whole
verified_is l n c = rw (l, n, c) refl

pub exact : (P : Network) (bytes : List ℕ) (answer : BestCheck) → IsChecked P bytes answer → IsExact P bytes answer
exact P bytes (Verified lower count complete) v = record {
  good = λ c spells good.
      let same = one_list P bytes v.certificate c v.spells spells v.good good in
      let whole : is_complete P v.certificate ≡ is_complete P c = rw (same.lower, same.count, same.list) refl in
      verified_is (sym v.lower_is ∙ same.lower) (sym v.count_is ∙ ap length same.list) (sym v.complete_is ∙ whole);
  fault = λ kind line fault. absurd (no_fault_where_good P bytes v.certificate line kind v.spells v.good fault);
}
exact P bytes (Refused kind line) fault = record {
  good = λ c spells good. absurd (no_fault_where_good P bytes c line kind spells good fault);
  fault = λ other at its. let same = faults_are_one P bytes line at kind other fault its in ap₂ Refused same.1 same.0;
}

-- all lines are right: the lower bound decides
module _ (P : Network) (r : Position) (opening : Opening) (entries : List Entry) (least : ℕ) (at : At P r (AtOver (claim_of opening entries) least)) (none : r.rest ≡ []) where
  whole : HasPassed P r.text [] r.count (AtOver (claim_of opening entries) least)
  whole = subst (λ x. HasPassed P r.text x r.count (AtOver (claim_of opening entries) least)) none at

  pub all_verified : IsNetwork P → opening.lower ≤ least → (k : ℕ) → k ≡ threshold P (claim_of opening entries) → IsVerified P r.text opening.lower (length entries) (opening.lower == k)
  all_verified network le k is =
      let it = whole_texts P r.text r.count (claim_of opening entries) least whole in
      let c = it.0 in
      let w = it.1 in
      let good = w.good le in
      record {
        certificate = c;
        spells = w.spells;
        good = good;
        lower_is = w.lower;
        count_is = ap length w.list ∙ as_many entries;
        complete_is = rw (w.lower, w.count, w.list, is) refl;
        others = λ values fits other. (let dear = others_cost_more P c values network good fits other in omega (arith, dear, w.lower));
      }

  pub lower_above : least < opening.lower → Fault P r.text 4 (Certificate kinds.Lower)
  lower_above lt = (whole_texts P r.text r.count (claim_of opening entries) least whole).1.fault lt
