use Rattle.std.proofs.Common.{◌≡◌, ℕ, Bool, true, false, List, length, refl, subst, eqb-true}
use Rattle.std.specs.Prelude.{◌&&◌, not}
use Rattle.cfn_model.specs.Network.{Network, IsNetwork}
use Rattle.cfn_best.specs.Laws.{Cheapest, Fewer, OthersCostMore}
use Rattle.cfn_bestcheck.specs.Checking.{IsChecked, IsVerified}
use Rattle.cfn_certwrite.specs.ListTexts.{list_refused_text}
use Rattle.cfn_desk.specs.Outside.{Call}
use Rattle.cfn_app.specs.declared.status.Status.{Status}
use Rattle.cfn_app.specs.declared.status.Status.TheVariants.{Disproved}
use Rattle.cfn_app.specs.Runs.Listing.{IsComplete}
use Rattle.cfn_app.specs.Runs.CheckingBest.{JudgesBest, SaysGood, VerifiesBest, verified, left_open, disproved}
use Rattle.cfn_app.proofs.Ends.{ends_saying}
use Rattle.cfn_app.proofs.commands.checking_best.judge.Goals as goal

-- a list is good: what was said, by whether it was asked whether it is complete and whether it is
module _ (P : Network) (text : List ℕ) (lower count : ℕ) (calls now : List Call) (status : Status) (network : IsNetwork P) (others_law : OthersCostMore) (cheapest_law : Cheapest) (fewer_law : Fewer) where
  verifies : (complete : Bool) (v : IsVerified P text lower count complete) → VerifiesBest P text v.certificate
  verifies complete v = record { spells = v.spells; good = v.good; network = network; others = λ values fits other. others_law P v.certificate values network v.good fits other }

  whole : (v : IsVerified P text lower count true) → IsComplete P v.certificate
  whole v =
      let is = eqb-true _ _ v.complete_is in
      record {
        lower = is;
        cheapest = λ values j fits other there. cheapest_law P v.certificate values j network v.good is fits other there;
        fewer = λ few values fits other. fewer_law P v.certificate values network v.good is few fits other;
      }

  said_of : (left complete : Bool) (v : IsVerified P text lower count complete) → SaysGood left lower count calls now status → SaysGood left v.certificate.lower (length v.certificate.list) calls now status
  said_of left complete v says = rw (v.lower_is, v.count_is) says

  judged_good : (asked complete : Bool) → IsVerified P text lower count complete → SaysGood (asked && not complete) lower count calls now status → JudgesBest asked P text calls now status
  judged_good false complete v says = verified v.certificate (verifies complete v) (λ (asks : false ≡ true). absurd cc) (said_of false complete v says)
  judged_good true true v says = verified v.certificate (verifies true v) (λ asks. whole v) (said_of false true v says)
  judged_good true false v says = left_open v.certificate (verifies false v) refl v.complete_is (said_of true false v says)

pub returns-in-Ok-Verified-clause-ends : goal.returns-in-Ok-Verified-clause-ends
returns-in-Ok-Verified-clause-ends g c =
    let old = g.D.Desk.outside c.args.desk.now in
    let new = g.D.Desk.outside c.say_good.new.desk in
    let laws = c.law_good_lists.ensures in
    let v = subst (λ answer. IsChecked c.args.network.now c.args.text.now answer) c.in-Ok-Verified.field-0-is c.in-Ok-Verified.ensures.checked in
    judged_good c.args.network.now c.args.text.now c.in-Ok-Verified.lower c.in-Ok-Verified.count old.calls new.calls c.say_good.result c.law_limits.ensures laws.others laws.cheapest laws.fewer
    c.args.asked c.in-Ok-Verified.complete v
    (subst (λ left. SaysGood left c.in-Ok-Verified.lower c.in-Ok-Verified.count old.calls new.calls c.say_good.result) c.is_left_open.ensures c.say_good.ensures.ends)

pub returns-in-Ok-Refused-clause-ends : goal.returns-in-Ok-Refused-clause-ends
returns-in-Ok-Refused-clause-ends g c =
    let old = g.D.Desk.outside c.args.desk.now in
    let new = g.D.Desk.outside c.write_list_refused.new.desk in
    let fault = subst (λ answer. IsChecked c.args.network.now c.args.text.now answer) c.in-Ok-Refused.field-0-is c.in-Ok-Refused.ensures.checked in
    disproved c.in-Ok-Refused.line c.in-Ok-Refused.kind fault
    (ends_saying old.calls old new (list_refused_text c.in-Ok-Refused.kind c.in-Ok-Refused.line) c.write_list_refused.result Disproved c.ending.result refl c.write_list_refused.ensures c.ending.ensures)
