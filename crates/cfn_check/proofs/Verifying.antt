-- What all lines of a certificate's text come to.
use Rattle.std.proofs.Common.{◌≡◌, ℕ, ◌<◌, ◌≤◌, List, [], ◌∷◌, ◌++◌, length, refl, sym, ap, ap₂, ◌∙◌, subst, arith, append_assoc, append-nil}
use Rattle.std.specs.Prelude.{Option, Some, None, unwrap_or}
use Rattle.cfn_model.specs.declared.step.Event.{Event as PathEvent}
use Rattle.cfn_model.specs.declared.version.Version as versions
use Rattle.cfn_model.specs.Network.{Network, IsNetwork, cost}
use Rattle.cfn_model.specs.Certificate.{Solution, Certificate, IsBest}
use Rattle.cfn_model.specs.Text.{Spells}
use Rattle.cfn_model.proofs.CallerLemmas.{lower_bounds}
use Rattle.cfn_fault.specs.declared.kind.FaultKind.TheVariants as kinds
use Rattle.cfn_fault.specs.Fault.{Fault, line_at}
use Rattle.cfn_fault.specs.Nodes.{paths_after}
use Rattle.cfn_fault.specs.Lines.{Line, Version, Numbers, Lower, NoBest, Best, Values, Root, Node, End, AtNodes, lines_of, lines_of_best, text_of}
use Rattle.cfn_fault.specs.Judging.{threshold_in, lower_in, open_floors, floor_at, lowest, bound_in}
use Rattle.cfn_fault.proofs.CallerLemmas.{spelled_lines, spelling_is, front_of_lines, whole_texts, one_fault, no_fault_where_good}
use Rattle.cfn_certtext.specs.Reading.{Reading}
use Rattle.cfn_check.specs.declared.answer.Check.{Check}
use Rattle.cfn_check.specs.declared.answer.Check.TheVariants.{Verified, Refused}
use Rattle.cfn_check.specs.Walking.{Walking}
use Rattle.cfn_check.specs.Checking.{Right, InTree, IsOpened, IsAll, IsVerified, IsChecked, IsExact, IsReached, cost_of, opening_lines}

-- the tree begins
pub tree_start : (P : Network) (r : Reading) (w : Walking) (lower : ℕ) (best : Option ℕ) (k : ℕ) → k ≡ unwrap_or best P.upper → w ≡ record { network = P; threshold = k; paths = [] ∷ []; least = k } → IsOpened P r lower best → InTree P r w lower best
tree_start P r w lower best k is begins opened = record {
  version = opened.0;
  values = opened.1;
  nodes = [];
  right = subst (λ (ls : List Line). Right P r ls (AtNodes opened.0 w.paths)) (sym (append-nil (opening_lines opened.0 P lower best opened.1))) (subst (λ ps. Right P r (opening_lines opened.0 P lower best opened.1) (AtNodes opened.0 ps)) (sym (ap (λ z. z.paths) begins)) opened.2);
  network = ap (λ z. z.network) begins;
  threshold = ap (λ z. z.threshold) begins ∙ is;
  least = ap (λ z. z.least) begins ∙ ap (λ m. lowest m []) (sym (ap (λ z. z.threshold) begins)) ∙ ap (lowest w.threshold) (sym (none opened.0 P lower best opened.1));
}
  where
    none : (version : versions.Version) (P : Network) (lower : ℕ) (best : Option ℕ) (values : List ℕ) → open_floors P ([] ∷ []) (opening_lines version P lower best values ++ []) ≡ []
    none version P lower None values = refl
    none version P lower (Some cost) values = refl

-- the last line has no floor
open_floors-end : (P : Network) (paths : List (List PathEvent)) (ls : List Line) → open_floors P paths (ls ++ End ∷ []) ≡ open_floors P paths ls
open_floors-end P [] [] = refl
open_floors-end P [] (l ∷ ls) = refl
open_floors-end P (history ∷ paths) [] = refl
open_floors-end P (history ∷ paths) (Version version ∷ ls) = open_floors-end P (history ∷ paths) ls
open_floors-end P (history ∷ paths) (Numbers n e upper ∷ ls) = open_floors-end P (history ∷ paths) ls
open_floors-end P (history ∷ paths) (Lower lower ∷ ls) = open_floors-end P (history ∷ paths) ls
open_floors-end P (history ∷ paths) (NoBest ∷ ls) = open_floors-end P (history ∷ paths) ls
open_floors-end P (history ∷ paths) (Best cost ∷ ls) = open_floors-end P (history ∷ paths) ls
open_floors-end P (history ∷ paths) (Values values ∷ ls) = open_floors-end P (history ∷ paths) ls
open_floors-end P (history ∷ paths) (Root ∷ ls) = open_floors-end P (history ∷ paths) ls
open_floors-end P (history ∷ paths) (Node item ∷ ls) = ap (λ fs. floor_at P history item ++ fs) (open_floors-end P (paths_after history item ++ paths) ls)
open_floors-end P (history ∷ paths) (End ∷ ls) = open_floors-end P (history ∷ paths) ls

-- what the first lines claim
abbrev best_in : List Line → Option ℕ
best_in (Version version ∷ Numbers n e upper ∷ Lower lower ∷ Best cost ∷ ls) = Some cost
best_in ls = None

opening_claims : (version : versions.Version) (P : Network) (lower : ℕ) (best : Option ℕ) (values : List ℕ) (nodes : List Line) → (lower_in ((opening_lines version P lower best values ++ nodes) ++ End ∷ []) ≡ lower) × (best_in ((opening_lines version P lower best values ++ nodes) ++ End ∷ []) ≡ best) × (threshold_in ((opening_lines version P lower best values ++ nodes) ++ End ∷ []) ≡ unwrap_or best P.upper)
opening_claims version P lower None values nodes = (refl, refl, refl)
opening_claims version P lower (Some cost) values nodes = (refl, refl, refl)

certificate_claims : (version : versions.Version) (n e upper lower : ℕ) (best : Option Solution) (more : List Line) → best_in ((Version version ∷ Numbers n e upper ∷ Lower lower ∷ lines_of_best best) ++ more) ≡ cost_of best
certificate_claims version n e upper lower None more = claims_none more
  where
    claims_none : (more : List Line) → best_in (Version version ∷ Numbers n e upper ∷ Lower lower ∷ NoBest ∷ more) ≡ None
    claims_none more = refl
certificate_claims version n e upper lower (Some best) more = refl

-- the best assignment has its cost
best_reached : (P : Network) (found : Option Solution) (best : Option ℕ) → cost_of found ≡ best → IsBest P found → IsReached P best
best_reached P None best is has = subst (λ b. IsReached P b) is tt
best_reached P (Some s) best is has =
    let here : IsReached P (Some s.cost) = (s.values, has.fits, has.cost) in
    subst (λ b. IsReached P b) is here

-- where all lines are right, the certificate is good or its lower bound is the fault
pub record Ends (P : Network) (bytes : List ℕ) (w : Walking) (lower : ℕ) (best : Option ℕ) : Type 0 where
  pub verified : lower ≤ w.least → IsVerified P bytes lower best
  pub refused : w.least < lower → Fault P bytes 3 kinds.Lower

pub tree_ends : (P : Network) (r : Reading) (w : Walking) (bytes : List ℕ) (lower : ℕ) (best : Option ℕ) → IsNetwork P → (tree : InTree P r w lower best) → IsAll P bytes ((opening_lines tree.version P lower best tree.values ++ tree.nodes) ++ End ∷ []) → Ends P bytes w lower best
tree_ends P r w bytes lower best network tree all =
    let ls = (opening_lines tree.version P lower best tree.values ++ tree.nodes) ++ End ∷ [] in
    let claims = opening_claims tree.version P lower best tree.values tree.nodes in
    let whole = whole_texts P bytes ls all.fronts all.pass in
    let c = whole.0 in
    let k : threshold_in ls ≡ w.threshold = claims.2 ∙ sym tree.threshold in
    let bound : bound_in P ls ≡ w.least = ap₂ lowest k (open_floors-end P ([] ∷ []) (opening_lines tree.version P lower best tree.values ++ tree.nodes)) ∙ sym tree.least in
    let same : c.lower ≡ lower = ap lower_in whole.1.lines ∙ claims.0 in
    let costs : cost_of c.best ≡ best = sym (certificate_claims c.version c.variables c.functions c.upper c.lower c.best _) ∙ ap best_in whole.1.lines ∙ claims.1 in
    record {
      verified = λ enough. let good = whole.1.good (omega (arith, claims.0, bound)) in record {
        certificate = c;
        spells = whole.1.spells;
        good = good;
        lower_is = same;
        best_is = costs;
        reached = best_reached P c.best best costs good.best;
        bound = λ values fits. (let l = lower_bounds P c values network good fits in omega (arith, l, same));
      };
      refused = λ above. whole.1.fault (omega (arith, claims.0, bound));
    }

-- two certificates with one text claim the same
same_lines : (c other : Certificate) (bytes : List ℕ) → Spells c bytes → Spells other bytes → (rest : List Line) × (lines_of c ≡ lines_of other ++ rest)
same_lines c other bytes spells its =
    let text : bytes ≡ text_of (lines_of other) ++ [] = its.exact ∙ spelling_is other ∙ sym (append-nil (text_of (lines_of other))) in
    let front = front_of_lines c bytes [] (lines_of other) (length (lines_of other)) spells.spelled (spelled_lines other its.spelled) text (omega arith) (λ i l. ap (λ b. line_at b i) (sym spells.exact)) in
    (front.rest, front.whole)

best_same : (c other : Certificate) (rest : List Line) → lines_of c ≡ lines_of other ++ rest → cost_of c.best ≡ cost_of other.best
best_same c other rest is =
    sym (certificate_claims c.version c.variables c.functions c.upper c.lower c.best _) ∙ ap best_in is
    ∙ ap best_in (append_assoc (Version other.version ∷ Numbers other.variables other.functions other.upper ∷ Lower other.lower ∷ lines_of_best other.best) _ rest)
    ∙ certificate_claims other.version other.variables other.functions other.upper other.lower other.best _

pub exact : (P : Network) (bytes : List ℕ) (answer : Check) → IsChecked P bytes answer → IsExact P bytes answer
exact P bytes (Verified lower best) v = record {
  good = λ c spells good.
      (let lines = same_lines c v.certificate bytes spells v.spells in
      let lower_is : c.lower ≡ v.certificate.lower = ap lower_in lines.1 in
      let best_is = best_same c v.certificate lines.0 lines.1 in
      ap₂ Verified (sym v.lower_is ∙ sym lower_is) (sym v.best_is ∙ sym best_is));
  fault = λ kind line fault. absurd (no_fault_where_good P bytes v.certificate line kind v.spells v.good fault);
}
exact P bytes (Refused kind line) f = record {
  good = λ c spells good. absurd (no_fault_where_good P bytes c line kind spells good f);
  fault = λ other at fault. (let e = one_fault P bytes line at kind other f fault in ap₂ Refused e.1 e.0);
}
