-- Lines that are right, up to the end, are those of a list; and what follows for texts.
use Rattle.std.proofs.Common.{◌≡◌, ℕ, zero, suc, ◌+◌, ◌<◌, ◌≤◌, min, List, [], ◌∷◌, ◌++◌, length, map, refl, sym, ap, ap₂, subst, ◌∙◌, arith, append_assoc, append-nil}
use Rattle.std.specs.Prelude.{flat_map}
use Rattle.std.specs.List.{AllByRecursion}
use Rattle.cfn_model.specs.declared.step.Event.{Event}
use Rattle.cfn_model.specs.Network.{Network}
use Rattle.cfn_model.specs.Certificate.{Solution, IsSolution}
use Rattle.cfn_fault.specs.Lines as lines
use Rattle.cfn_best.specs.Tree.{ListTree, IsValid, bound}
use Rattle.cfn_best.specs.List.{ListCertificate, IsOrdered, GoodList}
use Rattle.cfn_best.specs.Lines.{ListLine, Heading, Count, Says, IsSpelledLine, text_of, lines_of_tree, line_of_solution, lines_of, Spells, Claim, with_solution, threshold, State, AtHeading, AtNumbers, AtCount, AtLower, AtBest, AtList, AtNodes, AtOver, Follows, HeadingFollows, NumbersFollow, CountFollows, LowerFollows, BestFollows, ValuesFollow, RootFollows}
use Rattle.cfn_best.specs.Fault.{LinePasses, AllPass, HasPassed, LowerAbove}
use Rattle.cfn_best.specs.Laws.{OneList, NoFaultWhereGood, WholeTexts}
use Rattle.cfn_best.proofs.Unlisted.{bound_low}
use Rattle.cfn_best.proofs.Ordering.{ordered_more}
use Rattle.cfn_best.proofs.Passing.{same_end, no_fault_behind}
use Rattle.cfn_best.proofs.Growing.{AllSpelled, AllValid, least_bound, grown, with_list, claim_of, bound_of, good_passes}

all_spelled : (P : Network) (s t : State) (ls : List ListLine) → AllPass P s ls t → AllSpelled ls
all_spelled P s t [] run = tt
all_spelled P s t (l ∷ ls) run = (run.1.spelled, all_spelled P run.0 t ls run.2)

module _ (P : Network) (other : Claim) (low : ℕ) where
  record TreeRead (claim : Claim) (ls : List ListLine) : Type 0 where
    tree : ListTree
    lines_are : ls ≡ lines_of_tree tree ++ Says lines.End ∷ []
    valid : IsValid P claim.list [] tree (threshold P claim)
    low_is : low ≡ bound P [] tree (threshold P claim)
    same : other ≡ claim

  one_tree : (claim : Claim) (ls : List ListLine) → AllPass P (AtNodes claim (threshold P claim) ([] ∷ [])) ls (AtOver other low) → TreeRead claim ls
  one_tree claim ls run = let g = grown P claim other low ls (threshold P claim) ([] ∷ []) (omega arith) run in by_trees g.trees g.lines_are g.valid g.low_is g.same
    where
      by_trees : (trees : List ListTree) → ls ≡ flat_map lines_of_tree trees ++ Says lines.End ∷ [] → AllValid P claim ([] ∷ []) trees → low ≡ min (threshold P claim) (least_bound P (threshold P claim) ([] ∷ []) trees) → other ≡ claim → TreeRead claim ls
      by_trees [] is valid low_is same = absurd valid
      by_trees (tree ∷ next ∷ trees) is valid low_is same = absurd valid.1
      by_trees (tree ∷ []) is valid low_is same = record {
        tree = tree;
        lines_are = is ∙ ap (λ x. x ++ Says lines.End ∷ []) (append-nil (lines_of_tree tree));
        valid = valid.0;
        low_is = omega (arith, low_is, bound_low P [] tree (threshold P claim));
        same = same;
      }

  record ListRead (claim : Claim) (left : ℕ) (ls : List ListLine) : Type 0 where
    found : List Solution
    tree : ListTree
    lines_are : ls ≡ map line_of_solution found ++ Says lines.Root ∷ (lines_of_tree tree ++ Says lines.End ∷ [])
    many : length found ≡ left
    claim_is : other ≡ with_list (claim.list ++ found) claim
    solutions : AllByRecursion (IsSolution P) found
    ordered : IsOrdered claim.list → IsOrdered (claim.list ++ found)
    values : AllByRecursion (λ s. 0 < length s.values) found
    valid : IsValid P (claim.list ++ found) [] tree (threshold P (with_list (claim.list ++ found) claim))
    low_is : low ≡ bound P [] tree (threshold P (with_list (claim.list ++ found) claim))

  list_line : (claim : Claim) (left : ℕ) (l : ListLine) (m : State) (ls : List ListLine) → Follows P (AtList claim left) l m → LinePasses P (AtList claim left) l → AllPass P m ls (AtOver other low)
      → ((next : Claim) (n : ℕ) → AllPass P (AtList next n) ls (AtOver other low) → ListRead next n ls) → ListRead claim left (l ∷ ls)
  list_line claim left l m ls RootFollows right rest more =
      let t = one_tree claim ls rest in
      let same : claim.list ≡ claim.list ++ [] = sym (append-nil claim.list) in
      record {
        found = [];
        tree = t.tree;
        lines_are = ap (λ x. Says lines.Root ∷ x) t.lines_are;
        many = refl;
        claim_is = t.same ∙ ap (λ x. with_list x claim) same;
        solutions = tt;
        ordered = λ o. subst IsOrdered same o;
        values = tt;
        valid = subst (λ x. IsValid P x [] t.tree (threshold P (with_list x claim))) same t.valid;
        low_is = t.low_is ∙ ap (λ x. bound P [] t.tree (threshold P (with_list x claim))) same;
      }
  list_line claim left l m ls (ValuesFollow {left = fewer} {cost = cost} {a = a} {values = values}) right rest more =
      let s : Solution = record { cost = cost; values = a ∷ values } in
      let r = more (with_solution s claim) fewer rest in
      let same : (claim.list ++ s ∷ []) ++ r.found ≡ claim.list ++ s ∷ r.found = append_assoc claim.list (s ∷ []) r.found in
      record {
        found = s ∷ r.found;
        tree = r.tree;
        lines_are = ap (λ x. line_of_solution s ∷ x) r.lines_are;
        many = ap suc r.many;
        claim_is = r.claim_is ∙ ap (λ x. with_list x claim) same;
        solutions = (right.solution, r.solutions);
        ordered = λ o. subst IsOrdered same (r.ordered (ordered_more claim.list s o right.behind));
        values = (omega arith, r.values);
        valid = subst (λ x. IsValid P x [] r.tree (threshold P (with_list x claim))) same r.valid;
        low_is = r.low_is ∙ ap (λ x. bound P [] r.tree (threshold P (with_list x claim))) same;
      }

  list_read : (ls : List ListLine) (claim : Claim) (left : ℕ) → AllPass P (AtList claim left) ls (AtOver other low) → ListRead claim left ls
  list_read [] claim left run = absurd cc
  list_read (l ∷ ls) claim left run = list_line claim left l run.0 ls run.1.follows run.1.right run.2 (λ next n rest. list_read ls next n rest)

  -- the list that lines are those of
  record Read (ls : List ListLine) : Type 0 where
    its : ListCertificate
    lines_are : ls ≡ lines_of its
    claim_is : other ≡ claim_of its
    values : AllByRecursion (λ s. 0 < length s.values) its.list
    good : its.lower ≤ low → GoodList P its

  abbrev HasNumbers : ℕ → ℕ → ℕ → Type 0
  HasNumbers n e upper = (n ≡ length P.sizes) × (e ≡ length P.functions) × (upper ≡ P.upper)

  abbrev before_best : ℕ → ℕ → ℕ → ℕ → ℕ → List ListLine → List ListLine
  before_best n e upper count lower ls = Heading ∷ Says (lines.Numbers n e upper) ∷ Count count ∷ Says (lines.Lower lower) ∷ ls

  best_line : (n e upper count lower : ℕ) (l : ListLine) (m : State) (ls : List ListLine) → HasNumbers n e upper → Follows P (AtBest count lower) l m → LinePasses P (AtBest count lower) l → AllPass P m ls (AtOver other low) → Read (before_best n e upper count lower (l ∷ ls))
  best_line n e upper count lower l m ls numbers (BestFollows {many = many}) right rest =
      let r = list_read ls (record { count = count; lower = lower; list = [] }) many rest in
      let its : ListCertificate = record { variables = n; functions = e; upper = upper; count = count; lower = lower; list = r.found; tree = r.tree } in
      record {
        its = its;
        lines_are = ap (before_best n e upper count lower) (ap₂ (λ k x. Says (lines.Best k) ∷ x) (sym r.many) r.lines_are);
        claim_is = r.claim_is;
        values = r.values;
        good = λ le. record {
          variables = numbers.0;
          functions = numbers.1;
          upper = numbers.2;
          few = omega (arith, right, r.many);
          solutions = r.solutions;
          ordered = r.ordered tt;
          valid = r.valid;
          lower = omega (arith, le, r.low_is);
        };
      }

  at_best : (n e upper count lower : ℕ) (ls : List ListLine) → HasNumbers n e upper → AllPass P (AtBest count lower) ls (AtOver other low) → Read (before_best n e upper count lower ls)
  at_best n e upper count lower [] numbers run = absurd cc
  at_best n e upper count lower (l ∷ ls) numbers run = best_line n e upper count lower l run.0 ls numbers run.1.follows run.1.right run.2

  lower_line : (n e upper count : ℕ) (l : ListLine) (m : State) (ls : List ListLine) → HasNumbers n e upper → Follows P (AtLower count) l m → AllPass P m ls (AtOver other low) → Read (Heading ∷ Says (lines.Numbers n e upper) ∷ Count count ∷ l ∷ ls)
  lower_line n e upper count l m ls numbers (LowerFollows {lower = lower}) rest = at_best n e upper count lower ls numbers rest

  at_lower : (n e upper count : ℕ) (ls : List ListLine) → HasNumbers n e upper → AllPass P (AtLower count) ls (AtOver other low) → Read (Heading ∷ Says (lines.Numbers n e upper) ∷ Count count ∷ ls)
  at_lower n e upper count [] numbers run = absurd cc
  at_lower n e upper count (l ∷ ls) numbers run = lower_line n e upper count l run.0 ls numbers run.1.follows run.2

  count_line : (n e upper : ℕ) (l : ListLine) (m : State) (ls : List ListLine) → HasNumbers n e upper → Follows P AtCount l m → AllPass P m ls (AtOver other low) → Read (Heading ∷ Says (lines.Numbers n e upper) ∷ l ∷ ls)
  count_line n e upper l m ls numbers (CountFollows {count = count}) rest = at_lower n e upper count ls numbers rest

  at_count : (n e upper : ℕ) (ls : List ListLine) → HasNumbers n e upper → AllPass P AtCount ls (AtOver other low) → Read (Heading ∷ Says (lines.Numbers n e upper) ∷ ls)
  at_count n e upper [] numbers run = absurd cc
  at_count n e upper (l ∷ ls) numbers run = count_line n e upper l run.0 ls numbers run.1.follows run.2

  numbers_line : (l : ListLine) (m : State) (ls : List ListLine) → Follows P AtNumbers l m → LinePasses P AtNumbers l → AllPass P m ls (AtOver other low) → Read (Heading ∷ l ∷ ls)
  numbers_line l m ls (NumbersFollow {n = n} {e = e} {upper = upper}) right rest = at_count n e upper ls right rest

  at_numbers : (ls : List ListLine) → AllPass P AtNumbers ls (AtOver other low) → Read (Heading ∷ ls)
  at_numbers [] run = absurd cc
  at_numbers (l ∷ ls) run = numbers_line l run.0 ls run.1.follows run.1.right run.2

  heading_line : (l : ListLine) (m : State) (ls : List ListLine) → Follows P AtHeading l m → AllPass P m ls (AtOver other low) → Read (l ∷ ls)
  heading_line l m ls HeadingFollows rest = at_numbers ls rest

  read : (ls : List ListLine) → AllPass P AtHeading ls (AtOver other low) → Read ls
  read [] run = absurd cc
  read (l ∷ ls) run = heading_line l run.0 ls run.1.follows run.2

pub whole_texts : WholeTexts
whole_texts P bytes n claim least passed =
    let r = read P claim least passed.lines passed.right in
    let lower : r.its.lower ≡ claim.lower = ap (λ x. x.lower) (sym r.claim_is) in (
      r.its,
      record {
        spells = record {
          spelled = record { lines = subst AllSpelled r.lines_are (all_spelled P AtHeading (AtOver claim least) passed.lines passed.right); values = r.values };
          exact = passed.text ∙ append-nil (text_of passed.lines) ∙ ap text_of r.lines_are;
        };
        count = ap (λ x. x.count) (sym r.claim_is);
        lower = lower;
        list = ap (λ x. x.list) (sym r.claim_is);
        good = λ le. r.good (omega (arith, lower, le));
        fault = λ lt. LowerAbove n claim least passed lt refl refl;
      },
    )

-- a good list's text, as lines that are right
good_text : (P : Network) (bytes : List ℕ) (c : ListCertificate) → Spells c bytes → GoodList P c → HasPassed P bytes [] (length (lines_of c)) (AtOver (claim_of c) (bound_of P c))
good_text P bytes c spells good = record { lines = lines_of c; count = refl; text = spells.exact ∙ sym (append-nil (text_of (lines_of c))); right = good_passes P c spells.spelled good }

pub no_fault_where_good : NoFaultWhereGood
no_fault_where_good P bytes c l kind spells good fault = no_fault_behind P bytes (length (lines_of c)) l (claim_of c) (bound_of P c) kind (good_text P bytes c spells good) good.lower fault

pub one_list : OneList
one_list P bytes c d sc sd gc gd =
    let same = same_end P bytes (length (lines_of c)) (length (lines_of d)) (claim_of c) (claim_of d) (bound_of P c) (bound_of P d) (good_text P bytes c sc gc) (good_text P bytes d sd gd) in
    record { count = ap (λ x. x.count) same.claim_is; lower = ap (λ x. x.lower) same.claim_is; list = ap (λ x. x.list) same.claim_is }
