-- Which line was read before the tree, and that it may come.
use Rattle.std.proofs.Common.{◌≡◌, ℕ, suc, List, [], ◌∷◌, true, false, refl, sym, subst}
use Rattle.std.specs.Prelude.{◌+◌, ◌<◌, ◌≤◌, length, Option, Some, None}
use Rattle.cfn_model.specs.Network.{Network}
use Rattle.cfn_model.specs.declared.step.Event.{Event}
use Rattle.cfn_fault.specs.declared.kind.FaultKind.TheVariants as kinds
use Rattle.cfn_fault.specs.Lines as lines
use Rattle.cfn_best.specs.declared.kind.ListFault.TheVariants.{Certificate}
use Rattle.cfn_best.specs.Fault.{IsNext, Fault}
use Rattle.cfn_best.specs.Lines.{ListLine, Heading, Count, Says, Claim, with_solution, threshold, State, AtHeading, AtNumbers, AtCount, AtLower, AtBest, AtList, AtNodes, AtOver, Follows, HeadingFollows, NumbersFollow, CountFollows, LowerFollows, BestFollows, ValuesFollow, RootFollows, NodeLineFollows, ListsFollows, EndFollows}
use Rattle.cfn_bestcheck.specs.declared.kinds.Numbers.{Numbers}
use Rattle.cfn_bestcheck.specs.Position.{Position, Tells, At}
use Rattle.cfn_bestcheck.specs.Checking as checking
use Rattle.cfn_bestcheck.specs.Checking.{IsRefused}
use Rattle.cfn_bestcheck.proofs.Passing.{IsOver, at_more, refused}
use Rattle.cfn_bestcheck.specs.Kinds.{is_heading, numbers_in, count_in, lower_in, many_in, values_in, is_root, is_end, is_of_tree}

-- what a line is that was told
pub headed : (o : Option ListLine) → is_heading o ≡ true → o ≡ Some Heading
headed (Some Heading) e = refl
headed _ e = absurd cc

pub numbered : (o : Option ListLine) (n : Numbers) → numbers_in o ≡ Some n → o ≡ Some (Says (lines.Numbers n.variables n.functions n.upper))
numbered (Some (Says (lines.Numbers n e upper))) its is =
    let same : record { variables = n; functions = e; upper = upper } ≡ its = cc in
    subst (λ (x : Numbers). Some (Says (lines.Numbers n e upper)) ≡ Some (Says (lines.Numbers x.variables x.functions x.upper))) same refl
numbered _ its is = absurd cc

pub counted : (o : Option ListLine) (k : ℕ) → count_in o ≡ Some k → o ≡ Some (Count k)
counted (Some (Count n)) k e = let same : n ≡ k = cc in subst (λ x. Some (Count n) ≡ Some (Count x)) same refl
counted _ k e = absurd cc

pub bounded : (o : Option ListLine) (k : ℕ) → lower_in o ≡ Some k → o ≡ Some (Says (lines.Lower k))
bounded (Some (Says (lines.Lower n))) k e = let same : n ≡ k = cc in subst (λ x. Some (Says (lines.Lower n)) ≡ Some (Says (lines.Lower x))) same refl
bounded _ k e = absurd cc

pub so_many : (o : Option ListLine) (k : ℕ) → many_in o ≡ Some k → o ≡ Some (Says (lines.Best k))
so_many (Some (Says (lines.Best n))) k e = let same : n ≡ k = cc in subst (λ x. Some (Says (lines.Best n)) ≡ Some (Says (lines.Best x))) same refl
so_many _ k e = absurd cc

-- a cost and values, of which there is one
pub record AreValues (o : Option ListLine) (cost : ℕ) (values : List ℕ) : Type 0 where
  pub first : ℕ
  pub others : List ℕ
  pub values_are : values ≡ first ∷ others
  pub line : o ≡ Some (Says (lines.Values (cost ∷ first ∷ others)))

pub valued : (o : Option ListLine) (cost : ℕ) (values : List ℕ) → values_in o ≡ Some (cost, values) → AreValues o cost values
valued (Some (Says (lines.Values (c ∷ a ∷ more)))) cost values e =
    let P : ℕ × List ℕ → Type 0 = λ p. AreValues (Some (Says (lines.Values (c ∷ a ∷ more)))) p.0 p.1 in
    subst P (same e) (record { first = a; others = more; values_are = refl; line = refl })
  where
    same : {x y : ℕ × List ℕ} → Some x ≡ Some y → x ≡ y
    same e = cc
valued _ cost values e = absurd cc

pub rooted : (o : Option ListLine) → is_root o ≡ true → o ≡ Some (Says lines.Root)
rooted (Some (Says lines.Root)) e = refl
rooted _ e = absurd cc

pub ended : (o : Option ListLine) → is_end o ≡ true → o ≡ Some (Says lines.End)
ended (Some (Says lines.End)) e = refl
ended _ e = absurd cc

-- a line that is none of these may not come
module _ (P : Network) (o : Option ListLine) where
  pub no_heading : (l : ListLine) (t : State) → o ≡ Some l → is_heading o ≡ false → Follows P AtHeading l t → ⊥
  no_heading l t is none HeadingFollows = let h : true ≡ false = subst (λ x. is_heading x ≡ false) is none in absurd cc

  pub no_numbers : (l : ListLine) (t : State) → o ≡ Some l → numbers_in o ≡ None → Follows P AtNumbers l t → ⊥
  no_numbers l t is none (NumbersFollow {n = n} {e = e} {upper = upper}) = let h : Some (record { variables = n; functions = e; upper = upper }) ≡ None = subst (λ x. numbers_in x ≡ None) is none in absurd cc

  pub no_count : (l : ListLine) (t : State) → o ≡ Some l → count_in o ≡ None → Follows P AtCount l t → ⊥
  no_count l t is none (CountFollows {count = count}) = let h : Some count ≡ None = subst (λ x. count_in x ≡ None) is none in absurd cc

  pub no_lower : (l : ListLine) (t : State) → o ≡ Some l → {count : ℕ} → lower_in o ≡ None → Follows P (AtLower count) l t → ⊥
  no_lower l t is none (LowerFollows {lower = lower}) = let h : Some lower ≡ None = subst (λ x. lower_in x ≡ None) is none in absurd cc

  pub no_many : (l : ListLine) (t : State) → o ≡ Some l → {count lower : ℕ} → many_in o ≡ None → Follows P (AtBest count lower) l t → ⊥
  no_many l t is none (BestFollows {many = many}) = let h : Some many ≡ None = subst (λ x. many_in x ≡ None) is none in absurd cc

  pub no_values : (l : ListLine) (t : State) → o ≡ Some l → {claim : Claim} {left : ℕ} → values_in o ≡ None → Follows P (AtList claim (suc left)) l t → ⊥
  no_values l t is none (ValuesFollow {cost = cost} {a = a} {values = values}) = let h : Some (cost, a ∷ values) ≡ None = subst (λ x. values_in x ≡ None) is none in absurd cc

  pub no_root : (l : ListLine) (t : State) → o ≡ Some l → {claim : Claim} → is_root o ≡ false → Follows P (AtList claim 0) l t → ⊥
  no_root l t is none RootFollows = let h : true ≡ false = subst (λ x. is_root x ≡ false) is none in absurd cc

  pub no_node : (l : ListLine) (t : State) → o ≡ Some l → {claim : Claim} {least : ℕ} {history : List Event} {paths : List (List Event)} → is_of_tree o ≡ false → Follows P (AtNodes claim least (history ∷ paths)) l t → ⊥
  no_node l t is none NodeLineFollows = let h : true ≡ false = subst (λ x. is_of_tree x ≡ false) is none in absurd cc
  no_node l t is none ListsFollows = let h : true ≡ false = subst (λ x. is_of_tree x ≡ false) is none in absurd cc

  pub no_end : (l : ListLine) (t : State) → o ≡ Some l → {claim : Claim} {least : ℕ} → is_end o ≡ false → Follows P (AtNodes claim least []) l t → ⊥
  no_end l t is none EndFollows = let h : true ≡ false = subst (λ x. is_end x ≡ false) is none in absurd cc

-- ---- what is read before the tree

abbrev pub GrammarFault : Network → Position → Type 0
GrammarFault P old = Fault P old.text (old.count + 1) (Certificate kinds.Text)

module _ (P : Network) (old new : Position) (o : Option ListLine) (tells : Tells old new o) where
  -- a line that may not come is a fault of the grammar
  not_due : (s : State) → At P old s → (IsOver s → ⊥) → ((its : ListLine) (t : State) → o ≡ Some its → Follows P s its t → ⊥) → GrammarFault P old
  not_due s at more never = refused P old new s o (Certificate kinds.Text) at more tells (checking.ByGrammar refl never)

  pub heading_stops : At P old AtHeading → is_heading o ≡ false → GrammarFault P old
  heading_stops at none = not_due AtHeading at (λ over. let e = over.2 in absurd cc) (λ its t is follows. no_heading P o its t is none follows)

  pub heading_right : At P old AtHeading → is_heading o ≡ true → At P new AtNumbers
  heading_right at is = at_more P old new AtHeading AtNumbers o Heading at tells (headed o is) HeadingFollows tt

  pub numbers_stop : At P old AtNumbers → numbers_in o ≡ None → GrammarFault P old
  numbers_stop at none = not_due AtNumbers at (λ over. let e = over.2 in absurd cc) (λ its t is follows. no_numbers P o its t is none follows)

  pub numbers_wrong : (n : Numbers) → At P old AtNumbers → numbers_in o ≡ Some n → ((n.variables ≡ length P.sizes) × (n.functions ≡ length P.functions) × (n.upper ≡ P.upper) → ⊥) → Fault P old.text (old.count + 1) (Certificate kinds.Network)
  numbers_wrong n at is other = refused P old new AtNumbers o (Certificate kinds.Network) at (λ over. let e = over.2 in absurd cc) tells (checking.ByLine (Says (lines.Numbers n.variables n.functions n.upper)) AtCount (numbered o n is) NumbersFollow (refl, other))

  pub numbers_right : (n : Numbers) → At P old AtNumbers → numbers_in o ≡ Some n → (n.variables ≡ length P.sizes) × (n.functions ≡ length P.functions) × (n.upper ≡ P.upper) → At P new AtCount
  numbers_right n at is right = at_more P old new AtNumbers AtCount o (Says (lines.Numbers n.variables n.functions n.upper)) at tells (numbered o n is) NumbersFollow right

  pub count_stops : At P old AtCount → count_in o ≡ None → GrammarFault P old
  count_stops at none = not_due AtCount at (λ over. let e = over.2 in absurd cc) (λ its t is follows. no_count P o its t is none follows)

  pub count_right : (k : ℕ) → At P old AtCount → count_in o ≡ Some k → At P new (AtLower k)
  count_right k at is = at_more P old new AtCount (AtLower k) o (Count k) at tells (counted o k is) CountFollows tt

  pub lower_stops : (k : ℕ) → At P old (AtLower k) → lower_in o ≡ None → GrammarFault P old
  lower_stops k at none = not_due (AtLower k) at (λ over. let e = over.2 in absurd cc) (λ its t is follows. no_lower P o its t is none follows)

  pub lower_right : (k lower : ℕ) → At P old (AtLower k) → lower_in o ≡ Some lower → At P new (AtBest k lower)
  lower_right k lower at is = at_more P old new (AtLower k) (AtBest k lower) o (Says (lines.Lower lower)) at tells (bounded o lower is) LowerFollows tt

  pub many_stops : (k lower : ℕ) → At P old (AtBest k lower) → many_in o ≡ None → GrammarFault P old
  many_stops k lower at none = not_due (AtBest k lower) at (λ over. let e = over.2 in absurd cc) (λ its t is follows. no_many P o its t is none follows)

  pub many_wrong : (k lower many : ℕ) → At P old (AtBest k lower) → many_in o ≡ Some many → k < many → Fault P old.text (old.count + 1) (Certificate kinds.Best)
  many_wrong k lower many at is above = refused P old new (AtBest k lower) o (Certificate kinds.Best) at (λ over. let e = over.2 in absurd cc) tells (checking.ByLine (Says (lines.Best many)) (AtList (record { count = k; lower = lower; list = [] }) many) (so_many o many is) BestFollows (refl, above))

  pub many_right : (k lower many : ℕ) → At P old (AtBest k lower) → many_in o ≡ Some many → many ≤ k → At P new (AtList (record { count = k; lower = lower; list = [] }) many)
  many_right k lower many at is few = at_more P old new (AtBest k lower) (AtList (record { count = k; lower = lower; list = [] }) many) o (Says (lines.Best many)) at tells (so_many o many is) BestFollows few

  pub root_stops : (claim : Claim) → At P old (AtList claim 0) → is_root o ≡ false → GrammarFault P old
  root_stops claim at none = not_due (AtList claim 0) at (λ over. let e = over.2 in absurd cc) (λ its t is follows. no_root P o its t is none follows)

  pub root_right : (claim : Claim) → At P old (AtList claim 0) → is_root o ≡ true → At P new (AtNodes claim (threshold P claim) ([] ∷ []))
  root_right claim at is = at_more P old new (AtList claim 0) (AtNodes claim (threshold P claim) ([] ∷ [])) o (Says lines.Root) at tells (rooted o is) RootFollows tt

  pub end_stops : (claim : Claim) (least : ℕ) → At P old (AtNodes claim least []) → is_end o ≡ false → GrammarFault P old
  end_stops claim least at none = not_due (AtNodes claim least []) at (λ over. let e = over.2 in absurd cc) (λ its t is follows. no_end P o its t is none follows)

  pub end_right : (claim : Claim) (least : ℕ) → At P old (AtNodes claim least []) → is_end o ≡ true → At P new (AtOver claim least)
  end_right claim least at is = at_more P old new (AtNodes claim least []) (AtOver claim least) o (Says lines.End) at tells (ended o is) EndFollows tt

  -- the next assignment
  pub values_stop : (claim : Claim) (left : ℕ) → At P old (AtList claim (suc left)) → values_in o ≡ None → GrammarFault P old
  values_stop claim left at none = not_due (AtList claim (suc left)) at (λ over. let e = over.2 in absurd cc) (λ its t is follows. no_values P o its t is none follows)

  pub values_wrong : (claim : Claim) (left cost : ℕ) (values : List ℕ) → At P old (AtList claim (suc left)) → values_in o ≡ Some (cost, values) → (IsNext P claim.list (record { cost = cost; values = values }) → ⊥) → Fault P old.text (old.count + 1) (Certificate kinds.Best)
  values_wrong claim left cost values at is none =
      let v = valued o cost values is in
      let never : IsNext P claim.list (record { cost = cost; values = v.first ∷ v.others }) → ⊥ = subst (λ (x : List ℕ). IsNext P claim.list (record { cost = cost; values = x }) → ⊥) v.values_are none in
      refused P old new (AtList claim (suc left)) o (Certificate kinds.Best) at (λ over. let e = over.2 in absurd cc) tells (checking.ByLine (Says (lines.Values (cost ∷ v.first ∷ v.others))) _ v.line ValuesFollow (refl, never))

  pub values_right : (claim : Claim) (left cost : ℕ) (values : List ℕ) → At P old (AtList claim (suc left)) → values_in o ≡ Some (cost, values) → IsNext P claim.list (record { cost = cost; values = values }) → At P new (AtList (with_solution (record { cost = cost; values = values }) claim) left)
  values_right claim left cost values at is next =
      let v = valued o cost values is in
      let right : IsNext P claim.list (record { cost = cost; values = v.first ∷ v.others }) = subst (λ (x : List ℕ). IsNext P claim.list (record { cost = cost; values = x })) v.values_are next in
      subst (λ (x : List ℕ). At P new (AtList (with_solution (record { cost = cost; values = x }) claim) left)) (sym v.values_are)
      (at_more P old new (AtList claim (suc left)) (AtList (with_solution (record { cost = cost; values = v.first ∷ v.others }) claim) left) o (Says (lines.Values (cost ∷ v.first ∷ v.others))) at tells v.line ValuesFollow right)
