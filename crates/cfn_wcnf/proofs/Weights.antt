-- The cost of an assignment is the weight of the clauses that it falsifies, or the top.
use Rattle.std.proofs.Common.{◌≡◌, ℕ, zero, suc, ◌+◌, ◌<◌, min, Bool, true, false, ◌&&◌, ◌||◌, ◌/◌, ◌%◌, cond, List, [], ◌∷◌, length, map, get_or, drop, Result, Ok, Err, refl, sym, ap, subst, ◌∙◌, arith, inl, inr, ℤ, pos}
use Rattle.std.specs.Prelude.{slice_index, sum_by, ◌==◌, nat_le, int_lt}
use Rattle.std.specs.List.{list_all}
use Rattle.std.proofs.lemmas.Bool.{cases_Bool, cases_eq, eq-eqb, ne_eqb, eqb-true}
use Rattle.std.proofs.lemmas.List.{ext_get_or, get_or-replicate, length-replicate}
use Rattle.std.proofs.lemmas.List.Sums.{sum_by-cons}
use Rattle.std.proofs.lemmas.List.FromFn.{get_or-map-range_with_len}
use Rattle.cfn_model.specs.declared.reading.Refusal.{Refusal}
use Rattle.cfn_model.specs.Network.{Function, Network, Fits, cell, cells, dims, entry, function_of, last_listed, restrict}
use Rattle.cfn_model.specs.Reading.{At, natural_at, check_variables, check_functions, check_cost}
use Rattle.cfn_net.proofs.CallerLemmas.{Fits-at, Fits-length, cell-below, digit_at}
use Rattle.cfn_wcnf.specs.declared.clause.Polarity.{Polarity}
use Rattle.cfn_wcnf.specs.declared.clause.Polarity.TheVariants.{Positive, Negative, Both}
use Rattle.cfn_wcnf.specs.declared.clause.Occurrence.{Occurrence}
use Rattle.cfn_wcnf.specs.declared.fault.Unread.{Unread}
use Rattle.cfn_wcnf.specs.Clauses.{Clause, Formula, binary, clause_cells, clause_function, falsified_costs, function_for, is_both, is_tautology, merge, network_of, occurrences, occurrences_from, occurs, polarity_of, refuting, refuting_tuple, variable_of, variables_in, with_literal, with_occurrence}
use Rattle.cfn_wcnf.specs.Partial.{Increases}
use Rattle.cfn_wcnf.specs.Laws.{ReadsAsFormula, Weighs, false_at, falsifies, falsified_weight}
use Rattle.cfn_wcnf.specs.Reading.{behind, clause_from, clauses_from, formula, formula_at, in_words, network_for}
use Rattle.cfn_wcnf.proofs.Steps.{bind_ok, ok_is}
use Rattle.cfn_wcnf.proofs.Literals.{AreLiterals, read_literals, still_increase}
use Rattle.cfn_wcnf.proofs.Tables.{dims_binary, fits_tuple}

-- whether an assignment falsifies all literals of a variable, and of all variables
abbrev refutes : Polarity → ℕ → Bool
refutes Positive v = v == 0
refutes Negative v = v == 1
refutes Both v = false

abbrev all_refuted : List ℕ → List Occurrence → Bool
all_refuted values os = list_all (λ o. refutes o.polarity (slice_index values o.variable)) os

not_both : (v : ℕ) → ((v == 0) && (v == 1)) ≡ false
not_both v = elim (cases_eq v 0) [ inl e ↦ rw e refl | inr other ↦ rw (ne_eqb v 0 other) refl ]

not_both_either : (v : ℕ) → ((v == 1) && (v == 0)) ≡ false
not_both_either v = elim (cases_eq v 1) [ inl e ↦ rw e refl | inr other ↦ rw (ne_eqb v 1 other) refl ]

idem : (b : Bool) → (b && b) ≡ b
idem true = refl
idem false = refl

and_false : (b : Bool) → (b && false) ≡ false
and_false true = refl
and_false false = refl

and_assoc : (a b c : Bool) → ((a && b) && c) ≡ (a && (b && c))
and_assoc true b c = refl
and_assoc false b c = refl

and_swap : (a b c : Bool) → (a && (b && c)) ≡ (b && (a && c))
and_swap true true c = refl
and_swap true false c = refl
and_swap false true c = refl
and_swap false false c = refl

refutes_merged : (p q : Polarity) (v : ℕ) → refutes (merge p q) v ≡ (refutes q v && refutes p v)
refutes_merged Positive Positive v = sym (idem (v == 0))
refutes_merged Positive Negative v = sym (not_both_either v)
refutes_merged Positive Both v = refl
refutes_merged Negative Positive v = sym (not_both v)
refutes_merged Negative Negative v = sym (idem (v == 1))
refutes_merged Negative Both v = refl
refutes_merged Both q v = sym (and_false (refutes q v))

one_more : (values : List ℕ) (x : ℕ) (p : Polarity) (os : List Occurrence) → all_refuted values (with_occurrence x p os) ≡ (refutes p (slice_index values x) && all_refuted values os)
one_more values x p [] = refl
one_more values x p (o ∷ os) =
    elim (cases_Bool (nat_le x o.variable)) [
      | inl e ↦ elim (cases_Bool (o.variable == x)) [
        | inl same ↦ rw (e, same) (merged values x p o os (eqb-true o.variable x same))
        | inr other ↦ rw (e, other) refl
      ]
      | inr e ↦ rw e (ap (λ b. refutes o.polarity (slice_index values o.variable) && b) (one_more values x p os)
          ∙ and_swap (refutes o.polarity (slice_index values o.variable)) (refutes p (slice_index values x)) (all_refuted values os))
    ]
  where
    merged : (values : List ℕ) (x : ℕ) (p : Polarity) (o : Occurrence) (os : List Occurrence) → o.variable ≡ x
        → all_refuted values (occurs x (merge o.polarity p) ∷ os) ≡ (refutes p (slice_index values x) && all_refuted values (o ∷ os))
    merged values x p o os same =
        ap (λ b. b && all_refuted values os) (refutes_merged o.polarity p (slice_index values x))
        ∙ and_assoc (refutes p (slice_index values x)) (refutes o.polarity (slice_index values x)) (all_refuted values os)
        ∙ ap (λ y. refutes p (slice_index values x) && (refutes o.polarity (slice_index values y) && all_refuted values os)) (sym same)

literal_refuted : (values : List ℕ) (z : ℤ) → refutes (polarity_of z) (slice_index values (variable_of z)) ≡ (slice_index values (variable_of z) == false_at z)
literal_refuted values z = elim (cases_Bool (int_lt z (pos 0))) [ inl e ↦ rw e refl | inr e ↦ rw e refl ]

and_true : (b : Bool) → b ≡ (b && true)
and_true true = refl
and_true false = refl

turned : (a b c : Bool) → ((a && b) && c) ≡ (b && (a && c))
turned a b c = and_assoc a b c ∙ and_swap a b c

all_falsified : (values : List ℕ) (os : List Occurrence) (zs : List ℤ) → all_refuted values (occurrences_from os zs) ≡ (all_refuted values os && falsifies values zs)
all_falsified values os [] = and_true (all_refuted values os)
all_falsified values os (z ∷ zs) =
    all_falsified values (with_literal os z) zs
    ∙ ap (λ b. b && falsifies values zs) (one_more values (variable_of z) (polarity_of z) os)
    ∙ ap (λ b. (b && all_refuted values os) && falsifies values zs) (literal_refuted values z)
    ∙ turned (slice_index values (variable_of z) == false_at z) (all_refuted values os) (falsifies values zs)

-- a tautology is not falsified
no_tautology : (p : Polarity) (v : ℕ) (rest more : Bool) → (rest ≡ true → more ≡ false) → (is_both p || rest) ≡ true → (refutes p v && more) ≡ false
no_tautology Positive v rest more then e = ap (λ b. (v == 0) && b) (then e) ∙ and_false (v == 0)
no_tautology Negative v rest more then e = ap (λ b. (v == 1) && b) (then e) ∙ and_false (v == 1)
no_tautology Both v rest more then e = refl

tautology_holds : (values : List ℕ) (os : List Occurrence) → is_tautology os ≡ true → all_refuted values os ≡ false
tautology_holds values [] e = absurd cc
tautology_holds values (o ∷ os) e = no_tautology o.polarity (slice_index values o.variable) (is_tautology os) (all_refuted values os) (λ e. tautology_holds values os e) e

-- an assignment falsifies a clause where it gives its variables the tuple that does
refuted_at : (p : Polarity) (v : ℕ) → refutes p v ≡ true → refuting p ≡ v
refuted_at Positive v e = sym (eqb-true v 0 e)
refuted_at Negative v e = sym (eqb-true v 1 e)
refuted_at Both v e = absurd cc

and_parts : (a b : Bool) → (a && b) ≡ true → (a ≡ true) × (b ≡ true)
and_parts true true e = (refl, refl)
and_parts true false e = absurd cc
and_parts false b e = absurd cc

or_parts : (a b : Bool) → (a || b) ≡ false → (a ≡ false) × (b ≡ false)
or_parts true b e = absurd cc
or_parts false true e = absurd cc
or_parts false false e = (refl, refl)

matched : (values : List ℕ) (os : List Occurrence) → all_refuted values os ≡ true → refuting_tuple os ≡ restrict (variables_in os) values
matched values [] e = refl
matched values (o ∷ os) e =
    let h = and_parts (refutes o.polarity (slice_index values o.variable)) (all_refuted values os) e in
    ap (λ v. v ∷ refuting_tuple os) (refuted_at o.polarity (slice_index values o.variable) h.0) ∙ ap (λ vs. slice_index values o.variable ∷ vs) (matched values os h.1)

at_refuted : (p : Polarity) (v : ℕ) → is_both p ≡ false → refuting p ≡ v → refutes p v ≡ true
at_refuted Positive v e same = eq-eqb v 0 (sym same)
at_refuted Negative v e same = eq-eqb v 1 (sym same)
at_refuted Both v e same = absurd cc

pub unmatched : (values : List ℕ) (os : List Occurrence) → is_tautology os ≡ false → refuting_tuple os ≡ restrict (variables_in os) values → all_refuted values os ≡ true
unmatched values [] e same = refl
unmatched values (o ∷ os) e same =
    let h = or_parts (is_both o.polarity) (is_tautology os) e in
    let first : refuting o.polarity ≡ slice_index values o.variable = ap (λ (vs : List ℕ). get_or vs 0 0) same in
    let rest : refuting_tuple os ≡ restrict (variables_in os) values = ap (λ (vs : List ℕ). drop 1 vs) same in
    ap (λ b. b && all_refuted values os) (at_refuted o.polarity (slice_index values o.variable) h.0 first) ∙ unmatched values os h.1 rest

-- different tuples have different cells
same_tuple : (sizes us vs : List ℕ) → Fits sizes us → Fits sizes vs → cell sizes us ≡ cell sizes vs → us ≡ vs
same_tuple sizes us vs fu fv e =
    ext_get_or 0 us vs (Fits-length sizes us fu ∙ sym (Fits-length sizes vs fv)) (λ p lt.
    let here : p < length sizes = omega (arith, Fits-length sizes us fu) in
    sym (digit_at sizes us p fu here) ∙ ap (λ c. (c / cells (drop (suc p) sizes)) % get_or sizes p 0) e ∙ digit_at sizes vs p fv here)

fits_restrict : (n low : ℕ) (os : List Occurrence) (values : List ℕ) → Increases n low os → Fits (binary n) values → Fits (binary (length os)) (restrict (variables_in os) values)
fits_restrict n low [] values up fits = tt
fits_restrict n low (o ∷ os) values up fits =
    let below = Fits-at (binary n) values o.variable fits (omega (arith, up.1, length-replicate {A = ℕ} n 2)) in
    (omega (arith, below, get_or-replicate {A = ℕ} n o.variable 2 0 up.1), fits_restrict n (suc o.variable) os values up.2 fits)

same_cell : (n : ℕ) (values : List ℕ) (os : List Occurrence) → Increases n 0 os → Fits (binary n) values → is_tautology os ≡ false
    → (cell (dims (binary n) (variables_in os)) (refuting_tuple os) == cell (dims (binary n) (variables_in os)) (restrict (variables_in os) values)) ≡ all_refuted values os
same_cell n values os up fits e =
    let ds = dims (binary n) (variables_in os) in
    let rs = restrict (variables_in os) values in
    let there : Fits ds rs = subst (λ ds. Fits ds rs) (sym (dims_binary n 0 os up)) (fits_restrict n 0 os values up fits) in
    elim (cases_Bool (all_refuted values os)) [
      | inl all ↦ eq-eqb (cell ds (refuting_tuple os)) (cell ds rs) (ap (cell ds) (matched values os all)) ∙ sym all
      | inr some ↦ ne_eqb (cell ds (refuting_tuple os)) (cell ds rs) (λ same. let clash = sym some ∙ unmatched values os e (same_tuple ds (refuting_tuple os) rs (fits_tuple n os up) there same) in cc) ∙ sym some
    ]

-- the entry of a clause's function at an assignment
entry_listed : (n top weight : ℕ) (values : List ℕ) (scope tuple : List ℕ) → Fits (dims (binary n) scope) (restrict scope values)
    → entry (binary n) (function_of (binary n) top scope 0 ((tuple, weight) ∷ [])) (restrict scope values)
    ≡ min top (cond (cell (dims (binary n) scope) tuple == cell (dims (binary n) scope) (restrict scope values)) weight 0)
entry_listed n top weight values scope tuple fits =
    let ds = dims (binary n) scope in
    let c = cell ds (restrict scope values) in
    get_or-map-range_with_len (λ c. min top (last_listed ds 0 ((tuple, weight) ∷ []) c)) 0 (cells ds) c c 0 (cell-below ds (restrict scope values) fits) (omega arith)

entry_falsified : (n top weight : ℕ) (values : List ℕ) (os : List Occurrence) → Increases n 0 os → Fits (binary n) values → is_tautology os ≡ false
    → entry (binary n) (falsified_costs n top weight os) (restrict (falsified_costs n top weight os).scope values) ≡ min top (cond (all_refuted values os) weight 0)
entry_falsified n top weight values [] up fits e = refl
entry_falsified n top weight values (o ∷ os) up fits e =
    let scope = variables_in (o ∷ os) in
    let there : Fits (dims (binary n) scope) (restrict scope values) = subst (λ ds. Fits ds (restrict scope values)) (sym (dims_binary n 0 (o ∷ os) up)) (fits_restrict n 0 (o ∷ os) values up fits) in
    entry_listed n top weight values scope (refuting_tuple (o ∷ os)) there ∙ ap (λ b. min top (cond b weight 0)) (same_cell n values (o ∷ os) up fits e)

entry_of : (n top : ℕ) (values : List ℕ) (c : Clause) → AreLiterals n c.literals → Fits (binary n) values
    → entry (binary n) (function_for n top c) (restrict (function_for n top c).scope values) ≡ min top (cond (falsifies values c.literals) c.weight 0)
entry_of n top values c are fits =
    let os = occurrences c.literals in
    let up = still_increase n [] c.literals are tt in
    of_function os up ∙ ap (λ b. min top (cond b c.weight 0)) (all_falsified values [] c.literals)
  where
    of_function : (os : List Occurrence) → Increases n 0 os → entry (binary n) (clause_function n top c.weight os) (restrict (clause_function n top c.weight os).scope values) ≡ min top (cond (all_refuted values os) c.weight 0)
    of_function os up = elim (cases_Bool (is_tautology os)) [
      | inl e ↦ rw (e, tautology_holds values os e) refl
      | inr e ↦ rw e (entry_falsified n top c.weight values os up fits e)
    ]

-- costs above the top add up to the top
capped : (top e a rest more : ℕ) → e ≡ min top a → min top rest ≡ min top more → min top (e + rest) ≡ min top (a + more)
capped top e a rest more is same = omega arith

abbrev pub AreClauses : ℕ → List Clause → Type 0
AreClauses n [] = Unit {0}
AreClauses n (c ∷ cs) = AreLiterals n c.literals × AreClauses n cs

all_costs : (n top : ℕ) (values : List ℕ) (cs : List Clause) → AreClauses n cs → Fits (binary n) values
    → min top (sum_by (λ f. entry (binary n) f (restrict f.scope values)) (map (function_for n top) cs)) ≡ min top (falsified_weight values cs)
all_costs n top values [] are fits = refl
all_costs n top values (c ∷ cs) are fits =
    let cost_of : Function → ℕ = λ f. entry (binary n) f (restrict f.scope values) in
    let weight_of : Clause → ℕ = λ c. cond (falsifies values c.literals) c.weight 0 in
    ap (min top) (sum_by-cons cost_of (function_for n top c) (map (function_for n top) cs))
    ∙ capped top (cost_of (function_for n top c)) (weight_of c) (sum_by cost_of (map (function_for n top) cs)) (falsified_weight values cs) (entry_of n top values c are.0 fits) (all_costs n top values cs are.1 fits)
    ∙ sym (ap (min top) (sum_by-cons weight_of c cs))

-- the clauses that are read
abbrev with_front : Clause → List Clause × At → Result (List Clause × At) Refusal
with_front c cs = Ok (c ∷ cs.0, cs.1)

are_clauses : (n so_far count : ℕ) (s : At) (cs : List Clause) (after : At) → clauses_from n so_far count s ≡ Ok (cs, after) → AreClauses n cs
unfolding clauses_from
are_clauses n so_far zero s cs after h = let same = ok_is {A = List Clause × At} ([], s) (cs, after) h in subst (AreClauses n) (ap (λ (p : List Clause × At). p.0) same) tt
are_clauses n so_far (suc count) s cs after h =
    let c = bind_ok (clause_from n so_far s) _ (cs, after) h in
    let rest = bind_ok (clauses_from n (so_far + clause_cells (occurrences c.0.0.literals)) count c.0.1) (with_front c.0.0) (cs, after) c.2 in
    let same = ok_is {A = List Clause × At} (c.0.0 ∷ rest.0.0, rest.0.1) (cs, after) rest.2 in
    subst (AreClauses n) (ap (λ (p : List Clause × At). p.0) same)
    (read_literals n so_far s c.0.0 c.0.1 c.1, are_clauses n (so_far + clause_cells (occurrences c.0.0.literals)) count c.0.1 rest.0.0 rest.0.1 rest.1)

abbrev formula_of : ℕ → ℕ → List Clause × At → Result Formula Refusal
formula_of variables top cs = Ok (record { variables = variables; top = top; clauses = cs.0 })

formula_clauses : (s : At) (F : Formula) → formula_at s ≡ Ok F → AreClauses F.variables F.clauses
unfolding formula_at
formula_clauses s F h =
    let v = bind_ok (natural_at check_variables s) _ F h in
    let n = bind_ok (natural_at check_functions v.0.1) _ F v.2 in
    let t = bind_ok (natural_at check_cost n.0.1) _ F n.2 in
    let cs = bind_ok (clauses_from v.0.0 0 n.0.0 t.0.1) (formula_of v.0.0 t.0.0) F t.2 in
    let same = ok_is {A = Formula} (record { variables = v.0.0; top = t.0.0; clauses = cs.0.0 }) F cs.2 in
    subst (λ (F : Formula). AreClauses F.variables F.clauses) same (are_clauses v.0.0 0 n.0.0 t.0.1 cs.0.0 cs.0.1 cs.1)

-- the words behind the header of a file that reads
in_words_ok : (r : Result Formula Refusal) (F : Formula) → in_words r ≡ Ok F → r ≡ Ok F
in_words_ok (Ok G) F h = let same : G ≡ F = cc in ap (λ G. Ok G) same
in_words_ok (Err e) F h = absurd cc

behind_ok : (r : Result At Unread) (F : Formula) → behind r (λ s. in_words (formula_at s)) ≡ Ok F → (s : At) × (formula_at s ≡ Ok F)
behind_ok (Ok s) F h = (s, in_words_ok (formula_at s) F h)
behind_ok (Err e) F h = absurd cc

network_ok : (r : Result Formula Unread) (P : Network) → network_for r ≡ Ok P → (F : Formula) × (r ≡ Ok F) × (network_of F ≡ P)
network_ok (Ok F) P h = let same : network_of F ≡ P = cc in (F, refl, same)
network_ok (Err e) P h = absurd cc

pub weighs : (F : Formula) → AreClauses F.variables F.clauses → Weighs F (network_of F)
weighs F are = record { sizes = refl; upper = refl; costs = λ values fits. all_costs F.variables F.top values F.clauses are fits }

pub reads_as_formula : ReadsAsFormula
reads_as_formula bytes P h =
    let n = network_ok (formula bytes) P h in
    let s = behind_ok _ n.0 n.1 in
    (n.0, n.1, subst (λ (P : Network). Weighs n.0 P) n.2 (weighs n.0 (formula_clauses s.0 n.0 s.1)))
