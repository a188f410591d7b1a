-- Adding one clause at a time is reading them all.
use Rattle.std.proofs.Common.{◌≡◌, ℕ, suc, ◌-◌, ◌+◌, ◌≤◌, ◌<◌, List, [], ◌∷◌, ◌++◌, length, map, Result, Ok, Err, refl, sym, ap, ◌∙◌, append_assoc, arith}
use Rattle.std.proofs.lemmas.List.{append-nil, length_push}
use Rattle.std.proofs.lemmas.List.Sums.{sum_by_push}
use Rattle.cfn_model.specs.declared.reading.Refusal.{Refusal}
use Rattle.cfn_model.specs.Network.{Function, Network, cells, dims}
use Rattle.cfn_model.specs.Reading.{◌>>=◌, At}
use Rattle.cfn_net.specs.Building.{all_cells, with_function}
use Rattle.cfn_wcsp.specs.declared.fault.ReadFault.{ReadFault}
use Rattle.cfn_wcsp.specs.declared.fault.ReadFault.TheVariants.{Refused, Memory}
use Rattle.cfn_wcsp.specs.Giving.{Fails}
use Rattle.cfn_wcnf.specs.Clauses.{Clause, binary, clause_cells, function_for, occurrences}
use Rattle.cfn_wcnf.specs.Reading.{clause_from, clauses_from}
use Rattle.cfn_wcnf.specs.Gathering.{IsBinary, clause_onto, clauses_onto}
use Rattle.cfn_wcnf.proofs.Steps.{bind_ok, bind_err, ok_is}
use Rattle.cfn_wcnf.proofs.Literals.{function_cells, read_literals}

abbrev function_in : Network → Clause → Function
function_in P c = function_for (length P.sizes) P.upper c

abbrev onto : Network → Clause × At → Result (Network × At) Refusal
onto P c = Ok (with_function P (function_in P c.0), c.1)

-- the clause that was added
record Added (P : Network) (s : At) (Q : Network) (after : At) : Type 0 where
  pub clause : Clause
  pub read : clause_from (length P.sizes) (all_cells P) s ≡ Ok (clause, after)
  pub is : with_function P (function_in P clause) ≡ Q

added : (P : Network) (s : At) (Q : Network) (after : At) → clause_onto P s ≡ Ok (Q, after) → Added P s Q after
added P s Q after h =
    let b = bind_ok (clause_from (length P.sizes) (all_cells P) s) (onto P) (Q, after) h in
    let e = ok_is {A = Network × At} (with_function P (function_in P b.0.0), b.0.1) (Q, after) b.2 in
    record { clause = b.0.0; read = b.1 ∙ ap (λ (p : Network × At). Ok (b.0.0, p.1)) e; is = ap (λ (p : Network × At). p.0) e }

pub keeps_sizes : (P : Network) (s : At) (Q : Network) (after : At) → clause_onto P s ≡ Ok (Q, after) → Q.sizes ≡ P.sizes
keeps_sizes P s Q after h = sym (ap (λ R. R.sizes) (added P s Q after h).is)

pub keeps_binary : (P : Network) (s : At) (Q : Network) (after : At) → IsBinary P → clause_onto P s ≡ Ok (Q, after) → IsBinary Q
keeps_binary P s Q after are h =
    let same = keeps_sizes P s Q after h in
    same ∙ are ∙ ap (λ sizes. binary (length sizes)) (sym same)

pub one_more : (P : Network) (s : At) (Q : Network) (after : At) → clause_onto P s ≡ Ok (Q, after) → length Q.functions ≡ length P.functions + 1
one_more P s Q after h = let a = added P s Q after h in sym (ap (λ R. length R.functions) a.is) ∙ length_push P.functions (function_in P a.clause)

-- the functions of clauses, behind those that a network has
abbrev behind : Network → Result (List Clause × At) Refusal → Result (Network × At) Refusal
behind P read = read >>= λ cs. Ok (record P { functions = P.functions ++ map (function_in P) cs.0 }, cs.1)

regroup : (P : Network) (c : Clause) (read : Result (List Clause × At) Refusal) → behind P (read >>= λ cs. Ok (c ∷ cs.0, cs.1)) ≡ behind (with_function P (function_in P c)) read
regroup P c (Ok x) = ap (λ fs. Ok (record P { functions = fs }, x.1)) (sym (append_assoc P.functions (function_in P c ∷ []) (map (function_in P) x.0)))
regroup P c (Err e) = refl

more_cells : (P : Network) (s : At) (Q : Network) (after : At) → IsBinary P → (a : Added P s Q after) → all_cells (with_function P (function_in P a.clause)) ≡ all_cells P + clause_cells (occurrences a.clause.literals)
more_cells P s Q after are a =
    let n = length P.sizes in
    let f = function_in P a.clause in
    sum_by_push (λ (g : Function). cells (dims P.sizes g.scope)) P.functions f
    ∙ ap (λ k. all_cells P + k) (ap (λ sizes. cells (dims sizes f.scope)) are ∙ function_cells n P.upper a.clause (read_literals n (all_cells P) s a.clause after a.read))

one : (n so_far count : ℕ) (s after : At) (c : Clause) → clause_from n so_far s ≡ Ok (c, after)
    → clauses_from n so_far (suc count) s ≡ (clauses_from n (so_far + clause_cells (occurrences c.literals)) count after >>= λ cs. Ok (c ∷ cs.0, cs.1))
unfolding clauses_from
one n so_far count s after c h = rw h refl

none : (n so_far count : ℕ) (s : At) (r : Refusal) → clause_from n so_far s ≡ Err r → clauses_from n so_far (suc count) s ≡ Err r
unfolding clauses_from
none n so_far count s r h = rw h refl

pub go_on : (P : Network) (count i : ℕ) (s : At) (Q : Network) (after : At) (total : Result (Network × At) Refusal) → IsBinary P → i < count → clause_onto P s ≡ Ok (Q, after)
    → clauses_onto P (count - i) s ≡ total → clauses_onto Q (count - (i + 1)) after ≡ total
go_on P count i s Q after total are lt h so_far =
    let n : count - i ≡ suc (count - (i + 1)) = omega arith in
    let a = added P s Q after h in
    let step = one (length P.sizes) (all_cells P) (count - (i + 1)) s after a.clause a.read in
    sym (ap (λ m. clauses_onto P m s) n ∙ ap (behind P) step
    ∙ regroup P a.clause (clauses_from (length P.sizes) (all_cells P + clause_cells (occurrences a.clause.literals)) (count - (i + 1)) after)
    ∙ ap (λ m. behind (with_function P (function_in P a.clause)) (clauses_from (length P.sizes) m (count - (i + 1)) after)) (sym (more_cells P s Q after are a))
    ∙ ap (λ R. clauses_onto R (count - (i + 1)) after) a.is) ∙ so_far

pub end : (e : ReadFault) (P : Network) (count i : ℕ) (s : At) (total : Result (Network × At) Refusal) → i < count → Fails e (clause_onto P s) → clauses_onto P (count - i) s ≡ total → Fails e total
end Memory P count i s total lt h so_far = tt
end (Refused r) P count i s total lt h so_far =
    let n : count - i ≡ suc (count - (i + 1)) = omega arith in
    let failed = none (length P.sizes) (all_cells P) (count - (i + 1)) s r (bind_err (clause_from (length P.sizes) (all_cells P) s) (λ c. (with_function P (function_in P c.0), c.1)) r h) in
    sym so_far ∙ ap (λ m. clauses_onto P m s) n ∙ ap (behind P) failed

pub done : (P : Network) (count i : ℕ) (s : At) (total : Result (Network × At) Refusal) → count ≤ i → clauses_onto P (count - i) s ≡ total → total ≡ Ok (P, s)
unfolding clauses_from
done P count i s total le so_far =
    let n : count - i ≡ 0 = omega arith in
    sym so_far ∙ ap (λ m. clauses_onto P m s) n ∙ ap (λ fs. Ok (record P { functions = fs }, s)) (append-nil P.functions)
