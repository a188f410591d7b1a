-- Adding one function at a time is reading them all.
use Rattle.std.proofs.Common.{◌≡◌, ℕ, suc, ◌-◌, ◌+◌, ◌≤◌, ◌<◌, List, [], ◌∷◌, ◌++◌, length, Result, Ok, Err, refl, sym, ap, ◌∙◌, append_assoc, arith}
use Rattle.std.proofs.lemmas.List.{append-nil, length_push}
use Rattle.std.proofs.lemmas.List.Sums.{sum_by-append}
use Rattle.cfn_model.specs.declared.reading.Refusal.{Refusal}
use Rattle.cfn_model.specs.Network.{Function, Network, cells, dims}
use Rattle.cfn_model.specs.Reading.{◌>>=◌, At, function_from, functions_from}
use Rattle.cfn_net.specs.Building.{all_cells, with_function}
use Rattle.cfn_wcsp.specs.declared.fault.ReadFault.{ReadFault}
use Rattle.cfn_wcsp.specs.declared.fault.ReadFault.TheVariants.{Refused, Memory}
use Rattle.cfn_wcsp.specs.Giving.{Fails}
use Rattle.cfn_wcsp.specs.Tables.{function_onto, functions_onto}
use Rattle.cfn_wcsp.proofs.Steps.{bind_ok, bind_err, ok_is}

-- the function that was added
pub record Added (P : Network) (shared : List Function) (s : At) (Q : Network) (tables : List Function) (after : At) : Type 0 where
  pub function : Function
  pub read : function_from P.sizes P.upper shared (all_cells P) s ≡ Ok ((function, tables), after)
  pub is : with_function P function ≡ Q

pub added : (P : Network) (shared : List Function) (s : At) (Q : Network) (tables : List Function) (after : At) → function_onto P shared s ≡ Ok ((Q, tables), after) → Added P shared s Q tables after
added P shared s Q tables after h =
    let b = bind_ok (function_from P.sizes P.upper shared (all_cells P) s) (λ f. Ok ((with_function P f.0.0, f.0.1), f.1)) ((Q, tables), after) h in
    let e : ((with_function P b.0.0.0, b.0.0.1), b.0.1) ≡ ((Q, tables), after) = ok_is ((with_function P b.0.0.0, b.0.0.1), b.0.1) ((Q, tables), after) b.2 in
    record {
      function = b.0.0.0;
      read = b.1 ∙ ap (λ (p : (Network × List Function) × At). Ok ((b.0.0.0, p.0.1), p.1)) e;
      is = ap (λ (p : (Network × List Function) × At). p.0.0) e;
    }

pub keeps_sizes : (P : Network) (shared : List Function) (s : At) (Q : Network) (tables : List Function) (after : At) → function_onto P shared s ≡ Ok ((Q, tables), after) → Q.sizes ≡ P.sizes
keeps_sizes P shared s Q tables after h = sym (ap (λ R. R.sizes) (added P shared s Q tables after h).is)

pub one_more : (P : Network) (shared : List Function) (s : At) (Q : Network) (tables : List Function) (after : At) → function_onto P shared s ≡ Ok ((Q, tables), after) → length Q.functions ≡ length P.functions + 1
one_more P shared s Q tables after h =
    let a = added P shared s Q tables after h in sym (ap (λ R. length R.functions) a.is) ∙ length_push P.functions a.function

-- the functions behind those that a network has
abbrev behind : Network → Result (List Function × At) Refusal → Result (Network × At) Refusal
behind P read = read >>= λ fs. Ok (record P { functions = P.functions ++ fs.0 }, fs.1)

regroup : (P : Network) (f : Function) (read : Result (List Function × At) Refusal) → behind P (read >>= λ fs. Ok (f ∷ fs.0, fs.1)) ≡ behind (with_function P f) read
regroup P f (Ok x) = ap (λ fs. Ok (record P { functions = fs }, x.1)) (sym (append_assoc P.functions (f ∷ []) x.0))
regroup P f (Err e) = refl

more_cells : (P : Network) (f : Function) → all_cells (with_function P f) ≡ all_cells P + cells (dims P.sizes f.scope)
more_cells P f = sum_by-append (λ g. cells (dims P.sizes g.scope)) P.functions (f ∷ []) ∙ omega arith

one : (sizes : List ℕ) (upper : ℕ) (shared : List Function) (so_far n : ℕ) (s after : At) (f : Function) (tables : List Function) → function_from sizes upper shared so_far s ≡ Ok ((f, tables), after)
    → functions_from sizes upper shared so_far (suc n) s ≡ (functions_from sizes upper tables (so_far + cells (dims sizes f.scope)) n after >>= λ fs. Ok (f ∷ fs.0, fs.1))
unfolding functions_from
one sizes upper shared so_far n s after f tables h = rw h refl

none : (sizes : List ℕ) (upper : ℕ) (shared : List Function) (so_far n : ℕ) (s : At) (r : Refusal) → function_from sizes upper shared so_far s ≡ Err r → functions_from sizes upper shared so_far (suc n) s ≡ Err r
unfolding functions_from
none sizes upper shared so_far n s r h = rw h refl

pub go_on : (P : Network) (shared : List Function) (count i : ℕ) (s : At) (Q : Network) (tables : List Function) (after : At) (total : Result (Network × At) Refusal) → i < count → function_onto P shared s ≡ Ok ((Q, tables), after)
    → functions_onto P shared (count - i) s ≡ total → functions_onto Q tables (count - (i + 1)) after ≡ total
go_on P shared count i s Q tables after total lt h so_far =
    let n : count - i ≡ suc (count - (i + 1)) = omega arith in
    let a = added P shared s Q tables after h in
    let step = one P.sizes P.upper shared (all_cells P) (count - (i + 1)) s after a.function tables a.read in
    sym (ap (λ m. functions_onto P shared m s) n ∙ ap (behind P) step
    ∙ regroup P a.function (functions_from P.sizes P.upper tables (all_cells P + cells (dims P.sizes a.function.scope)) (count - (i + 1)) after)
    ∙ ap (λ m. behind (with_function P a.function) (functions_from P.sizes P.upper tables m (count - (i + 1)) after)) (sym (more_cells P a.function))
    ∙ ap (λ R. functions_onto R tables (count - (i + 1)) after) a.is) ∙ so_far

pub end : (e : ReadFault) (P : Network) (shared : List Function) (count i : ℕ) (s : At) (total : Result (Network × At) Refusal) → i < count → Fails e (function_onto P shared s) → functions_onto P shared (count - i) s ≡ total → Fails e total
end Memory P shared count i s total lt h so_far = tt
end (Refused r) P shared count i s total lt h so_far =
    let n : count - i ≡ suc (count - (i + 1)) = omega arith in
    let failed = none P.sizes P.upper shared (all_cells P) (count - (i + 1)) s r (bind_err (function_from P.sizes P.upper shared (all_cells P) s) (λ f. ((with_function P f.0.0, f.0.1), f.1)) r h) in
    sym so_far ∙ ap (λ m. functions_onto P shared m s) n ∙ ap (behind P) failed

pub done : (P : Network) (shared : List Function) (count i : ℕ) (s : At) (total : Result (Network × At) Refusal) → count ≤ i → functions_onto P shared (count - i) s ≡ total → total ≡ Ok (P, s)
unfolding functions_from
done P shared count i s total le so_far =
    let n : count - i ≡ 0 = omega arith in
    sym so_far ∙ ap (λ m. functions_onto P shared m s) n ∙ ap (λ fs. Ok (record P { functions = fs }, s)) (append-nil P.functions)
