-- The cost of an assignment, a function at a time.
use Rattle.std.proofs.Common.{◌≡◌, ℕ, ◌+◌, ◌<◌, ◌≤◌, min, List, length, take, ap, arith}
use Rattle.std.specs.List.{sum_by}
use Rattle.std.proofs.lemmas.List.{take_all}
use Rattle.std.proofs.lemmas.List.Sums.{sum_by_more}
use Rattle.cfn_model.specs.Network.{Function, Network, entry, restrict, cost, function_at, no_function}

-- what one function adds
abbrev pub part : Network → List ℕ → Function → ℕ
part P values f = entry P.sizes f (restrict f.scope values)

-- the cost by the first functions
abbrev pub cost_to : Network → List ℕ → ℕ → ℕ
cost_to P values i = min P.upper (sum_by (part P values) (take i P.functions))

pub cost_to-start : (P : Network) (values : List ℕ) → cost_to P values 0 ≡ 0
cost_to-start P values = omega arith

pub cost_to-more : (P : Network) (values : List ℕ) (i : ℕ) → i < length P.functions → min P.upper (cost_to P values i + part P values (function_at P i)) ≡ cost_to P values (i + 1)
cost_to-more P values i l =
    let more = sum_by_more (part P values) P.functions i no_function l in
    capped P.upper (sum_by (part P values) (take i P.functions)) (part P values (function_at P i)) (sum_by (part P values) (take (i + 1) P.functions)) more
  where
    capped : (upper sum here next : ℕ) → next ≡ sum + here → min upper (min upper sum + here) ≡ min upper next
    capped upper sum here next e = omega arith

pub cost_to-end : (P : Network) (values : List ℕ) (i : ℕ) → length P.functions ≤ i → cost_to P values i ≡ cost P values
cost_to-end P values i l = ap (λ fs. min P.upper (sum_by (part P values) fs)) (take_all i P.functions l)
