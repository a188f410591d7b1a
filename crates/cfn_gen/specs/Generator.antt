-- Networks to try a solver on, from a seed and a number of variables. Their costs are drawn by a linear congruential
-- generator (Knuth, The Art of Computer Programming, volume 2, 3.2.1), so that everyone draws the same.
use Rattle.std.specs.Prelude.{ℕ, ◌<◌, zero, suc, ◌+◌, ◌-◌, ◌*◌, ◌%◌, List, [], ◌∷◌, ◌++◌, map, replicate, codes}
use Rattle.std.specs.List.{range_with_len}
use Rattle.cfn_model.specs.Network.{Function, Network, cost}

-- A draw leads from a state to the next one, and gives the last decimal digit of that.
abbrev pub next : ℕ → ℕ
next state = (75 * state + 74) % 65537

abbrev pub digit : ℕ → ℕ
digit state = state % 10

-- The state after so many draws, and what they give.
unfoldable pub after : ℕ → ℕ → ℕ
after state zero = state
after state (suc n) = after (next state) n

unfoldable pub drawn : ℕ → ℕ → List ℕ
drawn state zero = []
drawn state (suc n) = digit (next state) ∷ drawn (next state) n

-- The function of a variable: its three costs are the next three draws, behind those of the variables before.
abbrev pub single : ℕ → ℕ → Function
single state x = record { scope = x ∷ []; default = 0; entries = drawn (after state (3 * x)) 3 }

-- The function of a variable and the one so far behind it: its nine costs are the next nine draws.
abbrev pub pair : ℕ → ℕ → ℕ → Function
pair state apart x = record { scope = x ∷ (x + apart) ∷ []; default = 0; entries = drawn (after state (9 * x)) 9 }

-- The functions of all variables, and of all pairs of variables so far apart, of which there are so many.
abbrev pub singles : ℕ → ℕ → List Function
singles state n = map (single state) (range_with_len 0 n)

abbrev pub pairs : ℕ → ℕ → ℕ → List Function
pairs state apart n = map (pair state apart) (range_with_len 0 n)

-- The number of functions: 1 of one variable, and else three times the number of variables, less 3.
abbrev pub functions_of : ℕ → ℕ
functions_of n = n + (n - 1) + (n - 2)

-- The draws begin at the seed. First come the functions of each variable, then those of neighbours, then those of
-- variables that have one between them. Each variable has three values. The upper bound is above every sum of costs, so
-- every assignment is allowed.
abbrev pub instance : ℕ → ℕ → Network
instance seed n =
    let neighbours = after seed (3 * n) in
    let others = after neighbours (9 * (n - 1)) in
    record {
      name = codes "trial";
      sizes = replicate n 3;
      upper = 9 * functions_of n + 1;
      functions = singles seed n ++ (pairs neighbours 1 (n - 1) ++ pairs others 2 (n - 2));
    }

-- No assignment reaches the upper bound.
abbrev pub EachIsAllowed : Type 0
EachIsAllowed = (seed n : ℕ) (values : List ℕ) → cost (instance seed n) values < (instance seed n).upper
