-- Clauses, and the cost function that a weighted clause is (weighted partial MaxSAT, MaxSAT Evaluations).
use Rattle.std.specs.Prelude.{ℕ, ◌-◌, ◌^◌, Bool, true, false, List, [], ◌∷◌, length, map, replicate, codes, ℤ, pos, if◌then◌else◌, ◌==◌, nat_le, int_lt, unsigned_abs}
use Rattle.std.specs.List.{list_any}
use Rattle.cfn_model.specs.Network.{Function, Network, function_of}
use Rattle.cfn_wcnf.specs.declared.clause.Polarity.{Polarity}
use Rattle.cfn_wcnf.specs.declared.clause.Polarity.TheVariants.{Positive, Negative, Both}
use Rattle.cfn_wcnf.specs.declared.clause.Occurrence.{Occurrence}

-- A clause with its weight. A literal is a number other than 0: its absolute value is its variable, counted from 1, and
-- it is negated where it is negative.
pub record Clause : Type 0 where
  pub weight : ℕ
  pub literals : List ℤ

-- A formula: the number of its variables, the top, and its clauses.
pub record Formula : Type 0 where
  pub variables : ℕ
  pub top : ℕ
  pub clauses : List Clause

-- The variable of a literal, counted from 0, and its polarity.
abbrev pub variable_of : ℤ → ℕ
variable_of z = unsigned_abs z - 1

abbrev pub polarity_of : ℤ → Polarity
polarity_of z = if int_lt z (pos 0) then Negative else Positive

-- Two polarities of one variable together.
abbrev pub merge : Polarity → Polarity → Polarity
merge Positive Positive = Positive
merge Positive Negative = Both
merge Positive Both = Both
merge Negative Positive = Both
merge Negative Negative = Negative
merge Negative Both = Both
merge Both p = Both

abbrev pub occurs : ℕ → Polarity → Occurrence
occurs x p = record { variable = x; polarity = p }

-- Variables in increasing order with their polarities, and one occurrence more.
abbrev pub with_occurrence : ℕ → Polarity → List Occurrence → List Occurrence
with_occurrence x p [] = occurs x p ∷ []
with_occurrence x p (o ∷ os) =
    if nat_le x o.variable then (if o.variable == x then occurs x (merge o.polarity p) ∷ os else occurs x p ∷ o ∷ os)
    else o ∷ with_occurrence x p os

abbrev pub with_literal : List Occurrence → ℤ → List Occurrence
with_literal os z = with_occurrence (variable_of z) (polarity_of z) os

-- The variables of literals in increasing order, each once, with the polarities in which it stands there, behind those
-- of earlier literals.
abbrev pub occurrences_from : List Occurrence → List ℤ → List Occurrence
occurrences_from os [] = os
occurrences_from os (z ∷ literals) = occurrences_from (with_literal os z) literals

abbrev pub occurrences : List ℤ → List Occurrence
occurrences literals = occurrences_from [] literals

-- Whether a variable stands there in both polarities: then every assignment satisfies the clause.
abbrev pub is_both : Polarity → Bool
is_both Positive = false
is_both Negative = false
is_both Both = true

abbrev pub is_tautology : List Occurrence → Bool
is_tautology os = list_any (λ o. is_both o.polarity) os

abbrev pub variables_in : List Occurrence → List ℕ
variables_in os = map (λ o. o.variable) os

-- The value at which all literals of a variable are false.
abbrev pub refuting : Polarity → ℕ
refuting Positive = 0
refuting Negative = 1
refuting Both = 0

-- The tuple that falsifies the clause.
abbrev pub refuting_tuple : List Occurrence → List ℕ
refuting_tuple os = map (λ o. refuting o.polarity) os

-- Each variable has two values, of which 1 is true.
abbrev pub binary : ℕ → List ℕ
binary n = replicate n 2

-- How many cells the clause's function has.
abbrev pub clause_cells : List Occurrence → ℕ
clause_cells os = if is_tautology os then 1 else 2 ^ length os

-- The function of a clause that is no tautology: its weight at the tuple that falsifies it, and 0 elsewhere. The empty
-- clause is its weight.
abbrev pub falsified_costs : ℕ → ℕ → ℕ → List Occurrence → Function
falsified_costs n top weight [] = function_of (binary n) top [] weight []
falsified_costs n top weight (o ∷ os) =
    function_of (binary n) top (variables_in (o ∷ os)) 0 ((refuting_tuple (o ∷ os), weight) ∷ [])

-- The function of a clause. A tautology costs nothing.
abbrev pub clause_function : ℕ → ℕ → ℕ → List Occurrence → Function
clause_function n top weight os =
    if is_tautology os then function_of (binary n) top [] 0 [] else falsified_costs n top weight os

abbrev pub function_for : ℕ → ℕ → Clause → Function
function_for n top c = clause_function n top c.weight (occurrences c.literals)

-- The name of the network.
abbrev pub wcnf : List ℕ
wcnf = codes "wcnf"

-- The network of a formula: for each clause in order its function.
abbrev pub network_of : Formula → Network
network_of F = record {
  name = wcnf;
  sizes = binary F.variables;
  upper = F.top;
  functions = map (function_for F.variables F.top) F.clauses;
}
