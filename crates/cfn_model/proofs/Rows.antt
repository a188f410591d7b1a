-- Small networks whose reading, refusals, costs, sums and certificates are known, as theorems that compute.
use Rattle.std.proofs.Common.{◌≡◌, ℕ, suc, sym, ap, length, List, [], ◌∷◌, refl, arith, lit<, lit≤, inl}
use Rattle.std.proofs.lemmas.Int.{ints}
use Rattle.std.specs.Fmt.{digits}
use Rattle.std.specs.Prelude.{codes, Some, None, pos, ◌≤ℤ◌, ◌≤◌, ◌<◌, zero}
use Rattle.cfn_model.specs.declared.step.Step.TheVariants.{Project, Lift}
use Rattle.cfn_model.specs.declared.step.Event.TheVariants.{Did}
use Rattle.cfn_model.specs.declared.step.Event.{Event}
use Rattle.cfn_model.specs.declared.step.Step.{Step}
use Rattle.cfn_model.specs.declared.reading.Kind.TheVariants.{Short, NotNumber, TooLarge, NoVariables, NegativeCount, EmptyDomain, IntervalDomain, DomainTooLarge, NegativeCost, Keyword, SharedTable, VariableOutOfRange, RepeatedVariable, ValueOutOfRange, TableTooWide, TooMany}
use Rattle.cfn_model.specs.Network.{Function, Network, Fits, Least, cost}
use Rattle.cfn_model.specs.Sums.{floor, unary, residual}
use Rattle.cfn_model.specs.Steps.{CanProject, CanLift}
use Rattle.cfn_model.specs.Tree.{Open, Closed}
use Rattle.cfn_model.specs.declared.version.Version.TheVariants.{First}
use Rattle.cfn_model.specs.Certificate.{Certificate, Good}
use Rattle.cfn_model.specs.Text.{spelling, IsSpelledStep, Spells}
use Rattle.cfn_model.specs.Reading.{Reads, Refuses, check_variable, check_default, check_count, natural_at, sizes_at, scope_from, tuple_at, listing_at, listings_at, table_at, function_from, functions_from, network_at}

-- a number is not a smaller one
apart : (m n : ℕ) → m ≡ n → n < m → ⊥
apart m n e lt = absurd (omega arith)

-- a function as a row of its scope, its default and its entries
abbrev pub row : List ℕ → ℕ → List ℕ → Function
row scope default entries = record { scope = scope; default = default; entries = entries }

abbrev pub tiny : Network
tiny = record { name = codes "tiny"; sizes = 2 ∷ []; upper = 10; functions = row (0 ∷ []) 3 (3 ∷ 1 ∷ []) ∷ [] }

abbrev tiny_file : List ℕ
tiny_file = codes "tiny 1 2 1 10\n2\n1 0 3 1\n1 1\n"

pub tiny_reads : Reads tiny_file tiny
unfolding natural_at sizes_at scope_from tuple_at listing_at listings_at table_at function_from functions_from network_at
tiny_reads = refl

abbrev hard : Network
hard = record { name = codes "hard"; sizes = 2 ∷ 2 ∷ []; upper = 5; functions = row (0 ∷ 1 ∷ []) 5 (5 ∷ 5 ∷ 5 ∷ 5 ∷ []) ∷ [] }

pub hard_reads : Reads (codes "hard 2 2 1 5\n2 2\n2 0 1 5 0\n") hard
unfolding natural_at sizes_at scope_from tuple_at listing_at listings_at table_at function_from functions_from network_at
hard_reads = refl

pub const_reads : Reads (codes "const 1 2 1 10\n2\n0 4 0\n") (record { name = codes "const"; sizes = 2 ∷ []; upper = 10; functions = row [] 4 (4 ∷ []) ∷ [] })
unfolding natural_at sizes_at scope_from tuple_at listing_at listings_at table_at function_from functions_from network_at
const_reads = refl

-- the least cost of tiny is that of value 1; hard has none, since each of its assignments costs the upper bound
pub tiny_least : Least tiny 1
tiny_least = record { reached = (1 ∷ [], (lit< tt, tt), refl); below = lit< tt; bound = each }
  where
    each : (values : List ℕ) → Fits (2 ∷ []) values → 1 ≤ cost tiny values
    each [] fits = absurd fits
    each (zero ∷ []) fits = lit≤ tt
    each (suc zero ∷ []) fits = lit≤ tt
    each (suc (suc v) ∷ []) fits = absurd (omega (arith, fits.0))
    each (v ∷ w ∷ values) fits = absurd fits.1

pub tiny_least_is_not_3 : Least tiny 3 → ⊥
tiny_least_is_not_3 least = let h : 3 ≤ 1 = least.bound (1 ∷ []) (lit< tt, tt) in absurd (omega arith)

pub tiny_least_is_not_0 : Least tiny 0 → ⊥
tiny_least_is_not_0 least = each least.reached.0 least.reached.1 least.reached.2
  where
    each : (values : List ℕ) → Fits (2 ∷ []) values → cost tiny values ≡ 0 → ⊥
    each [] fits e = absurd fits
    each (zero ∷ []) fits e = apart 3 0 e (lit< tt)
    each (suc zero ∷ []) fits e = apart 1 0 e (lit< tt)
    each (suc (suc v) ∷ []) fits e = absurd (omega (arith, fits.0))
    each (v ∷ w ∷ values) fits e = absurd fits.1

pub hard_costs : (cost hard (0 ∷ 0 ∷ []) ≡ 5) × (cost hard (1 ∷ 1 ∷ []) ≡ 5)
hard_costs = (refl, refl)

pub hard_has_no_least : Least hard 5 → ⊥
hard_has_no_least least = let h : 5 < 5 = least.below in absurd (omega arith)

-- a tuple that is listed twice has the cost of its last listing
abbrev twice : Network
twice = record { name = codes "twice"; sizes = 2 ∷ []; upper = 100; functions = row (0 ∷ []) 9 (2 ∷ 9 ∷ []) ∷ [] }

pub twice_reads : Reads (codes "twice 1 2 1 100\n2\n1 0 9 2\n0 5\n0 2\n") twice
unfolding natural_at sizes_at scope_from tuple_at listing_at listings_at table_at function_from functions_from network_at
twice_reads = refl

pub twice_costs : cost twice (0 ∷ []) ≡ 2
twice_costs = refl

-- costs add up to at most the upper bound
abbrev pub top : Network
top = record { name = codes "top"; sizes = 1 ∷ []; upper = 9223372036854775807; functions = row (0 ∷ []) 9223372036854775807 (9223372036854775807 ∷ []) ∷ row (0 ∷ []) 9223372036854775807 (9223372036854775807 ∷ []) ∷ [] }

pub top_reads : Reads (codes "top 1 1 2 9223372036854775807\n1\n1 0 9223372036854775807 0\n1 0 9223372036854775807 0\n") top
unfolding natural_at sizes_at scope_from tuple_at listing_at listings_at table_at function_from functions_from network_at
top_reads = refl

pub top_costs : cost top (0 ∷ []) ≡ 9223372036854775807
top_costs = refl

-- three variables, of which each two should differ
abbrev pub tri : Network
tri = record { name = codes "tri"; sizes = 2 ∷ 2 ∷ 2 ∷ []; upper = 10; functions = row (0 ∷ 1 ∷ []) 0 (1 ∷ 0 ∷ 0 ∷ 1 ∷ []) ∷ row (0 ∷ 2 ∷ []) 0 (1 ∷ 0 ∷ 0 ∷ 1 ∷ []) ∷ row (1 ∷ 2 ∷ []) 0 (1 ∷ 0 ∷ 0 ∷ 1 ∷ []) ∷ [] }

pub tri_reads : Reads (codes "tri 3 2 3 10\n2 2 2\n2 0 1 0 2\n0 0 1\n1 1 1\n2 0 2 0 2\n0 0 1\n1 1 1\n2 1 2 0 2\n0 0 1\n1 1 1\n") tri
unfolding natural_at sizes_at scope_from tuple_at listing_at listings_at table_at function_from functions_from network_at
tri_reads = refl

pub tri_costs : cost tri (0 ∷ 0 ∷ 0 ∷ []) ≡ 3
tri_costs = refl

-- refusals: the first word that fails, and why
pub tiny_short : Refuses (codes "tiny 1 2 1 10\n2\n1 0 3 1\n1") (record { kind = Short; ordinal = 12 })
unfolding natural_at sizes_at scope_from tuple_at listing_at listings_at table_at function_from functions_from network_at
tiny_short = refl

pub empty_short : Refuses [] (record { kind = Short; ordinal = 1 })
unfolding natural_at sizes_at scope_from tuple_at listing_at listings_at table_at function_from functions_from network_at
empty_short = refl

pub keyword_refused : Refuses (codes "key 2 2 1 10\n2 2\n2 0 1 -1 >= 0 0\n") (record { kind = Keyword; ordinal = 11 })
unfolding natural_at sizes_at scope_from tuple_at listing_at listings_at table_at function_from functions_from network_at
keyword_refused = refl

pub repeated_refused : Refuses (codes "rep 2 2 1 10\n2 2\n2 0 0 0 0\n") (record { kind = RepeatedVariable; ordinal = 10 })
unfolding natural_at sizes_at scope_from tuple_at listing_at listings_at table_at function_from functions_from network_at
repeated_refused = refl

pub interval_refused : Refuses (codes "int 1 3 0 10\n-3\n") (record { kind = IntervalDomain; ordinal = 6 })
unfolding natural_at sizes_at scope_from tuple_at listing_at listings_at table_at function_from functions_from network_at
interval_refused = refl

pub wide_refused : Refuses (codes "wide 2 4096 1 10\n4096 4096\n2 0 1 0 0\n") (record { kind = TableTooWide; ordinal = 10 })
unfolding natural_at sizes_at scope_from tuple_at listing_at listings_at table_at function_from functions_from network_at
wide_refused = refl

pub letter_refused : Refuses (codes "tiny 1 x 1 10\n2\n1 0 3 1\n1 1\n") (record { kind = NotNumber; ordinal = 3 })
unfolding natural_at sizes_at scope_from tuple_at listing_at listings_at table_at function_from functions_from network_at
letter_refused = refl

pub large_refused : Refuses (codes "tiny 1 2 1 9223372036854775808\n2\n1 0 3 1\n1 1\n") (record { kind = TooLarge; ordinal = 5 })
unfolding natural_at sizes_at scope_from tuple_at listing_at listings_at table_at function_from functions_from network_at
large_refused = refl

pub no_variables_refused : Refuses (codes "n 0 2 1 10\n") (record { kind = NoVariables; ordinal = 2 })
unfolding natural_at sizes_at scope_from tuple_at listing_at listings_at table_at function_from functions_from network_at
no_variables_refused = refl

pub minus_variables_refused : Refuses (codes "n -1 2 1 10\n") (record { kind = NoVariables; ordinal = 2 })
unfolding natural_at sizes_at scope_from tuple_at listing_at listings_at table_at function_from functions_from network_at
minus_variables_refused = refl

pub many_variables_refused : Refuses (codes "n 1048577 2 1 10\n") (record { kind = TooMany; ordinal = 2 })
unfolding natural_at sizes_at scope_from tuple_at listing_at listings_at table_at function_from functions_from network_at
many_variables_refused = refl

pub most_variables_taken : Refuses (codes "n 1048576 2 1 10") (record { kind = Short; ordinal = 6 })
unfolding natural_at sizes_at scope_from tuple_at listing_at listings_at table_at function_from functions_from network_at
most_variables_taken = refl

pub negative_count_refused : Refuses (codes "n 1 2 -1 10\n2\n") (record { kind = NegativeCount; ordinal = 4 })
unfolding natural_at sizes_at scope_from tuple_at listing_at listings_at table_at function_from functions_from network_at
negative_count_refused = refl

pub many_functions_refused : Refuses (codes "n 1 2 1048577 10\n2\n") (record { kind = TooMany; ordinal = 4 })
unfolding natural_at sizes_at scope_from tuple_at listing_at listings_at table_at function_from functions_from network_at
many_functions_refused = refl

pub negative_upper_refused : Refuses (codes "n 1 2 1 -10\n2\n") (record { kind = NegativeCost; ordinal = 5 })
unfolding natural_at sizes_at scope_from tuple_at listing_at listings_at table_at function_from functions_from network_at
negative_upper_refused = refl

pub empty_domain_refused : Refuses (codes "n 1 2 1 10\n0\n") (record { kind = EmptyDomain; ordinal = 6 })
unfolding natural_at sizes_at scope_from tuple_at listing_at listings_at table_at function_from functions_from network_at
empty_domain_refused = refl

pub large_domain_refused : Refuses (codes "n 1 2 1 10\n4097\n") (record { kind = DomainTooLarge; ordinal = 6 })
unfolding natural_at sizes_at scope_from tuple_at listing_at listings_at table_at function_from functions_from network_at
large_domain_refused = refl

pub shared_tuples_refused : Refuses (codes "n 1 2 1 10\n2\n1 0 3 -1\n") (record { kind = SharedTable; ordinal = 10 })
unfolding natural_at sizes_at scope_from tuple_at listing_at listings_at table_at function_from functions_from network_at
shared_tuples_refused = refl

pub other_variable_refused : Refuses (codes "n 1 2 1 10\n2\n1 1 3 0\n") (record { kind = VariableOutOfRange; ordinal = 8 })
unfolding natural_at sizes_at scope_from tuple_at listing_at listings_at table_at function_from functions_from network_at
other_variable_refused = refl

pub negative_default_refused : Refuses (codes "n 1 2 1 10\n2\n1 0 -2 0\n") (record { kind = NegativeCost; ordinal = 9 })
unfolding natural_at sizes_at scope_from tuple_at listing_at listings_at table_at function_from functions_from network_at
negative_default_refused = refl

pub other_value_refused : Refuses (codes "n 1 2 1 10\n2\n1 0 3 1\n2 1\n") (record { kind = ValueOutOfRange; ordinal = 11 })
unfolding natural_at sizes_at scope_from tuple_at listing_at listings_at table_at function_from functions_from network_at
other_value_refused = refl

pub negative_cost_refused : Refuses (codes "n 1 2 1 10\n2\n1 0 3 1\n1 -1\n") (record { kind = NegativeCost; ordinal = 12 })
unfolding natural_at sizes_at scope_from tuple_at listing_at listings_at table_at function_from functions_from network_at
negative_cost_refused = refl

pub many_tuples_refused : Refuses (codes "n 1 2 1 10\n2\n1 0 3 67108865\n") (record { kind = TooMany; ordinal = 10 })
unfolding natural_at sizes_at scope_from tuple_at listing_at listings_at table_at function_from functions_from network_at
many_tuples_refused = refl

pub most_functions_taken : Refuses (codes "n 1 2 1048576 10\n2") (record { kind = Short; ordinal = 7 })
unfolding natural_at sizes_at scope_from tuple_at listing_at listings_at table_at function_from functions_from network_at
most_functions_taken = refl

pub largest_domain_reads : Reads (codes "n 1 2 0 10\n4096\n") (record { name = codes "n"; sizes = 4096 ∷ []; upper = 10; functions = [] })
unfolding natural_at sizes_at scope_from tuple_at listing_at listings_at table_at function_from functions_from network_at
largest_domain_reads = refl

-- what is behind the last word is not looked at, and a cost above the upper bound counts as the upper bound
pub more_words_read : Reads (codes "tiny 1 9 1 10\n2\n1 0 3 1\n1 1 -1 x\n") tiny
unfolding natural_at sizes_at scope_from tuple_at listing_at listings_at table_at function_from functions_from network_at
more_words_read = refl

pub capped_reads : Reads (codes "cap 1 2 1 10\n2\n1 0 11 1\n1 12\n") (record { name = codes "cap"; sizes = 2 ∷ []; upper = 10; functions = row (0 ∷ []) 10 (10 ∷ 10 ∷ []) ∷ [] })
unfolding natural_at sizes_at scope_from tuple_at listing_at listings_at table_at function_from functions_from network_at
capped_reads = refl

-- shared tables: a negative arity shares a function's table, and a negative number of tuples names a shared one
abbrev pub share : Network
share = record { name = codes "share"; sizes = 2 ∷ 2 ∷ 2 ∷ []; upper = 10; functions = row (0 ∷ 1 ∷ []) 0 (4 ∷ 0 ∷ 0 ∷ 0 ∷ []) ∷ row (1 ∷ 2 ∷ []) 0 (4 ∷ 0 ∷ 0 ∷ 0 ∷ []) ∷ [] }

pub share_reads : Reads (codes "share 3 2 2 10\n2 2 2\n-2 0 1 0 1\n0 0 4\n2 1 2 0 -1\n") share
unfolding natural_at sizes_at scope_from tuple_at listing_at listings_at table_at function_from functions_from network_at
share_reads = refl

pub share_costs : cost share (0 ∷ 0 ∷ 0 ∷ []) ≡ 8
share_costs = refl

-- without shared tables it is this file
pub share_plain_reads : Reads (codes "share 3 2 2 10\n2 2 2\n2 0 1 0 1\n0 0 4\n2 1 2 0 1\n0 0 4\n") share
unfolding natural_at sizes_at scope_from tuple_at listing_at listings_at table_at function_from functions_from network_at
share_plain_reads = refl

-- the later function's own default is checked and not used
pub other_default_reads : Reads (codes "share 3 2 2 10\n2 2 2\n-2 0 1 0 1\n0 0 4\n2 1 2 1 -1\n") share
unfolding natural_at sizes_at scope_from tuple_at listing_at listings_at table_at function_from functions_from network_at
other_default_reads = refl

pub keyword_before_shared_table : Refuses (codes "share 3 2 2 10\n2 2 2\n-2 0 1 0 1\n0 0 4\n2 1 2 -1 -2\n") (record { kind = Keyword; ordinal = 20 })
unfolding natural_at sizes_at scope_from tuple_at listing_at listings_at table_at function_from functions_from network_at
keyword_before_shared_table = refl

-- a shared table is refused where there are fewer, for a function whose own table becomes shared, and for another
-- arity, other domain sizes, or the same in another order
pub later_table_refused : Refuses (codes "share 3 2 2 10\n2 2 2\n-2 0 1 0 1\n0 0 4\n2 1 2 0 -2\n") (record { kind = SharedTable; ordinal = 21 })
unfolding natural_at sizes_at scope_from tuple_at listing_at listings_at table_at function_from functions_from network_at
later_table_refused = refl

pub own_shared_table_refused : Refuses (codes "share 3 2 2 10\n2 2 2\n-2 0 1 0 1\n0 0 4\n-2 1 2 0 -1\n") (record { kind = SharedTable; ordinal = 21 })
unfolding natural_at sizes_at scope_from tuple_at listing_at listings_at table_at function_from functions_from network_at
own_shared_table_refused = refl

pub other_arity_refused : Refuses (codes "share 3 2 2 10\n2 2 2\n-2 0 1 0 1\n0 0 4\n1 2 0 -1\n") (record { kind = SharedTable; ordinal = 20 })
unfolding natural_at sizes_at scope_from tuple_at listing_at listings_at table_at function_from functions_from network_at
other_arity_refused = refl

pub other_sizes_refused : Refuses (codes "share 3 3 2 10\n2 2 3\n-2 0 1 0 1\n0 0 4\n2 1 2 0 -1\n") (record { kind = SharedTable; ordinal = 21 })
unfolding natural_at sizes_at scope_from tuple_at listing_at listings_at table_at function_from functions_from network_at
other_sizes_refused = refl

pub other_order_refused : Refuses (codes "share 3 3 2 10\n2 3 2\n-2 0 1 0 1\n0 0 4\n2 1 2 0 -1\n") (record { kind = SharedTable; ordinal = 21 })
unfolding natural_at sizes_at scope_from tuple_at listing_at listings_at table_at function_from functions_from network_at
other_order_refused = refl

pub same_order_reads : Reads (codes "share 3 3 2 10\n2 3 2\n-2 0 1 0 1\n0 2 4\n2 2 1 0 -1\n") (record { name = codes "share"; sizes = 2 ∷ 3 ∷ 2 ∷ []; upper = 10; functions = row (0 ∷ 1 ∷ []) 0 (0 ∷ 0 ∷ 4 ∷ 0 ∷ 0 ∷ 0 ∷ []) ∷ row (2 ∷ 1 ∷ []) 0 (0 ∷ 0 ∷ 4 ∷ 0 ∷ 0 ∷ 0 ∷ []) ∷ [] })
unfolding natural_at sizes_at scope_from tuple_at listing_at listings_at table_at function_from functions_from network_at
same_order_reads = refl

-- all that is wrong with a function that names a shared table is refused before that, also where its own arity is below 0
pub only_shared_table_reads : Reads (codes "n 1 2 1 10\n2\n-1 0 3 0\n") (record { name = codes "n"; sizes = 2 ∷ []; upper = 10; functions = row (0 ∷ []) 3 (3 ∷ 3 ∷ []) ∷ [] })
unfolding natural_at sizes_at scope_from tuple_at listing_at listings_at table_at function_from functions_from network_at
only_shared_table_reads = refl

pub own_shared_table_refused_at_tuples : Refuses (codes "n 1 2 1 10\n2\n-1 0 3 -1\n") (record { kind = SharedTable; ordinal = 10 })
unfolding natural_at sizes_at scope_from tuple_at listing_at listings_at table_at function_from functions_from network_at
own_shared_table_refused_at_tuples = refl

pub variable_before_shared_table : Refuses (codes "n 1 2 1 10\n2\n-1 1 3 -1\n") (record { kind = VariableOutOfRange; ordinal = 8 })
unfolding natural_at sizes_at scope_from tuple_at listing_at listings_at table_at function_from functions_from network_at
variable_before_shared_table = refl

pub default_before_shared_table : Refuses (codes "n 1 2 1 10\n2\n-1 0 -2 -1\n") (record { kind = NegativeCost; ordinal = 9 })
unfolding natural_at sizes_at scope_from tuple_at listing_at listings_at table_at function_from functions_from network_at
default_before_shared_table = refl

pub large_shared_table_refused : Refuses (codes "n 1 2 1 10\n2\n1 0 3 -9223372036854775808\n") (record { kind = TooLarge; ordinal = 10 })
unfolding natural_at sizes_at scope_from tuple_at listing_at listings_at table_at function_from functions_from network_at
large_shared_table_refused = refl

-- shared tables are numbered from 1 in the order of their functions, and a function that has a shared one shares none
pub second_table_reads : Reads (codes "n 1 2 5 10\n2\n-1 0 1 0\n1 0 2 0\n-1 0 3 0\n1 0 0 -2\n1 0 0 -1\n") (record { name = codes "n"; sizes = 2 ∷ []; upper = 10; functions = row (0 ∷ []) 1 (1 ∷ 1 ∷ []) ∷ row (0 ∷ []) 2 (2 ∷ 2 ∷ []) ∷ row (0 ∷ []) 3 (3 ∷ 3 ∷ []) ∷ row (0 ∷ []) 3 (3 ∷ 3 ∷ []) ∷ row (0 ∷ []) 1 (1 ∷ 1 ∷ []) ∷ [] })
unfolding natural_at sizes_at scope_from tuple_at listing_at listings_at table_at function_from functions_from network_at
second_table_reads = refl

pub third_table_refused : Refuses (codes "n 1 2 3 10\n2\n-1 0 1 0\n1 0 0 -1\n1 0 0 -2\n") (record { kind = SharedTable; ordinal = 18 })
unfolding natural_at sizes_at scope_from tuple_at listing_at listings_at table_at function_from functions_from network_at
third_table_refused = refl

-- -0 is 0: as an arity it shares nothing, and as a number of tuples it lists none
pub minus_zero_arity_reads : Reads (codes "n 1 2 1 10\n2\n-0 4 0\n") (record { name = codes "n"; sizes = 2 ∷ []; upper = 10; functions = row [] 4 (4 ∷ []) ∷ [] })
unfolding natural_at sizes_at scope_from tuple_at listing_at listings_at table_at function_from functions_from network_at
minus_zero_arity_reads = refl

pub minus_zero_arity_shares_nothing : Refuses (codes "n 1 2 2 10\n2\n-0 4 0\n0 4 -1\n") (record { kind = SharedTable; ordinal = 12 })
unfolding natural_at sizes_at scope_from tuple_at listing_at listings_at table_at function_from functions_from network_at
minus_zero_arity_shares_nothing = refl

pub minus_zero_tuples_read : Reads (codes "n 1 2 2 10\n2\n-1 0 3 0\n1 0 4 -0\n") (record { name = codes "n"; sizes = 2 ∷ []; upper = 10; functions = row (0 ∷ []) 3 (3 ∷ 3 ∷ []) ∷ row (0 ∷ []) 4 (4 ∷ 4 ∷ []) ∷ [] })
unfolding natural_at sizes_at scope_from tuple_at listing_at listings_at table_at function_from functions_from network_at
minus_zero_tuples_read = refl

-- the tuples of one function, of 2,048 times 2,048 and of 2,048 times 2,049 values
pub most_tuples_taken : check_variable (2048 ∷ 2048 ∷ []) (0 ∷ []) (pos 1) ≡ None
most_tuples_taken = refl

pub one_row_more_refused : check_variable (2048 ∷ 2049 ∷ []) (0 ∷ []) (pos 1) ≡ Some TableTooWide
one_row_more_refused = refl

-- the tuples that are listed, and the cells of all functions, this one's with them
pub most_listings_taken : check_count [] [] (pos 0) [] (pos 67108864) ≡ None
most_listings_taken = refl

pub many_cells_refused : check_default 67108865 (pos 0) ≡ Some TooMany
many_cells_refused = refl

pub most_cells_taken : check_default 67108864 (pos 0) ≡ None
most_cells_taken = refl

-- the sums after two projects and a lift on tiny
abbrev pub shifts : List Step
shifts = Project 0 0 0 3 ∷ Project 0 0 1 1 ∷ Lift 0 1 ∷ []

abbrev pub shifted : List Event
shifted = Did (Lift 0 1) ∷ Did (Project 0 0 1 1) ∷ Did (Project 0 0 0 3) ∷ []

pub shifted_floor : floor tiny shifted ≡ 1
shifted_floor = refl

pub shifted_unary : unary tiny shifted 0 0 ≡ pos 2
shifted_unary = refl

pub shifted_other_unary : unary tiny shifted 0 1 ≡ pos 0
shifted_other_unary = refl

pub shifted_residual : residual tiny shifted 0 (0 ∷ []) ≡ pos 0
shifted_residual = refl

pub shifted_other_residual : residual tiny shifted 0 (1 ∷ []) ≡ pos 0
shifted_other_residual = refl

-- the text of two certificates
pub open_text : spelling (record { version = First; variables = 1; functions = 1; upper = 10; best = None; lower = 4; tree = Open [] }) ≡ codes "wcspcert 1\nnetwork 1 1 10\nlower 4\nbest none\ntree\nopen\nend\n"
unfolding digits
open_text = refl

abbrev tiny_certificate : ℕ → ℕ → ℕ → Certificate
tiny_certificate upper lower amount = record { version = First; variables = 1; functions = 1; upper = upper; best = Some (record { cost = 1; values = 1 ∷ [] }); lower = lower; tree = Closed (Project 0 0 0 3 ∷ Project 0 0 1 1 ∷ Lift 0 amount ∷ []) }

pub tiny_text : spelling (tiny_certificate 10 1 1) ≡ codes "wcspcert 1\nnetwork 1 1 10\nlower 1\nbest 1\nvalues 1\ntree\np 0 0 0 3\np 0 0 1 1\nu 0 1\nclosed\nend\n"
unfolding digits
tiny_text = refl

-- its spelling is the one text that spells it: not with a byte behind it, and no amount of 0 or number past the greatest
pub tiny_spelled : Spells (tiny_certificate 10 1 1) (codes "wcspcert 1\nnetwork 1 1 10\nlower 1\nbest 1\nvalues 1\ntree\np 0 0 0 3\np 0 0 1 1\nu 0 1\nclosed\nend\n")
unfolding digits
tiny_spelled = record {
  spelled = record {
    variables = lit≤ tt;
    functions = lit≤ tt;
    upper = lit≤ tt;
    best = (lit≤ tt, lit< tt, (lit≤ tt, tt));
    lower = lit≤ tt;
    tree = ((lit≤ tt, lit≤ tt, lit≤ tt, lit< tt, lit≤ tt), ((lit≤ tt, lit≤ tt, lit≤ tt, lit< tt, lit≤ tt), ((lit≤ tt, lit< tt, lit≤ tt), tt)));
    has_tree = tt;
  };
  exact = refl;
}

pub byte_behind_end : Spells (record { version = First; variables = 1; functions = 1; upper = 10; best = None; lower = 4; tree = Open [] }) (codes "wcspcert 1\nnetwork 1 1 10\nlower 4\nbest none\ntree\nopen\nend\n\n") → ⊥
unfolding digits
byte_behind_end spells = apart 59 58 (ap length spells.exact) (lit< tt)

pub amount_of_0_has_no_spelling : IsSpelledStep (Project 0 0 0 0) → ⊥
amount_of_0_has_no_spelling spelled = let h : 0 < 0 = spelled.3 in absurd (omega arith)

pub greatest_has_a_spelling : IsSpelledStep (Lift 0 9223372036854775807)
greatest_has_a_spelling = (lit≤ tt, lit< tt, lit≤ tt)

pub more_has_no_spelling : IsSpelledStep (Lift 0 9223372036854775808) → ⊥
more_has_no_spelling spelled = let h : 9223372036854775808 ≤ 9223372036854775807 = spelled.2 in absurd (omega arith)

-- each step of that certificate is allowed: the two values' costs become unary, and 1 of each is lifted
first_project : CanProject tiny [] 0 0 0 3
first_project [] fits is live = absurd fits
first_project (zero ∷ []) fits is live = omega (arith, ints)
first_project (suc v ∷ []) fits is live = absurd (omega arith)
first_project (v ∷ w ∷ tuple) fits is live = absurd fits.1

second_project : CanProject tiny (Did (Project 0 0 0 3) ∷ []) 0 0 1 1
second_project [] fits is live = absurd fits
second_project (zero ∷ []) fits is live = absurd (omega arith)
second_project (suc zero ∷ []) fits is live = omega (arith, ints)
second_project (suc (suc v) ∷ []) fits is live = absurd (omega (arith, fits.0))
second_project (v ∷ w ∷ tuple) fits is live = absurd fits.1

lift : CanLift tiny (Did (Project 0 0 1 1) ∷ Did (Project 0 0 0 3) ∷ []) 0 1
lift zero h live = omega (arith, ints)
lift (suc zero) h live = omega (arith, ints)
lift (suc (suc a)) h live = absurd (omega arith)

pub tiny_is_good : Good tiny (tiny_certificate 10 1 1)
tiny_is_good = record {
  variables = refl;
  functions = refl;
  upper = refl;
  best = record { below = lit< tt; fits = (lit< tt, tt); cost = refl };
  valid = (((record { function = lit< tt; place = lit< tt; value = lit< tt }, lit< tt, first_project), ((record { function = lit< tt; place = lit< tt; value = lit< tt }, lit< tt, second_project), ((lit< tt, lit< tt, lift), tt))), inl (lit≤ tt));
  lower = lit≤ tt;
}

-- value 1 has only 1 to lift; the bound is 1; and the upper bound is 10
pub larger_lift_is_bad : Good tiny (tiny_certificate 10 1 2) → ⊥
larger_lift_is_bad good = let can : CanLift tiny (Did (Project 0 0 1 1) ∷ Did (Project 0 0 0 3) ∷ []) 0 2 = good.valid.0.1.1.0.2 in let h : pos 2 ≤ℤ pos 1 = can 1 (lit< tt) refl in absurd (omega (arith, ints))

pub larger_lower_is_bad : Good tiny (tiny_certificate 10 2 1) → ⊥
larger_lower_is_bad good = let h : 2 ≤ 1 = good.lower in absurd (omega arith)

pub other_network_is_bad : Good tiny (tiny_certificate 9 1 1) → ⊥
other_network_is_bad good = apart 10 9 (sym good.upper) (lit< tt)
