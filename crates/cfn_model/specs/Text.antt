-- The texts that the program writes and says: lines of words, parted by one space, each line ended by LF.
use Rattle.std.specs.Prelude.{◌≡◌, ℕ, ◌<◌, ◌≤◌, List, [], ◌∷◌, ◌++◌, length, map, flat_map, Option, Some, None, decimal, codes, if◌then◌else◌, nat_lt}
use Rattle.std.specs.List.{AllByRecursion}
use Rattle.cfn_model.specs.declared.step.Step.{Step}
use Rattle.cfn_model.specs.declared.step.Step.TheVariants.{Project, Extend, Lift, CutValue, CutTuple}
use Rattle.cfn_model.specs.declared.step.Decision.{Decision}
use Rattle.cfn_model.specs.declared.step.Decision.TheVariants.{Is, Most}
use Rattle.cfn_model.specs.declared.version.Version.{Version}
use Rattle.cfn_model.specs.declared.version.Version.TheVariants.{First, Second}
use Rattle.cfn_model.specs.declared.reading.Kind.{Kind}
use Rattle.cfn_model.specs.declared.reading.Kind.TheVariants.{Short, NotNumber, TooLarge, NoVariables, NegativeCount, EmptyDomain, IntervalDomain, DomainTooLarge, NegativeCost, Keyword, SharedTable, VariableOutOfRange, RepeatedVariable, ValueOutOfRange, TableTooWide, TooMany}
use Rattle.cfn_model.specs.declared.reading.Refusal.{Refusal}
use Rattle.cfn_model.specs.declared.report.Row.{Row}
use Rattle.cfn_model.specs.declared.report.ResultWord.{ResultWord}
use Rattle.cfn_model.specs.declared.report.ResultWord.TheVariants.{Optimum, Nothing, Budget, Time, Part, Memory}
use Rattle.cfn_model.specs.Words.{greatest}
use Rattle.cfn_model.specs.Tree.{Tree, Open, Closed, Split}
use Rattle.cfn_model.specs.Certificate.{Solution, Certificate}

-- What stands behind a word: LF behind the last one of a line, and else a space.
abbrev pub behind : List (List ℕ) → ℕ
behind [] = 10
behind (word ∷ words) = 32

abbrev pub line : List (List ℕ) → List ℕ
line [] = []
line (word ∷ words) = word ++ behind words ∷ line words

abbrev pub text : List (List (List ℕ)) → List ℕ
text lines = flat_map line lines

-- The words of a step's line in a certificate.
abbrev pub step_words : Step → List (List ℕ)
step_words (Project f i a m) = codes "p" ∷ decimal f ∷ decimal i ∷ decimal a ∷ decimal m ∷ []
step_words (Extend f i a m) = codes "e" ∷ decimal f ∷ decimal i ∷ decimal a ∷ decimal m ∷ []
step_words (Lift x m) = codes "u" ∷ decimal x ∷ decimal m ∷ []
step_words (CutValue x a) = codes "v" ∷ decimal x ∷ decimal a ∷ []
step_words (CutTuple f c) = codes "t" ∷ decimal f ∷ decimal c ∷ []

-- The words of a split's line: by a value, and by a bound.
abbrev pub decision_words : Decision → List (List ℕ)
decision_words (Is x a) = codes "split" ∷ decimal x ∷ decimal a ∷ []
decision_words (Most x v) = codes "part" ∷ decimal x ∷ decimal v ∷ []

-- The lines of a tree: each node's block and its end, and behind a split its first side and then its second.
abbrev pub tree_lines : Tree → List (List (List ℕ))
tree_lines (Open block) = map step_words block ++ (codes "open" ∷ []) ∷ []
tree_lines (Closed block) = map step_words block ++ (codes "closed" ∷ []) ∷ []
tree_lines (Split block d first second) = map step_words block ++ decision_words d ∷ (tree_lines first ++ tree_lines second)

abbrev pub best_lines : Option Solution → List (List (List ℕ))
best_lines None = (codes "best" ∷ codes "none" ∷ []) ∷ []
best_lines (Some best) = (codes "best" ∷ decimal best.cost ∷ []) ∷ (codes "values" ∷ map decimal best.values) ∷ []

abbrev pub version_word : Version → List ℕ
version_word First = codes "1"
version_word Second = codes "2"

abbrev pub head_lines : Certificate → List (List (List ℕ))
head_lines c =
    (codes "wcspcert" ∷ version_word c.version ∷ [])
    ∷ (codes "network" ∷ decimal c.variables ∷ decimal c.functions ∷ decimal c.upper ∷ [])
    ∷ (codes "lower" ∷ decimal c.lower ∷ [])
    ∷ best_lines c.best

-- The lines of a certificate.
abbrev pub certificate_lines : Certificate → List (List (List ℕ))
certificate_lines c = head_lines c ++ (codes "tree" ∷ []) ∷ (tree_lines c.tree ++ (codes "end" ∷ []) ∷ [])

abbrev pub spelling : Certificate → List ℕ
spelling c = text (certificate_lines c)

-- A step whose numbers have a spelling: none is above the greatest, and an amount is at least 1.
abbrev pub IsSpelledStep : Step → Type 0
IsSpelledStep (Project f i a m) = (f ≤ greatest) × (i ≤ greatest) × (a ≤ greatest) × (0 < m) × (m ≤ greatest)
IsSpelledStep (Extend f i a m) = (f ≤ greatest) × (i ≤ greatest) × (a ≤ greatest) × (0 < m) × (m ≤ greatest)
IsSpelledStep (Lift x m) = (x ≤ greatest) × (0 < m) × (m ≤ greatest)
IsSpelledStep (CutValue x a) = (x ≤ greatest) × (a ≤ greatest)
IsSpelledStep (CutTuple f c) = (f ≤ greatest) × (c ≤ greatest)

-- A decision whose numbers have a spelling.
abbrev pub IsSpelledDecision : Decision → Type 0
IsSpelledDecision (Is x a) = (x ≤ greatest) × (a ≤ greatest)
IsSpelledDecision (Most x v) = (x ≤ greatest) × (v ≤ greatest)

abbrev pub IsSpelledTree : Tree → Type 0
IsSpelledTree (Open block) = AllByRecursion IsSpelledStep block
IsSpelledTree (Closed block) = AllByRecursion IsSpelledStep block
IsSpelledTree (Split block d first second) = AllByRecursion IsSpelledStep block × IsSpelledDecision d × IsSpelledTree first × IsSpelledTree second

-- A version has a line for a decision: the first has none for a bound.
abbrev pub HasDecision : Version → Decision → Type 0
HasDecision First (Is x a) = Unit {0}
HasDecision First (Most x v) = ⊥
HasDecision Second (Is x a) = Unit {0}
HasDecision Second (Most x v) = Unit {0}

-- A version has lines for all of a tree's decisions.
abbrev pub HasTree : Version → Tree → Type 0
HasTree version (Open block) = Unit {0}
HasTree version (Closed block) = Unit {0}
HasTree version (Split block d first second) = HasDecision version d × HasTree version first × HasTree version second

abbrev pub IsSpelledBest : Option Solution → Type 0
IsSpelledBest None = Unit {0}
IsSpelledBest (Some best) = (best.cost ≤ greatest) × (0 < length best.values) × AllByRecursion (λ a. a ≤ greatest) best.values

-- A certificate that has a spelling in its version.
pub record IsSpelled (c : Certificate) : Type 0 where
  pub variables : c.variables ≤ greatest
  pub functions : c.functions ≤ greatest
  pub upper : c.upper ≤ greatest
  pub best : IsSpelledBest c.best
  pub lower : c.lower ≤ greatest
  pub tree : IsSpelledTree c.tree
  pub has_tree : HasTree c.version c.tree

-- The bytes are the one spelling of the certificate.
pub record Spells (c : Certificate) (bytes : List ℕ) : Type 0 where
  pub spelled : IsSpelled c
  pub exact : bytes ≡ spelling c

-- A number, or `none`.
abbrev pub number_or_none : Option ℕ → List ℕ
number_or_none None = codes "none"
number_or_none (Some n) = decimal n

abbrev pub row_words : Row → List (List ℕ)
row_words row = codes "row" ∷ decimal row.lower ∷ number_or_none row.upper ∷ []

abbrev pub upper_lines : Option Solution → List (List (List ℕ))
upper_lines None = (codes "upper" ∷ codes "none" ∷ []) ∷ []
upper_lines (Some best) = (codes "upper" ∷ decimal best.cost ∷ []) ∷ (codes "values" ∷ map decimal best.values) ∷ []

abbrev pub result_word : ResultWord → List ℕ
result_word Optimum = codes "optimum"
result_word Nothing = codes "none"
result_word Budget = codes "budget"
result_word Time = codes "time"
result_word Part = codes "part"
result_word Memory = codes "memory"

-- The lines of the report of `solve`.
abbrev pub report_lines : ℕ → Certificate → List Row → ℕ → ResultWord → List (List (List ℕ))
report_lines workers c rows nodes word =
    ((codes "variables" ∷ decimal c.variables ∷ [])
    ∷ (codes "functions" ∷ decimal c.functions ∷ [])
    ∷ (codes "workers" ∷ decimal workers ∷ [])
    ∷ map row_words rows)
    ++ (codes "lower" ∷ decimal c.lower ∷ [])
    ∷ (upper_lines c.best
    ++ (codes "nodes" ∷ decimal nodes ∷ [])
    ∷ (codes "result" ∷ result_word word ∷ [])
    ∷ [])

abbrev pub report : ℕ → Certificate → List Row → ℕ → ResultWord → List ℕ
report workers c rows nodes word = text (report_lines workers c rows nodes word)

-- The name of a refusal's kind.
abbrev pub kind_name : Kind → List ℕ
kind_name Short = codes "short"
kind_name NotNumber = codes "not-number"
kind_name TooLarge = codes "too-large"
kind_name NoVariables = codes "no-variables"
kind_name NegativeCount = codes "negative-count"
kind_name EmptyDomain = codes "empty-domain"
kind_name IntervalDomain = codes "interval-domain"
kind_name DomainTooLarge = codes "domain-too-large"
kind_name NegativeCost = codes "negative-cost"
kind_name Keyword = codes "keyword"
kind_name SharedTable = codes "shared-table"
kind_name VariableOutOfRange = codes "variable-out-of-range"
kind_name RepeatedVariable = codes "repeated-variable"
kind_name ValueOutOfRange = codes "value-out-of-range"
kind_name TableTooWide = codes "table-too-wide"
kind_name TooMany = codes "too-many"

-- What is said of a file that is refused, of a read or a write that failed, and of a want of memory.
abbrev pub refusal_text : Refusal → List ℕ
refusal_text refusal = line (codes "error" ∷ kind_name refusal.kind ∷ codes "at" ∷ decimal refusal.ordinal ∷ [])

abbrev pub read_fault_text : List ℕ
read_fault_text = line (codes "error" ∷ codes "read" ∷ [])

abbrev pub write_fault_text : List ℕ
write_fault_text = line (codes "error" ∷ codes "write" ∷ [])

abbrev pub memory_fault_text : List ℕ
memory_fault_text = line (codes "error" ∷ codes "memory" ∷ [])

-- What is said of the cost of an assignment: whether it is below the upper bound.
abbrev pub allowed_word : ℕ → ℕ → List ℕ
allowed_word upper c = if nat_lt c upper then codes "allowed" else codes "forbidden"

abbrev pub cost_text : ℕ → ℕ → List ℕ
cost_text upper c = line (codes "cost" ∷ decimal c ∷ allowed_word upper c ∷ [])

-- What is said of a wrong number of values, and of a value out of range.
abbrev pub values_fault_text : ℕ → ℕ → List ℕ
values_fault_text expected got = line (codes "error" ∷ codes "values" ∷ codes "expected" ∷ decimal expected ∷ codes "got" ∷ decimal got ∷ [])

abbrev pub value_fault_text : ℕ → List ℕ
value_fault_text x = line (codes "error" ∷ codes "value" ∷ codes "at" ∷ decimal x ∷ [])
