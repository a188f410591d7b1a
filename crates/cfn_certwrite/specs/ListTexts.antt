-- What is said of lists of the cheapest assignments.
use Rattle.std.specs.Prelude.{ℕ, List, [], ◌∷◌, ◌++◌, length, map, codes, decimal}
use Rattle.cfn_model.specs.Certificate.{Solution}
use Rattle.cfn_model.specs.Text.{line, text}
use Rattle.cfn_report.specs.Texts.{refused_text}
use Rattle.cfn_best.specs.declared.kind.ListFault.{ListFault}
use Rattle.cfn_best.specs.declared.kind.ListFault.TheVariants.{Certificate, Listed}
use Rattle.cfn_best.specs.List.{ListCertificate}
use Rattle.cfn_ranking.specs.declared.word.ListWord.{ListWord}
use Rattle.cfn_ranking.specs.declared.word.ListWord.TheVariants.{Complete, Budget, Time, Memory}

-- The word for how a search ended.
abbrev pub list_word : ListWord → List ℕ
list_word Complete = codes "complete"
list_word Budget = codes "budget"
list_word Time = codes "time"
list_word Memory = codes "memory"

-- The report of a search: how many assignments are listed, a line for each of them, the lower bound of all others, and how
-- the search ended.
abbrev pub cost_words : Solution → List (List ℕ)
cost_words s = codes "cost" ∷ decimal s.cost ∷ codes "values" ∷ map decimal s.values

abbrev pub end_lines : ℕ → ListWord → List (List (List ℕ))
end_lines lower word = (codes "lower" ∷ decimal lower ∷ []) ∷ (codes "result" ∷ list_word word ∷ []) ∷ []

abbrev pub list_report_lines : ListCertificate → ListWord → List (List (List ℕ))
list_report_lines c word = (codes "count" ∷ decimal (length c.list) ∷ []) ∷ (map cost_words c.list ++ end_lines c.lower word)

abbrev pub list_report : ListCertificate → ListWord → List ℕ
list_report c word = text (list_report_lines c word)

-- What is said of a list that is good: its lower bound, and how many assignments it has.
abbrev pub list_verified_text : ℕ → ℕ → List ℕ
list_verified_text lower count = line (codes "verified" ∷ codes "lower" ∷ decimal lower ∷ codes "count" ∷ decimal count ∷ [])

-- What is said of one that is good and not complete, where that is asked: a line more.
abbrev pub list_open_text : ℕ → ℕ → List ℕ
list_open_text lower count =
    text ((codes "verified" ∷ codes "lower" ∷ decimal lower ∷ codes "count" ∷ decimal count ∷ []) ∷ (codes "open" ∷ []) ∷ [])

-- What is said of any other: how its first line that fails does so.
abbrev pub list_refused_text : ListFault → ℕ → List ℕ
list_refused_text (Certificate kind) l = refused_text kind l
list_refused_text Listed l = line (codes "refused" ∷ codes "listed" ∷ codes "at" ∷ decimal l ∷ [])
