-- The parts of a report, and the text that tells how the program is called.
use Rattle.std.specs.Prelude.{ℕ, List, [], ◌∷◌, Option, codes, decimal}
use Rattle.cfn_model.specs.declared.report.ResultWord.{ResultWord}
use Rattle.cfn_model.specs.Certificate.{Solution}
use Rattle.cfn_model.specs.Text.{line, number_or_none, result_word, text, upper_lines}
use Rattle.cfn_fault.specs.declared.kind.FaultKind.{FaultKind}
use Rattle.cfn_fault.specs.declared.kind.FaultKind.TheVariants as kinds

-- What is said of words that are no command: how the program is called.
abbrev pub usage_text : List ℕ
usage_text =
    text ((codes "error" ∷ codes "usage" ∷ [])
    ∷ (codes "wcspsolve" ∷ codes "solve" ∷ codes "FILE" ∷ codes "CERT" ∷ codes "[--workers" ∷ codes "W]" ∷ codes "[--budget" ∷ codes "B]" ∷ codes "[--seconds" ∷ codes "S]" ∷ codes "[--wcnf]" ∷ codes "[--progress]" ∷ codes "[--record" ∷ codes "REC]" ∷ [])
    ∷ (codes "wcspsolve" ∷ codes "check" ∷ codes "FILE" ∷ codes "CERT" ∷ codes "[--wcnf]" ∷ [])
    ∷ (codes "wcspsolve" ∷ codes "cost" ∷ codes "FILE" ∷ codes "VALUES.." ∷ codes "[--wcnf]" ∷ [])
    ∷ (codes "wcspsolve" ∷ codes "normal" ∷ codes "FILE" ∷ codes "[--wcnf]" ∷ [])
    ∷ (codes "wcspsolve" ∷ codes "trial" ∷ codes "SEED" ∷ codes "SIZE" ∷ codes "[--workers" ∷ codes "W]" ∷ [])
    ∷ (codes "wcspsolve" ∷ codes "migrate" ∷ codes "FILE" ∷ codes "CERT" ∷ codes "OUT" ∷ [])
    ∷ (codes "wcspsolve" ∷ codes "rebase" ∷ codes "FILE" ∷ codes "OLD" ∷ codes "CERT" ∷ codes "[--workers" ∷ codes "W]" ∷ codes "[--budget" ∷ codes "B]" ∷ codes "[--seconds" ∷ codes "S]" ∷ codes "[--wcnf]" ∷ codes "[--progress]" ∷ codes "[--part" ∷ codes "I]" ∷ codes "[--parts" ∷ codes "N]" ∷ [])
    ∷ (codes "wcspsolve" ∷ codes "merge" ∷ codes "FILE" ∷ codes "OUT" ∷ codes "CERT.." ∷ codes "[--wcnf]" ∷ [])
    ∷ (codes "wcspsolve" ∷ codes "replay" ∷ codes "FILE" ∷ codes "REC" ∷ codes "CERT" ∷ codes "[--wcnf]" ∷ [])
    ∷ (codes "wcspsolve" ∷ codes "kbest" ∷ codes "FILE" ∷ codes "K" ∷ codes "CERT" ∷ codes "[--budget" ∷ codes "B]" ∷ codes "[--seconds" ∷ codes "S]" ∷ codes "[--wcnf]" ∷ [])
    ∷ (codes "wcspsolve" ∷ codes "checkbest" ∷ codes "FILE" ∷ codes "CERT" ∷ codes "[--wcnf]" ∷ codes "[--complete]" ∷ [])
    ∷ [])

-- What is said of a wcnf file whose header is not `p wcnf`: the word that differs.
abbrev pub header_text : ℕ → List ℕ
header_text ordinal = line (codes "error" ∷ codes "header" ∷ codes "at" ∷ decimal ordinal ∷ [])

-- The parts of a report around its rows.
abbrev pub size_lines : ℕ → ℕ → ℕ → List (List (List ℕ))
size_lines variables functions workers =
    (codes "variables" ∷ decimal variables ∷ []) ∷ (codes "functions" ∷ decimal functions ∷ []) ∷ (codes "workers" ∷ decimal workers ∷ []) ∷ []

abbrev pub bound_lines : ℕ → Option Solution → List (List (List ℕ))
bound_lines lower best = (codes "lower" ∷ decimal lower ∷ []) ∷ upper_lines best

abbrev pub end_lines : ℕ → ResultWord → List (List (List ℕ))
end_lines nodes word = (codes "nodes" ∷ decimal nodes ∷ []) ∷ (codes "result" ∷ result_word word ∷ []) ∷ []

-- The name of the way in which a certificate's line fails.
abbrev pub fault_name : FaultKind → List ℕ
fault_name kinds.Text = codes "text"
fault_name kinds.Network = codes "network"
fault_name kinds.Best = codes "best"
fault_name kinds.Range = codes "range"
fault_name kinds.Project = codes "project"
fault_name kinds.Extend = codes "extend"
fault_name kinds.Lift = codes "lift"
fault_name kinds.Cut = codes "cut"
fault_name kinds.Close = codes "close"
fault_name kinds.Lower = codes "lower"

-- What is said of a certificate that is good: its bounds. And of any other: how its first line that fails does so.
abbrev pub verified_text : ℕ → Option ℕ → List ℕ
verified_text lower best = line (codes "verified" ∷ codes "lower" ∷ decimal lower ∷ codes "best" ∷ number_or_none best ∷ [])

-- What is said of a certificate that was written in the second version.
abbrev pub migrated_text : List ℕ
migrated_text = line (codes "migrated" ∷ [])

-- What is said of a drawn network: its size, and the least cost of its assignments.
abbrev pub trial_text : ℕ → ℕ → ℕ → List ℕ
trial_text variables functions least =
    text ((codes "variables" ∷ decimal variables ∷ []) ∷ (codes "functions" ∷ decimal functions ∷ []) ∷ (codes "least" ∷ decimal least ∷ []) ∷ [])

abbrev pub refused_text : FaultKind → ℕ → List ℕ
refused_text kind l = line (codes "refused" ∷ fault_name kind ∷ codes "at" ∷ decimal l ∷ [])

-- What is said of certificates that were merged: the bounds of what they come to. And where one of them is refused: how its first
-- line that fails does so, and which one it is, from 1.
abbrev pub merged_text : ℕ → Option ℕ → List ℕ
merged_text lower best = line (codes "merged" ∷ codes "lower" ∷ decimal lower ∷ codes "best" ∷ number_or_none best ∷ [])

abbrev pub refused_in_text : FaultKind → ℕ → ℕ → List ℕ
refused_in_text kind l number = line (codes "refused" ∷ fault_name kind ∷ codes "at" ∷ decimal l ∷ codes "in" ∷ decimal number ∷ [])
