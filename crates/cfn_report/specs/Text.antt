-- The text of a line of progress.
use Rattle.std.specs.Prelude.{ℕ, List, ◌++◌, ◌/◌, ◌%◌, Option, Some, None, codes, decimal}
use Rattle.cfn_report.specs.declared.line.Line.{Line}

abbrev pub upper_text : Option ℕ → List ℕ
upper_text None = codes "none"
upper_text (Some upper) = decimal upper

-- progress SECONDS lower L upper U nodes N open M: seconds with one decimal, bounds, nodes, open leaves.
abbrev pub line_text : Line → List ℕ
line_text line =
    codes "progress " ++ (decimal (line.tenths / 10) ++ (codes "." ++ (decimal (line.tenths % 10)
    ++ (codes " lower " ++ (decimal line.news.bounds.lower ++ (codes " upper " ++ (upper_text line.news.bounds.upper
    ++ (codes " nodes " ++ (decimal line.news.nodes ++ (codes " open " ++ decimal line.news.leaves))))))))))
