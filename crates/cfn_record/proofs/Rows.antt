-- Worked examples on tiny: the record of a search that may make no node, and records that are refused.
use Rattle.std.proofs.Common.{◌≡◌, ℕ, zero, suc, ◌<◌, ◌≤◌, inl, inr, List, [], ◌∷◌, ◌++◌, refl, ap, sym, subst, ◌∙◌, arith, append_assoc, lit<, lit≤}
use Rattle.std.specs.Fmt.{digits}
use Rattle.std.specs.Prelude.{codes, None, slice_index, IsFalse}
use Rattle.std.specs.List.{AllByRecursion}
use Rattle.cfn_model.specs.Sums.{floor, is_live}
use Rattle.cfn_model.specs.Tree.{Tree, Open, Closed, Split}
use Rattle.cfn_model.specs.Certificate.{Good}
use Rattle.cfn_model.specs.Text.{spelling}
use Rattle.cfn_model.proofs.CallerLemmas.{tiny}
use Rattle.cfn_fault.specs.Nodes.{Closes, ItemFollows}
use Rattle.cfn_fault.specs.Lines as lines
use Rattle.cfn_machine.specs.Pool.{Out, Leaf, Shut, tree_of, Task, Piece, Pool}
use Rattle.cfn_machine.specs.Steps.{pool_swept, pool_recalled}
use Rattle.cfn_record.specs.declared.kind.RecordFault.TheVariants as kinds
use Rattle.cfn_record.specs.Entries.{Entry, Took, Gave, CalledBack, Swept, Follows, Runs}
use Rattle.cfn_record.specs.Lines.{Record, RecordLine, Heading, Budget, Take, Give, Back, Recall, Sweep, Says, bytes_of, text_of, IsSpelledLine, lines_of_tree, lines_of_entries, lines_of_best, lines_of, AtHeading, AtNumbers, AtBudget, AtEvents, AtEnd, AtOver, EndFollows, HeadingFollows, NumbersFollow, BudgetFollows, TakeFollows, GiveFollows, BackFollows, RecallFollows, SweepFollows, NodeLineFollows, NoBestFollows}
use Rattle.cfn_record.specs.Replaying.{opening, certificate_of, GoodRecord}
use Rattle.cfn_record.specs.Fault.{ComesTo, StandsFirst, KeepsGrant, PieceKeepsGrant, BreaksGrant, SeenAbove, AllPass, Passes, Fault, ByGrammar, ByLine}
use Rattle.cfn_record.proofs.Repeating.{one_end}
use Rattle.cfn_record.proofs.Spelling.{some_bytes}
use Rattle.cfn_record.proofs.Reading.{one_tree}

-- swept, called back, and swept again: no leaf was handed out
abbrev tiny_entries : List Entry
tiny_entries = Swept 10 ∷ CalledBack ∷ Swept 10 ∷ []

abbrev tiny_record : Record
tiny_record = record { variables = 1; functions = 1; upper = 10; budget = 0; entries = tiny_entries; best = None }

pub tiny_text : text_of (lines_of tiny_record) ≡ codes "wcsprecord 1\nnetwork 1 1 10\nbudget 0\nsweep 10\nrecall\nsweep 10\nbest none\nend\n"
unfolding digits
tiny_text = refl

-- the pool stays as it was at the opening
abbrev tiny_end : Pool
tiny_end = pool_swept tiny (pool_recalled (pool_swept tiny (opening tiny 0) 10)) 10

tiny_run : Runs tiny (opening tiny 0) tiny_entries tiny_end
tiny_run = (pool_swept tiny (opening tiny 0) 10, (refl, lit≤ tt), (pool_recalled (pool_swept tiny (opening tiny 0) 10), refl, (tiny_end, (refl, lit≤ tt), refl)))

-- the tree is one open leaf with an empty block
pub tiny_ends : (new : Pool) → Runs tiny (opening tiny 0) tiny_entries new → tree_of new.tree ≡ Open []
tiny_ends new run = ap tree_of (one_end tiny 128 128 0 tiny_entries tiny_end new tiny_run run).tree

pub tiny_certificate : spelling (certificate_of tiny None (Open [])) ≡ codes "wcspcert 2\nnetwork 1 1 10\nlower 0\nbest none\ntree\nopen\nend\n"
unfolding digits
tiny_certificate = refl

pub tiny_is_good : GoodRecord tiny tiny_record
tiny_is_good = record {
  variables = refl;
  functions = refl;
  upper = refl;
  pool = tiny_end;
  run = tiny_run;
  seen = refl;
  good = record { variables = refl; functions = refl; upper = refl; best = tt; valid = tt; lower = lit≤ tt };
}

-- lines behind the first three
abbrev head : ℕ → List RecordLine → List RecordLine
head budget ls = Heading ∷ Says (lines.Numbers 1 1 10) ∷ Budget budget ∷ ls

begun : (budget : ℕ) (ls : List RecordLine) (rest : List ℕ) → budget ≤ 1 → AllPass tiny (head budget []) (AtEvents []) ls rest (AtEvents []) → AllPass tiny [] AtHeading (head budget ls) rest (AtEvents [])
begun budget ls rest low run =
    (AtNumbers, record { spelled = tt; follows = HeadingFollows; right = tt }, (AtBudget, record { spelled = (lit≤ tt, lit≤ tt, lit≤ tt); follows = NumbersFollow; right = (refl, refl, refl) }, (AtEvents [], record { spelled = (omega arith, tt); follows = BudgetFollows; right = tt }, run)))

comes : (budget : ℕ) (entries : List Entry) (pool : Pool) (ls : List RecordLine) → Runs tiny (opening tiny budget) entries pool → head budget ls ≡ head budget (lines_of_entries entries ++ []) → ComesTo tiny (head budget ls) [] pool
comes budget entries pool ls run is = record { variables = 1; functions = 1; upper = 10; budget = budget; entries = entries; lines_are = is; run = run }

-- a threshold seen that is above the one before
abbrev pub sweep_11 : List ℕ
sweep_11 = codes "wcsprecord 1\nnetwork 1 1 10\nbudget 0\nsweep 10\nrecall\nsweep 11\nbest none\nend\n"

pub sweep_11_is_refused : Fault tiny sweep_11 6 kinds.Seen
unfolding digits
sweep_11_is_refused =
    let swept = pool_swept tiny (opening tiny 0) 10 in
    let sweep : Passes tiny (head 0 []) (AtEvents []) (Sweep 10) (text_of (Recall ∷ []) ++ codes "sweep 11\nbest none\nend\n") (AtEvents []) =
    record { spelled = (lit≤ tt, tt); follows = SweepFollows; right = record { pool = opening tiny 0; comes = comes 0 [] (opening tiny 0) [] refl refl; such = lit≤ tt } } in
    let right = begun 0 (Sweep 10 ∷ Recall ∷ []) (codes "sweep 11\nbest none\nend\n") (lit≤ tt) (AtEvents [], sweep, (AtEvents [], record { spelled = tt; follows = RecallFollows; right = tt }, refl)) in
    let here : ComesTo tiny (head 0 (Sweep 10 ∷ Recall ∷ [])) [] (pool_recalled swept) = comes 0 (Swept 10 ∷ CalledBack ∷ []) (pool_recalled swept) (Sweep 10 ∷ Recall ∷ []) (swept, (refl, lit≤ tt), (pool_recalled swept, refl, refl)) refl in
    ByLine (codes "sweep 11\nbest none\nend\n") (codes "best none\nend\n") (head 0 (Sweep 10 ∷ Recall ∷ [])) (AtEvents []) (Sweep 11) (record { text = refl; right = right }) ((lit≤ tt, tt), AtEvents [], SweepFollows) refl
    (refl, record { pool = pool_recalled swept; comes = here; such = lit< tt }) refl

-- a leaf that is given back and never was out
pub back_is_refused : Fault tiny (codes "wcsprecord 1\nnetwork 1 1 10\nbudget 0\nback 0 0 1\n") 4 kinds.Back
unfolding digits
back_is_refused =
    ByLine (codes "back 0 0 1\n") [] (head 0 []) (AtEvents []) (Back 0 0 1) (record { text = refl; right = begun 0 [] (codes "back 0 0 1\n") (lit≤ tt) refl }) ((lit≤ tt, (lit≤ tt, (lit≤ tt, tt))), AtEvents [], BackFollows) refl
    (refl, record { pool = opening tiny 0; comes = comes 0 [] (opening tiny 0) [] refl refl; such = λ out. (let e = out.1.1 in cc) }) refl

-- a leaf that is taken where no node may be made
pub take_is_refused : Fault tiny (codes "wcsprecord 1\nnetwork 1 1 10\nbudget 0\ntake 0 1 0 1\n") 4 kinds.Take
unfolding digits
take_is_refused =
    ByLine (codes "take 0 1 0 1\n") [] (head 0 []) (AtEvents []) (Take 0 1 0 1) (record { text = refl; right = begun 0 [] (codes "take 0 1 0 1\n") (lit≤ tt) refl }) ((lit≤ tt, (lit≤ tt, (lit≤ tt, (lit≤ tt, tt)))), AtEvents [], TakeFollows) refl
    (refl, record { pool = opening tiny 0; comes = comes 0 [] (opening tiny 0) [] refl refl; such = λ new follows. follows.1.unspent refl }) refl

-- another network's upper bound
pub network_is_refused : Fault tiny (codes "wcsprecord 1\nnetwork 1 1 11\nbudget 0\n") 2 kinds.Network
unfolding digits
network_is_refused =
    ByLine (codes "network 1 1 11\nbudget 0\n") (codes "budget 0\n") (Heading ∷ []) AtNumbers (Says (lines.Numbers 1 1 11)) (record { text = refl; right = (AtNumbers, record { spelled = tt; follows = HeadingFollows; right = tt }, refl) })
    ((lit≤ tt, lit≤ tt, lit≤ tt), AtBudget, NumbersFollow) refl (refl, λ same. (let e : 11 ≡ 10 = same.2 in absurd (omega (arith, e)))) refl

-- no text
pub empty_is_refused : Fault tiny [] 1 kinds.Text
empty_is_refused = ByGrammar [] [] AtHeading (record { text = refl; right = refl }) (record { line = λ l more may is. some_bytes l more may.0 is; over = λ e. (cc) }) refl refl

-- ---- one leaf is taken, with the one node that the budget has

abbrev first_task : Task
first_task = record { leaf = 0; worker = 0; grant = 1; floor = 0; path = [] }

abbrev taken : Pool
taken = record (opening tiny 1) { tree = Leaf 0 (Out 0 1) [] }

take_follows : Follows tiny (opening tiny 1) (Took 0 1 0 1) taken
take_follows = (
  first_task,
  record {
    wants = lit≤ tt;
    unspent = λ e. absurd (omega (arith, e));
    room = λ e. absurd (omega (arith, e));
    first = record { leaf = (refl, refl, refl); first = λ m other at. inr (ap (floor tiny) (sym at.2), omega arith) };
    handed = refl;
    tree = Leaf 0 (Out 0 1) [];
    marked = (refl, refl, refl, refl);
    left = refl;
  },
  refl,
  refl,
)

abbrev take_line : RecordLine
take_line = Take 0 1 0 1

take_passes : (more : List ℕ) → Passes tiny (head 1 []) (AtEvents []) take_line more (AtEvents [])
take_passes more = record {
  spelled = (lit≤ tt, (lit≤ tt, (lit≤ tt, (lit≤ tt, tt))));
  follows = TakeFollows;
  right = record { pool = opening tiny 1; comes = comes 1 [] (opening tiny 1) [] refl refl; such = (taken, take_follows) };
}

after_take : (rest : List ℕ) → AllPass tiny [] AtHeading (head 1 (take_line ∷ [])) rest (AtEvents [])
after_take rest = begun 1 (take_line ∷ []) rest (lit≤ tt) (AtEvents [], take_passes (text_of [] ++ rest), refl)

taken_comes : ComesTo tiny (head 1 (take_line ∷ [])) [] taken
taken_comes = comes 1 (Took 0 1 0 1 ∷ []) taken (take_line ∷ []) (taken, take_follows, refl) refl

-- a piece that has no split and no closed leaf
pub give_is_refused : Fault tiny (codes "wcsprecord 1\nnetwork 1 1 10\nbudget 1\ntake 0 1 0 1\ngive 0 0 1 10 11\nopen\n") 5 kinds.Give
unfolding digits
give_is_refused =
    ByLine (codes "give 0 0 1 10 11\nopen\n") (codes "open\n") (head 1 (take_line ∷ [])) (AtEvents []) (Give 0 0 1 10 11) (record { text = refl; right = after_take (codes "give 0 0 1 10 11\nopen\n") })
    ((lit≤ tt, (lit≤ tt, (lit≤ tt, (lit≤ tt, (lit≤ tt, tt))))), AtEvents ([] ∷ []), GiveFollows) refl
    (BreaksGrant taken taken_comes refl (Open []) (record { spelled = (tt, tt); rest = []; text = refl }) (λ granted. (let some = granted.0 in absurd (omega (arith, some))))) refl

some_lines : (tree : Tree) → lines_of_tree tree ≡ [] → ⊥
some_lines (Open []) e = absurd cc
some_lines (Open (step ∷ block)) e = absurd cc
some_lines (Closed []) e = absurd cc
some_lines (Closed (step ∷ block)) e = absurd cc
some_lines (Split [] d first second) e = absurd cc
some_lines (Split (step ∷ block) d first second) e = absurd cc

no_lines : (ls : List RecordLine) (l : RecordLine) (rest : List ℕ) → AllByRecursion IsSpelledLine (l ∷ ls) → [] ≡ text_of (l ∷ ls) ++ rest → ⊥
no_lines ls l rest spelled is = some_bytes l (text_of ls ++ rest) spelled.0 (is ∙ append_assoc (bytes_of l) (text_of ls) rest)

no_tree : (tree : Tree) → StandsFirst [] tree → ⊥
no_tree tree stands = by_lines (lines_of_tree tree) refl stands.spelled stands.text
  where
    by_lines : (ls : List RecordLine) → lines_of_tree tree ≡ ls → AllByRecursion IsSpelledLine ls → [] ≡ text_of ls ++ stands.rest → ⊥
    by_lines (l ∷ ls) is spelled text = no_lines ls l stands.rest spelled text
    by_lines [] is spelled text = some_lines tree is

-- and what a give sees is judged before a line of its piece that does not follow the grammar
pub seen_is_refused : Fault tiny (codes "wcsprecord 1\nnetwork 1 1 10\nbudget 1\ntake 0 1 0 1\ngive 0 0 1 10 11\n") 5 kinds.Seen
unfolding digits
seen_is_refused =
    ByLine (codes "give 0 0 1 10 11\n") [] (head 1 (take_line ∷ [])) (AtEvents []) (Give 0 0 1 10 11) (record { text = refl; right = after_take (codes "give 0 0 1 10 11\n") })
    ((lit≤ tt, (lit≤ tt, (lit≤ tt, (lit≤ tt, (lit≤ tt, tt))))), AtEvents ([] ∷ []), GiveFollows) refl
    (SeenAbove taken taken_comes refl ([], (refl, refl, refl)) (λ tree stands. absurd (no_tree tree stands)) (λ sees. (let low = sees.0 in absurd (omega (arith, low))))) refl

-- a leaf that is closed where it may not be closed
abbrev closed_piece : Piece
closed_piece = record { task = first_task; tree = Closed []; threshold = 10 }

abbrev closed : Pool
closed = record taken { tree = Shut []; nodes = 1 }

closed_follows : Follows tiny taken (Gave 0 0 1 10 10 (Closed [])) closed
closed_follows = (closed_piece, record { tree = Shut []; placed = (refl, refl, refl, refl); left = refl }, refl, refl, refl, refl, refl, lit≤ tt, lit≤ tt, lit≤ tt, lit≤ tt)

closed_run : Runs tiny (opening tiny 1) (Took 0 1 0 1 ∷ Gave 0 0 1 10 10 (Closed []) ∷ []) closed
closed_run = (taken, take_follows, (closed, closed_follows, refl))

closed_is_bad : Good tiny (certificate_of tiny None (Closed [])) → ⊥
closed_is_bad good = elim (good.valid.1) [
  | inl reached ↦ absurd (let low : 10 ≤ 0 = reached in omega (arith, low))
  | inr wiped ↦ by_variable wiped.0 wiped.1 wiped.2
]
  where
    by_variable : (x : ℕ) → x < 1 → ((a : ℕ) → a < slice_index tiny.sizes x → IsFalse (is_live [] x a)) → ⊥
    by_variable zero lt none = (let e = none 0 (lit< tt) in absurd (cc))
    by_variable (suc x) lt none = absurd (omega arith)

closed_granted : (rest : List ℕ) → PieceKeepsGrant (text_of (lines_of_tree (Closed [])) ++ rest) 1
closed_granted rest tree stands = let same : Closed [] ≡ tree = one_tree (Closed []) tree rest stands.rest (tt, tt) stands.spelled stands.text in subst (KeepsGrant 1) same (lit≤ tt, lit≤ tt)

-- lines up to the end, each right
abbrev closed_lines : List RecordLine
closed_lines = take_line ∷ Give 0 0 1 10 10 ∷ Says (lines.Node Closes) ∷ []

give_passes : (rest : List ℕ) → Passes tiny (head 1 (take_line ∷ [])) (AtEvents []) (Give 0 0 1 10 10) (text_of (lines_of_tree (Closed [])) ++ rest) (AtEvents ([] ∷ []))
give_passes rest = record {
  spelled = (lit≤ tt, (lit≤ tt, (lit≤ tt, (lit≤ tt, (lit≤ tt, tt)))));
  follows = GiveFollows;
  right = record { pool = taken; comes = taken_comes; out = ([], (refl, refl, refl)); granted = closed_granted rest; sees = (lit≤ tt, lit≤ tt) };
}

closed_passes : Passes tiny (head 1 (take_line ∷ Give 0 0 1 10 10 ∷ [])) (AtEvents ([] ∷ [])) (Says (lines.Node Closes)) (codes "best none\nend\n") (AtEvents [])
closed_passes = record { spelled = tt; follows = NodeLineFollows (ItemFollows tt); right = tt }

none_passes : Passes tiny (head 1 closed_lines) (AtEvents []) (Says lines.NoBest) (codes "end\n") AtEnd
none_passes = record {
  spelled = tt;
  follows = NoBestFollows;
  right = record { pool = closed; comes = comes 1 (Took 0 1 0 1 ∷ Gave 0 0 1 10 10 (Closed []) ∷ []) closed closed_lines closed_run refl; such = refl };
}

pub certificate_is_refused : Fault tiny (codes "wcsprecord 1\nnetwork 1 1 10\nbudget 1\ntake 0 1 0 1\ngive 0 0 1 10 10\nclosed\nbest none\nend\n") 8 kinds.Certificate
unfolding digits
certificate_is_refused =
    let front = head 1 (take_line ∷ Give 0 0 1 10 10 ∷ Says (lines.Node Closes) ∷ Says lines.NoBest ∷ []) in
    let right : AllPass tiny [] AtHeading front (codes "end\n") AtEnd = (
      AtNumbers,
      record { spelled = tt; follows = HeadingFollows; right = tt },
      (
        AtBudget,
        record { spelled = (lit≤ tt, lit≤ tt, lit≤ tt); follows = NumbersFollow; right = (refl, refl, refl) },
        (
          AtEvents [],
          record { spelled = (lit≤ tt, tt); follows = BudgetFollows; right = tt },
          (AtEvents [], take_passes _, (AtEvents ([] ∷ []), give_passes (codes "best none\nend\n"), (AtEvents [], closed_passes, (AtEnd, none_passes, refl)))),
        ),
      ),
    ) in
    let here : ComesTo tiny front (lines_of_best None) closed = record { variables = 1; functions = 1; upper = 10; budget = 1; entries = Took 0 1 0 1 ∷ Gave 0 0 1 10 10 (Closed []) ∷ []; lines_are = refl; run = closed_run } in
    ByLine (codes "end\n") [] front AtEnd (Says lines.End) (record { text = refl; right = right }) (tt, AtOver, EndFollows) refl (refl, record { best = None; pool = closed; comes = here; bad = closed_is_bad }) refl
