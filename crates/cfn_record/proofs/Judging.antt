-- Every text spells a good record, or has a fault: its lines are judged one by one.
use Rattle.std.proofs.Common.{◌≡◌, ℕ, zero, suc, ◌+◌, ◌<◌, ◌≤◌, ◌⊎◌, inl, inr, Bool, true, false, List, [], ◌∷◌, ◌++◌, length, map, refl, sym, ap, subst, ◌∙◌, arith, append_assoc, append-nil, length-append, lit≤}
use Rattle.std.proofs.lemmas.Bool.{cases_lt, cases_eq, and_parts}
use Rattle.std.proofs.lemmas.List.{append_cancel_right}
use Rattle.std.specs.Prelude.{Option, Some, None, not, ◌==◌, if◌then◌else◌, nat_le}
use Rattle.std.specs.List.{AllByRecursion, list_all}
use Rattle.cfn_model.specs.declared.step.Step.{Step}
use Rattle.cfn_model.specs.declared.step.Event.{Event}
use Rattle.cfn_model.specs.declared.step.Event.TheVariants.{Took, Refused}
use Rattle.cfn_model.specs.declared.version.Version.TheVariants.{Second}
use Rattle.cfn_model.specs.Words.{greatest}
use Rattle.cfn_model.specs.Network.{Network}
use Rattle.cfn_model.specs.Sums.{floor}
use Rattle.cfn_model.specs.Steps.{after}
use Rattle.cfn_model.specs.Tree.{Tree, Open, Closed, Split, count}
use Rattle.cfn_model.specs.Certificate.{Solution, Certificate, Good, threshold_of}
use Rattle.cfn_model.specs.Text.{line, spelling, IsSpelledStep, IsSpelledTree, IsSpelledBest}
use Rattle.cfn_model.specs.Text as texts
use Rattle.cfn_model.proofs.CallerLemmas.{bound_low, has_decision, has_every_tree}
use Rattle.cfn_fault.specs.Nodes.{Item, Makes, LeavesOpen, Closes, Splits, HasItem, NodeFollows, ItemFollows, paths_after}
use Rattle.cfn_fault.specs.Lines as lines
use Rattle.cfn_fault.specs.Lines.{Line}
use Rattle.cfn_fault.specs.Decoding.{words_in}
use Rattle.cfn_fault.proofs.CallerLemmas.{Behind, Decided, Ends, HasNoEnd, Never, ends, good_or_fault, line_back, no_fault_where_good, one_certificate, run_append, run_one_more, spelled_append, told}
use Rattle.cfn_machine.specs.Pool.{Mark, Free, Out, PoolTree, Leaf, Shut, Fork, tree_of, behind, Replaced, numbered, swept, Task, Piece, Pool, AreNumbered}
use Rattle.cfn_machine.specs.Steps.{pool_recalled, pool_swept}
use Rattle.cfn_machine.proofs.CallerLemmas.{find_some, gives_or_not, never_both, numbered_is, one_task, opens_numbered, recalled_is, returns_or_not, takes_or_none}
use Rattle.cfn_record.specs.declared.kind.RecordFault.{RecordFault}
use Rattle.cfn_record.specs.declared.kind.RecordFault.TheVariants as kinds
use Rattle.cfn_record.specs.Entries as entries
use Rattle.cfn_record.specs.Entries.{Entry, Gave, Freed, CalledBack, Swept, Follows, Runs}
use Rattle.cfn_record.specs.Lines.{Record, RecordLine, Heading, Budget, Take, Give, Back, Recall, Sweep, Says, bytes_of, text_of, IsSpelledLine, said, lines_of_tree, lines_of_entry, lines_of_entries, lines_of_best, Spells, State, AtHeading, AtNumbers, AtBudget, AtEvents, AtValues, AtEnd, AtOver, LineFollows, HeadingFollows, NumbersFollow, BudgetFollows, TakeFollows, GiveFollows, BackFollows, RecallFollows, SweepFollows, NodeLineFollows, NoBestFollows, BestFollows, ValuesFollow, EndFollows}
use Rattle.cfn_record.specs.Decoding.{line_said}
use Rattle.cfn_record.specs.Replaying.{opening, certificate_of, GoodRecord}
use Rattle.cfn_record.specs.Fault.{ComesTo, IsOutTo, StandsFirst, KeepsGrant, PieceKeepsGrant, IsSeen, NotOut, BreaksGrant, SeenAbove, LinePasses, LineFails, AllPass, HasPassed, MayCome, Fault, ByGrammar, ByLine}
use Rattle.cfn_record.specs.Laws.{GoodOrFault}
use Rattle.cfn_record.proofs.Repeating.{follows_numbered}
use Rattle.cfn_record.proofs.Spelling.{front as its_front, heads, tails, line_says, line_said_is, one_front}
use Rattle.cfn_record.proofs.Parting.{said_append}
use Rattle.cfn_record.proofs.Reading.{AllSpelled, all_spelled, comes_first, comes_more, no_whole_piece, one_more_passes, one_tree, spelled_back, spelled_front, text_append, whole_texts}

-- ---- the next line

has_item : (item : Item) → HasItem Second item
has_item (Makes step) = tt
has_item LeavesOpen = tt
has_item Closes = tt
has_item (Splits d) = has_decision d

no_item : {item : Item} {more : List (List Event)} → NodeFollows Second [] item more → ⊥
no_item follows = elim follows [ ]

none_due : {item : Item} {t : State} → LineFollows (AtEvents []) (Says (lines.Node item)) t → ⊥
none_due (NodeLineFollows node) = no_item node

may_follow : (s : State) (l : RecordLine) → ((t : State) × LineFollows s l t) ⊎ ((t : State) → LineFollows s l t → ⊥)
may_follow AtHeading Heading = inl (AtNumbers, HeadingFollows)
may_follow AtHeading _ = inr (λ t follows. elim follows [ ])
may_follow AtNumbers (Says (lines.Numbers n e upper)) = inl (AtBudget, NumbersFollow)
may_follow AtNumbers _ = inr (λ t follows. elim follows [ ])
may_follow AtBudget (Budget budget) = inl (AtEvents [], BudgetFollows)
may_follow AtBudget _ = inr (λ t follows. elim follows [ ])
may_follow (AtEvents []) (Take worker want leaf grant) = inl (AtEvents [], TakeFollows)
may_follow (AtEvents []) (Give worker leaf grant threshold seen) = inl (AtEvents ([] ∷ []), GiveFollows)
may_follow (AtEvents []) (Back worker leaf grant) = inl (AtEvents [], BackFollows)
may_follow (AtEvents []) Recall = inl (AtEvents [], RecallFollows)
may_follow (AtEvents []) (Sweep seen) = inl (AtEvents [], SweepFollows)
may_follow (AtEvents []) (Says lines.NoBest) = inl (AtEnd, NoBestFollows)
may_follow (AtEvents []) (Says (lines.Best cost)) = inl (AtValues, BestFollows)
may_follow (AtEvents []) (Says (lines.Node item)) = inr (λ t follows. none_due follows)
may_follow (AtEvents []) _ = inr (λ t follows. elim follows [ ])
may_follow (AtEvents (path ∷ paths)) (Says (lines.Node item)) = inl (AtEvents (paths_after path item ++ paths), NodeLineFollows (ItemFollows (has_item item)))
may_follow (AtEvents (path ∷ paths)) _ = inr (λ t follows. elim follows [ ])
may_follow AtValues (Says (lines.Values values)) = inl (AtEnd, ValuesFollow)
may_follow AtValues _ = inr (λ t follows. elim follows [ ])
may_follow AtEnd (Says lines.End) = inl (AtOver, EndFollows)
may_follow AtEnd _ = inr (λ t follows. elim follows [ ])
may_follow AtOver _ = inr (λ t follows. elim follows [ ])

no_end_in : (before others : List ℕ) → HasNoEnd (before ++ 10 ∷ others) → ⊥
no_end_in [] others e = absurd (let h = (and_parts (not (10 == 10)) (list_all (λ b. not (b == 10)) others) e).0 in cc)
no_end_in (b ∷ before) others e = no_end_in before others (and_parts (not (b == 10)) (list_all (λ b. not (b == 10)) (before ++ 10 ∷ others)) e).1

record Next (rest : List ℕ) (s : State) : Type 0 where
  its : RecordLine
  state : State
  more : List ℕ
  spelled : IsSpelledLine its
  follows : LineFollows s its state
  text : rest ≡ bytes_of its ++ more
  less : length more < length rest

abbrev NoNext : List ℕ → State → Type 0
NoNext rest s = (l : RecordLine) (more : List ℕ) → MayCome s l → rest ≡ bytes_of l ++ more → ⊥

-- bytes that begin with a line, up to its LF
before_end : (l : RecordLine) (more : List ℕ) (h : IsSpelledLine l) → bytes_of l ++ more ≡ (its_front l h).front ++ 10 ∷ more
before_end l more h = ap (λ x. x ++ more) (its_front l h).bytes ∙ append_assoc (its_front l h).front (10 ∷ []) more

never_next : (rest : List ℕ) (s : State) → HasNoEnd rest → NoNext rest s
never_next rest s inside l more may is = no_end_in (its_front l may.0).front more (subst HasNoEnd (is ∙ before_end l more may.0) inside)

decoded : (rest before others : List ℕ) → HasNoEnd before → rest ≡ before ++ 10 ∷ others → (l : RecordLine) (more : List ℕ) → IsSpelledLine l → rest ≡ bytes_of l ++ more → line_said (words_in before) ≡ Some l
decoded rest before others inside is l more spelled at =
    let f = its_front l spelled in
    let same = one_front before f.front others more inside f.inside (sym is ∙ at ∙ before_end l more spelled) in
    ap (λ x. line_said (words_in x)) same.0 ∙ ap line_said f.words ∙ line_says l spelled

next_by : (rest before others : List ℕ) (s : State) → HasNoEnd before → rest ≡ before ++ 10 ∷ others → Next rest s ⊎ NoNext rest s
next_by rest before others s inside is = by_line (line_said (words_in before)) refl
  where
    one_line : {a b : RecordLine} → Some a ≡ Some b → a ≡ b
    one_line e = cc

    by_line : (o : Option RecordLine) → line_said (words_in before) ≡ o → Next rest s ⊎ NoNext rest s
    by_line None none = inr (λ l more may at. absurd (let both = sym none ∙ decoded rest before others inside is l more may.0 at in cc))
    by_line (Some m) some = elim (may_follow s m) [
      | inl follows ↦
          let of = line_said_is (words_in before) m some in
          let bytes : bytes_of m ≡ before ++ 10 ∷ [] = ap line (sym of.its) ∙ line_back before in
          inl (record {
            its = m;
            state = follows.0;
            more = others;
            spelled = of.spelled;
            follows = follows.1;
            text = is ∙ sym (append_assoc before (10 ∷ []) others) ∙ ap (λ b. b ++ others) (sym bytes);
            less = omega (arith, ap length is, length-append before (10 ∷ others));
          })
      | inr never ↦
          inr (λ l more may at. never may.1 (subst (λ x. LineFollows s x may.1) (sym (one_line (sym some ∙ decoded rest before others inside is l more may.0 at))) may.2))
    ]

next : (rest : List ℕ) (s : State) → Next rest s ⊎ NoNext rest s
next rest s = by_end (ends rest)
  where
    by_end : Ends rest → Next rest s ⊎ NoNext rest s
    by_end (Never inside) = inr (never_next rest s inside)
    by_end (Behind before others inside is) = next_by rest before others s inside is

-- ---- whether a whole piece stands in front

-- lines of nodes that run to the end of a piece are those of a tree
pub record TreeOf (ls : List Line) : Type 0 where
  pub tree : Tree
  pub its : ls ≡ lines.lines_of_tree tree

-- a certificate's lines with these nodes
abbrev before_nodes : List Line → List Line
before_nodes nodes = lines.Version Second ∷ lines.Numbers 0 0 0 ∷ lines.Lower 0 ∷ lines.NoBest ∷ lines.Root ∷ nodes

abbrev after_head : Certificate → Option Solution → List Line
after_head c best = (lines.Version c.version ∷ lines.Numbers c.variables c.functions c.upper ∷ lines.Lower c.lower ∷ lines.lines_of_best best) ++ lines.Root ∷ (lines.lines_of_tree c.tree ++ lines.End ∷ [])

its_tree : (ls : List Line) (c : Certificate) (best : Option Solution) → before_nodes (ls ++ lines.End ∷ []) ≡ after_head c best → TreeOf ls
its_tree ls c None e = record { tree = c.tree; its = append_cancel_right ls (lines.lines_of_tree c.tree) (lines.End ∷ []) (tails (tails (tails (tails (tails e))))) }
its_tree ls c (Some best) e = absurd (let k : lines.NoBest ≡ lines.Best best.cost = heads (tails (tails (tails e))) in cc)

each_spelled : (ls : List Line) → AllSpelled (said ls) → AllByRecursion lines.IsSpelledLine ls
each_spelled [] all = tt
each_spelled (l ∷ ls) all = (all.0, each_spelled ls all.1)

pub tree_of_lines : (ls : List Line) → lines.Runs (lines.AtNodes Second ([] ∷ [])) ls (lines.AtNodes Second []) → AllSpelled (said ls) → TreeOf ls
tree_of_lines ls run spelled =
    let nodes = run_append (lines.AtNodes Second ([] ∷ [])) (lines.AtNodes Second []) lines.AtOver ls (lines.End ∷ []) run (lines.AtOver, lines.EndFollows, refl) in
    let all : lines.Runs lines.AtVersion (before_nodes (ls ++ lines.End ∷ [])) lines.AtOver =
    (lines.AtNumbers Second, lines.VersionFollows, (lines.AtLower Second, lines.NumbersFollow, (lines.AtBest Second, lines.LowerFollows, (lines.AtRoot Second, lines.NoBestFollows, (lines.AtNodes Second ([] ∷ []), lines.RootFollows, nodes))))) in
    let whole = told (before_nodes (ls ++ lines.End ∷ [])) all (tt, ((lit≤ tt, lit≤ tt, lit≤ tt), (lit≤ tt, (tt, (tt, spelled_append ls (lines.End ∷ []) (each_spelled ls spelled) (tt, tt)))))) in
    its_tree ls whole.certificate whole.certificate.best whole.lines

said_more : (ls : List Line) (l : Line) (more : List ℕ) → text_of (said ls) ++ (bytes_of (Says l) ++ more) ≡ text_of (said (ls ++ l ∷ [])) ++ more
said_more ls l more =
    ap (λ x. text_of (said ls) ++ (x ++ more)) (sym (append-nil (bytes_of (Says l)))) ∙ sym (text_append (said ls) (Says l ∷ []) more) ∙ ap (λ x. text_of x ++ more) (sym (said_append ls (l ∷ [])))

spelled_more : (ls : List Line) (l : Line) → AllSpelled (said ls) → IsSpelledLine (Says l) → AllSpelled (said (ls ++ l ∷ []))
spelled_more [] l all one = (one, tt)
spelled_more (m ∷ ls) l all one = (all.0, spelled_more ls l all.1 one)

abbrev pub FindsPiece : List ℕ → Type 0
FindsPiece whole = ((tree : Tree) × StandsFirst whole tree) ⊎ ((tree : Tree) → StandsFirst whole tree → ⊥)

-- one line more of a piece
none_here : {path : List Event} {paths : List (List Event)} → AtEvents [] ≡ AtEvents (path ∷ paths) → ⊥
none_here e = by_paths (paths_are e)
  where
    paths_are : {a b : List (List Event)} → AtEvents a ≡ AtEvents b → a ≡ b
    paths_are e = cc

    by_paths : {path : List Event} {paths : List (List Event)} → [] ≡ path ∷ paths → ⊥
    by_paths e = cc

find_more : (whole : List ℕ) (n : ℕ) (rest : List ℕ) (ls : List Line) (path : List Event) (paths : List (List Event)) (s : State) (its : RecordLine) (t : State) (more : List ℕ) → s ≡ AtEvents (path ∷ paths) → LineFollows s its t → IsSpelledLine its
    → lines.Runs (lines.AtNodes Second ([] ∷ [])) ls (lines.AtNodes Second (path ∷ paths)) → AllSpelled (said ls) → whole ≡ text_of (said ls) ++ rest → rest ≡ bytes_of its ++ more
    → ((ms : List Line) (due : List (List Event)) → lines.Runs (lines.AtNodes Second ([] ∷ [])) ms (lines.AtNodes Second due) → AllSpelled (said ms) → whole ≡ text_of (said ms) ++ more → FindsPiece whole) → FindsPiece whole
find_more whole n rest ls path paths s its t more is (NodeLineFollows {paths = here} {more = due} {item = item} node) one run spelled text at recur =
    let same : here ≡ path ∷ paths = paths_same is in
    let follows : NodeFollows Second (path ∷ paths) item due = subst (λ x. NodeFollows Second x item due) same node in
    recur (ls ++ lines.Node item ∷ []) due (run_one_more (lines.AtNodes Second ([] ∷ [])) (lines.AtNodes Second (path ∷ paths)) (lines.AtNodes Second due) ls (lines.Node item) run (lines.NodeLineFollows follows))
    (spelled_more ls (lines.Node item) spelled one) (text ∙ ap (λ x. text_of (said ls) ++ x) at ∙ said_more ls (lines.Node item) more)
  where
    paths_same : {a b : List (List Event)} → AtEvents a ≡ AtEvents b → a ≡ b
    paths_same e = cc
find_more whole n rest ls path paths s its t more is HeadingFollows one run spelled text at recur = absurd cc
find_more whole n rest ls path paths s its t more is NumbersFollow one run spelled text at recur = absurd cc
find_more whole n rest ls path paths s its t more is BudgetFollows one run spelled text at recur = absurd cc
find_more whole n rest ls path paths s its t more is TakeFollows one run spelled text at recur = absurd (none_here is)
find_more whole n rest ls path paths s its t more is GiveFollows one run spelled text at recur = absurd (none_here is)
find_more whole n rest ls path paths s its t more is BackFollows one run spelled text at recur = absurd (none_here is)
find_more whole n rest ls path paths s its t more is RecallFollows one run spelled text at recur = absurd (none_here is)
find_more whole n rest ls path paths s its t more is SweepFollows one run spelled text at recur = absurd (none_here is)
find_more whole n rest ls path paths s its t more is NoBestFollows one run spelled text at recur = absurd (none_here is)
find_more whole n rest ls path paths s its t more is BestFollows one run spelled text at recur = absurd (none_here is)
find_more whole n rest ls path paths s its t more is ValuesFollow one run spelled text at recur = absurd cc
find_more whole n rest ls path paths s its t more is EndFollows one run spelled text at recur = absurd cc

find_by : (whole : List ℕ) (n : ℕ) (rest : List ℕ) (ls : List Line) (path : List Event) (paths : List (List Event)) → (Next rest (AtEvents (path ∷ paths)) ⊎ NoNext rest (AtEvents (path ∷ paths))) → length rest < suc n
    → lines.Runs (lines.AtNodes Second ([] ∷ [])) ls (lines.AtNodes Second (path ∷ paths)) → AllSpelled (said ls) → whole ≡ text_of (said ls) ++ rest
    → ((others : List ℕ) (ms : List Line) (due : List (List Event)) → length others < n → lines.Runs (lines.AtNodes Second ([] ∷ [])) ms (lines.AtNodes Second due) → AllSpelled (said ms) → whole ≡ text_of (said ms) ++ others → FindsPiece whole) → FindsPiece whole
find_by whole n rest ls path paths (inl it) lt run spelled text recur =
    find_more whole n rest ls path paths (AtEvents (path ∷ paths)) it.its it.state it.more refl it.follows it.spelled run spelled text it.text (λ ms due r s t. recur it.more ms due (omega (arith, it.less)) r s t)
find_by whole n rest ls path paths (inr none) lt run spelled text recur =
    inr (λ tree stands. no_whole_piece ls path paths rest tree run spelled (record { line = none; over = λ e. (absurd (cc)) }) (subst (λ x. StandsFirst x tree) text stands))

pub find_piece : (whole : List ℕ) (n : ℕ) (rest : List ℕ) (ls : List Line) (due : List (List Event)) → length rest < n → lines.Runs (lines.AtNodes Second ([] ∷ [])) ls (lines.AtNodes Second due) → AllSpelled (said ls) → whole ≡ text_of (said ls) ++ rest → FindsPiece whole
find_piece whole zero rest ls due lt run spelled text = absurd (omega arith)
find_piece whole (suc n) rest ls [] lt run spelled text =
    let it = tree_of_lines ls run spelled in
    inl (it.tree, record { spelled = subst (λ x. AllSpelled (said x)) it.its spelled; rest = rest; text = text ∙ ap (λ x. text_of (said x) ++ rest) it.its })
find_piece whole (suc n) rest ls (path ∷ paths) lt run spelled text =
    find_by whole n rest ls path paths (next rest (AtEvents (path ∷ paths))) lt run spelled text (λ others ms due less r s t. find_piece whole n others ms due less r s t)

-- ---- which of the two a line is

-- what is known behind lines that are right
record InPiece (P : Network) (front : List RecordLine) (rest : List ℕ) (paths : List (List Event)) : Type 0 where
  before : List RecordLine
  pool : Pool
  worker : ℕ
  leaf : ℕ
  grant : ℕ
  threshold : ℕ
  seen : ℕ
  ls : List Line
  comes : ComesTo P before [] pool
  out : IsOutTo pool worker leaf grant
  granted : PieceKeepsGrant (text_of (said ls) ++ rest) grant
  sees : IsSeen pool threshold seen
  run : lines.Runs (lines.AtNodes Second ([] ∷ [])) ls (lines.AtNodes Second paths)
  spelled : AllSpelled (said ls)
  whole : front ≡ before ++ Give worker leaf grant threshold seen ∷ said ls

abbrev Known : Network → List RecordLine → List ℕ → State → Type 0
Known P front rest AtHeading = front ≡ []
Known P front rest AtNumbers = front ≡ Heading ∷ []
Known P front rest AtBudget = (n : ℕ) × (e : ℕ) × (upper : ℕ) × (front ≡ Heading ∷ Says (lines.Numbers n e upper) ∷ [])
Known P front rest (AtEvents []) = (pool : Pool) × ComesTo P front [] pool
Known P front rest (AtEvents (path ∷ paths)) = InPiece P front rest (path ∷ paths)
Known P front rest AtValues = (before : List RecordLine) × (cost : ℕ) × (pool : Pool) × ComesTo P before [] pool × (front ≡ before ++ Says (lines.Best cost) ∷ [])
Known P front rest AtEnd = (best : Option Solution) × (pool : Pool) × ComesTo P front (lines_of_best best) pool
Known P front rest AtOver = Unit {0}

record Onward (P : Network) (front : List RecordLine) (more : List ℕ) (l : RecordLine) (t : State) : Type 0 where
  right : LinePasses P front more l
  known : Known P (front ++ l ∷ []) more t

abbrev Goes : Network → List RecordLine → List ℕ → RecordLine → State → Type 0
Goes P front more l t = Onward P front more l t ⊎ ((kind : RecordFault) × LineFails P front more l kind)

at_most : (m n : ℕ) → Decided (m ≤ n)
at_most m n = elim (cases_lt n m) [ inl lt ↦ inr (λ le. absurd (omega arith)) | inr le ↦ inl le ]

both : {A B : Type 0} → Decided A → Decided B → Decided (A × B)
both (inl a) (inl b) = inl (a, b)
both (inl a) (inr b) = inr (λ h. b h.1)
both (inr a) b = inr (λ h. a h.0)

same : (m n : ℕ) → Decided (m ≡ n)
same m n = elim (cases_eq m n) [ inl e ↦ inl e | inr other ↦ inr other ]

runs_numbered : (P : Network) (pool new : Pool) (its : List Entry) → AreNumbered pool → Runs P pool its new → AreNumbered new
runs_numbered P pool new [] own run = subst AreNumbered (sym run) own
runs_numbered P pool new (entry ∷ its) own run = runs_numbered P run.0 new its (follows_numbered P pool run.0 entry own run.1) run.2

come_numbered : (P : Network) (front others : List RecordLine) (pool : Pool) → ComesTo P front others pool → AreNumbered pool
come_numbered P front others pool comes = runs_numbered P (opening P comes.budget) pool comes.entries (opens_numbered P 128 comes.budget (Open []) None) comes.run

-- lines of the best assignment behind those of events
with_best : (P : Network) (front : List RecordLine) (pool : Pool) (others : List RecordLine) → ComesTo P front [] pool → ComesTo P (front ++ others) others pool
with_best P front pool others comes = record {
  variables = comes.variables;
  functions = comes.functions;
  upper = comes.upper;
  budget = comes.budget;
  entries = comes.entries;
  lines_are = ap (λ x. x ++ others) comes.lines_are ∙ ap (λ x. Heading ∷ Says (lines.Numbers comes.variables comes.functions comes.upper) ∷ Budget comes.budget ∷ (x ++ others)) (append-nil (lines_of_entries comes.entries));
  run = comes.run;
}

-- behind one more line of a piece: more are due, or it is given
known_by : (P : Network) (front : List RecordLine) (rest : List ℕ) (due : List (List Event)) (ls : List Line) (before : List RecordLine) (pool : Pool) (worker leaf grant threshold seen : ℕ) → ComesTo P before [] pool → IsOutTo pool worker leaf grant
    → PieceKeepsGrant (text_of (said ls) ++ rest) grant → IsSeen pool threshold seen → lines.Runs (lines.AtNodes Second ([] ∷ [])) ls (lines.AtNodes Second due) → AllSpelled (said ls) → front ≡ before ++ Give worker leaf grant threshold seen ∷ said ls → Known P front rest (AtEvents due)
known_by P front rest (path ∷ paths) ls before pool worker leaf grant threshold seen comes out granted sees run spelled whole = record {
  before = before;
  pool = pool;
  worker = worker;
  leaf = leaf;
  grant = grant;
  threshold = threshold;
  seen = seen;
  ls = ls;
  comes = comes;
  out = out;
  granted = granted;
  sees = sees;
  run = run;
  spelled = spelled;
  whole = whole;
}
known_by P front rest [] ls before pool worker leaf grant threshold seen comes out granted sees run spelled whole =
    let it = tree_of_lines ls run spelled in
    let keeps = granted it.tree (record { spelled = subst (λ x. AllSpelled (said x)) it.its spelled; rest = rest; text = ap (λ x. text_of (said x) ++ rest) it.its }) in
    let piece : Piece = record { task = record { leaf = leaf; worker = worker; grant = grant; floor = 0; path = out.0 }; tree = it.tree; threshold = threshold } in
    let entry : Entry = Gave worker leaf grant threshold seen it.tree in
    let is : before ++ lines_of_entry entry ≡ front = ap (λ x. before ++ Give worker leaf grant threshold seen ∷ said x) (sym it.its) ∙ sym whole in
    elim (gives_or_not pool seen piece) [
      | inr never ↦ absurd (never out.1)
      | inl gives ↦
          (let step : Follows P pool entry gives.0 = (piece, gives.1, refl, refl, refl, refl, refl, keeps.0, keeps.1, sees.0, sees.1) in
          (gives.0, subst (λ f. ComesTo P f [] gives.0) is (comes_more P before pool gives.0 entry comes step)))
    ]

module _ (P : Network) (front : List RecordLine) (more : List ℕ) where
  numbers_go : (n e upper : ℕ) → front ≡ Heading ∷ [] → Goes P front more (Says (lines.Numbers n e upper)) AtBudget
  numbers_go n e upper known = elim (both (same n (length P.sizes)) (both (same e (length P.functions)) (same upper P.upper))) [
    | inl right ↦ inl (record { right = (right.0, right.1.0, right.1.1); known = (n, e, upper, ap (λ f. f ++ Says (lines.Numbers n e upper) ∷ []) known) })
    | inr wrong ↦ inr (kinds.Network, (refl, λ right. wrong (right.0, (right.1, right.2))))
  ]

  budget_goes : (budget n e upper : ℕ) → front ≡ Heading ∷ Says (lines.Numbers n e upper) ∷ [] → Goes P front more (Budget budget) (AtEvents [])
  budget_goes budget n e upper known =
      inl (record { right = tt; known = (opening P budget, subst (λ f. ComesTo P f [] (opening P budget)) (ap (λ f. f ++ Budget budget ∷ []) (sym known)) (comes_first P n e upper budget)) })

  module _ (pool : Pool) (comes : ComesTo P front [] pool) where
    take_goes : (worker want leaf grant : ℕ) → Goes P front more (Take worker want leaf grant) (AtEvents [])
    take_goes worker want leaf grant = elim (at_most 1 want) [
      | inr none ↦ inr (kinds.Take, (refl, record { pool = pool; comes = comes; such = λ new follows. none follows.1.wants }))
      | inl wants ↦ elim (takes_or_none P pool worker want wants) [
        | inr lack ↦ inr (kinds.Take, (refl, record { pool = pool; comes = comes; such = λ new follows. never_both P pool new worker want follows.0 lack.0 follows.1 lack.1 }))
        | inl taken ↦ elim (both (same taken.0.leaf leaf) (same taken.0.grant grant)) [
          | inl right ↦
              (let step : Follows P pool (entries.Took worker want leaf grant) taken.1 = (taken.0, taken.2, right.0, right.1) in
              inl (record { right = record { pool = pool; comes = comes; such = (taken.1, step) }; known = (taken.1, comes_more P front pool taken.1 (entries.Took worker want leaf grant) comes step) }))
          | inr other ↦
              inr (
                kinds.Take,
                (
                  refl,
                  record {
                    pool = pool;
                    comes = comes;
                    such = λ new follows. (let tasks = (one_task P pool taken.1 new worker want taken.0 follows.0 (come_numbered P front [] pool comes) taken.2 follows.1).0 in
                        other (ap (λ (t : Task). t.leaf) tasks ∙ follows.2, ap (λ (t : Task). t.grant) tasks ∙ follows.3));
                  },
                ),
              )
        ]
      ]
    ]

    back_goes : (worker leaf grant : ℕ) → Goes P front more (Back worker leaf grant) (AtEvents [])
    back_goes worker leaf grant = elim (find_some pool.tree [] leaf (Out worker grant)) [
      | inr never ↦ inr (kinds.Back, (refl, record { pool = pool; comes = comes; such = λ out. never out.0 out.1 }))
      | inl out ↦
          (let task : Task = record { leaf = leaf; worker = worker; grant = grant; floor = 0; path = [] } in
          elim (returns_or_not pool task) [
            | inr never ↦ absurd (never out.0 out.1)
            | inl back ↦
                (let step : Follows P pool (Freed worker leaf grant) back.0 = (task, back.1, refl, refl, refl) in
                inl (record { right = record { pool = pool; comes = comes; such = (out.0, out.1) }; known = (back.0, comes_more P front pool back.0 (Freed worker leaf grant) comes step) }))
          ])
    ]

    recall_goes : Goes P front more Recall (AtEvents [])
    recall_goes = inl (record { right = tt; known = (pool_recalled pool, comes_more P front pool (pool_recalled pool) CalledBack comes refl) })

    sweep_goes : (seen : ℕ) → Goes P front more (Sweep seen) (AtEvents [])
    sweep_goes seen = elim (cases_lt pool.view.seen seen) [
      | inl above ↦ inr (kinds.Seen, (refl, record { pool = pool; comes = comes; such = above }))
      | inr low ↦ inl (record { right = record { pool = pool; comes = comes; such = low }; known = (pool_swept P pool seen, comes_more P front pool (pool_swept P pool seen) (Swept seen) comes (refl, low)) })
    ]

    give_by : (worker leaf grant threshold seen : ℕ) → IsOutTo pool worker leaf grant → PieceKeepsGrant more grant → Goes P front more (Give worker leaf grant threshold seen) (AtEvents ([] ∷ []))
    give_by worker leaf grant threshold seen out granted = elim (both (at_most seen threshold) (at_most seen pool.view.seen)) [
      | inr above ↦ inr (kinds.Seen, SeenAbove pool comes refl out granted above)
      | inl sees ↦
          inl (record {
            right = record { pool = pool; comes = comes; out = out; granted = granted; sees = sees };
            known = record {
              before = front;
              pool = pool;
              worker = worker;
              leaf = leaf;
              grant = grant;
              threshold = threshold;
              seen = seen;
              ls = [];
              comes = comes;
              out = out;
              granted = granted;
              sees = sees;
              run = refl;
              spelled = tt;
              whole = refl;
            };
          })
    ]

    give_goes : (worker leaf grant threshold seen : ℕ) → Goes P front more (Give worker leaf grant threshold seen) (AtEvents ([] ∷ []))
    give_goes worker leaf grant threshold seen = elim (find_some pool.tree [] leaf (Out worker grant)) [
      | inr never ↦ inr (kinds.Give, NotOut pool comes refl (λ out. never out.0 out.1))
      | inl out ↦ elim (find_piece more (suc (length more)) more [] ([] ∷ []) (omega arith) refl tt refl) [
        | inr none ↦ give_by worker leaf grant threshold seen (out.0, out.1) (λ tree stands. absurd (none tree stands))
        | inl found ↦ elim (both (at_most 1 (count found.0)) (at_most (count found.0) grant)) [
          | inr other ↦ inr (kinds.Give, BreaksGrant pool comes refl found.0 found.1 other)
          | inl keeps ↦
              give_by worker leaf grant threshold seen (out.0, out.1)
              (λ tree stands. subst (KeepsGrant grant) (one_tree found.0 tree found.1.rest stands.rest found.1.spelled stands.spelled (sym found.1.text ∙ stands.text)) keeps)
        ]
      ]
    ]

    none_goes : Goes P front more (Says lines.NoBest) AtEnd
    none_goes = elim (same pool.view.seen P.upper) [
      | inr other ↦ inr (kinds.Seen, (refl, record { pool = pool; comes = comes; such = other }))
      | inl last ↦ inl (record { right = record { pool = pool; comes = comes; such = last }; known = (None, pool, with_best P front pool (lines_of_best None) comes) })
    ]

    best_goes : (cost : ℕ) → Goes P front more (Says (lines.Best cost)) AtValues
    best_goes cost = elim (same pool.view.seen cost) [
      | inr other ↦ inr (kinds.Seen, (refl, record { pool = pool; comes = comes; such = other }))
      | inl last ↦ inl (record { right = record { pool = pool; comes = comes; such = last }; known = (front, cost, pool, comes, refl) })
    ]

  values_go : (values : List ℕ) (before : List RecordLine) (cost : ℕ) (pool : Pool) → ComesTo P before [] pool → front ≡ before ++ Says (lines.Best cost) ∷ [] → Goes P front more (Says (lines.Values values)) AtEnd
  values_go values before cost pool comes is =
      let best : Option Solution = Some (record { cost = cost; values = values }) in
      let whole : before ++ lines_of_best best ≡ front ++ Says (lines.Values values) ∷ [] = sym (append_assoc before (Says (lines.Best cost) ∷ []) (Says (lines.Values values) ∷ [])) ∙ ap (λ f. f ++ Says (lines.Values values) ∷ []) (sym is) in
      inl (record { right = tt; known = (best, pool, subst (λ f. ComesTo P f (lines_of_best best) pool) whole (with_best P before pool (lines_of_best best) comes)) })

  -- a node's line
  node_goes : (rest : List ℕ) (path : List Event) (paths due : List (List Event)) (item : Item) → InPiece P front rest (path ∷ paths) → NodeFollows Second (path ∷ paths) item due → IsSpelledLine (Says (lines.Node item)) → rest ≡ bytes_of (Says (lines.Node item)) ++ more
      → Goes P front more (Says (lines.Node item)) (AtEvents due)
  node_goes rest path paths due item piece node one at =
      let give = Give piece.worker piece.leaf piece.grant piece.threshold piece.seen in
      let ls = piece.ls ++ lines.Node item ∷ [] in
      let text : text_of (said piece.ls) ++ rest ≡ text_of (said ls) ++ more = ap (λ x. text_of (said piece.ls) ++ x) at ∙ said_more piece.ls (lines.Node item) more in
      let whole : front ++ Says (lines.Node item) ∷ [] ≡ piece.before ++ give ∷ said ls =
      ap (λ x. x ++ Says (lines.Node item) ∷ []) piece.whole ∙ append_assoc piece.before (give ∷ said piece.ls) (Says (lines.Node item) ∷ []) ∙ ap (λ x. piece.before ++ give ∷ x) (sym (said_append piece.ls (lines.Node item ∷ []))) in
      inl (record {
        right = tt;
        known = known_by P (front ++ Says (lines.Node item) ∷ []) more due ls piece.before piece.pool piece.worker piece.leaf piece.grant piece.threshold piece.seen piece.comes piece.out (subst (λ x. PieceKeepsGrant x piece.grant) text piece.granted) piece.sees
            (run_one_more (lines.AtNodes Second ([] ∷ [])) (lines.AtNodes Second (path ∷ paths)) (lines.AtNodes Second due) piece.ls (lines.Node item) piece.run (lines.NodeLineFollows node)) (spelled_more piece.ls (lines.Node item) piece.spelled one) whole;
      })

-- ---- whether the certificate that lines come to is good

-- a tree whose lines have a spelling has one
block_spelled : (block : List Step) (ls : List Line) → AllSpelled (said (map (λ step. lines.Node (Makes step)) block ++ ls)) → AllByRecursion IsSpelledStep block × AllSpelled (said ls)
block_spelled [] ls all = (tt, all)
block_spelled (step ∷ block) ls all = let behind = block_spelled block ls all.1 in ((all.0, behind.0), behind.1)

said_parts : (a b : List Line) → AllSpelled (said (a ++ b)) → AllSpelled (said a) × AllSpelled (said b)
said_parts [] b all = (tt, all)
said_parts (l ∷ a) b all = let parts = said_parts a b all.1 in ((all.0, parts.0), parts.1)

tree_spelled : (tree : Tree) → AllSpelled (lines_of_tree tree) → IsSpelledTree tree
tree_spelled (Open block) all = (block_spelled block _ all).0
tree_spelled (Closed block) all = (block_spelled block _ all).0
tree_spelled (Split block d first second) all =
    let node = block_spelled block _ all in
    let parts = said_parts (lines.lines_of_tree first) (lines.lines_of_tree second) node.1.1 in
    (node.0, node.1.0, tree_spelled first parts.0, tree_spelled second parts.1)

-- and so has the pool's tree
steps_append : (a b : List Step) → AllByRecursion IsSpelledStep a → AllByRecursion IsSpelledStep b → AllByRecursion IsSpelledStep (a ++ b)
steps_append [] b first second = second
steps_append (step ∷ a) b first second = (first.0, steps_append a b first.1 second)

spelled_behind : (block : List Step) (place : PoolTree) → AllByRecursion IsSpelledStep block → IsSpelledTree (tree_of place) → IsSpelledTree (tree_of (behind block place))
spelled_behind block (Leaf number mark more) one two = steps_append block more one two
spelled_behind block (Shut more) one two = steps_append block more one two
spelled_behind block (Fork more d first second) one two = (steps_append block more one two.0, two.1, two.2, two.3)

spelled_replaced : (tree : PoolTree) (history : List Event) (n : ℕ) (mark : Mark) (path : List Event) (place new : PoolTree) → Replaced tree history n mark path place new → IsSpelledTree (tree_of tree) → IsSpelledTree (tree_of place) → IsSpelledTree (tree_of new)
spelled_replaced (Leaf number m block) history n mark path place new at one two = subst (λ t. IsSpelledTree (tree_of t)) (sym at.3) (spelled_behind block place one two)
spelled_replaced (Shut block) history n mark path place new at one two = absurd at
spelled_replaced (Fork block d first second) history n mark path place new (inl at) one two =
    subst (λ t. IsSpelledTree (tree_of t)) (sym at.2) (one.0, one.1, spelled_replaced first (Took d ∷ after block history) n mark path place at.0 at.1 one.2 two, one.3)
spelled_replaced (Fork block d first second) history n mark path place new (inr at) one two =
    subst (λ t. IsSpelledTree (tree_of t)) (sym at.2) (one.0, one.1, one.2, spelled_replaced second (Refused d ∷ after block history) n mark path place at.0 at.1 one.3 two)

spelled_by : (test : Bool) (number : ℕ) (block : List Step) → AllByRecursion IsSpelledStep block → IsSpelledTree (tree_of (if test then Shut block else Leaf number Free block))
spelled_by true number block one = one
spelled_by false number block one = one

spelled_swept : (P : Network) (k : ℕ) (tree : PoolTree) (history : List Event) → IsSpelledTree (tree_of tree) → IsSpelledTree (tree_of (swept P k tree history))
spelled_swept P k (Leaf number Free block) history one = spelled_by (nat_le k (floor P (after block history))) number block one
spelled_swept P k (Leaf number (Out worker grant) block) history one = one
spelled_swept P k (Shut block) history one = one
spelled_swept P k (Fork block d first second) history one = (one.0, one.1, spelled_swept P k first (Took d ∷ after block history) one.2, spelled_swept P k second (Refused d ∷ after block history) one.3)

spelled_after : (P : Network) (pool new : Pool) (entry : Entry) → Follows P pool entry new → IsSpelledTree (tree_of pool.tree) → AllSpelled (lines_of_entry entry) → IsSpelledTree (tree_of new.tree)
spelled_after P pool new (entries.Took worker want leaf grant) step one all =
    subst (λ (p : Pool). IsSpelledTree (tree_of p.tree)) (sym step.1.left) (spelled_replaced pool.tree [] step.0.leaf Free step.0.path (Leaf step.0.leaf (Out worker step.0.grant) []) step.1.tree step.1.marked one tt)
spelled_after P pool new (Gave worker leaf grant threshold seen tree) step one all =
    let piece = step.0 in
    let own : IsSpelledTree piece.tree = subst IsSpelledTree (sym step.6) (tree_spelled tree all.1) in
    let place : IsSpelledTree (tree_of (numbered pool.next piece.tree)) = subst IsSpelledTree (sym (numbered_is piece.tree pool.next)) own in
    subst (λ (p : Pool). IsSpelledTree (tree_of p.tree)) (sym step.1.left)
    (spelled_replaced pool.tree [] piece.task.leaf (Out piece.task.worker piece.task.grant) piece.task.path (numbered pool.next piece.tree) step.1.tree step.1.placed one place)
spelled_after P pool new (Freed worker leaf grant) step one all =
    subst (λ (p : Pool). IsSpelledTree (tree_of p.tree)) (sym step.1.left) (spelled_replaced pool.tree [] step.0.leaf (Out step.0.worker step.0.grant) step.1.path (Leaf step.0.leaf Free []) step.1.tree step.1.freed one tt)
spelled_after P pool new CalledBack step one all = subst (λ (p : Pool). IsSpelledTree (tree_of p.tree)) (sym step) (subst IsSpelledTree (sym (recalled_is pool.tree)) one)
spelled_after P pool new (Swept seen) step one all = subst (λ (p : Pool). IsSpelledTree (tree_of p.tree)) (sym step.0) (spelled_swept P seen pool.tree [] one)

spelled_run : (P : Network) (pool new : Pool) (its : List Entry) → Runs P pool its new → IsSpelledTree (tree_of pool.tree) → AllSpelled (lines_of_entries its) → IsSpelledTree (tree_of new.tree)
spelled_run P pool new [] run one all = subst (λ (p : Pool). IsSpelledTree (tree_of p.tree)) (sym run) one
spelled_run P pool new (entry ∷ its) run one all =
    spelled_run P run.0 new its run.2 (spelled_after P pool run.0 entry run.1 one (spelled_front (lines_of_entry entry) (lines_of_entries its) all)) (spelled_back (lines_of_entry entry) (lines_of_entries its) all)

best_spelled : (best : Option Solution) → AllSpelled (lines_of_best best) → IsSpelledBest best
best_spelled None all = tt
best_spelled (Some best) all = (all.0, all.1.0.0, all.1.0.1)

least_spelled : (upper : ℕ) (best : Option Solution) → upper ≤ greatest → IsSpelledBest best → threshold_of upper best ≤ greatest
least_spelled upper None low spelled = low
least_spelled upper (Some best) low spelled = spelled.0

certificate_decided : (P : Network) (c : Certificate) → texts.IsSpelled c → Decided (Good P c)
certificate_decided P c spelled = elim (good_or_fault P (spelling c)) [
  | inl good ↦ inl (subst (Good P) (one_certificate (spelling c) good.0 c good.1 (record { spelled = spelled; exact = refl })) good.2)
  | inr fault ↦ inr (λ good. no_fault_where_good P (spelling c) c fault.0 fault.1 (record { spelled = spelled; exact = refl }) good fault.2)
]

good_decided : (P : Network) (bytes rest : List ℕ) (front : List RecordLine) (s : State) (best : Option Solution) (pool : Pool) → HasPassed P bytes rest front s → ComesTo P front (lines_of_best best) pool → Decided (Good P (certificate_of P best (tree_of pool.tree)))
good_decided P bytes rest front s best pool passed comes =
    let whole : List RecordLine = Heading ∷ Says (lines.Numbers comes.variables comes.functions comes.upper) ∷ Budget comes.budget ∷ (lines_of_entries comes.entries ++ lines_of_best best) in
    let run : AllPass P [] AtHeading whole rest s = subst (λ f. AllPass P [] AtHeading f rest s) comes.lines_are passed.right in
    let all = all_spelled P [] AtHeading s whole rest run in
    let numbers = run.2.1.right in
    let spelled = all.1.0 in
    let events = all.1.1.1 in
    let its = best_spelled best (spelled_back (lines_of_entries comes.entries) (lines_of_best best) events) in
    let tree = spelled_run P (opening P comes.budget) pool comes.entries comes.run tt (spelled_front (lines_of_entries comes.entries) (lines_of_best best) events) in
    let upper : P.upper ≤ greatest = subst (λ x. x ≤ greatest) numbers.2 spelled.2 in
    let low = least_spelled P.upper best upper its in
    let least = bound_low P [] (tree_of pool.tree) (threshold_of P.upper best) in
    certificate_decided P (certificate_of P best (tree_of pool.tree)) (record {
      variables = subst (λ x. x ≤ greatest) numbers.0 spelled.0;
      functions = subst (λ x. x ≤ greatest) numbers.1 spelled.1;
      upper = upper;
      best = its;
      lower = omega (arith, low, least);
      tree = tree;
      has_tree = has_every_tree (tree_of pool.tree);
    })

end_goes : (P : Network) (bytes rest more : List ℕ) (front : List RecordLine) (s : State) (best : Option Solution) (pool : Pool) → HasPassed P bytes rest front s → ComesTo P front (lines_of_best best) pool → Goes P front more (Says lines.End) AtOver
end_goes P bytes rest more front s best pool passed comes = elim (good_decided P bytes rest front s best pool passed comes) [
  | inl good ↦ inl (record { right = record { best = best; pool = pool; comes = comes; good = good }; known = tt })
  | inr bad ↦ inr (kinds.Certificate, (refl, record { best = best; pool = pool; comes = comes; bad = bad }))
]

item_goes : (P : Network) (front : List RecordLine) (rest more : List ℕ) (paths due : List (List Event)) (item : Item) → NodeFollows Second paths item due → Known P front rest (AtEvents paths) → IsSpelledLine (Says (lines.Node item)) → rest ≡ bytes_of (Says (lines.Node item)) ++ more
    → Goes P front more (Says (lines.Node item)) (AtEvents due)
item_goes P front rest more paths due item (ItemFollows {history = path} {paths = others} has) known one at = node_goes P front more rest path others (paths_after path item ++ others) item known (ItemFollows has) one at

goes : (P : Network) (bytes rest more : List ℕ) (front : List RecordLine) (s : State) (l : RecordLine) (t : State) → HasPassed P bytes rest front s → Known P front rest s → IsSpelledLine l → LineFollows s l t → rest ≡ bytes_of l ++ more → Goes P front more l t
goes P bytes rest more front s l t passed known one HeadingFollows at = inl (record { right = tt; known = ap (λ f. f ++ Heading ∷ []) known })
goes P bytes rest more front s l t passed known one (NumbersFollow {n = n} {e = e} {upper = upper}) at = numbers_go P front more n e upper known
goes P bytes rest more front s l t passed known one (BudgetFollows {budget = budget}) at = budget_goes P front more budget known.0 known.1 known.2 known.3
goes P bytes rest more front s l t passed known one (TakeFollows {worker = w} {want = n} {leaf = f} {grant = g}) at = take_goes P front more known.0 known.1 w n f g
goes P bytes rest more front s l t passed known one (GiveFollows {worker = w} {leaf = f} {grant = g} {threshold = k} {seen = c}) at = give_goes P front more known.0 known.1 w f g k c
goes P bytes rest more front s l t passed known one (BackFollows {worker = w} {leaf = f} {grant = g}) at = back_goes P front more known.0 known.1 w f g
goes P bytes rest more front s l t passed known one RecallFollows at = recall_goes P front more known.0 known.1
goes P bytes rest more front s l t passed known one (SweepFollows {seen = c}) at = sweep_goes P front more known.0 known.1 c
goes P bytes rest more front s l t passed known one (NodeLineFollows {paths = paths} {more = due} {item = item} node) at = item_goes P front rest more paths due item node known one at
goes P bytes rest more front s l t passed known one NoBestFollows at = none_goes P front more known.0 known.1
goes P bytes rest more front s l t passed known one (BestFollows {cost = cost}) at = best_goes P front more known.0 known.1 cost
goes P bytes rest more front s l t passed known one (ValuesFollow {values = values}) at = values_go P front more values known.0 known.1 known.2 known.3 known.4
goes P bytes rest more front s l t passed known one EndFollows at = end_goes P bytes rest more front s known.0 known.1 passed known.2

-- ---- the lines one by one

Judged : Network → List ℕ → Type 0
Judged P bytes = ((r : Record) × Spells r bytes × GoodRecord P r) ⊎ ((l : ℕ) × (kind : RecordFault) × Fault P bytes l kind)

is_over : (s : State) → Decided (s ≡ AtOver)
is_over AtHeading = inr (λ e. absurd (cc))
is_over AtNumbers = inr (λ e. absurd (cc))
is_over AtBudget = inr (λ e. absurd (cc))
is_over (AtEvents paths) = inr (λ e. absurd (cc))
is_over AtValues = inr (λ e. absurd (cc))
is_over AtEnd = inr (λ e. absurd (cc))
is_over AtOver = inl refl

stops : (P : Network) (bytes rest : List ℕ) (front : List RecordLine) (s : State) → HasPassed P bytes rest front s → NoNext rest s → (s ≡ AtOver → rest ≡ [] → ⊥) → Judged P bytes
unfolding Judged
stops P bytes rest front s passed none over = inr (length front + 1, kinds.Text, ByGrammar rest front s passed (record { line = none; over = over }) refl refl)

judged_end : (P : Network) (bytes rest : List ℕ) (front : List RecordLine) (s : State) → HasPassed P bytes rest front s → NoNext rest s → Judged P bytes
unfolding Judged
judged_end P bytes [] front s passed none = elim (is_over s) [
  | inl over ↦ let whole = whole_texts P bytes front (subst (HasPassed P bytes [] front) over passed) in inl (whole.0, whole.1, whole.2)
  | inr other ↦ stops P bytes [] front s passed none (λ over e. other over)
]
judged_end P bytes (b ∷ rest) front s passed none = stops P bytes (b ∷ rest) front s passed none (λ over e. (cc))

judged_by : (P : Network) (bytes : List ℕ) (n : ℕ) (rest : List ℕ) (front : List RecordLine) (s : State) → (Next rest s ⊎ NoNext rest s) → length rest < suc n → HasPassed P bytes rest front s → Known P front rest s
    → ((others : List ℕ) (more : List RecordLine) (t : State) → length others < n → HasPassed P bytes others more t → Known P more others t → Judged P bytes) → Judged P bytes
unfolding Judged
judged_by P bytes n rest front s (inr none) lt passed known recur = judged_end P bytes rest front s passed none
judged_by P bytes n rest front s (inl it) lt passed known recur = elim (goes P bytes rest it.more front s it.its it.state passed known it.spelled it.follows it.text) [
  | inr fails ↦ inr (length front + 1, fails.0, ByLine rest it.more front s it.its passed (it.spelled, it.state, it.follows) it.text fails.1 refl)
  | inl onward ↦
      recur it.more (front ++ it.its ∷ []) it.state (omega (arith, it.less)) (one_more_passes P bytes rest it.more front s it.state it.its passed (record { spelled = it.spelled; follows = it.follows; right = onward.right }) it.text) onward.known
]

judged : (P : Network) (bytes : List ℕ) (n : ℕ) (rest : List ℕ) (front : List RecordLine) (s : State) → length rest < n → HasPassed P bytes rest front s → Known P front rest s → Judged P bytes
judged P bytes zero rest front s lt passed known = absurd (omega arith)
judged P bytes (suc n) rest front s lt passed known = judged_by P bytes n rest front s (next rest s) lt passed known (λ others more t less its knows. judged P bytes n others more t less its knows)

pub good_or_fault_record : GoodOrFault
unfolding Judged
good_or_fault_record P bytes = judged P bytes (suc (length bytes)) bytes [] AtHeading (omega arith) (record { text = refl; right = refl }) refl
