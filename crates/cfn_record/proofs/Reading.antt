-- The lines of a good record are right, and lines that are right up to the end are those of a good record.
use Rattle.std.proofs.Common.{◌≡◌, ℕ, List, [], ◌∷◌, ◌++◌, refl, sym, ap, ap₂, subst, ◌∙◌, append_assoc, append-nil, inl, inr}
use Rattle.std.proofs.lemmas.List.{append_cancel_left}
use Rattle.std.specs.Prelude.{◌⊎◌, Option, Some, None}
use Rattle.std.specs.List.{AllByRecursion}
use Rattle.cfn_model.specs.declared.step.Event.{Event}
use Rattle.cfn_model.specs.declared.version.Version.TheVariants.{Second}
use Rattle.cfn_model.specs.Network.{Network}
use Rattle.cfn_model.specs.Tree.{Tree, Open, Closed, Split}
use Rattle.cfn_model.specs.Certificate.{Solution, threshold_of}
use Rattle.cfn_model.proofs.CallerLemmas.{has_every_tree}
use Rattle.cfn_fault.specs.Lines as lines
use Rattle.cfn_fault.specs.Lines.{Line}
use Rattle.cfn_fault.proofs.CallerLemmas as fault
use Rattle.cfn_fault.proofs.CallerLemmas.{node_follows, nothing_over, run_append, run_split, same_end}
use Rattle.cfn_machine.specs.Pool.{Free, Out, Leaf, IsLeaf, Pool, Piece}
use Rattle.cfn_machine.specs.Steps.{PoolGives}
use Rattle.cfn_machine.proofs.CallerLemmas.{gives_out, replaced_leaf}
use Rattle.cfn_record.specs.Entries as entries
use Rattle.cfn_record.specs.Entries.{Entry, Gave, Freed, CalledBack, Swept, Follows, Runs}
use Rattle.cfn_record.specs.Lines.{Record, RecordLine, Heading, Budget, Give, Says, bytes_of, text_of, IsSpelledLine, said, lines_of_tree, lines_of_entry, lines_of_entries, lines_of_best, lines_of, IsSpelled, State, AtHeading, AtNumbers, AtBudget, AtEvents, AtValues, AtEnd, AtOver, LineFollows, HeadingFollows, NumbersFollow, BudgetFollows, TakeFollows, GiveFollows, BackFollows, RecallFollows, SweepFollows, NodeLineFollows, NoBestFollows, BestFollows, ValuesFollow, EndFollows}
use Rattle.cfn_record.specs.Replaying.{opening, GoodRecord}
use Rattle.cfn_record.specs.Fault.{ComesTo, IsOutTo, KeepsGrant, PieceKeepsGrant, GivePasses, ComesToGood, LinePasses, Passes, AllPass, MayCome}
use Rattle.cfn_record.specs.Laws.{EntryPasses, NoFaultWhereGood, NoWholePiece, OneMorePasses, WholeTexts}
use Rattle.cfn_record.proofs.Spelling.{heads, tails, same_line}
use Rattle.cfn_record.proofs.Parting.{said_append, same_tree}
use Rattle.cfn_record.proofs.Passing.{come_once, no_fault_behind}

abbrev pub AllSpelled : List RecordLine → Type 0
AllSpelled ls = AllByRecursion IsSpelledLine ls

pub spelled_front : (a b : List RecordLine) → AllSpelled (a ++ b) → AllSpelled a
spelled_front [] b all = tt
spelled_front (l ∷ a) b all = (all.0, spelled_front a b all.1)

pub spelled_back : (a b : List RecordLine) → AllSpelled (a ++ b) → AllSpelled b
spelled_back [] b all = all
spelled_back (l ∷ a) b all = spelled_back a b all.1

pub text_append : (a b : List RecordLine) (rest : List ℕ) → text_of (a ++ b) ++ rest ≡ text_of a ++ (text_of b ++ rest)
text_append [] b rest = refl
text_append (l ∷ a) b rest = append_assoc (bytes_of l) (text_of (a ++ b)) rest ∙ ap (λ x. bytes_of l ++ x) (text_append a b rest) ∙ sym (append_assoc (bytes_of l) (text_of a) (text_of b ++ rest))

-- ---- lines that are right, put together and taken apart

module _ (P : Network) where
  pub pass_append : (front : List RecordLine) (s m t : State) (a b : List RecordLine) (rest : List ℕ) → AllPass P front s a (text_of b ++ rest) m → AllPass P (front ++ a) m b rest t → AllPass P front s (a ++ b) rest t
  pass_append front s m t [] b rest one two = subst (λ x. AllPass P front x b rest t) (sym one) (subst (λ f. AllPass P f m b rest t) (append-nil front) two)
  pass_append front s m t (l ∷ a) b rest one two =
      let right = subst (λ x. Passes P front s l x one.0) (sym (text_append a b rest)) one.1 in
      (one.0, right, pass_append (front ++ l ∷ []) one.0 m t a b rest one.2 (subst (λ f. AllPass P f m b rest t) (sym (append_assoc front (l ∷ []) a)) two))

  record Parts (front : List RecordLine) (s t : State) (a b : List RecordLine) (rest : List ℕ) : Type 0 where
    between : State
    first : AllPass P front s a (text_of b ++ rest) between
    second : AllPass P (front ++ a) between b rest t

  pass_split : (front : List RecordLine) (s t : State) (a b : List RecordLine) (rest : List ℕ) → AllPass P front s (a ++ b) rest t → Parts front s t a b rest
  pass_split front s t [] b rest run = record { between = s; first = refl; second = subst (λ f. AllPass P f s b rest t) (sym (append-nil front)) run }
  pass_split front s t (l ∷ a) b rest run =
      let more = pass_split (front ++ l ∷ []) run.0 t a b rest run.2 in
      record {
        between = more.between;
        first = (run.0, subst (λ x. Passes P front s l x run.0) (text_append a b rest) run.1, more.first);
        second = subst (λ f. AllPass P f more.between b rest t) (append_assoc front (l ∷ []) a) more.second;
      }

  pub all_spelled : (front : List RecordLine) (s t : State) (ls : List RecordLine) (rest : List ℕ) → AllPass P front s ls rest t → AllSpelled ls
  all_spelled front s t [] rest run = tt
  all_spelled front s t (l ∷ ls) rest run = (run.1.spelled, all_spelled (front ++ l ∷ []) run.0 t ls rest run.2)

-- one line more
pub one_more_passes : OneMorePasses
one_more_passes P bytes rest more front s t l passed passes is =
    let one : text_of (l ∷ []) ++ more ≡ bytes_of l ++ more = ap (λ x. x ++ more) (append-nil (bytes_of l)) in
    let here : rest ≡ text_of (l ∷ []) ++ more = is ∙ sym one in
    record {
      text = passed.text ∙ ap (λ x. text_of front ++ x) here ∙ sym (text_append front (l ∷ []) more);
      right = pass_append P [] AtHeading s t front (l ∷ []) more (subst (λ x. AllPass P [] AtHeading front x s) here passed.right) (t, passes, refl);
    }

-- ---- a piece's lines

no_more : {paths : List (List Event)} → lines.AtOver ≡ lines.AtNodes Second paths → ⊥
no_more e = absurd cc

same_due : {paths more : List (List Event)} → lines.AtNodes Second paths ≡ lines.AtNodes Second more → paths ≡ more
same_due e = cc

module _ (P : Network) (rest : List ℕ) where
  node_passes : (front : List RecordLine) (paths more : List (List Event)) (l : Line) (m : lines.State) (ls : List Line) → lines.Follows (lines.AtNodes Second paths) l m → lines.Runs m ls (lines.AtNodes Second more) → IsSpelledLine (Says l)
      → ((due : List (List Event)) → lines.Runs (lines.AtNodes Second due) ls (lines.AtNodes Second more) → AllPass P (front ++ Says l ∷ []) (AtEvents due) (said ls) rest (AtEvents more)) → AllPass P front (AtEvents paths) (said (l ∷ ls)) rest (AtEvents more)
  node_passes front paths more l m ls (lines.NodeLineFollows {more = due} node) run spelled behind = (AtEvents due, record { spelled = spelled; follows = NodeLineFollows node; right = tt }, behind due run)
  node_passes front paths more l m ls lines.EndFollows run spelled behind = absurd (no_more (subst (λ x. lines.Runs lines.AtOver x (lines.AtNodes Second more)) (nothing_over ls (lines.AtNodes Second more) run) run))

  -- nodes that may come in a certificate's second version are right in a piece
  pub nodes_pass : (front : List RecordLine) (paths more : List (List Event)) (ls : List Line) → lines.Runs (lines.AtNodes Second paths) ls (lines.AtNodes Second more) → AllSpelled (said ls) → AllPass P front (AtEvents paths) (said ls) rest (AtEvents more)
  nodes_pass front paths more [] run spelled = ap AtEvents (same_due run)
  nodes_pass front paths more (l ∷ ls) run spelled = node_passes front paths more l run.0 ls run.1 run.2 spelled.0 (λ due behind. nodes_pass (front ++ Says l ∷ []) due more ls behind spelled.1)

-- the lines of a tree lead from its path to what is due behind it
pub runs_tree : (history : List Event) (paths : List (List Event)) (tree : Tree) → lines.Runs (lines.AtNodes Second (history ∷ paths)) (lines.lines_of_tree tree) (lines.AtNodes Second paths)
runs_tree history paths tree = fault.runs_tree Second history paths tree (has_every_tree tree)

-- bytes begin with the lines of one tree at most
record Longer (ls ms : List RecordLine) : Type 0 where
  rest : List RecordLine
  whole : ms ≡ ls ++ rest

one_longer : (ls ms : List RecordLine) (r s : List ℕ) → AllSpelled ls → AllSpelled ms → text_of ls ++ r ≡ text_of ms ++ s → Longer ls ms ⊎ Longer ms ls
one_longer [] ms r s a b e = inl (record { rest = ms; whole = refl })
one_longer (l ∷ ls) [] r s a b e = inr (record { rest = l ∷ ls; whole = refl })
one_longer (l ∷ ls) (m ∷ ms) r s a b e =
    let same = same_line l m (text_of ls ++ r) (text_of ms ++ s) a.0 b.0 (sym (append_assoc (bytes_of l) (text_of ls) r) ∙ e ∙ append_assoc (bytes_of m) (text_of ms) s) in
    elim (one_longer ls ms r s a.1 b.1 same.rest) [
      | inl it ↦ inl (record { rest = it.rest; whole = ap₂ (λ x xs. x ∷ xs) (sym same.line) it.whole })
      | inr it ↦ inr (record { rest = it.rest; whole = ap₂ (λ x xs. x ∷ xs) same.line it.whole })
    ]

pub one_tree : (t u : Tree) (r s : List ℕ) → AllSpelled (lines_of_tree t) → AllSpelled (lines_of_tree u) → text_of (lines_of_tree t) ++ r ≡ text_of (lines_of_tree u) ++ s → t ≡ u
one_tree t u r s a b e = elim (one_longer (lines_of_tree t) (lines_of_tree u) r s a b e) [
  | inl it ↦ sym (same_tree u t [] it.rest (append-nil (lines_of_tree u) ∙ it.whole)).0
  | inr it ↦ (same_tree t u [] it.rest (append-nil (lines_of_tree t) ∙ it.whole)).0
]

-- ---- the lines of entries that can be done are right

module _ (P : Network) where
  gave_out : (pool new : Pool) (worker leaf grant seen : ℕ) (piece : Piece) → piece.task.worker ≡ worker → piece.task.leaf ≡ leaf → piece.task.grant ≡ grant → PoolGives pool seen piece new → IsOutTo pool worker leaf grant
  gave_out pool new worker leaf grant seen piece w l g gives =
      let out = gives_out pool new seen piece gives in
      let named : IsLeaf pool.tree [] leaf (Out piece.task.worker piece.task.grant) piece.task.path = subst (λ x. IsLeaf pool.tree [] x (Out piece.task.worker piece.task.grant) piece.task.path) l out in
      let owned : IsLeaf pool.tree [] leaf (Out worker piece.task.grant) piece.task.path = subst (λ x. IsLeaf pool.tree [] leaf (Out x piece.task.grant) piece.task.path) w named in
      (piece.task.path, subst (λ x. IsLeaf pool.tree [] leaf (Out worker x) piece.task.path) g owned)

  freed_out : (pool new : Pool) (worker leaf grant : ℕ) → Follows P pool (Freed worker leaf grant) new → IsOutTo pool worker leaf grant
  freed_out pool new worker leaf grant step =
      let back = step.1 in
      let task = step.0 in
      let out = replaced_leaf task.leaf (Out task.worker task.grant) back.path (Leaf task.leaf Free []) pool.tree [] back.tree back.freed in
      let named : IsLeaf pool.tree [] leaf (Out task.worker task.grant) back.path = subst (λ x. IsLeaf pool.tree [] x (Out task.worker task.grant) back.path) step.3 out in
      let owned : IsLeaf pool.tree [] leaf (Out worker task.grant) back.path = subst (λ x. IsLeaf pool.tree [] leaf (Out x task.grant) back.path) step.2 named in
      (back.path, subst (λ x. IsLeaf pool.tree [] leaf (Out worker x) back.path) step.4 owned)

  its_lines : (front : List RecordLine) (pool new : Pool) (entry : Entry) (rest : List ℕ) → ComesTo P front [] pool → Follows P pool entry new → AllSpelled (lines_of_entry entry) → AllPass P front (AtEvents []) (lines_of_entry entry) rest (AtEvents [])
  its_lines front pool new (entries.Took worker want leaf grant) rest comes step spelled =
      (AtEvents [], record { spelled = spelled.0; follows = TakeFollows; right = record { pool = pool; comes = comes; such = (new, step) } }, refl)
  its_lines front pool new (Gave worker leaf grant threshold seen tree) rest comes step spelled =
      let granted : PieceKeepsGrant (text_of (lines_of_tree tree) ++ rest) grant =
      λ other stands. (let same : tree ≡ other = one_tree tree other rest stands.rest spelled.1 stands.spelled stands.text in subst (KeepsGrant grant) same (step.7, step.8)) in
      let right : GivePasses P front (text_of (lines_of_tree tree) ++ rest) worker leaf grant threshold seen =
      record { pool = pool; comes = comes; out = gave_out pool new worker leaf grant seen step.0 step.2 step.3 step.4 step.1; granted = granted; sees = (step.9, step.10) } in
      (AtEvents ([] ∷ []), record { spelled = spelled.0; follows = GiveFollows; right = right }, nodes_pass P rest (front ++ Give worker leaf grant threshold seen ∷ []) ([] ∷ []) [] (lines.lines_of_tree tree) (runs_tree [] [] tree) spelled.1)
  its_lines front pool new (Freed worker leaf grant) rest comes step spelled =
      (AtEvents [], record { spelled = spelled.0; follows = BackFollows; right = record { pool = pool; comes = comes; such = freed_out pool new worker leaf grant step } }, refl)
  its_lines front pool new CalledBack rest comes step spelled = (AtEvents [], record { spelled = spelled.0; follows = RecallFollows; right = tt }, refl)
  its_lines front pool new (Swept seen) rest comes step spelled =
      (AtEvents [], record { spelled = spelled.0; follows = SweepFollows; right = record { pool = pool; comes = comes; such = step.1 } }, refl)

-- runs and lines of entries, put together
pub entries_append : (a b : List Entry) → lines_of_entries (a ++ b) ≡ lines_of_entries a ++ lines_of_entries b
entries_append [] b = refl
entries_append (x ∷ a) b = ap (λ r. lines_of_entry x ++ r) (entries_append a b) ∙ sym (append_assoc (lines_of_entry x) (lines_of_entries a) (lines_of_entries b))

pub run_more : (P : Network) (pool between new : Pool) (a : List Entry) (entry : Entry) → Runs P pool a between → Follows P between entry new → Runs P pool (a ++ entry ∷ []) new
run_more P pool between new [] entry run step = (new, subst (λ p. Follows P p entry new) run step, refl)
run_more P pool between new (x ∷ a) entry run step = (run.0, run.1, run_more P run.0 between new a entry run.2 step)

pub comes_more : (P : Network) (front : List RecordLine) (pool new : Pool) (entry : Entry) → ComesTo P front [] pool → Follows P pool entry new → ComesTo P (front ++ lines_of_entry entry) [] new
comes_more P front pool new entry comes step =
    let one = lines_of_entry entry in
    let more = lines_of_entries comes.entries in
    let whole : ((more ++ []) ++ one) ≡ lines_of_entries (comes.entries ++ entry ∷ []) ++ [] =
    ap (λ x. x ++ one) (append-nil more) ∙ ap (λ x. more ++ x) (sym (append-nil one)) ∙ sym (entries_append comes.entries (entry ∷ [])) ∙ sym (append-nil (lines_of_entries (comes.entries ++ entry ∷ []))) in
    record {
      variables = comes.variables;
      functions = comes.functions;
      upper = comes.upper;
      budget = comes.budget;
      entries = comes.entries ++ entry ∷ [];
      lines_are = ap (λ x. x ++ one) comes.lines_are ∙ ap (λ x. Heading ∷ Says (lines.Numbers comes.variables comes.functions comes.upper) ∷ Budget comes.budget ∷ x) whole;
      run = run_more P (opening P comes.budget) pool new comes.entries entry comes.run step;
    }

pub comes_first : (P : Network) (variables functions upper budget : ℕ) → ComesTo P (Heading ∷ Says (lines.Numbers variables functions upper) ∷ Budget budget ∷ []) [] (opening P budget)
comes_first P variables functions upper budget = record { variables = variables; functions = functions; upper = upper; budget = budget; entries = []; lines_are = refl; run = refl }

pub entry_passes : EntryPasses
entry_passes P bytes more front pool new entry passed comes step spelled = (
  record {
    text = passed.text ∙ sym (text_append front (lines_of_entry entry) more);
    right = pass_append P [] AtHeading (AtEvents []) (AtEvents []) front (lines_of_entry entry) more passed.right (its_lines P front pool new entry more comes step spelled);
  },
  comes_more P front pool new entry comes step,
)

-- ---- a piece that stops before its last line

none_due : (l : Line) (ls : List Line) (m : lines.State) (paths : List (List Event)) → lines.Follows (lines.AtNodes Second []) l m → lines.Runs m ls (lines.AtNodes Second paths) → ⊥
none_due l ls m paths (lines.NodeLineFollows node) run = elim node [ ]
none_due l ls m paths lines.EndFollows run = no_more (subst (λ x. lines.Runs lines.AtOver x (lines.AtNodes Second paths)) (nothing_over ls (lines.AtNodes Second paths) run) run)

not_due : (ls : List Line) (path : List Event) (paths : List (List Event)) → lines.Runs (lines.AtNodes Second []) ls (lines.AtNodes Second (path ∷ paths)) → ⊥
not_due [] path paths run = absurd (let e = same_due run in cc)
not_due (l ∷ ls) path paths run = none_due l ls run.0 (path ∷ paths) run.1 run.2

-- the lines of a certificate's nodes behind others, as lines of a record
said_back : (ls ms : List Line) (rest : List RecordLine) → said ms ≡ said ls ++ rest → (more : List Line) × (ms ≡ ls ++ more)
said_back [] ms rest e = (ms, refl)
said_back (l ∷ ls) [] rest e = absurd cc
said_back (l ∷ ls) (m ∷ ms) rest e = let more = said_back ls ms rest (tails e) in (more.0, ap₂ (λ x xs. x ∷ xs) (same_said (heads e)) more.1)
  where
    same_said : {a b : Line} → Says a ≡ Says b → a ≡ b
    same_said e = cc

next_comes : (l : Line) (m : lines.State) (ls : List Line) (path : List Event) (paths : List (List Event)) → lines.Follows (lines.AtNodes Second (path ∷ paths)) l m → IsSpelledLine (Says l) → MayCome (AtEvents (path ∷ paths)) (Says l)
next_comes l m ls path paths (lines.NodeLineFollows {more = more} node) spelled = (spelled, AtEvents more, NodeLineFollows node)

pub no_whole_piece : NoWholePiece
no_whole_piece ls path paths more tree run spelled none stands =
    let whole = lines.lines_of_tree tree in
    let all : lines.Runs (lines.AtNodes Second ([] ∷ [])) whole (lines.AtNodes Second []) = runs_tree [] [] tree in
    elim (one_longer (said ls) (said whole) more stands.rest spelled stands.spelled stands.text) [
      | inr it ↦
          (let behind = said_back whole ls it.rest it.whole in
          let parts = run_split (lines.AtNodes Second ([] ∷ [])) (lines.AtNodes Second (path ∷ paths)) whole behind.0 (subst (λ x. lines.Runs (lines.AtNodes Second ([] ∷ [])) x (lines.AtNodes Second (path ∷ paths))) behind.1 run) in
          let due = same_end (lines.AtNodes Second ([] ∷ [])) parts.0 (lines.AtNodes Second []) whole parts.1 all in
          not_due behind.0 path paths (subst (λ x. lines.Runs x behind.0 (lines.AtNodes Second (path ∷ paths))) due parts.2))
      | inl it ↦
          (let behind = said_back ls whole it.rest it.whole in
          let parts = run_split (lines.AtNodes Second ([] ∷ [])) (lines.AtNodes Second []) ls behind.0 (subst (λ x. lines.Runs (lines.AtNodes Second ([] ∷ [])) x (lines.AtNodes Second [])) behind.1 all) in
          let due = same_end (lines.AtNodes Second ([] ∷ [])) parts.0 (lines.AtNodes Second (path ∷ paths)) ls parts.1 run in
          let rest = subst (λ x. lines.Runs x behind.0 (lines.AtNodes Second [])) due parts.2 in
          let its : said whole ≡ said ls ++ said behind.0 = ap said behind.1 ∙ said_append ls behind.0 in
          let there : more ≡ text_of (said behind.0) ++ stands.rest =
          append_cancel_left (text_of (said ls)) more (text_of (said behind.0) ++ stands.rest) (stands.text ∙ ap (λ x. text_of x ++ stands.rest) its ∙ text_append (said ls) (said behind.0) stands.rest) in
          by_rest behind.0 rest (spelled_back (said ls) (said behind.0) (subst AllSpelled its stands.spelled)) there)
    ]
  where
    by_rest : (ms : List Line) → lines.Runs (lines.AtNodes Second (path ∷ paths)) ms (lines.AtNodes Second []) → AllSpelled (said ms) → more ≡ text_of (said ms) ++ stands.rest → ⊥
    by_rest [] run spelled text = absurd (let e = same_due run in cc)
    by_rest (m ∷ ms) run spelled text = none.line (Says m) (text_of (said ms) ++ stands.rest) (next_comes m run.0 ms path paths run.1 spelled.0) (text ∙ append_assoc (bytes_of (Says m)) (text_of (said ms)) stands.rest)

abbrev head_of : Record → List RecordLine → List RecordLine
head_of r ls = Heading ∷ Says (lines.Numbers r.variables r.functions r.upper) ∷ Budget r.budget ∷ ls

module _ (P : Network) (r : Record) where
  abbrev before_of : List Entry → List RecordLine
  before_of entries = head_of r (lines_of_entries entries)

  comes_to : (entries : List Entry) (pool : Pool) → Runs P (opening P r.budget) entries pool → ComesTo P (before_of entries) [] pool
  comes_to entries pool run = record {
    variables = r.variables;
    functions = r.functions;
    upper = r.upper;
    budget = r.budget;
    entries = entries;
    lines_are = ap (head_of r) (sym (append-nil (lines_of_entries entries)));
    run = run;
  }

  entries_pass : (before entries : List Entry) (pool new : Pool) (rest : List ℕ) → Runs P (opening P r.budget) before pool → Runs P pool entries new → AllSpelled (lines_of_entries entries)
      → AllPass P (before_of before) (AtEvents []) (lines_of_entries entries) rest (AtEvents [])
  entries_pass before [] pool new rest run more spelled = refl
  entries_pass before (entry ∷ entries) pool new rest run more spelled =
      let one = lines_of_entry entry in
      let others = lines_of_entries entries in
      let here = its_lines P (before_of before) pool more.0 entry (text_of others ++ rest) (comes_to before pool run) more.1 (spelled_front one others spelled) in
      let behind = entries_pass (before ++ entry ∷ []) entries more.0 new rest (run_more P (opening P r.budget) pool more.0 before entry run more.1) more.2 (spelled_back one others spelled) in
      let front : before_of (before ++ entry ∷ []) ≡ before_of before ++ one = ap (head_of r) (entries_append before (entry ∷ []) ∙ ap (λ x. lines_of_entries before ++ x) (append-nil one)) in
      pass_append P (before_of before) (AtEvents []) (AtEvents []) (AtEvents []) one others rest here (subst (λ f. AllPass P f (AtEvents []) others rest (AtEvents [])) front behind)

  -- the best assignment and the end
  best_passes : (best : Option Solution) (front : List RecordLine) (pool : Pool) (rest : List ℕ) → ComesTo P front [] pool → pool.view.seen ≡ threshold_of P.upper best → AllSpelled (lines_of_best best) → AllPass P front (AtEvents []) (lines_of_best best) rest AtEnd
  best_passes None front pool rest comes seen spelled = (AtEnd, record { spelled = tt; follows = NoBestFollows; right = record { pool = pool; comes = comes; such = seen } }, refl)
  best_passes (Some best) front pool rest comes seen spelled =
      (AtValues, record { spelled = spelled.0; follows = BestFollows; right = record { pool = pool; comes = comes; such = seen } }, (AtEnd, record { spelled = spelled.1.0; follows = ValuesFollow; right = tt }, refl))

  pub good_passes : IsSpelled r → GoodRecord P r → AllPass P [] AtHeading (lines_of r) [] AtOver
  good_passes spelled good =
      let entries = lines_of_entries r.entries in
      let best = lines_of_best r.best in
      let end : List RecordLine = Says lines.End ∷ [] in
      let events = spelled.1.1.1 in
      let behind = spelled_back entries (best ++ end) events in
      let done : ComesToGood P (before_of r.entries ++ best) = record {
        best = r.best;
        pool = good.pool;
        comes = record { variables = r.variables; functions = r.functions; upper = r.upper; budget = r.budget; entries = r.entries; lines_are = refl; run = good.run };
        good = good.good;
      } in
      let last : AllPass P (before_of r.entries ++ best) AtEnd end [] AtOver = (AtOver, record { spelled = tt; follows = EndFollows; right = done }, refl) in
      let ended = pass_append P (before_of r.entries) (AtEvents []) AtEnd AtOver best end [] (best_passes r.best (before_of r.entries) good.pool (text_of end ++ []) (comes_to r.entries good.pool good.run) good.seen (spelled_front best end behind)) last in
      let all = pass_append P (before_of []) (AtEvents []) (AtEvents []) AtOver entries (best ++ end) [] (entries_pass [] r.entries (opening P r.budget) good.pool (text_of (best ++ end) ++ []) refl good.run (spelled_front entries (best ++ end) events)) ended in (
        AtNumbers,
        record { spelled = tt; follows = HeadingFollows; right = tt },
        (AtBudget, record { spelled = spelled.1.0; follows = NumbersFollow; right = (good.variables, good.functions, good.upper) }, (AtEvents [], record { spelled = spelled.1.1.0; follows = BudgetFollows; right = tt }, all)),
      )

pub no_fault_where_good : NoFaultWhereGood
no_fault_where_good P bytes r l kind spells good fault =
    no_fault_behind P bytes (lines_of r) l kind (record { text = spells.exact ∙ sym (append-nil (text_of (lines_of r))); right = good_passes P r spells.spelled good }) fault

-- ---- lines that are right up to the end

-- the last line is the end
record Ended (P : Network) (front ls : List RecordLine) : Type 0 where
  before : List RecordLine
  whole : ls ≡ before ++ Says lines.End ∷ []
  right : ComesToGood P (front ++ before)

ends_so : (P : Network) (front : List RecordLine) (s : State) (l : RecordLine) (more : List ℕ) (m : State) → LineFollows s l m → LinePasses P front more l → m ≡ AtOver → (l ≡ Says lines.End) × ComesToGood P front
ends_so P front s l more m EndFollows right is = (refl, right)
ends_so P front s l more m HeadingFollows right is = absurd cc
ends_so P front s l more m NumbersFollow right is = absurd cc
ends_so P front s l more m BudgetFollows right is = absurd cc
ends_so P front s l more m TakeFollows right is = absurd cc
ends_so P front s l more m GiveFollows right is = absurd cc
ends_so P front s l more m BackFollows right is = absurd cc
ends_so P front s l more m RecallFollows right is = absurd cc
ends_so P front s l more m SweepFollows right is = absurd cc
ends_so P front s l more m (NodeLineFollows node) right is = absurd cc
ends_so P front s l more m NoBestFollows right is = absurd cc
ends_so P front s l more m BestFollows right is = absurd cc
ends_so P front s l more m ValuesFollow right is = absurd cc

ended : (P : Network) (front : List RecordLine) (s : State) (l : RecordLine) (ls : List RecordLine) (rest : List ℕ) → AllPass P front s (l ∷ ls) rest AtOver → Ended P front (l ∷ ls)
ended P front s l [] rest run =
    let last = ends_so P front s l (text_of [] ++ rest) run.0 run.1.follows run.1.right run.2 in
    record { before = []; whole = ap (λ x. x ∷ []) last.0; right = subst (ComesToGood P) (sym (append-nil front)) last.1 }
ended P front s l (next ∷ ls) rest run =
    let more = ended P (front ++ l ∷ []) run.0 next ls rest run.2 in
    record { before = l ∷ more.before; whole = ap (λ x. l ∷ x) more.whole; right = subst (ComesToGood P) (append_assoc front (l ∷ []) more.before) more.right }

-- the last threshold seen is what the best assignment says
best_right : (P : Network) (front : List RecordLine) (s t : State) (best : Option Solution) (ls : List RecordLine) (rest : List ℕ) (pool : Pool) → ComesTo P front [] pool → AllPass P front s (lines_of_best best ++ ls) rest t → pool.view.seen ≡ threshold_of P.upper best
best_right P front s t None ls rest pool comes run = (let right = run.1.right in sym (come_once P front pool right.pool comes right.comes).seen ∙ right.such)
best_right P front s t (Some best) ls rest pool comes run = (let right = run.1.right in sym (come_once P front pool right.pool comes right.comes).seen ∙ right.such)

pub whole_texts : WholeTexts
whole_texts P bytes [] passed = absurd (let e : AtHeading ≡ AtOver = passed.right in cc)
whole_texts P bytes (l ∷ ls) passed =
    let end = ended P [] AtHeading l ls [] passed.right in
    let comes = end.right.comes in
    let r : Record = record { variables = comes.variables; functions = comes.functions; upper = comes.upper; budget = comes.budget; entries = comes.entries; best = end.right.best } in
    let entries = lines_of_entries comes.entries in
    let best = lines_of_best end.right.best in
    let last : List RecordLine = Says lines.End ∷ [] in
    let its : l ∷ ls ≡ lines_of r = end.whole ∙ ap (λ x. x ++ last) comes.lines_are ∙ ap (head_of r) (append_assoc entries best last) in
    let run : AllPass P [] AtHeading (lines_of r) [] AtOver = subst (λ x. AllPass P [] AtHeading x [] AtOver) its passed.right in
    let numbers = run.2.1.right in
    let parts = pass_split P [] AtHeading AtOver (head_of r entries) (best ++ last) [] run in
    let seen = best_right P (head_of r entries) parts.between AtOver end.right.best last [] end.right.pool (comes_to P r comes.entries end.right.pool comes.run) parts.second in (
      r,
      record { spelled = all_spelled P [] AtHeading AtOver (lines_of r) [] run; exact = passed.text ∙ append-nil (text_of (l ∷ ls)) ∙ ap text_of its },
      record { variables = numbers.0; functions = numbers.1; upper = numbers.2; pool = end.right.pool; run = comes.run; seen = seen; good = end.right.good },
      sym its,
    )
