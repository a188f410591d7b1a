-- Two ways over the lines of one text are one, as far as both go.
use Rattle.std.proofs.Common.{◌≡◌, ◌≢◌, ℕ, ◌+◌, ◌<◌, ◌≤◌, inl, inr, List, [], ◌∷◌, ◌++◌, length, refl, sym, ap, subst, ◌∙◌, arith, append_assoc, append-nil}
use Rattle.std.specs.Prelude.{◌⊎◌, Option}
use Rattle.cfn_model.specs.declared.step.Event.{Event}
use Rattle.cfn_model.specs.Network.{Network}
use Rattle.cfn_model.specs.Certificate.{Solution, Good}
use Rattle.cfn_fault.specs.Nodes.{Item, NodeFollows, ItemFollows}
use Rattle.cfn_model.specs.declared.version.Version.TheVariants.{Second}
use Rattle.cfn_machine.specs.Pool.{Out, IsLeaf, Pool, tree_of}
use Rattle.cfn_record.specs.declared.kind.RecordFault.{RecordFault}
use Rattle.cfn_record.specs.declared.kind.RecordFault.TheVariants as kinds
use Rattle.cfn_record.specs.Entries.{Entry, Took, Follows, Runs, IsSame}
use Rattle.cfn_record.specs.Lines.{RecordLine, bytes_of, text_of, lines_of_best, State, AtHeading, AtEvents, AtOver, LineFollows, HeadingFollows, NumbersFollow, BudgetFollows, TakeFollows, GiveFollows, BackFollows, RecallFollows, SweepFollows, NodeLineFollows, NoBestFollows, BestFollows, ValuesFollow, EndFollows}
use Rattle.cfn_record.specs.Replaying.{opening, certificate_of}
use Rattle.cfn_record.specs.Fault.{ComesTo, PoolIs, IsOutTo, GivePasses, GiveFails, NotOut, BreaksGrant, SeenAbove, ComesToGood, ComesToBad, LinePasses, LineFails, Passes, AllPass, HasPassed, MayCome, NoneComes, Fault, ByGrammar, ByLine}
use Rattle.cfn_record.specs.Laws.{FaultsAreOne}
use Rattle.cfn_record.proofs.Following.{left_by, follows_too}
use Rattle.cfn_record.proofs.Repeating.{alike, one_end}
use Rattle.cfn_record.proofs.Spelling.{heads, tails, same_line, some_bytes}
use Rattle.cfn_record.proofs.Parting.{NoEvent, same_entries, best_no_event, same_best, told_budget}

-- ---- lines come to one pool

record SameComing (pool other : Pool) (a b : List RecordLine) : Type 0 where
  pools : IsSame pool other
  others : a ≡ b

come_same : (P : Network) (front a b : List RecordLine) (pool other : Pool) → NoEvent a → NoEvent b → ComesTo P front a pool → ComesTo P front b other → SameComing pool other a b
come_same P front a b pool other na nb one two =
    let whole = sym one.lines_are ∙ two.lines_are in
    let budget : one.budget ≡ two.budget = told_budget (heads (tails (tails whole))) in
    let both = same_entries one.entries two.entries a b na nb (tails (tails (tails whole))) in
    let run : Runs P (opening P two.budget) two.entries pool = subst (λ x. Runs P (opening P x) two.entries pool) budget (subst (λ x. Runs P (opening P one.budget) x pool) both.0 one.run) in
    record { pools = one_end P 128 128 two.budget two.entries pool other run two.run; others = both.1 }

pub come_once : (P : Network) (front : List RecordLine) (pool other : Pool) → ComesTo P front [] pool → ComesTo P front [] other → IsSame pool other
come_once P front pool other one two = (come_same P front [] [] pool other tt tt one two).pools

record SameBest (pool other : Pool) (p q : Option Solution) : Type 0 where
  pools : IsSame pool other
  best : p ≡ q

end_once : (P : Network) (front : List RecordLine) (p q : Option Solution) (pool other : Pool) → ComesTo P front (lines_of_best p) pool → ComesTo P front (lines_of_best q) other → SameBest pool other p q
end_once P front p q pool other one two =
    let none = λ (best : Option Solution). subst NoEvent (append-nil (lines_of_best best)) (best_no_event best []) in
    let same = come_same P front (lines_of_best p) (lines_of_best q) pool other (none p) (none q) one two in
    record { pools = same.pools; best = (same_best p q [] [] (append-nil (lines_of_best p) ∙ same.others ∙ sym (append-nil (lines_of_best q)))).0 }

-- ---- one state is due behind a line

same_paths_after : {paths : List (List Event)} {item : Item} {more others : List (List Event)} → NodeFollows Second paths item more → NodeFollows Second paths item others → more ≡ others
same_paths_after (ItemFollows has) (ItemFollows also) = refl

pub follows_state : (s : State) (l : RecordLine) (t u : State) → LineFollows s l t → LineFollows s l u → t ≡ u
follows_state s l t u HeadingFollows HeadingFollows = refl
follows_state s l t u NumbersFollow NumbersFollow = refl
follows_state s l t u BudgetFollows BudgetFollows = refl
follows_state s l t u TakeFollows TakeFollows = refl
follows_state s l t u GiveFollows GiveFollows = refl
follows_state s l t u BackFollows BackFollows = refl
follows_state s l t u RecallFollows RecallFollows = refl
follows_state s l t u SweepFollows SweepFollows = refl
follows_state s l t u (NodeLineFollows first) (NodeLineFollows second) = ap AtEvents (same_paths_after first second)
follows_state s l t u NoBestFollows NoBestFollows = refl
follows_state s l t u BestFollows BestFollows = refl
follows_state s l t u ValuesFollow ValuesFollow = refl
follows_state s l t u EndFollows EndFollows = refl

-- ---- a line that may come is not both right and wrong, and is wrong in one way

not_both : (P : Network) (front : List RecordLine) (Q R : Pool → Type 0) → ((pool other : Pool) → IsSame pool other → Q pool → R other → ⊥) → PoolIs P front Q → PoolIs P front R → ⊥
not_both P front Q R never one two = never one.pool two.pool (come_once P front one.pool two.pool one.comes two.comes) one.such two.such

take_not_both : (P : Network) (entry : Entry) (pool other : Pool) → IsSame pool other → ((new : Pool) × Follows P pool entry new) → ((new : Pool) → Follows P other entry new → ⊥) → ⊥
take_not_both P entry pool other same can never = never (left_by entry can.0 other) (follows_too P pool can.0 other entry can.1 (alike pool other same))

out_too : (pool other : Pool) (worker leaf grant : ℕ) → IsSame pool other → IsOutTo pool worker leaf grant → IsOutTo other worker leaf grant
out_too pool other worker leaf grant same out = (out.0, subst (λ t. IsLeaf t [] leaf (Out worker grant) out.0) (sym same.tree) out.1)

give_not_both : (P : Network) (front : List RecordLine) (more : List ℕ) (worker leaf grant threshold seen : ℕ) (kind : RecordFault) → GivePasses P front more worker leaf grant threshold seen → GiveFails P front more worker leaf grant threshold seen kind → ⊥
give_not_both P front more worker leaf grant threshold seen kind right (NotOut pool comes is never) = never (out_too right.pool pool worker leaf grant (come_once P front right.pool pool right.comes comes) right.out)
give_not_both P front more worker leaf grant threshold seen kind right (BreaksGrant pool comes is tree stands other) = other (right.granted tree stands)
give_not_both P front more worker leaf grant threshold seen kind right (SeenAbove pool comes is out granted above) =
    let same = come_once P front right.pool pool right.comes comes in
    above (right.sees.0, (let e = same.seen in let low = right.sees.1 in omega (arith, e, low)))

seen_not_both : (k : ℕ) (pool other : Pool) → IsSame pool other → pool.view.seen ≡ k → other.view.seen ≢ k → ⊥
seen_not_both k pool other same is unlike = unlike (same.seen ∙ is)

low_not_above : (k : ℕ) (pool other : Pool) → IsSame pool other → k ≤ pool.view.seen → other.view.seen < k → ⊥
low_not_above k pool other same low above = (let e = same.seen in omega (arith, e, low, above))

good_not_bad : (P : Network) (front : List RecordLine) → ComesToGood P front → ComesToBad P front → ⊥
good_not_bad P front one two =
    let same = end_once P front one.best two.best one.pool two.pool one.comes two.comes in
    two.bad (subst (λ b. Good P (certificate_of P b (tree_of two.pool.tree))) same.best (subst (λ t. Good P (certificate_of P one.best (tree_of t))) (sym same.pools.tree) one.good))

pub right_not_wrong : (P : Network) (front : List RecordLine) (s : State) (l : RecordLine) (t : State) (more : List ℕ) (kind : RecordFault) → LineFollows s l t → LinePasses P front more l → LineFails P front more l kind → ⊥
right_not_wrong P front s l t more kind HeadingFollows right wrong = wrong
right_not_wrong P front s l t more kind NumbersFollow right wrong = wrong.1 right
right_not_wrong P front s l t more kind BudgetFollows right wrong = wrong
right_not_wrong P front s l t more kind (TakeFollows {worker = w} {want = n} {leaf = f} {grant = g}) right wrong = not_both P front _ _ (take_not_both P (Took w n f g)) right wrong.1
right_not_wrong P front s l t more kind (GiveFollows {worker = w} {leaf = f} {grant = g} {threshold = k} {seen = c}) right wrong = give_not_both P front more w f g k c kind right wrong
right_not_wrong P front s l t more kind (BackFollows {worker = w} {leaf = f} {grant = g}) right wrong = not_both P front _ _ (λ pool other same out never. never (out_too pool other w f g same out)) right wrong.1
right_not_wrong P front s l t more kind RecallFollows right wrong = wrong
right_not_wrong P front s l t more kind (SweepFollows {seen = c}) right wrong = not_both P front _ _ (low_not_above c) right wrong.1
right_not_wrong P front s l t more kind (NodeLineFollows node) right wrong = wrong
right_not_wrong P front s l t more kind NoBestFollows right wrong = not_both P front _ _ (seen_not_both P.upper) right wrong.1
right_not_wrong P front s l t more kind (BestFollows {cost = c}) right wrong = not_both P front _ _ (seen_not_both c) right wrong.1
right_not_wrong P front s l t more kind ValuesFollow right wrong = wrong
right_not_wrong P front s l t more kind EndFollows right wrong = good_not_bad P front right wrong.1

give_one_kind : (P : Network) (front : List RecordLine) (more : List ℕ) (worker leaf grant threshold seen : ℕ) (a b : RecordFault) → GiveFails P front more worker leaf grant threshold seen a → GiveFails P front more worker leaf grant threshold seen b → a ≡ b
give_one_kind P front more worker leaf grant threshold seen a b (NotOut pool comes is never) (NotOut pool' comes' is' never') = is ∙ sym is'
give_one_kind P front more worker leaf grant threshold seen a b (NotOut pool comes is never) (BreaksGrant pool' comes' is' tree stands other) = is ∙ sym is'
give_one_kind P front more worker leaf grant threshold seen a b (NotOut pool comes is never) (SeenAbove pool' comes' is' out granted above) =
    absurd (never (out_too pool' pool worker leaf grant (come_once P front pool' pool comes' comes) out))
give_one_kind P front more worker leaf grant threshold seen a b (BreaksGrant pool comes is tree stands other) (NotOut pool' comes' is' never) = is ∙ sym is'
give_one_kind P front more worker leaf grant threshold seen a b (BreaksGrant pool comes is tree stands other) (BreaksGrant pool' comes' is' tree' stands' other') = is ∙ sym is'
give_one_kind P front more worker leaf grant threshold seen a b (BreaksGrant pool comes is tree stands other) (SeenAbove pool' comes' is' out granted above) = absurd (other (granted tree stands))
give_one_kind P front more worker leaf grant threshold seen a b (SeenAbove pool comes is out granted above) (NotOut pool' comes' is' never) =
    absurd (never (out_too pool pool' worker leaf grant (come_once P front pool pool' comes comes') out))
give_one_kind P front more worker leaf grant threshold seen a b (SeenAbove pool comes is out granted above) (BreaksGrant pool' comes' is' tree stands other) = absurd (other (granted tree stands))
give_one_kind P front more worker leaf grant threshold seen a b (SeenAbove pool comes is out granted above) (SeenAbove pool' comes' is' out' granted' above') = is ∙ sym is'

one_kind : (P : Network) (front : List RecordLine) (s : State) (l : RecordLine) (t : State) (more : List ℕ) (a b : RecordFault) → LineFollows s l t → LineFails P front more l a → LineFails P front more l b → a ≡ b
one_kind P front s l t more a b HeadingFollows f g = absurd f
one_kind P front s l t more a b NumbersFollow f g = f.0 ∙ sym g.0
one_kind P front s l t more a b BudgetFollows f g = absurd f
one_kind P front s l t more a b TakeFollows f g = f.0 ∙ sym g.0
one_kind P front s l t more a b (GiveFollows {worker = w} {leaf = n} {grant = m} {threshold = k} {seen = c}) f g = give_one_kind P front more w n m k c a b f g
one_kind P front s l t more a b BackFollows f g = f.0 ∙ sym g.0
one_kind P front s l t more a b RecallFollows f g = absurd f
one_kind P front s l t more a b SweepFollows f g = f.0 ∙ sym g.0
one_kind P front s l t more a b (NodeLineFollows node) f g = absurd f
one_kind P front s l t more a b NoBestFollows f g = f.0 ∙ sym g.0
one_kind P front s l t more a b BestFollows f g = f.0 ∙ sym g.0
one_kind P front s l t more a b ValuesFollow f g = absurd f
one_kind P front s l t more a b EndFollows f g = f.0 ∙ sym g.0

-- ---- one way goes on behind the other

record Ahead (P : Network) (front : List RecordLine) (rest : List ℕ) (s : State) (front' : List RecordLine) (rest' : List ℕ) (t : State) : Type 0 where
  more : List RecordLine
  pass : AllPass P front s more rest' t
  text : rest ≡ text_of more ++ rest'
  whole : front' ≡ front ++ more

compare : (P : Network) (front : List RecordLine) (s t u : State) (ls ms : List RecordLine) (rest rest' : List ℕ) → AllPass P front s ls rest t → AllPass P front s ms rest' u → text_of ls ++ rest ≡ text_of ms ++ rest'
    → Ahead P (front ++ ls) rest t (front ++ ms) rest' u ⊎ Ahead P (front ++ ms) rest' u (front ++ ls) rest t
compare P front s t u [] ms rest rest' run other e =
    let here : front ++ [] ≡ front = append-nil front in
    inl (record { more = ms; pass = subst (λ f. AllPass P f t ms rest' u) (sym here) (subst (λ x. AllPass P front x ms rest' u) run other); text = e; whole = ap (λ f. f ++ ms) (sym here) })
compare P front s t u (l ∷ ls) [] rest rest' run other e =
    let here : front ++ [] ≡ front = append-nil front in
    inr (record { more = l ∷ ls; pass = subst (λ f. AllPass P f u (l ∷ ls) rest t) (sym here) (subst (λ x. AllPass P front x (l ∷ ls) rest t) other run); text = sym e; whole = ap (λ f. f ++ l ∷ ls) (sym here) })
compare P front s t u (l ∷ ls) (m ∷ ms) rest rest' run other e =
    let same = same_line l m (text_of ls ++ rest) (text_of ms ++ rest') run.1.spelled other.1.spelled (sym (append_assoc (bytes_of l) (text_of ls) rest) ∙ e ∙ append_assoc (bytes_of m) (text_of ms) rest') in
    let follows : LineFollows s m run.0 = subst (λ x. LineFollows s x run.0) same.line run.1.follows in
    let states : run.0 ≡ other.0 = follows_state s m run.0 other.0 follows other.1.follows in
    let mine : AllPass P (front ++ m ∷ []) other.0 ls rest t = subst (λ x. AllPass P (front ++ x ∷ []) other.0 ls rest t) same.line (subst (λ x. AllPass P (front ++ l ∷ []) x ls rest t) states run.2) in
    let one : (front ++ m ∷ []) ++ ls ≡ front ++ l ∷ ls = append_assoc front (m ∷ []) ls ∙ ap (λ x. front ++ x ∷ ls) (sym same.line) in
    let two : (front ++ m ∷ []) ++ ms ≡ front ++ m ∷ ms = append_assoc front (m ∷ []) ms in
    elim (compare P (front ++ m ∷ []) other.0 t u ls ms rest rest' mine other.2 same.rest) [
      | inl it ↦ inl (subst (λ f. Ahead P f rest t (front ++ m ∷ ms) rest' u) one (subst (λ f. Ahead P ((front ++ m ∷ []) ++ ls) rest t f rest' u) two it))
      | inr it ↦ inr (subst (λ f. Ahead P (front ++ m ∷ ms) rest' u f rest t) one (subst (λ f. Ahead P f rest' u ((front ++ m ∷ []) ++ ls) rest t) two it))
    ]

meet : (P : Network) (bytes rest rest' : List ℕ) (front front' : List RecordLine) (s t : State) → HasPassed P bytes rest front s → HasPassed P bytes rest' front' t → Ahead P front rest s front' rest' t ⊎ Ahead P front' rest' t front rest s
meet P bytes rest rest' front front' s t one two = compare P [] AtHeading s t front front' rest rest' one.right two.right (sym one.text ∙ two.text)

-- a place behind which no line is right
abbrev Blocked : Network → List RecordLine → State → List ℕ → Type 0
Blocked P front s rest = (l : RecordLine) (t : State) (more : List ℕ) → Passes P front s l more t → rest ≡ bytes_of l ++ more → ⊥

record Same (rest : List ℕ) (front : List RecordLine) (s : State) (rest' : List ℕ) (front' : List RecordLine) (t : State) : Type 0 where
  rest_is : rest ≡ rest'
  lines_are : front ≡ front'
  state : s ≡ t

no_further : (P : Network) (rest rest' : List ℕ) (front front' : List RecordLine) (s t : State) → Blocked P front s rest → Ahead P front rest s front' rest' t → Same rest front s rest' front' t
no_further P rest rest' front front' s t blocked it = by_more it.more it.pass it.text it.whole
  where
    by_more : (more : List RecordLine) → AllPass P front s more rest' t → rest ≡ text_of more ++ rest' → front' ≡ front ++ more → Same rest front s rest' front' t
    by_more [] pass text whole = record { rest_is = text; lines_are = sym (whole ∙ append-nil front); state = pass }
    by_more (l ∷ more) pass text whole = absurd (blocked l pass.0 (text_of more ++ rest') pass.1 (text ∙ append_assoc (bytes_of l) (text_of more) rest'))

turn : {rest rest' : List ℕ} {front front' : List RecordLine} {s t : State} → Same rest front s rest' front' t → Same rest' front' t rest front s
turn it = record { rest_is = sym it.rest_is; lines_are = sym it.lines_are; state = sym it.state }

both_blocked : (P : Network) (bytes rest rest' : List ℕ) (front front' : List RecordLine) (s t : State) → HasPassed P bytes rest front s → HasPassed P bytes rest' front' t → Blocked P front s rest → Blocked P front' t rest' → Same rest front s rest' front' t
both_blocked P bytes rest rest' front front' s t one two first second =
    elim (meet P bytes rest rest' front front' s t one two) [
      | inl it ↦ no_further P rest rest' front front' s t first it
      | inr it ↦ turn (no_further P rest' rest front' front t s second it)
    ]

-- ---- what stands in the way is one thing

data IsStop (P : Network) (front : List RecordLine) (s : State) (rest : List ℕ) (kind : RecordFault) : Type 0 where
  NoLine : NoneComes s rest → kind ≡ kinds.Text → IsStop P front s rest kind
  WrongLine : (more : List ℕ) (its : RecordLine) → MayCome s its → rest ≡ bytes_of its ++ more → LineFails P front more its kind → IsStop P front s rest kind

stop_blocks : (P : Network) (front : List RecordLine) (s : State) (rest : List ℕ) (kind : RecordFault) → IsStop P front s rest kind → Blocked P front s rest
stop_blocks P front s rest kind (NoLine none is) l t more passes at = none.line l more (passes.spelled, t, passes.follows) at
stop_blocks P front s rest kind (WrongLine more its may is fails) l t others passes at =
    let same = same_line l its others more passes.spelled may.0 (sym at ∙ is) in
    let right : LinePasses P front more its = subst (λ x. LinePasses P front more x) same.line (subst (λ x. LinePasses P front x l) same.rest passes.right) in
    right_not_wrong P front s its may.1 more kind may.2 right fails

over_blocks : (P : Network) (front : List RecordLine) (rest : List ℕ) → Blocked P front AtOver rest
over_blocks P front rest l t more passes at = elim (passes.follows) [ ]

one_stop : (P : Network) (front : List RecordLine) (s : State) (rest : List ℕ) (kind other : RecordFault) → IsStop P front s rest kind → IsStop P front s rest other → kind ≡ other
one_stop P front s rest kind other (NoLine none is) (NoLine none' is') = is ∙ sym is'
one_stop P front s rest kind other (NoLine none is) (WrongLine more its may at fails) = absurd (none.line its more may at)
one_stop P front s rest kind other (WrongLine more its may at fails) (NoLine none is) = absurd (none.line its more may at)
one_stop P front s rest kind other (WrongLine more its may at fails) (WrongLine more' its' may' at' fails') =
    let same = same_line its its' more more' may.0 may'.0 (sym at ∙ at') in
    one_kind P front s its' may'.1 more' kind other may'.2 (subst (λ x. LineFails P front more' x kind) same.line (subst (λ x. LineFails P front x its kind) same.rest fails)) fails'

-- a fault is a stop behind lines that are right
record Stopped (P : Network) (bytes : List ℕ) (l : ℕ) (kind : RecordFault) : Type 0 where
  rest : List ℕ
  front : List RecordLine
  state : State
  passed : HasPassed P bytes rest front state
  stop : IsStop P front state rest kind
  line : l ≡ length front + 1

stopped : (P : Network) (bytes : List ℕ) (l : ℕ) (kind : RecordFault) → Fault P bytes l kind → Stopped P bytes l kind
stopped P bytes l kind (ByGrammar rest front s passed none line is) = record { rest = rest; front = front; state = s; passed = passed; stop = NoLine none is; line = line }
stopped P bytes l kind (ByLine rest more front s its passed may at fails line) = record { rest = rest; front = front; state = s; passed = passed; stop = WrongLine more its may at fails; line = line }

pub faults_are_one : FaultsAreOne
faults_are_one P bytes l m kind other one two =
    let a = stopped P bytes l kind one in
    let b = stopped P bytes m other two in
    let same = both_blocked P bytes a.rest b.rest a.front b.front a.state b.state a.passed b.passed (stop_blocks P a.front a.state a.rest kind a.stop) (stop_blocks P b.front b.state b.rest other b.stop) in
    let here = subst (λ x. IsStop P b.front b.state x kind) same.rest_is (subst (λ x. IsStop P b.front x a.rest kind) same.state (subst (λ x. IsStop P x a.state a.rest kind) same.lines_are a.stop)) in
    (a.line ∙ ap (λ x. length x + 1) same.lines_are ∙ sym b.line, one_stop P b.front b.state b.rest kind other here b.stop)

-- where all is right, nothing stops
never_over : (P : Network) (front : List RecordLine) (kind : RecordFault) → IsStop P front AtOver [] kind → ⊥
never_over P front kind (NoLine none is) = none.over refl refl
never_over P front kind (WrongLine more its may at fails) = some_bytes its more may.0 at

pub no_fault_behind : (P : Network) (bytes : List ℕ) (front : List RecordLine) (l : ℕ) (kind : RecordFault) → HasPassed P bytes [] front AtOver → Fault P bytes l kind → ⊥
no_fault_behind P bytes front l kind over fault =
    let a = stopped P bytes l kind fault in
    let same = both_blocked P bytes a.rest [] a.front front a.state AtOver a.passed over (stop_blocks P a.front a.state a.rest kind a.stop) (over_blocks P front []) in
    never_over P front kind (subst (λ x. IsStop P front AtOver x kind) same.rest_is (subst (λ x. IsStop P front x a.rest kind) same.state (subst (λ x. IsStop P x a.state a.rest kind) same.lines_are a.stop)))
