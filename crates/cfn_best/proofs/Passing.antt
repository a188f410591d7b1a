-- Two ways over the lines of one text are one, as far as both go.
use Rattle.std.proofs.Common.{◌≡◌, ℕ, suc, ◌+◌, ◌<◌, ◌≤◌, inl, inr, List, [], ◌∷◌, ◌++◌, length, refl, sym, ap, ap₂, subst, ◌∙◌, arith, append_assoc}
use Rattle.std.specs.Prelude.{◌⊎◌}
use Rattle.cfn_model.specs.Network.{Network}
use Rattle.cfn_fault.specs.declared.kind.FaultKind.{FaultKind}
use Rattle.cfn_fault.specs.declared.kind.FaultKind.TheVariants as kinds
use Rattle.cfn_fault.specs.Nodes.{Item}
use Rattle.cfn_fault.proofs.CallerLemmas.{one_kind_place, place_right}
use Rattle.cfn_best.specs.declared.kind.ListFault.{ListFault}
use Rattle.cfn_best.specs.declared.kind.ListFault.TheVariants.{Certificate, Listed}
use Rattle.cfn_best.specs.Lines.{ListLine, Says, bytes_of, text_of, IsSpelledLine, Claim, threshold, State, AtHeading, AtOver, Follows, HeadingFollows, NumbersFollow, CountFollows, LowerFollows, BestFollows, ValuesFollow, RootFollows, NodeLineFollows, ListsFollows, EndFollows}
use Rattle.cfn_best.specs.Fault.{LinePasses, FailsNode, LineFails, Passes, AllPass, HasPassed, MayCome, NoneComes, Fault, ByGrammar, ByLine, LowerAbove}
use Rattle.cfn_best.specs.Laws.{FaultsAreOne}
use Rattle.cfn_best.proofs.Spelling.{same_line, some_bytes}

-- one state is due behind a line
follows_once : (P : Network) (s : State) (l : ListLine) (t u : State) → Follows P s l t → Follows P s l u → t ≡ u
follows_once P s l t u HeadingFollows HeadingFollows = refl
follows_once P s l t u NumbersFollow NumbersFollow = refl
follows_once P s l t u CountFollows CountFollows = refl
follows_once P s l t u LowerFollows LowerFollows = refl
follows_once P s l t u BestFollows BestFollows = refl
follows_once P s l t u ValuesFollow ValuesFollow = refl
follows_once P s l t u RootFollows RootFollows = refl
follows_once P s l t u NodeLineFollows NodeLineFollows = refl
follows_once P s l t u ListsFollows ListsFollows = refl
follows_once P s l t u EndFollows EndFollows = refl

-- a line that may come is not both right and wrong, and is wrong in one way
right_not_wrong : (P : Network) (s : State) (l : ListLine) (t : State) (kind : ListFault) → Follows P s l t → LinePasses P s l → LineFails P s l kind → ⊥
right_not_wrong P s l t kind HeadingFollows right wrong = wrong
right_not_wrong P s l t kind NumbersFollow right wrong = wrong.1 right
right_not_wrong P s l t kind CountFollows right wrong = wrong
right_not_wrong P s l t kind LowerFollows right wrong = wrong
right_not_wrong P s l t kind BestFollows right wrong = absurd (omega (arith, right, wrong.1))
right_not_wrong P s l t kind ValuesFollow right wrong = wrong.1 right
right_not_wrong P s l t kind RootFollows right wrong = wrong
right_not_wrong P s l t kind (NodeLineFollows {claim = claim} {history = history} {item = item}) right wrong = place_right P (threshold P claim) history item wrong.0 right wrong.2
right_not_wrong P s l t kind ListsFollows right wrong = wrong.1 right
right_not_wrong P s l t kind EndFollows right wrong = wrong

one_kind : (P : Network) (s : State) (l : ListLine) (t : State) (a b : ListFault) → Follows P s l t → LineFails P s l a → LineFails P s l b → a ≡ b
one_kind P s l t a b HeadingFollows f g = absurd f
one_kind P s l t a b NumbersFollow f g = f.0 ∙ sym g.0
one_kind P s l t a b CountFollows f g = absurd f
one_kind P s l t a b LowerFollows f g = absurd f
one_kind P s l t a b BestFollows f g = f.0 ∙ sym g.0
one_kind P s l t a b ValuesFollow f g = f.0 ∙ sym g.0
one_kind P s l t a b RootFollows f g = absurd f
one_kind P s l t a b (NodeLineFollows {claim = claim} {history = history} {item = item}) f g = f.1 ∙ ap Certificate (one_kind_place P (threshold P claim) history item f.0 g.0 f.2 g.2) ∙ sym g.1
one_kind P s l t a b ListsFollows f g = f.0 ∙ sym g.0
one_kind P s l t a b EndFollows f g = absurd f

-- one way goes on behind the other
record Ahead (P : Network) (rest : List ℕ) (n : ℕ) (s : State) (rest' : List ℕ) (m : ℕ) (t : State) : Type 0 where
  more : List ListLine
  pass : AllPass P s more t
  text : rest ≡ text_of more ++ rest'
  long : m ≡ n + length more

compare : (P : Network) (s t u : State) (ls ms : List ListLine) (rest rest' : List ℕ) → AllPass P s ls t → AllPass P s ms u → text_of ls ++ rest ≡ text_of ms ++ rest'
    → Ahead P rest (length ls) t rest' (length ms) u ⊎ Ahead P rest' (length ms) u rest (length ls) t
compare P s t u [] ms rest rest' run other e = inl (record { more = ms; pass = subst (λ x. AllPass P x ms u) run other; text = e; long = omega arith })
compare P s t u (l ∷ ls) [] rest rest' run other e = inr (record { more = l ∷ ls; pass = subst (λ x. AllPass P x (l ∷ ls) t) other run; text = sym e; long = omega arith })
compare P s t u (l ∷ ls) (m ∷ ms) rest rest' run other e =
    let same = same_line l m (text_of ls ++ rest) (text_of ms ++ rest') run.1.spelled other.1.spelled (sym (append_assoc (bytes_of l) (text_of ls) rest) ∙ e ∙ append_assoc (bytes_of m) (text_of ms) rest') in
    let follows : Follows P s m run.0 = subst (λ x. Follows P s x run.0) same.line run.1.follows in
    let states : run.0 ≡ other.0 = follows_once P s m run.0 other.0 follows other.1.follows in
    elim (compare P other.0 t u ls ms rest rest' (subst (λ x. AllPass P x ls t) states run.2) other.2 same.rest) [
      | inl it ↦ inl (record { more = it.more; pass = it.pass; text = it.text; long = omega (arith, it.long) })
      | inr it ↦ inr (record { more = it.more; pass = it.pass; text = it.text; long = omega (arith, it.long) })
    ]

meet : (P : Network) (bytes rest rest' : List ℕ) (n m : ℕ) (s t : State) → HasPassed P bytes rest n s → HasPassed P bytes rest' m t → Ahead P rest n s rest' m t ⊎ Ahead P rest' m t rest n s
meet P bytes rest rest' n m s t one two =
    elim (compare P AtHeading s t one.lines two.lines rest rest' one.right two.right (sym one.text ∙ two.text)) [
      | inl it ↦ inl (record { more = it.more; pass = it.pass; text = it.text; long = omega (arith, it.long, one.count, two.count) })
      | inr it ↦ inr (record { more = it.more; pass = it.pass; text = it.text; long = omega (arith, it.long, one.count, two.count) })
    ]

-- a place behind which no line is right
abbrev Blocked : Network → State → List ℕ → Type 0
Blocked P s rest = (l : ListLine) (t : State) (more : List ℕ) → Passes P s l t → rest ≡ bytes_of l ++ more → ⊥

record Same (rest : List ℕ) (n : ℕ) (s : State) (rest' : List ℕ) (m : ℕ) (t : State) : Type 0 where
  rest_is : rest ≡ rest'
  count : n ≡ m
  state : s ≡ t

no_further : (P : Network) (rest rest' : List ℕ) (n m : ℕ) (s t : State) → Blocked P s rest → Ahead P rest n s rest' m t → Same rest n s rest' m t
no_further P rest rest' n m s t blocked it = by_more it.more it.pass it.text it.long
  where
    by_more : (more : List ListLine) → AllPass P s more t → rest ≡ text_of more ++ rest' → m ≡ n + length more → Same rest n s rest' m t
    by_more [] pass text long = record { rest_is = text; count = omega (arith, long); state = pass }
    by_more (l ∷ more) pass text long = absurd (blocked l pass.0 (text_of more ++ rest') pass.1 (text ∙ append_assoc (bytes_of l) (text_of more) rest'))

turned : {rest rest' : List ℕ} {n m : ℕ} {s t : State} → Same rest n s rest' m t → Same rest' m t rest n s
turned it = record { rest_is = sym it.rest_is; count = sym it.count; state = sym it.state }

both_blocked : (P : Network) (bytes rest rest' : List ℕ) (n m : ℕ) (s t : State) → HasPassed P bytes rest n s → HasPassed P bytes rest' m t → Blocked P s rest → Blocked P t rest' → Same rest n s rest' m t
both_blocked P bytes rest rest' n m s t one two first second =
    elim (meet P bytes rest rest' n m s t one two) [
      | inl it ↦ no_further P rest rest' n m s t first it
      | inr it ↦ turned (no_further P rest' rest m n t s second it)
    ]

none_blocks : (P : Network) (s : State) (rest : List ℕ) → NoneComes P s rest → Blocked P s rest
none_blocks P s rest none l t more passes at = none.line l more (passes.spelled, t, passes.follows) at

line_blocks : (P : Network) (s : State) (rest more : List ℕ) (its : ListLine) (kind : ListFault) → MayCome P s its → rest ≡ bytes_of its ++ more → LineFails P s its kind → Blocked P s rest
line_blocks P s rest more its kind may is fails l t others passes at =
    let same = same_line l its others more passes.spelled may.0 (sym at ∙ is) in
    right_not_wrong P s its may.1 kind may.2 (subst (LinePasses P s) same.line passes.right) fails

over_blocks : (P : Network) (claim : Claim) (least : ℕ) (rest : List ℕ) → Blocked P (AtOver claim least) rest
over_blocks P claim least rest l t more passes at = elim (passes.follows) [ ]

-- a fault that is not that of the lower bound, with what stands before it
data IsStop (P : Network) (s : State) (rest : List ℕ) (kind : ListFault) : Type 0 where
  NoLine : NoneComes P s rest → kind ≡ Certificate kinds.Text → IsStop P s rest kind
  WrongLine : (more : List ℕ) (its : ListLine) → MayCome P s its → rest ≡ bytes_of its ++ more → LineFails P s its kind → IsStop P s rest kind

stop_blocks : (P : Network) (s : State) (rest : List ℕ) (kind : ListFault) → IsStop P s rest kind → Blocked P s rest
stop_blocks P s rest kind (NoLine none is) = none_blocks P s rest none
stop_blocks P s rest kind (WrongLine more its may at fails) = line_blocks P s rest more its kind may at fails

one_stop : (P : Network) (s : State) (rest : List ℕ) (kind other : ListFault) → IsStop P s rest kind → IsStop P s rest other → kind ≡ other
one_stop P s rest kind other (NoLine none is) (NoLine none' is') = is ∙ sym is'
one_stop P s rest kind other (NoLine none is) (WrongLine more its may at fails) = absurd (none.line its more may at)
one_stop P s rest kind other (WrongLine more its may at fails) (NoLine none is) = absurd (none.line its more may at)
one_stop P s rest kind other (WrongLine more its may at fails) (WrongLine more' its' may' at' fails') =
    let same = same_line its its' more more' may.0 may'.0 (sym at ∙ at') in
    one_kind P s its' may'.1 kind other may'.2 (subst (λ x. LineFails P s x kind) same.line fails) fails'

-- where all is right, nothing stops
never_over : (P : Network) (claim : Claim) (least : ℕ) (kind : ListFault) → IsStop P (AtOver claim least) [] kind → ⊥
never_over P claim least kind (NoLine none is) = none.over claim least refl refl
never_over P claim least kind (WrongLine more its may at fails) = some_bytes its more may.0 at

no_stop : (P : Network) (bytes rest : List ℕ) (n m : ℕ) (s : State) (claim : Claim) (least : ℕ) (kind : ListFault) → HasPassed P bytes rest n s → IsStop P s rest kind → HasPassed P bytes [] m (AtOver claim least) → ⊥
no_stop P bytes rest n m s claim least kind passed stop over =
    let same = both_blocked P bytes rest [] n m s (AtOver claim least) passed over (stop_blocks P s rest kind stop) (over_blocks P claim least []) in
    never_over P claim least kind (subst (λ x. IsStop P x [] kind) same.state (subst (λ x. IsStop P s x kind) same.rest_is stop))

-- two ways to the end end alike
pub record SameEnd (claim other : Claim) (least low : ℕ) : Type 0 where
  pub claim_is : claim ≡ other
  pub least_is : least ≡ low

pub same_end : (P : Network) (bytes : List ℕ) (n m : ℕ) (claim other : Claim) (least low : ℕ) → HasPassed P bytes [] n (AtOver claim least) → HasPassed P bytes [] m (AtOver other low) → SameEnd claim other least low
same_end P bytes n m claim other least low one two =
    let same = both_blocked P bytes [] [] n m (AtOver claim least) (AtOver other low) one two (over_blocks P claim least []) (over_blocks P other low []) in
    record { claim_is = claims same.state; least_is = bounds same.state }
  where
    claims : {a b : Claim} {x y : ℕ} → AtOver a x ≡ AtOver b y → a ≡ b
    claims e = cc

    bounds : {a b : Claim} {x y : ℕ} → AtOver a x ≡ AtOver b y → x ≡ y
    bounds e = cc

-- a fault is a stop, or that of the lower bound
stops_alike : (P : Network) (bytes rest rest' : List ℕ) (n m l l' : ℕ) (s t : State) (kind other : ListFault) → HasPassed P bytes rest n s → IsStop P s rest kind → l ≡ n + 1 → HasPassed P bytes rest' m t → IsStop P t rest' other → l' ≡ m + 1
    → (l ≡ l') × (kind ≡ other)
stops_alike P bytes rest rest' n m l l' s t kind other one stop is two halt is' =
    let same = both_blocked P bytes rest rest' n m s t one two (stop_blocks P s rest kind stop) (stop_blocks P t rest' other halt) in
    (omega (arith, is, is', same.count), one_stop P t rest' kind other (subst (λ x. IsStop P x rest' kind) same.state (subst (λ x. IsStop P s x kind) same.rest_is stop)) halt)

pub faults_are_one : FaultsAreOne
faults_are_one P bytes l m kind other (ByGrammar rest n s one none is its) (ByGrammar rest' n' s' two none' is' its') = stops_alike P bytes rest rest' n n' l m s s' kind other one (NoLine none its) is two (NoLine none' its') is'
faults_are_one P bytes l m kind other (ByGrammar rest n s one none is its) (ByLine rest' more' n' s' line' two may' at' fails' is') = stops_alike P bytes rest rest' n n' l m s s' kind other one (NoLine none its) is two (WrongLine more' line' may' at' fails') is'
faults_are_one P bytes l m kind other (ByGrammar rest n s one none is its) (LowerAbove n' claim least over above is' its') = absurd (no_stop P bytes rest n n' s claim least kind one (NoLine none its) over)
faults_are_one P bytes l m kind other (ByLine rest more n s line one may at fails is) (ByGrammar rest' n' s' two none' is' its') = stops_alike P bytes rest rest' n n' l m s s' kind other one (WrongLine more line may at fails) is two (NoLine none' its') is'
faults_are_one P bytes l m kind other (ByLine rest more n s line one may at fails is) (ByLine rest' more' n' s' line' two may' at' fails' is') = stops_alike P bytes rest rest' n n' l m s s' kind other one (WrongLine more line may at fails) is two (WrongLine more' line' may' at' fails') is'
faults_are_one P bytes l m kind other (ByLine rest more n s line one may at fails is) (LowerAbove n' claim least over above is' its') = absurd (no_stop P bytes rest n n' s claim least kind one (WrongLine more line may at fails) over)
faults_are_one P bytes l m kind other (LowerAbove n claim least over above is its) (ByGrammar rest' n' s' two none' is' its') = absurd (no_stop P bytes rest' n' n s' claim least other two (NoLine none' its') over)
faults_are_one P bytes l m kind other (LowerAbove n claim least over above is its) (ByLine rest' more' n' s' line' two may' at' fails' is') = absurd (no_stop P bytes rest' n' n s' claim least other two (WrongLine more' line' may' at' fails') over)
faults_are_one P bytes l m kind other (LowerAbove n claim least over above is its) (LowerAbove n' claim' least' over' above' is' its') = (is ∙ sym is', its ∙ sym its')

-- where all is right and the lower bound is at most what the lines show, there is no fault
pub no_fault_behind : (P : Network) (bytes : List ℕ) (m l : ℕ) (claim : Claim) (least : ℕ) (kind : ListFault) → HasPassed P bytes [] m (AtOver claim least) → claim.lower ≤ least → Fault P bytes l kind → ⊥
no_fault_behind P bytes m l claim least kind over le (ByGrammar rest n s one none is its) = no_stop P bytes rest n m s claim least kind one (NoLine none its) over
no_fault_behind P bytes m l claim least kind over le (ByLine rest more n s line one may at fails is) = no_stop P bytes rest n m s claim least kind one (WrongLine more line may at fails) over
no_fault_behind P bytes m l claim least kind over le (LowerAbove n other low also above is its) =
    let same = same_end P bytes m n claim other least low over also in
    absurd (omega (arith, above, le, ap (λ c. c.lower) same.claim_is, same.least_is))
