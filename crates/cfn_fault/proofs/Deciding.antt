-- Every text has a fault, or spells a good certificate: its lines are judged one by one.
use Rattle.std.proofs.Common.{◌≡◌, ℕ, zero, suc, ◌<◌, ◌≤◌, ◌+◌, ◌⊎◌, inl, inr, Bool, true, false, not, List, [], ◌∷◌, ◌++◌, length, refl, sym, ap, subst, ◌∙◌, arith, append_assoc, length-append}
use Rattle.std.proofs.lemmas.Bool.{cases_lt, cases_eq, cases_Bool, eqb-true, and_from, not_from_false, and_parts}
use Rattle.std.proofs.lemmas.Int.{ints}
use Rattle.std.specs.Prelude.{Option, Some, None, ℤ, pos, negsuc, ◌≤ℤ◌, ◌+ℤ◌, slice_index, IsTrue, IsFalse, ◌==◌}
use Rattle.std.specs.List.{list_all}
use Rattle.cfn_model.specs.declared.step.Step.{Step}
use Rattle.cfn_model.specs.declared.step.Step.TheVariants.{Project, Extend, Lift, CutValue, CutTuple}
use Rattle.cfn_model.specs.declared.step.Decision.{Decision}
use Rattle.cfn_model.specs.declared.step.Decision.TheVariants.{Is, Most}
use Rattle.cfn_model.specs.declared.step.Event.{Event}
use Rattle.cfn_model.specs.declared.version.Version as versions
use Rattle.cfn_model.specs.declared.version.Version.TheVariants.{First, Second}
use Rattle.cfn_model.specs.Decisions.{variable_of, value_of}
use Rattle.cfn_model.specs.Network.{Network, Fits, cost, cells, cell, arity, variable_at, dims_at}
use Rattle.cfn_model.specs.Sums.{floor, unary, residual, is_live, is_live_tuple}
use Rattle.cfn_model.specs.Steps.{IsValue, IsPlace, IsCell, InRange, Allowed}
use Rattle.cfn_model.specs.Tree.{CanClose}
use Rattle.cfn_model.specs.Certificate.{Certificate, Good}
use Rattle.cfn_model.specs.Text.{line, HasDecision, Spells}
use Rattle.cfn_fault.specs.declared.kind.FaultKind.{FaultKind}
use Rattle.cfn_fault.specs.declared.kind.FaultKind.TheVariants as kinds
use Rattle.cfn_fault.specs.Nodes.{Item, Makes, LeavesOpen, Closes, Splits, HasItem, paths_after}
use Rattle.cfn_fault.specs.Fault.{lines, line_at, refusal_of, OutOfRange, NotAllowed, FailsPlace, Fault}
use Rattle.cfn_fault.specs.Lines.{Line, Version, Numbers, Lower, NoBest, Best, Values, Root, Node, End, bytes_of, text_of, IsSpelledLine, State, AtVersion, AtNumbers, AtLower, AtBest, AtValues, AtRoot, AtNodes, AtOver, Follows, VersionFollows, NumbersFollow, LowerFollows, NoBestFollows, BestFollows, ValuesFollow, RootFollows, EndFollows}
use Rattle.cfn_fault.specs.Decoding.{words_in, line_of}
use Rattle.cfn_fault.specs.Judging.{threshold_in, NodeFails, LineFails, PassesPlace, NodePasses, LinePasses, AllPass, lower_in, bound_in}
use Rattle.cfn_fault.specs.Laws.{GoodOrFault, Fronts}
use Rattle.cfn_fault.proofs.Running.{has_node, no_node_due, node_follows, run_one_more, spelled_append}
use Rattle.cfn_fault.proofs.Decoding.{says, said_by}
use Rattle.cfn_fault.proofs.Bytes.{HasNoEnd, line_back, same_words, lines_first, lines_last, fronted}
use Rattle.cfn_fault.proofs.Beginning.{some_bytes, first_line, some_rest, none_begins, text_append}
use Rattle.cfn_fault.proofs.Judging.{none_pass_yet, one_more_passes}
use Rattle.cfn_fault.proofs.Faults.{text_faults, line_faults, whole_texts}

-- a claim or its contrary
abbrev pub Decided : Type 0 → Type 0
Decided A = A ⊎ (A → ⊥)

both : {A B : Type 0} → Decided A → Decided B → Decided (A × B)
both (inl a) (inl b) = inl (a, b)
both (inl a) (inr b) = inr (λ h. b h.1)
both (inr a) b = inr (λ h. a h.0)

three : {A B C : Type 0} → Decided A → Decided B → Decided C → Decided (A × B × C)
three (inl a) (inl b) (inl c) = inl (a, b, c)
three (inl a) (inl b) (inr c) = inr (λ h. c h.2)
three (inl a) (inr b) c = inr (λ h. b h.1)
three (inr a) b c = inr (λ h. a h.0)

either : {A B : Type 0} → Decided A → Decided B → Decided (A ⊎ B)
either (inl a) b = inl (inl a)
either (inr a) (inl b) = inl (inr b)
either (inr a) (inr b) = inr (λ h. elim h [ inl x ↦ a x | inr y ↦ b y ])

follows_if : {A B : Type 0} → Decided A → Decided B → Decided (A → B)
follows_if (inr a) b = inl (λ h. absurd (a h))
follows_if (inl a) (inl b) = inl (λ h. b)
follows_if (inl a) (inr b) = inr (λ f. b (f a))

less : (m n : ℕ) → Decided (m < n)
less m n = elim (cases_lt m n) [ inl lt ↦ inl lt | inr le ↦ inr (λ lt. absurd (omega arith)) ]

at_most : (m n : ℕ) → Decided (m ≤ n)
at_most m n = elim (cases_lt n m) [ inl lt ↦ inr (λ le. absurd (omega arith)) | inr le ↦ inl le ]

at_most_int : (m : ℕ) (z : ℤ) → Decided (pos m ≤ℤ z)
at_most_int m (pos n) = elim (cases_lt n m) [ inl lt ↦ inr (λ h. absurd (omega (arith, ints))) | inr le ↦ inl (omega (arith, ints)) ]
at_most_int m (negsuc n) = inr (λ h. absurd (omega (arith, ints)))

is_true : (b : Bool) → Decided (IsTrue b)
is_true true = inl refl
is_true false = inr (λ h. absurd (cc))

is_false : (b : Bool) → Decided (IsFalse b)
is_false false = inl refl
is_false true = inr (λ h. absurd (cc))

-- all numbers below one, some number below one, and all tuples that fit
each_below : (n : ℕ) (Q : ℕ → Type 0) → ((a : ℕ) → Decided (Q a)) → Decided ((a : ℕ) → a < n → Q a)
each_below zero Q decide = inl (λ a lt. absurd (omega arith))
each_below (suc n) Q decide = elim (each_below n Q decide) [
  | inr other ↦ inr (λ all. other (λ a lt. all a (omega arith)))
  | inl below ↦ elim (decide n) [
    | inr last ↦ inr (λ all. last (all n (omega arith)))
    | inl last ↦ inl (λ a lt. elim (cases_eq a n) [ inl same ↦ subst Q (sym same) last | inr other ↦ below a (omega arith) ])
  ]
]

one_below : (n : ℕ) (Q : ℕ → Type 0) → ((a : ℕ) → Decided (Q a)) → Decided ((a : ℕ) × (a < n) × Q a)
one_below zero Q decide = inr (λ h. absurd (omega (arith, h.1)))
one_below (suc n) Q decide = elim (decide n) [
  | inl here ↦ inl (n, omega arith, here)
  | inr last ↦ elim (one_below n Q decide) [
    | inl below ↦ inl (below.0, omega (arith, below.1), below.2)
    | inr other ↦ inr (λ h. elim (cases_eq h.0 n) [ inl same ↦ last (subst Q same h.2) | inr unequal ↦ let lt : h.0 < n = omega (arith, h.1) in other (h.0, lt, h.2) ])
  ]
]

each_tuple : (dims : List ℕ) (Q : List ℕ → Type 0) → ((tuple : List ℕ) → Decided (Q tuple)) → Decided ((tuple : List ℕ) → Fits dims tuple → Q tuple)
each_tuple [] Q decide = elim (decide []) [
  | inl here ↦ inl (all_empty here)
  | inr other ↦ inr (λ all. other (all [] tt))
]
  where
    all_empty : Q [] → (tuple : List ℕ) → Fits [] tuple → Q tuple
    all_empty here [] fits = here
    all_empty here (a ∷ tuple) fits = absurd fits
each_tuple (size ∷ dims) Q decide = elim (each_below size (λ a. (tuple : List ℕ) → Fits dims tuple → Q (a ∷ tuple)) (λ a. each_tuple dims (λ tuple. Q (a ∷ tuple)) (λ tuple. decide (a ∷ tuple)))) [
  | inl each ↦ inl (all_longer each)
  | inr other ↦ inr (λ all. other (λ a lt tuple fits. all (a ∷ tuple) (lt, fits)))
]
  where
    all_longer : ((a : ℕ) → a < size → (tuple : List ℕ) → Fits dims tuple → Q (a ∷ tuple)) → (tuple : List ℕ) → Fits (size ∷ dims) tuple → Q tuple
    all_longer each [] fits = absurd fits
    all_longer each (a ∷ tuple) fits = each a fits.0 tuple fits.1

does_fit : (sizes values : List ℕ) → Decided (Fits sizes values)
does_fit [] [] = inl tt
does_fit [] (a ∷ values) = inr (λ h. h)
does_fit (size ∷ sizes) [] = inr (λ h. h)
does_fit (size ∷ sizes) (a ∷ values) = both (less a size) (does_fit sizes values)

-- steps
is_value : (P : Network) (x a : ℕ) → Decided (IsValue P x a)
is_value P x a = elim (both (less x (length P.sizes)) (less a (slice_index P.sizes x))) [ inl h ↦ inl (record { variable = h.0; value = h.1 }) | inr other ↦ inr (λ h. other (h.variable, h.value)) ]

is_place : (P : Network) (f i a : ℕ) → Decided (IsPlace P f i a)
is_place P f i a = elim (three (less f (length P.functions)) (less i (arity P f)) (less a (slice_index (dims_at P f) i))) [
  | inl h ↦ inl (record { function = h.0; place = h.1; value = h.2 })
  | inr other ↦ inr (λ h. other (h.function, h.place, h.value))
]

is_cell : (P : Network) (f c : ℕ) → Decided (IsCell P f c)
is_cell P f c = elim (both (less f (length P.functions)) (less c (cells (dims_at P f)))) [ inl h ↦ inl (record { function = h.0; cell = h.1 }) | inr other ↦ inr (λ h. other (h.function, h.cell)) ]

in_range : (P : Network) (step : Step) → Decided (InRange P step)
in_range P (Project f i a m) = is_place P f i a
in_range P (Extend f i a m) = is_place P f i a
in_range P (Lift x m) = less x (length P.sizes)
in_range P (CutValue x a) = is_value P x a
in_range P (CutTuple f c) = is_cell P f c

allowed : (P : Network) (history : List Event) (k : ℕ) (step : Step) → Decided (Allowed P history k step)
allowed P history k (Project f i a m) =
    three (is_place P f i a) (less 0 m) (each_tuple (dims_at P f) (λ tuple. slice_index tuple i ≡ a → IsTrue (is_live_tuple P history f tuple) → pos m ≤ℤ residual P history f tuple)
    (λ tuple. follows_if (cases_eq (slice_index tuple i) a) (follows_if (is_true (is_live_tuple P history f tuple)) (at_most_int m (residual P history f tuple)))))
allowed P history k (Extend f i a m) = three (is_place P f i a) (less 0 m) (follows_if (is_true (is_live history (variable_at P f i) a)) (at_most_int m (unary P history (variable_at P f i) a)))
allowed P history k (Lift x m) =
    three (less x (length P.sizes)) (less 0 m) (each_below (slice_index P.sizes x) (λ a. IsTrue (is_live history x a) → pos m ≤ℤ unary P history x a) (λ a. follows_if (is_true (is_live history x a)) (at_most_int m (unary P history x a))))
allowed P history k (CutValue x a) = both (is_value P x a) (at_most_int k (pos (floor P history) +ℤ unary P history x a))
allowed P history k (CutTuple f c) =
    both (is_cell P f c) (each_tuple (dims_at P f) (λ tuple. cell (dims_at P f) tuple ≡ c → pos k ≤ℤ (pos (floor P history) +ℤ residual P history f tuple))
    (λ tuple. follows_if (cases_eq (cell (dims_at P f) tuple) c) (at_most_int k (pos (floor P history) +ℤ residual P history f tuple))))

can_close : (P : Network) (history : List Event) (k : ℕ) → Decided (CanClose P history k)
can_close P history k =
    either (at_most k (floor P history)) (one_below (length P.sizes) (λ x. (a : ℕ) → a < slice_index P.sizes x → IsFalse (is_live history x a)) (λ x. each_below (slice_index P.sizes x) (λ a. IsFalse (is_live history x a)) (λ a. is_false (is_live history x a))))

-- a line is right, or fails with a kind
right_place : (P : Network) (k : ℕ) (history : List Event) (item : Item) → PassesPlace P k history item ⊎ ((kind : FaultKind) × FailsPlace P k history item kind)
right_place P k history (Makes step) = elim (allowed P history k step) [
  | inl may ↦ inl may
  | inr not ↦ elim (in_range P step) [ inl within ↦ inr (refusal_of step, NotAllowed refl within not) | inr out ↦ inr (kinds.Range, OutOfRange refl out) ]
]
right_place P k history LeavesOpen = inl tt
right_place P k history Closes = elim (can_close P history k) [ inl may ↦ inl may | inr not ↦ inr (kinds.Close, (refl, not)) ]
right_place P k history (Splits d) = elim (is_value P (variable_of d) (value_of d)) [ inl is ↦ inl is | inr not ↦ inr (kinds.Range, (refl, not)) ]

right_node : (P : Network) (k : ℕ) (s : State) (item : Item) → NodePasses P k s item ⊎ ((kind : FaultKind) × NodeFails P k s item kind)
right_node P k (AtNodes version (history ∷ paths)) item = right_place P k history item
right_node P k (AtNodes version []) item = inl tt
right_node P k AtVersion item = inl tt
right_node P k (AtNumbers version) item = inl tt
right_node P k (AtLower version) item = inl tt
right_node P k (AtBest version) item = inl tt
right_node P k (AtValues version) item = inl tt
right_node P k (AtRoot version) item = inl tt
right_node P k AtOver item = inl tt

right_line : (P : Network) (front : List Line) (s : State) (l : Line) → LinePasses P front s l ⊎ ((kind : FaultKind) × LineFails P front s l kind)
right_line P front s (Version version) = inl tt
right_line P front s (Numbers n e upper) = elim (three (cases_eq n (length P.sizes)) (cases_eq e (length P.functions)) (cases_eq upper P.upper)) [ inl same ↦ inl same | inr other ↦ inr (kinds.Network, (refl, other)) ]
right_line P front s (Lower lower) = inl tt
right_line P front s NoBest = inl tt
right_line P front s (Best cost) = elim (cases_lt cost P.upper) [ inl below ↦ inl below | inr above ↦ inr (kinds.Best, (refl, above)) ]
right_line P front s (Values values) = elim (both (does_fit P.sizes values) (cases_eq (cost P values) (threshold_in front))) [ inl is ↦ inl is | inr not ↦ inr (kinds.Best, (refl, not)) ]
right_line P front s Root = inl tt
right_line P front s (Node item) = right_node P (threshold_in front) s item
right_line P front s End = inl tt

-- what may follow
Followed : State → Line → Type 0
Followed s l = ((t : State) × Follows s l t) ⊎ ((t : State) → Follows s l t → ⊥)

has_decision : (version : versions.Version) (d : Decision) → Decided (HasDecision version d)
has_decision First (Is x a) = inl tt
has_decision First (Most x v) = inr (λ h. h)
has_decision Second (Is x a) = inl tt
has_decision Second (Most x v) = inl tt

has_item : (version : versions.Version) (item : Item) → Decided (HasItem version item)
has_item version (Makes step) = inl tt
has_item version LeavesOpen = inl tt
has_item version Closes = inl tt
has_item version (Splits d) = has_decision version d

node_may_follow : (version : versions.Version) (history : List Event) (paths : List (List Event)) (item : Item) → Followed (AtNodes version (history ∷ paths)) (Node item)
unfolding Followed
node_may_follow version history paths item = elim (has_item version item) [
  | inl has ↦ inl (AtNodes version (paths_after history item ++ paths), node_follows has)
  | inr not ↦ inr (λ t follows. not (has_node follows))
]

may_follow : (s : State) (l : Line) → Followed s l
unfolding Followed
may_follow AtVersion (Version version) = inl (AtNumbers version, VersionFollows)
may_follow AtVersion _ = inr (λ t follows. elim follows [ ])
may_follow (AtNumbers version) (Numbers n e upper) = inl (AtLower version, NumbersFollow)
may_follow (AtNumbers version) _ = inr (λ t follows. elim follows [ ])
may_follow (AtLower version) (Lower lower) = inl (AtBest version, LowerFollows)
may_follow (AtLower version) _ = inr (λ t follows. elim follows [ ])
may_follow (AtBest version) NoBest = inl (AtRoot version, NoBestFollows)
may_follow (AtBest version) (Best cost) = inl (AtValues version, BestFollows)
may_follow (AtBest version) _ = inr (λ t follows. elim follows [ ])
may_follow (AtValues version) (Values values) = inl (AtRoot version, ValuesFollow)
may_follow (AtValues version) _ = inr (λ t follows. elim follows [ ])
may_follow (AtRoot version) Root = inl (AtNodes version ([] ∷ []), RootFollows)
may_follow (AtRoot version) _ = inr (λ t follows. elim follows [ ])
may_follow (AtNodes version []) End = inl (AtOver, EndFollows)
may_follow (AtNodes version []) (Node item) = inr (λ t follows. no_node_due follows)
may_follow (AtNodes version []) _ = inr (λ t follows. elim follows [ ])
may_follow (AtNodes version (history ∷ paths)) (Node item) = node_may_follow version history paths item
may_follow (AtNodes version (history ∷ paths)) _ = inr (λ t follows. elim follows [ ])
may_follow AtOver _ = inr (λ t follows. elim follows [ ])

-- the first LF of the rest
pub data Ends (rest : List ℕ) : Type 0 where
  Never : HasNoEnd rest → Ends rest
  Behind : (front others : List ℕ) → HasNoEnd front → rest ≡ front ++ 10 ∷ others → Ends rest

pub ends : (rest : List ℕ) → Ends rest
ends [] = Never refl
ends (b ∷ rest) = elim (cases_Bool (b == 10)) [
  | inl e ↦ Behind [] rest refl (ap (λ x. x ∷ rest) (eqb-true b 10 e))
  | inr e ↦ one_more e (ends rest)
]
  where
    one_more : (b == 10) ≡ false → Ends rest → Ends (b ∷ rest)
    one_more e (Never inside) = Never (and_from (not (b == 10)) (list_all (λ b. not (b == 10)) rest) (not_from_false (b == 10) e) inside)
    one_more e (Behind front others inside is) = Behind (b ∷ front) others (and_from (not (b == 10)) (list_all (λ b. not (b == 10)) front) (not_from_false (b == 10) e) inside) (ap (λ r. b ∷ r) is)

no_end_in : (front : List ℕ) → HasNoEnd (front ++ 10 ∷ []) → ⊥
no_end_in [] e = absurd cc
no_end_in (b ∷ front) e = no_end_in front (and_parts (not (b == 10)) (list_all (λ b. not (b == 10)) (front ++ 10 ∷ [])) e).1

-- the next line, or that none may come
pub record Next (rest : List ℕ) (s : State) : Type 0 where
  pub line : Line
  pub state : State
  pub others : List ℕ
  pub spelled : IsSpelledLine line
  pub follows : Follows s line state
  pub whole : rest ≡ bytes_of line ++ others
  pub less : length others < length rest

abbrev pub NoNext : List ℕ → State → Type 0
NoNext rest s = (l : Line) (t : State) → IsSpelledLine l → Follows s l t → line_at rest 0 ≡ bytes_of l → ⊥

pub never_next : (rest : List ℕ) (s : State) → HasNoEnd rest → NoNext rest s
never_next [] s inside l t spelled follows is = some_bytes l spelled (sym is)
never_next (b ∷ rest) s inside l t spelled follows is =
    let f = fronted l spelled in
    let same : b ∷ rest ≡ f.front ++ 10 ∷ [] = sym (first_line (lines (b ∷ rest)) (b ∷ rest) [] (lines_last b rest inside)) ∙ is ∙ f.bytes in
    let P : List ℕ → Type 0 = HasNoEnd in
    no_end_in f.front (subst P same inside)

-- a line of a certificate is what its words say
pub decoded : (rest front others : List ℕ) → HasNoEnd front → rest ≡ front ++ 10 ∷ others → (l : Line) → IsSpelledLine l → line_at rest 0 ≡ bytes_of l → line_of (words_in front) ≡ Some l
decoded rest front others inside is l spelled same =
    let first : line_at rest 0 ≡ front ++ 10 ∷ [] = first_line (lines rest) (front ++ 10 ∷ []) (lines others) (ap lines is ∙ lines_first front others inside) in
    ap line_of (same_words l front spelled (sym same ∙ first)) ∙ says l spelled

next_by : (rest front others : List ℕ) (s : State) → HasNoEnd front → rest ≡ front ++ 10 ∷ others → Next rest s ⊎ NoNext rest s
unfolding Followed
next_by rest front others s inside is = by_line (line_of (words_in front)) refl
  where
    one_line : {a b : Line} → Some a ≡ Some b → a ≡ b
    one_line e = cc

    by_line : (o : Option Line) → line_of (words_in front) ≡ o → Next rest s ⊎ NoNext rest s
    by_line None none = inr (λ l t spelled follows same. absurd (let both = sym none ∙ decoded rest front others inside is l spelled same in cc))
    by_line (Some m) some = elim (may_follow s m) [
      | inl follows ↦
          let of = said_by (words_in front) m some in
          let bytes : bytes_of m ≡ front ++ 10 ∷ [] = ap line (sym of.its) ∙ line_back front in
          let whole : rest ≡ bytes_of m ++ others = is ∙ sym (append_assoc front (10 ∷ []) others) ∙ ap (λ b. b ++ others) (sym bytes) in
          inl (record {
            line = m;
            state = follows.0;
            others = others;
            spelled = of.spelled;
            follows = follows.1;
            whole = whole;
            less = omega (arith, ap length is, length-append front (10 ∷ others));
          })
      | inr never ↦
          inr (λ l t spelled follows same. let Q : Line → Type 0 = λ x. Follows s x t in never t (subst Q (sym (one_line (sym some ∙ decoded rest front others inside is l spelled same))) follows))
    ]

pub next : (rest : List ℕ) (s : State) → Next rest s ⊎ NoNext rest s
next rest s = by_end (ends rest)
  where
    by_end : Ends rest → Next rest s ⊎ NoNext rest s
    by_end (Never inside) = inr (never_next rest s inside)
    by_end (Behind front others inside is) = next_by rest front others s inside is

-- the lines one by one
Judged : Network → List ℕ → Type 0
Judged P bytes = ((c : Certificate) × Spells c bytes × Good P c) ⊎ ((l : ℕ) × (kind : FaultKind) × Fault P bytes l kind)

whole_judged : (P : Network) (bytes : List ℕ) (ls : List Line) → Fronts bytes [] ls AtOver → AllPass P ls → Judged P bytes
unfolding Judged
whole_judged P bytes ls fronts all =
    let whole = whole_texts P bytes ls fronts all in
    elim (cases_lt (bound_in P ls) (lower_in ls)) [
      | inl above ↦ inr (3, kinds.Lower, whole.1.fault above)
      | inr le ↦ inl (whole.0, whole.1.spells, whole.1.good le)
    ]

pub is_over : (s : State) → Decided (s ≡ AtOver)
is_over AtVersion = inr (λ e. absurd (cc))
is_over (AtNumbers version) = inr (λ e. absurd (cc))
is_over (AtLower version) = inr (λ e. absurd (cc))
is_over (AtBest version) = inr (λ e. absurd (cc))
is_over (AtValues version) = inr (λ e. absurd (cc))
is_over (AtRoot version) = inr (λ e. absurd (cc))
is_over (AtNodes version paths) = inr (λ e. absurd (cc))
is_over AtOver = inl refl

no_text : (P : Network) (bytes rest : List ℕ) (ls : List Line) (s : State) → Fronts bytes rest ls s → AllPass P ls → NoNext rest s → (s ≡ AtOver → line_at rest 0 ≡ [] → ⊥) → Judged P bytes
unfolding Judged
no_text P bytes rest ls s fronts all none more =
    inr (length ls + 1, kinds.Text, text_faults P bytes rest ls s fronts all (none_begins bytes rest ls s fronts.run fronts.spelled fronts.text none more))

pub one_line_more : (bytes rest : List ℕ) (ls : List Line) (s : State) (next : Next rest s) → Fronts bytes rest ls s → Fronts bytes next.others (ls ++ next.line ∷ []) next.state
one_line_more bytes rest ls s next fronts = record {
  text = fronts.text ∙ ap (λ r. text_of ls ++ r) next.whole ∙ sym (append_assoc (text_of ls) (bytes_of next.line) next.others) ∙ ap (λ b. b ++ next.others) (sym (text_append ls next.line));
  run = run_one_more AtVersion s next.state ls next.line fronts.run next.follows;
  spelled = spelled_append ls (next.line ∷ []) fronts.spelled (next.spelled, tt);
}

judged_next : (P : Network) (bytes : List ℕ) (n : ℕ) (rest : List ℕ) (ls : List Line) (s : State) (it : Next rest s) → length rest < suc n → Fronts bytes rest ls s → AllPass P ls → (LinePasses P ls s it.line ⊎ ((kind : FaultKind) × LineFails P ls s it.line kind))
    → ((others : List ℕ) (more : List Line) (t : State) → length others < n → Fronts bytes others more t → AllPass P more → Judged P bytes) → Judged P bytes
unfolding Judged
judged_next P bytes n rest ls s it lt fronts all (inl passes) recur = recur it.others (ls ++ it.line ∷ []) it.state (omega (arith, it.less)) (one_line_more bytes rest ls s it fronts) (one_more_passes P ls s it.line fronts.run all passes)
judged_next P bytes n rest ls s it lt fronts all (inr fails) recur =
    inr (length ls + 1, fails.0, line_faults P bytes it.others ls s it.state it.line fails.0 fronts.run (one_line_more bytes rest ls s it fronts) all fails.1)

judged_end : (P : Network) (bytes rest : List ℕ) (ls : List Line) (s : State) → Fronts bytes rest ls s → AllPass P ls → NoNext rest s → Judged P bytes
judged_end P bytes [] ls s fronts all none = elim (is_over s) [
  | inl over ↦ let Q : State → Type 0 = Fronts bytes [] ls in whole_judged P bytes ls (subst Q over fronts) all
  | inr other ↦ no_text P bytes [] ls s fronts all none (λ over e. other over)
]
judged_end P bytes (b ∷ rest) ls s fronts all none = no_text P bytes (b ∷ rest) ls s fronts all none (λ over e. some_rest b rest e)

judged_by : (P : Network) (bytes : List ℕ) (n : ℕ) (rest : List ℕ) (ls : List Line) (s : State) → (Next rest s ⊎ NoNext rest s) → length rest < suc n → Fronts bytes rest ls s → AllPass P ls
    → ((others : List ℕ) (more : List Line) (t : State) → length others < n → Fronts bytes others more t → AllPass P more → Judged P bytes) → Judged P bytes
judged_by P bytes n rest ls s (inl it) lt fronts all recur = judged_next P bytes n rest ls s it lt fronts all (right_line P ls s it.line) recur
judged_by P bytes n rest ls s (inr none) lt fronts all recur = judged_end P bytes rest ls s fronts all none

judged : (P : Network) (bytes : List ℕ) (n : ℕ) (rest : List ℕ) (ls : List Line) (s : State) → length rest < n → Fronts bytes rest ls s → AllPass P ls → Judged P bytes
judged P bytes zero rest ls s lt fronts all = absurd (omega arith)
judged P bytes (suc n) rest ls s lt fronts all = judged_by P bytes n rest ls s (next rest s) lt fronts all (λ others more t less fronts' all'. judged P bytes n others more t less fronts' all')

pub good_or_fault : GoodOrFault
unfolding Judged
good_or_fault P bytes = judged P bytes (suc (length bytes)) bytes [] AtVersion (omega arith) (record { text = refl; run = refl; spelled = tt }) (none_pass_yet P)
