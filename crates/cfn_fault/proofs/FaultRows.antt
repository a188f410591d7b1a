-- Small texts whose faults are known, line by line.
use Rattle.std.proofs.Common.{◌≡◌, ℕ, ◌<◌, ◌≤◌, ◌+◌, zero, suc, inl, inr, List, [], ◌∷◌, ◌++◌, length, true, false, refl, sym, subst, ◌∙◌, arith, lit<, lit≤}
use Rattle.std.specs.Fmt.{digits}
use Rattle.std.specs.Prelude.{codes, map, Some, None, slice_index, IsFalse}
use Rattle.std.specs.List.{AllByRecursion}
use Rattle.cfn_model.specs.declared.step.Step.TheVariants.{Project, Extend, Lift, CutValue, CutTuple}
use Rattle.cfn_model.specs.declared.step.Decision.TheVariants.{Is, Most}
use Rattle.cfn_model.specs.declared.step.Event.TheVariants.{Did, Took, Refused}
use Rattle.cfn_model.specs.declared.version.Version as versions
use Rattle.cfn_model.specs.declared.version.Version.TheVariants.{First, Second}
use Rattle.cfn_model.specs.Network.{Network}
use Rattle.cfn_model.specs.Sums.{is_live}
use Rattle.cfn_model.specs.Steps.{CanProject, CanLift}
use Rattle.cfn_model.specs.Tree.{CanClose}
use Rattle.cfn_model.specs.Text.{IsSpelled, spelling}
use Rattle.cfn_model.proofs.CallerLemmas.{at_most, tiny, tri, first_side, second_side, second_side_is_open, first_runs, tri_certificate, tri_is_good}
use Rattle.cfn_fault.specs.declared.kind.FaultKind.{FaultKind}
use Rattle.cfn_fault.specs.declared.kind.FaultKind.TheVariants as kinds
use Rattle.cfn_fault.specs.Nodes.{Item, HasItem, Makes, Closes, Splits}
use Rattle.cfn_fault.specs.Fault.{line_at, FailsPlace, OutOfRange, NotAllowed, TextFault, Fault}
use Rattle.cfn_fault.specs.Lines.{Line, Version, Numbers, Lower, Best, Values, Root, Node, End, text_of, IsSpelledLine, State, AtVersion, AtNumbers, AtBest, AtValues, AtNodes, AtOver, Follows, VersionFollows, NumbersFollow, LowerFollows, BestFollows, ValuesFollow, RootFollows, EndFollows, Runs}
use Rattle.cfn_fault.specs.Judging.{AllPass, LinePasses, LineFails}
use Rattle.cfn_fault.proofs.Running.{has_node, node_follows, run_one_more, spelled_append}
use Rattle.cfn_fault.proofs.Beginning.{none_begins, text_fails}
use Rattle.cfn_fault.proofs.Judging.{none_pass_yet}
use Rattle.cfn_fault.proofs.Faults.{one_more, text_faults, line_faults, whole_texts, no_fault_where_good}
use Rattle.cfn_fault.proofs.Deciding.{NoNext, never_next, decoded}
use Rattle.cfn_fault.proofs.Bytes.{HasNoEnd}
use Rattle.cfn_fault.specs.Decoding.{words_in, numeral, number_from, amount_from, numbers_in, numbers_line, lower_line, best_line, version_of, version_line, project_line, extend_line, lift_line, value_line, tuple_line, split_line, part_line, node_line, item_line, line_by, line_of}

-- lines that are read and right so far, and what is due behind them
record SoFar (P : Network) (ls : List Line) (s : State) : Type 0 where
  run : Runs AtVersion ls s
  spelled : AllByRecursion IsSpelledLine ls
  pass : AllPass P ls

start : (P : Network) → SoFar P [] AtVersion
start P = record { run = refl; spelled = tt; pass = none_pass_yet P }

then : {P : Network} {ls : List Line} {s t : State} → SoFar P ls s → (l : Line) → Follows s l t → IsSpelledLine l → LinePasses P ls s l → SoFar P (ls ++ l ∷ []) t
then {P} {ls} {s} {t} far l follows spelled passes = record {
  run = run_one_more AtVersion s t ls l far.run follows;
  spelled = spelled_append ls (l ∷ []) far.spelled (spelled, tt);
  pass = one_more P ls s l far.run far.pass passes;
}

-- the next line is the fault, by what it says
fails_next : {P : Network} {ls : List Line} {s t : State} → SoFar P ls s → (l : Line) → Follows s l t → IsSpelledLine l → (kind : FaultKind) → LineFails P ls s l kind
    → (bytes rest : List ℕ) → bytes ≡ text_of (ls ++ l ∷ []) ++ rest → Fault P bytes (length ls + 1) kind
fails_next {P} {ls} {s} {t} far l follows spelled kind fails bytes rest is =
    line_faults P bytes rest ls s t l kind far.run (record { text = is; run = run_one_more AtVersion s t ls l far.run follows; spelled = spelled_append ls (l ∷ []) far.spelled (spelled, tt) }) far.pass fails

-- the text fails behind these lines, as no line that may follow comes next
stops_here : {P : Network} {ls : List Line} {s : State} → SoFar P ls s → (bytes rest : List ℕ) → bytes ≡ text_of ls ++ rest → NoNext rest s → (s ≡ AtOver → line_at rest 0 ≡ [] → ⊥) → TextFault bytes (length ls + 1)
stops_here {P} {ls} {s} far bytes rest is none more = text_fails bytes rest ls s far.run far.spelled is (none_begins bytes rest ls s far.run far.spelled is none more)

-- and so its fault is the text's
text_stops_here : {P : Network} {ls : List Line} {s : State} → SoFar P ls s → (bytes rest : List ℕ) → bytes ≡ text_of ls ++ rest → NoNext rest s → (s ≡ AtOver → line_at rest 0 ≡ [] → ⊥) → Fault P bytes (length ls + 1) kinds.Text
text_stops_here {P} {ls} {s} far bytes rest is none more =
    text_faults P bytes rest ls s (record { text = is; run = far.run; spelled = far.spelled }) far.pass (none_begins bytes rest ls s far.run far.spelled is none more)

-- the lines of a certificate of tiny up to its tree
abbrev head : versions.Version → List Line
head version = Version version ∷ Numbers 1 1 10 ∷ Lower 1 ∷ Best 1 ∷ Values (1 ∷ []) ∷ Root ∷ []

version_read : (P : Network) (version : versions.Version) → SoFar P (Version version ∷ []) (AtNumbers version)
version_read P version = then (start P) (Version version) VersionFollows tt tt

lower_read : (version : versions.Version) → SoFar tiny (Version version ∷ Numbers 1 1 10 ∷ Lower 1 ∷ []) (AtBest version)
lower_read version = then (then (version_read tiny version) (Numbers 1 1 10) NumbersFollow (lit≤ tt, lit≤ tt, lit≤ tt) (refl, refl, refl)) (Lower 1) LowerFollows (lit≤ tt) tt

best_read : (version : versions.Version) → SoFar tiny (Version version ∷ Numbers 1 1 10 ∷ Lower 1 ∷ Best 1 ∷ []) (AtValues version)
best_read version = then (lower_read version) (Best 1) BestFollows (lit≤ tt) (lit< tt)

head_read : (version : versions.Version) → SoFar tiny (head version) (AtNodes version ([] ∷ []))
head_read version = then (then (best_read version) (Values (1 ∷ [])) ValuesFollow (lit< tt, (lit≤ tt, tt)) ((lit< tt, tt), refl)) Root RootFollows tt tt

-- a best that is not below the upper bound, and values of another cost or out of range
pub best_of_10 : Fault tiny (codes "wcspcert 1\nnetwork 1 1 10\nlower 1\nbest 10\nvalues 1\n") 4 kinds.Best
unfolding digits
best_of_10 = fails_next (lower_read First) (Best 10) BestFollows (lit≤ tt) kinds.Best (refl, lit≤ tt) (codes "wcspcert 1\nnetwork 1 1 10\nlower 1\nbest 10\nvalues 1\n") (codes "values 1\n") refl

pub values_of_other_cost : Fault tiny (codes "wcspcert 1\nnetwork 1 1 10\nlower 1\nbest 1\nvalues 0\ntree\n") 5 kinds.Best
unfolding digits
values_of_other_cost =
    fails_next (best_read First) (Values (0 ∷ [])) ValuesFollow (lit< tt, (lit≤ tt, tt)) kinds.Best (refl, λ is. let h : 3 ≡ 1 = is.1 in absurd (omega arith))
    (codes "wcspcert 1\nnetwork 1 1 10\nlower 1\nbest 1\nvalues 0\ntree\n") (codes "tree\n") refl

pub two_values : Fault tiny (codes "wcspcert 1\nnetwork 1 1 10\nlower 1\nbest 1\nvalues 1 0\ntree\n") 5 kinds.Best
unfolding digits
two_values =
    fails_next (best_read First) (Values (1 ∷ 0 ∷ [])) ValuesFollow (lit< tt, (lit≤ tt, (lit≤ tt, tt))) kinds.Best (refl, λ is. is.0.1)
    (codes "wcspcert 1\nnetwork 1 1 10\nlower 1\nbest 1\nvalues 1 0\ntree\n") (codes "tree\n") refl

-- the first line of the tree
first_node : (version : versions.Version) (item : Item) (kind : FaultKind) (bytes rest : List ℕ) → HasItem version item → IsSpelledLine (Node item) → bytes ≡ text_of (head version ++ Node item ∷ []) ++ rest → FailsPlace tiny 1 [] item kind → Fault tiny bytes 7 kind
first_node version item kind bytes rest has spelled is fails = fails_next (head_read version) (Node item) (node_follows has) spelled kind fails bytes rest is

abbrev text_with : List ℕ → List ℕ
text_with bytes = codes "wcspcert 1\nnetwork 1 1 10\nlower 1\nbest 1\nvalues 1\ntree\n" ++ bytes

pub project_of_4 : Fault tiny (text_with (codes "p 0 0 0 4\nclosed\n")) 7 kinds.Project
unfolding digits
project_of_4 =
    first_node First (Makes (Project 0 0 0 4)) kinds.Project (text_with (codes "p 0 0 0 4\nclosed\n")) (codes "closed\n") tt (lit≤ tt, lit≤ tt, lit≤ tt, lit< tt, lit≤ tt) refl
    (NotAllowed refl (record { function = lit< tt; place = lit< tt; value = lit< tt }) (λ allowed. (allowed.2 (0 ∷ []) (lit< tt, tt) refl refl).le))

pub extend_of_1 : Fault tiny (text_with (codes "e 0 0 1 1\nclosed\n")) 7 kinds.Extend
unfolding digits
extend_of_1 =
    first_node First (Makes (Extend 0 0 1 1)) kinds.Extend (text_with (codes "e 0 0 1 1\nclosed\n")) (codes "closed\n") tt (lit≤ tt, lit≤ tt, lit≤ tt, lit< tt, lit≤ tt) refl
    (NotAllowed refl (record { function = lit< tt; place = lit< tt; value = lit< tt }) (λ allowed. (allowed.2 refl).le))

pub cut_of_tuple_1 : Fault tiny (text_with (codes "t 0 2\nclosed\n")) 7 kinds.Range
unfolding digits
cut_of_tuple_1 =
    first_node First (Makes (CutTuple 0 2)) kinds.Range (text_with (codes "t 0 2\nclosed\n")) (codes "closed\n") tt (lit≤ tt, lit≤ tt) refl
    (OutOfRange refl (λ within. let h : 2 < 2 = within.cell in absurd (omega arith)))

pub project_of_no_function : Fault tiny (text_with (codes "p 1 0 0 1\nclosed\n")) 7 kinds.Range
unfolding digits
project_of_no_function =
    first_node First (Makes (Project 1 0 0 1)) kinds.Range (text_with (codes "p 1 0 0 1\nclosed\n")) (codes "closed\n") tt (lit≤ tt, lit≤ tt, lit≤ tt, lit< tt, lit≤ tt) refl
    (OutOfRange refl (λ within. let h : 1 < 1 = within.function in absurd (omega arith)))

pub split_of_no_value : Fault tiny (text_with (codes "split 0 2\nopen\n")) 7 kinds.Range
unfolding digits
split_of_no_value = first_node First (Splits (Is 0 2)) kinds.Range (text_with (codes "split 0 2\nopen\n")) (codes "open\n") tt (lit≤ tt, lit≤ tt) refl (refl, λ is. let h : 2 < 2 = is.value in absurd (omega arith))

pub closed_at_once : Fault tiny (text_with (codes "closed\nend\n")) 7 kinds.Close
unfolding digits
closed_at_once = first_node First Closes kinds.Close (text_with (codes "closed\nend\n")) (codes "end\n") tt tt refl (refl, not_closed)
  where
    by_variable : (x : ℕ) → x < 1 → ((a : ℕ) → a < slice_index tiny.sizes x → IsFalse (is_live [] x a)) → ⊥
    by_variable zero lt dead = let h : true ≡ false = dead 0 (lit< tt) in absurd cc
    by_variable (suc x) lt dead = absurd (omega arith)

    not_closed : CanClose tiny [] 1 → ⊥
    not_closed (inl reached) = let h : 1 ≤ 0 = reached in absurd (omega arith)
    not_closed (inr wiped) = by_variable wiped.0 wiped.1 wiped.2

-- the text alone: nothing at all, another version, a 0 in front, two spaces, a number past the greatest, an amount of 0,
-- a last line with no LF, and a line in the place of another
no_line_said : (front others : List ℕ) (s : State) → HasNoEnd front → line_of (words_in front) ≡ None → NoNext (front ++ 10 ∷ others) s
no_line_said front others s inside none l t spelled follows same = absurd (let both = sym none ∙ decoded (front ++ 10 ∷ others) front others inside refl l spelled same in cc)

other_line_said : (front others : List ℕ) (s : State) (m : Line) → HasNoEnd front → line_of (words_in front) ≡ Some m → ((t : State) → Follows s m t → ⊥) → NoNext (front ++ 10 ∷ others) s
other_line_said front others s m inside says never l t spelled follows same =
    never t (subst (λ x. Follows s x t) (one_line (sym (decoded (front ++ 10 ∷ others) front others inside refl l spelled same) ∙ says)) follows)
  where
    one_line : {a b : Line} → Some a ≡ Some b → a ≡ b
    one_line e = cc

pub no_bytes : TextFault [] 1
no_bytes = stops_here (start tiny) [] [] refl (never_next [] AtVersion refl) (λ over. absurd cc)

pub other_version : TextFault (codes "wcspcert 3\n") 1
unfolding digits numeral number_from amount_from numbers_in numbers_line lower_line best_line version_of version_line project_line extend_line lift_line value_line tuple_line split_line part_line node_line item_line line_by line_of
other_version = stops_here (start tiny) (codes "wcspcert 3\n") (codes "wcspcert 3\n") refl (no_line_said (codes "wcspcert 3") [] AtVersion refl refl) (λ over. absurd cc)

pub zero_in_front : TextFault (codes "wcspcert 1\nnetwork 01 1 10\n") 2
unfolding digits numeral number_from amount_from numbers_in numbers_line lower_line best_line version_of version_line project_line extend_line lift_line value_line tuple_line split_line part_line node_line item_line line_by line_of
zero_in_front = stops_here (version_read tiny First) (codes "wcspcert 1\nnetwork 01 1 10\n") (codes "network 01 1 10\n") refl (no_line_said (codes "network 01 1 10") [] (AtNumbers First) refl refl) (λ over. absurd cc)

pub two_spaces : TextFault (codes "wcspcert 1\nnetwork 1  1 10\n") 2
unfolding digits numeral number_from amount_from numbers_in numbers_line lower_line best_line version_of version_line project_line extend_line lift_line value_line tuple_line split_line part_line node_line item_line line_by line_of
two_spaces = stops_here (version_read tiny First) (codes "wcspcert 1\nnetwork 1  1 10\n") (codes "network 1  1 10\n") refl (no_line_said (codes "network 1  1 10") [] (AtNumbers First) refl refl) (λ over. absurd cc)

pub past_the_greatest : TextFault (codes "wcspcert 1\nnetwork 1 1 9223372036854775808\n") 2
unfolding digits numeral number_from amount_from numbers_in numbers_line lower_line best_line version_of version_line project_line extend_line lift_line value_line tuple_line split_line part_line node_line item_line line_by line_of
past_the_greatest =
    stops_here (version_read tiny First) (codes "wcspcert 1\nnetwork 1 1 9223372036854775808\n") (codes "network 1 1 9223372036854775808\n") refl (no_line_said (codes "network 1 1 9223372036854775808") [] (AtNumbers First) refl refl) (λ over. absurd cc)

pub the_greatest : Fault tiny (codes "wcspcert 1\nnetwork 1 1 9223372036854775807\n") 2 kinds.Network
unfolding digits
the_greatest =
    fails_next (version_read tiny First) (Numbers 1 1 9223372036854775807) NumbersFollow (lit≤ tt, lit≤ tt, lit≤ tt) kinds.Network (refl, λ same. let h : 9223372036854775807 ≡ 10 = same.2 in absurd (omega arith))
    (codes "wcspcert 1\nnetwork 1 1 9223372036854775807\n") [] refl

pub amount_of_0 : TextFault (text_with (codes "p 0 0 0 0\n")) 7
unfolding digits numeral number_from amount_from numbers_in numbers_line lower_line best_line version_of version_line project_line extend_line lift_line value_line tuple_line split_line part_line node_line item_line line_by line_of
amount_of_0 = stops_here (head_read First) (text_with (codes "p 0 0 0 0\n")) (codes "p 0 0 0 0\n") refl (no_line_said (codes "p 0 0 0 0") [] (AtNodes First ([] ∷ [])) refl refl) (λ over. absurd cc)

pub no_last_lf : TextFault (text_with (codes "open")) 7
unfolding digits
no_last_lf = stops_here (head_read First) (text_with (codes "open")) (codes "open") refl (never_next (codes "open") (AtNodes First ([] ∷ [])) refl) (λ over. absurd cc)

pub end_at_once : TextFault (text_with (codes "end\n")) 7
unfolding digits numeral number_from amount_from numbers_in numbers_line lower_line best_line version_of version_line project_line extend_line lift_line value_line tuple_line split_line part_line node_line item_line line_by line_of
end_at_once = stops_here (head_read First) (text_with (codes "end\n")) (codes "end\n") refl (other_line_said (codes "end") [] (AtNodes First ([] ∷ [])) End refl refl (λ t follows. elim follows [ ])) (λ over. absurd cc)

-- the text of the certificate of tri has no fault
tri_spelled : IsSpelled (tri_certificate second_side)
tri_spelled =
    record { variables = lit≤ tt; functions = lit≤ tt; upper = lit≤ tt; best = (lit≤ tt, lit< tt, (lit≤ tt, (lit≤ tt, (lit≤ tt, tt)))); lower = lit≤ tt; tree = (tt, (lit≤ tt, lit≤ tt), ((lit≤ tt, lit≤ tt, lit≤ tt, lit< tt, lit≤ tt), ((lit≤ tt, lit≤ tt), ((lit≤ tt, lit≤ tt, lit≤ tt, lit< tt, lit≤ tt), ((lit≤ tt, lit≤ tt), ((lit≤ tt, lit≤ tt, lit≤ tt, lit< tt, lit≤ tt), ((lit≤ tt, lit< tt, lit≤ tt), tt)))))), ((lit≤ tt, lit≤ tt, lit≤ tt, lit< tt, lit≤ tt), ((lit≤ tt, lit≤ tt), ((lit≤ tt, lit≤ tt, lit≤ tt, lit< tt, lit≤ tt), ((lit≤ tt, lit≤ tt), ((lit≤ tt, lit≤ tt, lit≤ tt, lit< tt, lit≤ tt), ((lit≤ tt, lit< tt, lit≤ tt), tt))))))); has_tree = (tt, tt, tt) }

pub tri_has_no_fault : (l : ℕ) (kind : FaultKind) → Fault tri (spelling (tri_certificate second_side)) l kind → ⊥
tri_has_no_fault l kind fault = no_fault_where_good tri (spelling (tri_certificate second_side)) (tri_certificate second_side) l kind (record { spelled = tri_spelled; exact = refl }) tri_is_good fault

-- its lines up to the end of the first side
abbrev first_lines : List Line
first_lines =
    (Version First ∷ Numbers 3 3 10 ∷ Lower 1 ∷ Best 1 ∷ Values (0 ∷ 0 ∷ 1 ∷ []) ∷ Root ∷ Node (Splits (Is 0 0)) ∷ [])
    ++ (map (λ step. Node (Makes step)) first_side ++ Node Closes ∷ [])

tri_head_read : SoFar tri (Version First ∷ Numbers 3 3 10 ∷ Lower 1 ∷ Best 1 ∷ Values (0 ∷ 0 ∷ 1 ∷ []) ∷ Root ∷ Node (Splits (Is 0 0)) ∷ []) (AtNodes First ((Took (Is 0 0) ∷ []) ∷ (Refused (Is 0 0) ∷ []) ∷ []))
tri_head_read =
    let three = then (then (version_read tri First) (Numbers 3 3 10) NumbersFollow (lit≤ tt, lit≤ tt, lit≤ tt) (refl, refl, refl)) (Lower 1) LowerFollows (lit≤ tt) tt in
    let five = then (then three (Best 1) BestFollows (lit≤ tt) (lit< tt)) (Values (0 ∷ 0 ∷ 1 ∷ [])) ValuesFollow (lit< tt, (lit≤ tt, (lit≤ tt, (lit≤ tt, tt)))) ((lit< tt, (lit< tt, (lit< tt, tt))), refl) in
    then (then five Root RootFollows tt tt) (Node (Splits (Is 0 0))) (node_follows tt) (lit≤ tt, lit≤ tt) (record { variable = lit< tt; value = lit< tt })

first_side_read : SoFar tri first_lines (AtNodes First ((Refused (Is 0 0) ∷ []) ∷ []))
first_side_read =
    let one = then tri_head_read (Node (Makes (Project 0 1 0 1))) (node_follows tt) (lit≤ tt, lit≤ tt, lit≤ tt, lit< tt, lit≤ tt) first_runs.0 in
    let two = then one (Node (Makes (CutValue 1 0))) (node_follows tt) (lit≤ tt, lit≤ tt) first_runs.1.0 in
    let three = then two (Node (Makes (Project 1 1 0 1))) (node_follows tt) (lit≤ tt, lit≤ tt, lit≤ tt, lit< tt, lit≤ tt) first_runs.1.1.0 in
    let four = then three (Node (Makes (CutValue 2 0))) (node_follows tt) (lit≤ tt, lit≤ tt) first_runs.1.1.1.0 in
    let five = then four (Node (Makes (Project 2 0 1 1))) (node_follows tt) (lit≤ tt, lit≤ tt, lit≤ tt, lit< tt, lit≤ tt) first_runs.1.1.1.1.0 in
    let six = then five (Node (Makes (Lift 1 1))) (node_follows tt) (lit≤ tt, lit< tt, lit≤ tt) first_runs.1.1.1.1.1.0 in
    then six (Node Closes) (node_follows tt) tt (inl (lit≤ tt))

abbrev first_text : List ℕ
first_text = codes "wcspcert 1\nnetwork 3 3 10\nlower 1\nbest 1\nvalues 0 0 1\ntree\nsplit 0 0\np 0 1 0 1\nv 1 0\np 1 1 0 1\nv 2 0\np 2 0 1 1\nu 1 1\nclosed\n"

-- with the lines of the second side taken out the text fails at its end; with the second side's steps taken out its end fails
pub without_second_side : TextFault (first_text ++ codes "end\n") 15
unfolding digits numeral number_from amount_from numbers_in numbers_line lower_line best_line version_of version_line project_line extend_line lift_line value_line tuple_line split_line part_line node_line item_line line_by line_of
without_second_side =
    stops_here first_side_read (first_text ++ codes "end\n") (codes "end\n") refl (other_line_said (codes "end") [] (AtNodes First ((Refused (Is 0 0) ∷ []) ∷ [])) End refl refl (λ t follows. elim follows [ ])) (λ over. absurd cc)

pub without_its_steps : Fault tri (first_text ++ codes "closed\nend\n") 15 kinds.Close
unfolding digits
without_its_steps = fails_next first_side_read (Node Closes) (node_follows tt) tt kinds.Close (refl, second_side_is_open) (first_text ++ codes "closed\nend\n") (codes "end\n") refl

-- a split by a bound: in the second version its text has no fault, in the first one it has no such line
abbrev part_lines : List Line
part_lines =
    head Second
    ++ Node (Splits (Most 0 0))
    ∷ Node (Makes (Project 0 0 0 3))
    ∷ Node (Makes (Lift 0 3))
    ∷ Node Closes
    ∷ Node (Makes (Project 0 0 1 1))
    ∷ Node (Makes (Lift 0 1))
    ∷ Node Closes
    ∷ End
    ∷ []

abbrev part_text : List ℕ
part_text = codes "part 0 0\np 0 0 0 3\nu 0 3\nclosed\np 0 0 1 1\nu 0 1\nclosed\nend\n"

abbrev second_with : List ℕ → List ℕ
second_with bytes = codes "wcspcert 2\nnetwork 1 1 10\nlower 1\nbest 1\nvalues 1\ntree\n" ++ bytes

project_below : CanProject tiny (Took (Most 0 0) ∷ []) 0 0 0 3
project_below [] fits is live = absurd fits
project_below (zero ∷ []) fits is live = at_most refl
project_below (suc a ∷ []) fits is live = absurd (omega arith)
project_below (a ∷ b ∷ tuple) fits is live = absurd fits.1

project_above : CanProject tiny (Refused (Most 0 0) ∷ []) 0 0 1 1
project_above [] fits is live = absurd fits
project_above (zero ∷ []) fits is live = absurd (omega arith)
project_above (suc zero ∷ []) fits is live = at_most refl
project_above (suc (suc a) ∷ []) fits is live = absurd (omega (arith, is))
project_above (a ∷ b ∷ tuple) fits is live = absurd fits.1

lift_below : CanLift tiny (Did (Project 0 0 0 3) ∷ Took (Most 0 0) ∷ []) 0 3
lift_below zero lt live = at_most refl
lift_below (suc zero) lt live = absurd cc
lift_below (suc (suc a)) lt live = absurd (omega arith)

lift_above : CanLift tiny (Did (Project 0 0 1 1) ∷ Refused (Most 0 0) ∷ []) 0 1
lift_above zero lt live = absurd cc
lift_above (suc zero) lt live = at_most refl
lift_above (suc (suc a)) lt live = absurd (omega arith)

part_read : SoFar tiny part_lines AtOver
part_read =
    let split = then (head_read Second) (Node (Splits (Most 0 0))) (node_follows tt) (lit≤ tt, lit≤ tt) (record { variable = lit< tt; value = lit< tt }) in
    let below = then split (Node (Makes (Project 0 0 0 3))) (node_follows tt) (lit≤ tt, lit≤ tt, lit≤ tt, lit< tt, lit≤ tt) (record { function = lit< tt; place = lit< tt; value = lit< tt }, lit< tt, project_below) in
    let lifted = then below (Node (Makes (Lift 0 3))) (node_follows tt) (lit≤ tt, lit< tt, lit≤ tt) (lit< tt, lit< tt, lift_below) in
    let first = then lifted (Node Closes) (node_follows tt) tt (inl (lit≤ tt)) in
    let above = then first (Node (Makes (Project 0 0 1 1))) (node_follows tt) (lit≤ tt, lit≤ tt, lit≤ tt, lit< tt, lit≤ tt) (record { function = lit< tt; place = lit< tt; value = lit< tt }, lit< tt, project_above) in
    let its = then above (Node (Makes (Lift 0 1))) (node_follows tt) (lit≤ tt, lit< tt, lit≤ tt) (lit< tt, lit< tt, lift_above) in
    let second = then its (Node Closes) (node_follows tt) tt (inl (lit≤ tt)) in
    then second End EndFollows tt tt

pub part_has_no_fault : (l : ℕ) (kind : FaultKind) → Fault tiny (second_with part_text) l kind → ⊥
unfolding digits
part_has_no_fault l kind fault =
    let whole = whole_texts tiny (second_with part_text) part_lines (record { text = refl; run = part_read.run; spelled = part_read.spelled }) part_read.pass in
    no_fault_where_good tiny (second_with part_text) whole.0 l kind whole.1.spells (whole.1.good (lit≤ tt)) fault

pub part_in_first : Fault tiny (text_with part_text) 7 kinds.Text
unfolding digits numeral number_from amount_from numbers_in numbers_line lower_line best_line version_of version_line project_line extend_line lift_line value_line tuple_line split_line part_line node_line item_line line_by line_of
part_in_first =
    text_stops_here (head_read First) (text_with part_text) part_text refl
    (other_line_said (codes "part 0 0") (codes "p 0 0 0 3\nu 0 3\nclosed\np 0 0 1 1\nu 0 1\nclosed\nend\n") (AtNodes First ([] ∷ [])) (Node (Splits (Most 0 0))) refl refl (λ t follows. has_node follows)) (λ over. absurd cc)

pub part_of_no_value : Fault tiny (second_with (codes "part 0 2\nopen\n")) 7 kinds.Range
unfolding digits
part_of_no_value = first_node Second (Splits (Most 0 2)) kinds.Range (second_with (codes "part 0 2\nopen\n")) (codes "open\n") tt (lit≤ tt, lit≤ tt) refl (refl, λ is. let h : 2 < 2 = is.value in absurd (omega arith))
