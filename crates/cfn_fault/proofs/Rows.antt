-- A small certificate, its lines and places, and the faults of other texts.
use Rattle.std.proofs.Common.{◌≡◌, ◌<◌, ℕ, List, [], ◌∷◌, ◌++◌, refl, sym, arith, lit<, lit≤}
use Rattle.std.proofs.lemmas.Int.{ints}
use Rattle.std.specs.Fmt.{digits}
use Rattle.std.specs.Prelude.{codes, map, Some, pos, ◌≤ℤ◌}
use Rattle.std.specs.List.{AllByRecursion}
use Rattle.cfn_model.specs.declared.step.Step.TheVariants.{Project, Lift, CutValue}
use Rattle.cfn_model.specs.declared.step.Step.{Step}
use Rattle.cfn_model.specs.declared.step.Event.{Event}
use Rattle.cfn_model.specs.declared.step.Event.TheVariants.{Did}
use Rattle.cfn_model.specs.declared.version.Version.TheVariants.{First}
use Rattle.cfn_model.specs.Network.{Network}
use Rattle.cfn_model.specs.Steps.{CanLift, CanCutValue}
use Rattle.cfn_model.specs.Tree.{Closed}
use Rattle.cfn_model.specs.Certificate.{Certificate}
use Rattle.cfn_model.specs.Text.{certificate_lines, line, spelling, IsSpelled}
use Rattle.cfn_model.proofs.CallerLemmas.{tiny_is_good}
use Rattle.cfn_fault.specs.declared.kind.FaultKind.{FaultKind}
use Rattle.cfn_fault.specs.declared.kind.FaultKind.TheVariants as kinds
use Rattle.cfn_fault.specs.Nodes.{Makes, LeavesOpen, Closes}
use Rattle.cfn_fault.specs.Fault.{lines, line_at, places, place, NotAllowed, Fault}
use Rattle.cfn_fault.specs.Lines.{Line, Version, Numbers, Lower, NoBest, Best, Values, Root, Node, End, bytes_of, IsSpelledLine, State, AtVersion, AtNumbers, AtLower, AtBest, AtValues, AtRoot, AtNodes, AtOver, Follows, VersionFollows, NumbersFollow, LowerFollows, NoBestFollows, BestFollows, ValuesFollow, RootFollows, EndFollows, Runs}
use Rattle.cfn_fault.specs.Judging.{AllPass}
use Rattle.cfn_fault.proofs.Running.{node_follows, run_one_more, spelled_append}
use Rattle.cfn_fault.proofs.Beginning.{some_bytes, none_begins}
use Rattle.cfn_fault.proofs.Judging.{none_pass_yet}
use Rattle.cfn_fault.proofs.Faults.{one_more, text_faults, line_faults, whole_texts, no_fault_where_good}

pub two_lines : lines (codes "ab\nc\n\nd") ≡ codes "ab\n" ∷ codes "c\n" ∷ codes "\n" ∷ codes "d" ∷ []
two_lines = refl

abbrev tiny : Network
tiny = record { name = codes "tiny"; sizes = 2 ∷ []; upper = 10; functions = record { scope = 0 ∷ []; default = 3; entries = 3 ∷ 1 ∷ [] } ∷ [] }

abbrev with_steps : ℕ → List Step → Certificate
with_steps upper steps = record { version = First; variables = 1; functions = 1; upper = upper; best = Some (record { cost = 1; values = 1 ∷ [] }); lower = 1; tree = Closed steps }

abbrev shifts : ℕ → List Step
shifts amount = Project 0 0 0 3 ∷ Project 0 0 1 1 ∷ Lift 0 amount ∷ []

pub its_lines : lines (spelling (with_steps 10 (shifts 1))) ≡ map line (certificate_lines (with_steps 10 (shifts 1)))
unfolding digits
its_lines = refl

pub its_places : places [] (Closed (shifts 1)) ≡ place [] (Makes (Project 0 0 0 3)) ∷ place (Did (Project 0 0 0 3) ∷ []) (Makes (Project 0 0 1 1)) ∷ place (Did (Project 0 0 1 1) ∷ Did (Project 0 0 0 3) ∷ []) (Makes (Lift 0 1)) ∷ place (Did (Lift 0 1) ∷ Did (Project 0 0 1 1) ∷ Did (Project 0 0 0 3) ∷ []) Closes ∷ []
its_places = refl

no_lift : CanLift tiny (Did (Project 0 0 1 1) ∷ Did (Project 0 0 0 3) ∷ []) 0 2 → ⊥
no_lift can = let h : pos 2 ≤ℤ pos 1 = can 1 (lit< tt) refl in absurd (omega (arith, ints))

two_projects_spelled : (amount : ℕ) → 0 < amount → amount < 10 → IsSpelled (with_steps 10 (shifts amount))
two_projects_spelled amount some few = record { variables = lit≤ tt; functions = lit≤ tt; upper = lit≤ tt; best = (lit≤ tt, lit< tt, (lit≤ tt, tt)); lower = lit≤ tt; tree = ((lit≤ tt, lit≤ tt, lit≤ tt, lit< tt, lit≤ tt), ((lit≤ tt, lit≤ tt, lit≤ tt, lit< tt, lit≤ tt), ((lit≤ tt, some, omega arith), tt))); has_tree = tt }

-- the certificate with a lift of 1 is good, so its text has no fault
pub no_fault : (l : ℕ) (kind : FaultKind) → Fault tiny (spelling (with_steps 10 (shifts 1))) l kind → ⊥
no_fault l kind fault = no_fault_where_good tiny (spelling (with_steps 10 (shifts 1))) (with_steps 10 (shifts 1)) l kind (record { spelled = two_projects_spelled 1 (lit< tt) (lit< tt); exact = refl }) tiny_is_good fault

-- its lines one by one, each right behind those before it
abbrev made : Step → Line
made step = Node (Makes step)

abbrev head : List Line
head = Version First ∷ Numbers 1 1 10 ∷ Lower 1 ∷ Best 1 ∷ Values (1 ∷ []) ∷ Root ∷ []

abbrev projects : List Line
projects = head ++ made (Project 0 0 0 3) ∷ made (Project 0 0 1 1) ∷ []

abbrev after_projects : List Event
after_projects = Did (Project 0 0 1 1) ∷ Did (Project 0 0 0 3) ∷ []

version_runs : Runs AtVersion (Version First ∷ []) (AtNumbers First)
version_runs = (AtNumbers First, VersionFollows, refl)

head_runs : Runs AtVersion head (AtNodes First ([] ∷ []))
head_runs = (AtNumbers First, VersionFollows, (AtLower First, NumbersFollow, (AtBest First, LowerFollows, (AtValues First, BestFollows, (AtRoot First, ValuesFollow, (AtNodes First ([] ∷ []), RootFollows, refl))))))

projects_run : Runs AtVersion projects (AtNodes First (after_projects ∷ []))
projects_run =
    run_one_more AtVersion (AtNodes First ((Did (Project 0 0 0 3) ∷ []) ∷ [])) (AtNodes First (after_projects ∷ [])) (head ++ made (Project 0 0 0 3) ∷ []) (made (Project 0 0 1 1)) (run_one_more AtVersion (AtNodes First ([] ∷ [])) (AtNodes First ((Did (Project 0 0 0 3) ∷ []) ∷ [])) head (made (Project 0 0 0 3)) head_runs (node_follows tt)) (node_follows tt)

version_passes : AllPass tiny (Version First ∷ [])
version_passes = one_more tiny [] AtVersion (Version First) refl (none_pass_yet tiny) tt

head_passes : AllPass tiny head
head_passes =
    let two = one_more tiny (Version First ∷ []) (AtNumbers First) (Numbers 1 1 10) version_runs version_passes (refl, refl, refl) in
    let three = one_more tiny (Version First ∷ Numbers 1 1 10 ∷ []) (AtLower First) (Lower 1) (AtNumbers First, VersionFollows, (AtLower First, NumbersFollow, refl)) two tt in
    let four = one_more tiny (Version First ∷ Numbers 1 1 10 ∷ Lower 1 ∷ []) (AtBest First) (Best 1) (AtNumbers First, VersionFollows, (AtLower First, NumbersFollow, (AtBest First, LowerFollows, refl))) three (lit< tt) in
    let five = one_more tiny (Version First ∷ Numbers 1 1 10 ∷ Lower 1 ∷ Best 1 ∷ []) (AtValues First) (Values (1 ∷ [])) (AtNumbers First, VersionFollows, (AtLower First, NumbersFollow, (AtBest First, LowerFollows, (AtValues First, BestFollows, refl)))) four ((lit< tt, tt), refl) in
    one_more tiny (Version First ∷ Numbers 1 1 10 ∷ Lower 1 ∷ Best 1 ∷ Values (1 ∷ []) ∷ []) (AtRoot First) Root (AtNumbers First, VersionFollows, (AtLower First, NumbersFollow, (AtBest First, LowerFollows, (AtValues First, BestFollows, (AtRoot First, ValuesFollow, refl))))) five tt

projects_pass : AllPass tiny projects
projects_pass =
    let one = one_more tiny head (AtNodes First ([] ∷ [])) (made (Project 0 0 0 3)) head_runs head_passes tiny_is_good.valid.0.0 in
    one_more tiny (head ++ made (Project 0 0 0 3) ∷ []) (AtNodes First ((Did (Project 0 0 0 3) ∷ []) ∷ [])) (made (Project 0 0 1 1)) (run_one_more AtVersion (AtNodes First ([] ∷ [])) (AtNodes First ((Did (Project 0 0 0 3) ∷ []) ∷ [])) head (made (Project 0 0 0 3)) head_runs (node_follows tt)) one tiny_is_good.valid.0.1.0

projects_spelled : AllByRecursion IsSpelledLine projects
projects_spelled = (tt, ((lit≤ tt, lit≤ tt, lit≤ tt), (lit≤ tt, (lit≤ tt, ((lit< tt, (lit≤ tt, tt)), (tt, ((lit≤ tt, lit≤ tt, lit≤ tt, lit< tt, lit≤ tt), ((lit≤ tt, lit≤ tt, lit≤ tt, lit< tt, lit≤ tt), tt))))))))

-- value 1 has only 1 to lift
pub lift_of_2 : Fault tiny (codes "wcspcert 1\nnetwork 1 1 10\nlower 1\nbest 1\nvalues 1\ntree\np 0 0 0 3\np 0 0 1 1\nu 0 2\nclosed\nend\n") 9 kinds.Lift
unfolding digits
lift_of_2 =
    line_faults tiny (codes "wcspcert 1\nnetwork 1 1 10\nlower 1\nbest 1\nvalues 1\ntree\np 0 0 0 3\np 0 0 1 1\nu 0 2\nclosed\nend\n") (codes "closed\nend\n") projects (AtNodes First (after_projects ∷ [])) (AtNodes First ((Did (Lift 0 2) ∷ after_projects) ∷ [])) (made (Lift 0 2)) kinds.Lift projects_run
    (record { text = refl; run = run_one_more AtVersion (AtNodes First (after_projects ∷ [])) (AtNodes First ((Did (Lift 0 2) ∷ after_projects) ∷ [])) projects (made (Lift 0 2)) projects_run (node_follows tt); spelled = spelled_append projects (made (Lift 0 2) ∷ []) projects_spelled ((lit≤ tt, lit< tt, lit≤ tt), tt) }) projects_pass (NotAllowed refl (lit< tt) (λ allowed. no_lift allowed.2))

-- the upper bound is 10
pub upper_of_9 : Fault tiny (codes "wcspcert 1\nnetwork 1 1 9\nlower 1\n") 2 kinds.Network
unfolding digits
upper_of_9 =
    line_faults tiny (codes "wcspcert 1\nnetwork 1 1 9\nlower 1\n") (codes "lower 1\n") (Version First ∷ []) (AtNumbers First) (AtLower First) (Numbers 1 1 9) kinds.Network version_runs
    (record { text = refl; run = (AtNumbers First, VersionFollows, (AtLower First, NumbersFollow, refl)); spelled = (tt, ((lit≤ tt, lit≤ tt, lit≤ tt), tt)) }) version_passes (refl, λ same. let h : 9 ≡ 10 = same.2 in absurd (omega arith))

-- at the root the floor and the cost of value 0 are 0, below the threshold
no_cut : CanCutValue tiny [] 1 0 0 → ⊥
no_cut can = let h : pos 1 ≤ℤ pos 0 = can in absurd (omega (arith, ints))

pub cut_of_0 : Fault tiny (codes "wcspcert 1\nnetwork 1 1 10\nlower 1\nbest 1\nvalues 1\ntree\nv 0 0\np 0 0 0 3\n") 7 kinds.Cut
unfolding digits
cut_of_0 =
    line_faults tiny (codes "wcspcert 1\nnetwork 1 1 10\nlower 1\nbest 1\nvalues 1\ntree\nv 0 0\np 0 0 0 3\n") (codes "p 0 0 0 3\n") head (AtNodes First ([] ∷ [])) (AtNodes First ((Did (CutValue 0 0) ∷ []) ∷ [])) (made (CutValue 0 0)) kinds.Cut head_runs
    (record { text = refl; run = run_one_more AtVersion (AtNodes First ([] ∷ [])) (AtNodes First ((Did (CutValue 0 0) ∷ []) ∷ [])) head (made (CutValue 0 0)) head_runs (node_follows tt); spelled = (tt, ((lit≤ tt, lit≤ tt, lit≤ tt), (lit≤ tt, (lit≤ tt, ((lit< tt, (lit≤ tt, tt)), (tt, ((lit≤ tt, lit≤ tt), tt))))))) })
    head_passes (NotAllowed refl (record { variable = lit< tt; value = lit< tt }) (λ allowed. no_cut allowed.1))

-- a text that ends too early
not_yet : (l : Line) (t : State) → IsSpelledLine l → Follows (AtNodes First ([] ∷ [])) l t → line_at [] 0 ≡ bytes_of l → ⊥
not_yet l t spelled follows is = some_bytes l spelled (sym is)

pub no_tree : Fault tiny (codes "wcspcert 1\nnetwork 1 1 10\nlower 1\nbest 1\nvalues 1\ntree\n") 7 kinds.Text
unfolding digits
no_tree =
    text_faults tiny (codes "wcspcert 1\nnetwork 1 1 10\nlower 1\nbest 1\nvalues 1\ntree\n") [] head (AtNodes First ([] ∷ []))
    (record { text = refl; run = head_runs; spelled = (tt, ((lit≤ tt, lit≤ tt, lit≤ tt), (lit≤ tt, (lit≤ tt, ((lit< tt, (lit≤ tt, tt)), (tt, tt)))))) }) head_passes
    (none_begins (codes "wcspcert 1\nnetwork 1 1 10\nlower 1\nbest 1\nvalues 1\ntree\n") [] head (AtNodes First ([] ∷ [])) head_runs (tt, ((lit≤ tt, lit≤ tt, lit≤ tt), (lit≤ tt, (lit≤ tt, ((lit< tt, (lit≤ tt, tt)), (tt, tt)))))) refl not_yet (λ over none. absurd (cc)))

-- a whole text, with bytes behind it or a lower bound above what it shows
abbrev open_root : ℕ → List Line
open_root lower = Version First ∷ Numbers 1 1 10 ∷ Lower lower ∷ NoBest ∷ Root ∷ Node LeavesOpen ∷ End ∷ []

open_runs : (lower : ℕ) → Runs AtVersion (open_root lower) AtOver
open_runs lower = (AtNumbers First, VersionFollows, (AtLower First, NumbersFollow, (AtBest First, LowerFollows, (AtRoot First, NoBestFollows, (AtNodes First ([] ∷ []), RootFollows, (AtNodes First [], node_follows tt, (AtOver, EndFollows, refl)))))))

open_passes : (lower : ℕ) → AllPass tiny (open_root lower)
open_passes lower =
    let r2 = version_runs in
    let two = one_more tiny (Version First ∷ []) (AtNumbers First) (Numbers 1 1 10) version_runs version_passes (refl, refl, refl) in
    let three = one_more tiny (Version First ∷ Numbers 1 1 10 ∷ []) (AtLower First) (Lower lower) (AtNumbers First, VersionFollows, (AtLower First, NumbersFollow, refl)) two tt in
    let four = one_more tiny (Version First ∷ Numbers 1 1 10 ∷ Lower lower ∷ []) (AtBest First) NoBest (AtNumbers First, VersionFollows, (AtLower First, NumbersFollow, (AtBest First, LowerFollows, refl))) three tt in
    let five = one_more tiny (Version First ∷ Numbers 1 1 10 ∷ Lower lower ∷ NoBest ∷ []) (AtRoot First) Root (AtNumbers First, VersionFollows, (AtLower First, NumbersFollow, (AtBest First, LowerFollows, (AtRoot First, NoBestFollows, refl)))) four tt in
    let six = one_more tiny (Version First ∷ Numbers 1 1 10 ∷ Lower lower ∷ NoBest ∷ Root ∷ []) (AtNodes First ([] ∷ [])) (Node LeavesOpen) (AtNumbers First, VersionFollows, (AtLower First, NumbersFollow, (AtBest First, LowerFollows, (AtRoot First, NoBestFollows, (AtNodes First ([] ∷ []), RootFollows, refl))))) five tt in
    one_more tiny (Version First ∷ Numbers 1 1 10 ∷ Lower lower ∷ NoBest ∷ Root ∷ Node LeavesOpen ∷ []) (AtNodes First []) End (AtNumbers First, VersionFollows, (AtLower First, NumbersFollow, (AtBest First, LowerFollows, (AtRoot First, NoBestFollows, (AtNodes First ([] ∷ []), RootFollows, (AtNodes First [], node_follows tt, refl)))))) six tt

pub lower_of_1 : Fault tiny (codes "wcspcert 1\nnetwork 1 1 10\nlower 1\nbest none\ntree\nopen\nend\n") 3 kinds.Lower
unfolding digits
lower_of_1 =
    (whole_texts tiny (codes "wcspcert 1\nnetwork 1 1 10\nlower 1\nbest none\ntree\nopen\nend\n") (open_root 1) (record { text = refl; run = open_runs 1; spelled = (tt, ((lit≤ tt, lit≤ tt, lit≤ tt), (lit≤ tt, (tt, (tt, (tt, (tt, tt))))))) }) (open_passes 1)).1.fault (lit< tt)

nothing_more : (l : Line) (t : State) → IsSpelledLine l → Follows AtOver l t → line_at (codes "x") 0 ≡ bytes_of l → ⊥
nothing_more l t spelled follows is = elim follows [ ]

pub byte_behind : Fault tiny (codes "wcspcert 1\nnetwork 1 1 10\nlower 0\nbest none\ntree\nopen\nend\nx") 8 kinds.Text
unfolding digits
byte_behind =
    text_faults tiny (codes "wcspcert 1\nnetwork 1 1 10\nlower 0\nbest none\ntree\nopen\nend\nx") (codes "x") (open_root 0) AtOver (record { text = refl; run = open_runs 0; spelled = (tt, ((lit≤ tt, lit≤ tt, lit≤ tt), (lit≤ tt, (tt, (tt, (tt, (tt, tt))))))) }) (open_passes 0)
    (none_begins (codes "wcspcert 1\nnetwork 1 1 10\nlower 0\nbest none\ntree\nopen\nend\nx") (codes "x") (open_root 0) AtOver (open_runs 0) (tt, ((lit≤ tt, lit≤ tt, lit≤ tt), (lit≤ tt, (tt, (tt, (tt, (tt, tt))))))) refl nothing_more (λ over none. absurd (cc)))
