-- A certificate whose lines are all right is good but for its lower bound, and the floors of its open leaves say its bound.
use Rattle.std.proofs.Common.{◌≡◌, ℕ, ◌≤◌, min, List, [], ◌∷◌, ◌++◌, map, refl, sym, ap, ap₂, subst, ◌∙◌, arith, append_assoc, append-nil}
use Rattle.std.specs.Prelude.{Option, Some, None}
use Rattle.cfn_model.specs.declared.step.Step.{Step}
use Rattle.cfn_model.specs.declared.step.Event.{Event}
use Rattle.cfn_model.specs.declared.step.Event.TheVariants.{Did, Took, Refused}
use Rattle.cfn_model.specs.declared.version.Version as versions
use Rattle.cfn_model.specs.Network.{Network}
use Rattle.cfn_model.specs.Sums.{floor}
use Rattle.cfn_model.specs.Steps.{Run, after}
use Rattle.cfn_model.specs.Tree.{Tree, Open, Closed, Split, Valid, bound}
use Rattle.cfn_model.specs.Certificate.{Solution, Certificate, Good, threshold, IsBest}
use Rattle.cfn_model.specs.Text.{IsSpelled}
use Rattle.cfn_fault.specs.Nodes.{Item, Makes, LeavesOpen, Closes, Splits, paths_after, NodeFollows, ItemFollows}
use Rattle.cfn_fault.specs.Fault.{Place, block_places, places}
use Rattle.cfn_fault.specs.Lines.{Line, Version, Numbers, Lower, Best, Values, Root, Node, End, lines_of_tree, lines_of_best, lines_of, State, AtVersion, AtNumbers, AtLower, AtBest, AtValues, AtRoot, AtNodes, AtOver, Follows, VersionFollows, NumbersFollow, LowerFollows, NoBestFollows, BestFollows, ValuesFollow, RootFollows, NodeLineFollows, EndFollows, Runs}
use Rattle.cfn_fault.specs.Judging.{PassesPlace, AllPass, floor_at, open_floors, lowest}
use Rattle.cfn_fault.proofs.Placing.{place_line, heads}

-- a tree is valid where each of its places is right, and the other way round
pub AllPlaces : Network → ℕ → List Place → Type 0
AllPlaces P k [] = Unit {0}
AllPlaces P k (p ∷ ps) = PassesPlace P k p.history p.item × AllPlaces P k ps

all_append : (P : Network) (k : ℕ) (a b : List Place) → AllPlaces P k a → AllPlaces P k b → AllPlaces P k (a ++ b)
unfolding AllPlaces
all_append P k [] b ha hb = hb
all_append P k (p ∷ a) b ha hb = (ha.0, all_append P k a b ha.1 hb)

all_front : (P : Network) (k : ℕ) (a b : List Place) → AllPlaces P k (a ++ b) → AllPlaces P k a
unfolding AllPlaces
all_front P k [] b h = tt
all_front P k (p ∷ a) b h = (h.0, all_front P k a b h.1)

all_back : (P : Network) (k : ℕ) (a b : List Place) → AllPlaces P k (a ++ b) → AllPlaces P k b
unfolding AllPlaces
all_back P k [] b h = h
all_back P k (p ∷ a) b h = all_back P k a b h.1

pub place_passes : (P : Network) (k : ℕ) (before : List Place) (at : Place) (behind : List Place) → AllPlaces P k (before ++ at ∷ behind) → PassesPlace P k at.history at.item
unfolding AllPlaces
place_passes P k [] at behind h = h.0
place_passes P k (p ∷ before) at behind h = place_passes P k before at behind h.1

all_places : (P : Network) (k : ℕ) (front ps : List Place) → ((before behind : List Place) (at : Place) → front ++ ps ≡ before ++ at ∷ behind → PassesPlace P k at.history at.item) → AllPlaces P k ps
unfolding AllPlaces
all_places P k front [] each = tt
all_places P k front (p ∷ ps) each = (each front ps p refl, all_places P k (front ++ p ∷ []) ps (λ before behind at e. each before behind at (sym (append_assoc front (p ∷ []) ps) ∙ e)))

block_runs : (P : Network) (k : ℕ) (history : List Event) (block : List Step) → AllPlaces P k (block_places history block) → Run P history block k
unfolding AllPlaces
block_runs P k history [] h = tt
block_runs P k history (step ∷ block) h = (h.0, block_runs P k (Did step ∷ history) block h.1)

run_places : (P : Network) (k : ℕ) (history : List Event) (block : List Step) → Run P history block k → AllPlaces P k (block_places history block)
unfolding AllPlaces
run_places P k history [] h = tt
run_places P k history (step ∷ block) h = (h.0, run_places P k (Did step ∷ history) block h.1)

pub valid_by_places : (P : Network) (k : ℕ) (history : List Event) (tree : Tree) → AllPlaces P k (places history tree) → Valid P history tree k
unfolding AllPlaces
valid_by_places P k history (Open block) h = block_runs P k history block (all_front P k (block_places history block) _ h)
valid_by_places P k history (Closed block) h =
    (block_runs P k history block (all_front P k (block_places history block) _ h), (all_back P k (block_places history block) _ h).0)
valid_by_places P k history (Split block d first second) h =
    let rest = all_back P k (block_places history block) _ h in
    let firsts = places (Took d ∷ after block history) first in (
      block_runs P k history block (all_front P k (block_places history block) _ h),
      rest.0,
      valid_by_places P k (Took d ∷ after block history) first (all_front P k firsts _ rest.1),
      valid_by_places P k (Refused d ∷ after block history) second (all_back P k firsts _ rest.1),
    )

pub places_by_valid : (P : Network) (k : ℕ) (history : List Event) (tree : Tree) → Valid P history tree k → AllPlaces P k (places history tree)
unfolding AllPlaces
places_by_valid P k history (Open block) h = all_append P k (block_places history block) _ (run_places P k history block h) (tt, tt)
places_by_valid P k history (Closed block) h = all_append P k (block_places history block) _ (run_places P k history block h.0) (h.1, tt)
places_by_valid P k history (Split block d first second) h =
    all_append P k (block_places history block) _ (run_places P k history block h.0)
    (h.1, all_append P k (places (Took d ∷ after block history) first) _ (places_by_valid P k (Took d ∷ after block history) first h.2) (places_by_valid P k (Refused d ∷ after block history) second h.3))

-- lines that are all right are those of a certificate that is good but for its lower bound
valid_by_lines : (P : Network) (c : Certificate) → IsSpelled c → AllPass P (lines_of c) → Valid P [] c.tree (threshold c)
valid_by_lines P c spelled all =
    valid_by_places P (threshold c) [] c.tree (all_places P (threshold c) [] (places [] c.tree) (λ before behind at e.
    let it = place_line c before at behind spelled.has_tree e in
    let Q : ℕ → Type 0 = λ k. PassesPlace P k at.history at.item in
    subst Q it.threshold (all it.front it.back (Node at.item) (AtNodes c.version (at.history ∷ it.others)) it.whole it.run)))

best_by_lines : (P : Network) (c : Certificate) (best : Option Solution) → c.best ≡ best → AllPass P (lines_of c) → IsBest P best
best_by_lines P c None is all = tt
best_by_lines P c (Some best) is all =
    let whole : lines_of c ≡ heads c (Some best) ++ Root ∷ (lines_of_tree c.tree ++ End ∷ []) = ap (λ b. heads c b ++ Root ∷ (lines_of_tree c.tree ++ End ∷ [])) is in
    let below = all (Version c.version ∷ Numbers c.variables c.functions c.upper ∷ Lower c.lower ∷ []) (Values best.values ∷ Root ∷ (lines_of_tree c.tree ++ End ∷ [])) (Best best.cost) (AtBest c.version) whole (AtNumbers c.version, VersionFollows, (AtLower c.version, NumbersFollow, (AtBest c.version, LowerFollows, refl))) in
    let fits = all (Version c.version ∷ Numbers c.variables c.functions c.upper ∷ Lower c.lower ∷ Best best.cost ∷ []) (Root ∷ (lines_of_tree c.tree ++ End ∷ [])) (Values best.values) (AtValues c.version) whole (AtNumbers c.version, VersionFollows, (AtLower c.version, NumbersFollow, (AtBest c.version, LowerFollows, (AtValues c.version, BestFollows, refl)))) in
    record { below = below; fits = fits.0; cost = fits.1 }

pub good_by_lines : (P : Network) (c : Certificate) → IsSpelled c → AllPass P (lines_of c) → c.lower ≤ bound P [] c.tree (threshold c) → Good P c
good_by_lines P c spelled all lower =
    let numbers = all (Version c.version ∷ []) (Lower c.lower ∷ (lines_of_best c.best ++ Root ∷ (lines_of_tree c.tree ++ End ∷ []))) (Numbers c.variables c.functions c.upper) (AtNumbers c.version) refl (AtNumbers c.version, VersionFollows, refl) in
    record { variables = numbers.0; functions = numbers.1; upper = numbers.2; best = best_by_lines P c c.best refl all; valid = valid_by_lines P c spelled all; lower = lower }

-- the least of a threshold and floors
lowest_less : (k : ℕ) (floors : List ℕ) → lowest k floors ≤ k
lowest_less k [] = omega arith
lowest_less k (x ∷ floors) = omega (arith, lowest_less (min k x) floors)

lowest_with : (k x : ℕ) (floors : List ℕ) → lowest (min k x) floors ≡ min x (lowest k floors)
lowest_with k x [] = omega arith
lowest_with k x (y ∷ floors) = let swap : min (min k x) y ≡ min (min k y) x = omega arith in ap (λ m. lowest m floors) swap ∙ lowest_with (min k y) x floors

lowest_append : (k : ℕ) (a b : List ℕ) → lowest k (a ++ b) ≡ min (lowest k a) (lowest k b)
lowest_append k [] b = omega (arith, lowest_less k b)
lowest_append k (x ∷ a) b = omega (arith, lowest_append (min k x) a b, lowest_with k x b, lowest_less (min k x) a)

-- the floors of the open leaves among places
place_floors : Network → List Place → List ℕ
place_floors P [] = []
place_floors P (p ∷ ps) = floor_at P p.history p.item ++ place_floors P ps

floors_append : (P : Network) (a b : List Place) → place_floors P (a ++ b) ≡ place_floors P a ++ place_floors P b
unfolding place_floors
floors_append P [] b = refl
floors_append P (p ∷ a) b = ap (λ r. floor_at P p.history p.item ++ r) (floors_append P a b) ∙ sym (append_assoc (floor_at P p.history p.item) (place_floors P a) (place_floors P b))

block_floors : (P : Network) (history : List Event) (block : List Step) → place_floors P (block_places history block) ≡ []
unfolding place_floors
block_floors P history [] = refl
block_floors P history (step ∷ block) = block_floors P (Did step ∷ history) block

bound_by_places : (P : Network) (history : List Event) (tree : Tree) (k : ℕ) → bound P history tree k ≡ lowest k (place_floors P (places history tree))
unfolding place_floors
bound_by_places P history (Open block) k = sym (ap (lowest k) (floors_append P (block_places history block) _ ∙ ap (λ r. r ++ floor P (after block history) ∷ []) (block_floors P history block)))
bound_by_places P history (Closed block) k = sym (ap (lowest k) (floors_append P (block_places history block) _ ∙ ap (λ r. r ++ []) (block_floors P history block)))
bound_by_places P history (Split block d first second) k =
    let firsts = places (Took d ∷ after block history) first in
    let seconds = places (Refused d ∷ after block history) second in
    ap₂ min (bound_by_places P (Took d ∷ after block history) first k) (bound_by_places P (Refused d ∷ after block history) second k)
    ∙ sym (ap (lowest k) (floors_append P (block_places history block) _ ∙ ap (λ r. r ++ place_floors P (firsts ++ seconds)) (block_floors P history block) ∙ floors_append P firsts seconds) ∙ lowest_append k (place_floors P firsts) (place_floors P seconds))

-- and among lines
floors_block : (P : Network) (history : List Event) (paths : List (List Event)) (block : List Step) (ls : List Line) → open_floors P (history ∷ paths) (map (λ step. Node (Makes step)) block ++ ls) ≡ open_floors P (after block history ∷ paths) ls
floors_block P history paths [] ls = refl
floors_block P history paths (step ∷ block) ls = floors_block P (Did step ∷ history) paths block ls

floors_tree : (P : Network) (history : List Event) (paths : List (List Event)) (tree : Tree) (ls : List Line) → open_floors P (history ∷ paths) (lines_of_tree tree ++ ls) ≡ place_floors P (places history tree) ++ open_floors P paths ls
unfolding place_floors
floors_tree P history paths (Open block) ls =
    ap (open_floors P (history ∷ paths)) (append_assoc (map (λ step. Node (Makes step)) block) (Node LeavesOpen ∷ []) ls) ∙ floors_block P history paths block (Node LeavesOpen ∷ ls)
    ∙ ap (λ r. r ++ open_floors P paths ls) (sym (floors_append P (block_places history block) _ ∙ ap (λ r. r ++ floor P (after block history) ∷ []) (block_floors P history block)))
floors_tree P history paths (Closed block) ls =
    ap (open_floors P (history ∷ paths)) (append_assoc (map (λ step. Node (Makes step)) block) (Node Closes ∷ []) ls) ∙ floors_block P history paths block (Node Closes ∷ ls)
    ∙ ap (λ r. r ++ open_floors P paths ls) (sym (floors_append P (block_places history block) _ ∙ ap (λ r. r ++ []) (block_floors P history block)))
floors_tree P history paths (Split block d first second) ls =
    let h = after block history in
    let steps = map (λ step. Node (Makes step)) block in
    let firsts = places (Took d ∷ h) first in
    let seconds = places (Refused d ∷ h) second in
    ap (open_floors P (history ∷ paths)) (append_assoc steps (Node (Splits d) ∷ (lines_of_tree first ++ lines_of_tree second)) ls) ∙ floors_block P history paths block (Node (Splits d) ∷ ((lines_of_tree first ++ lines_of_tree second) ++ ls))
    ∙ ap (open_floors P ((Took d ∷ h) ∷ (Refused d ∷ h) ∷ paths)) (append_assoc (lines_of_tree first) (lines_of_tree second) ls) ∙ floors_tree P (Took d ∷ h) ((Refused d ∷ h) ∷ paths) first (lines_of_tree second ++ ls)
    ∙ ap (λ r. place_floors P firsts ++ r) (floors_tree P (Refused d ∷ h) paths second ls) ∙ sym (append_assoc (place_floors P firsts) (place_floors P seconds) (open_floors P paths ls))
    ∙ ap (λ r. r ++ open_floors P paths ls) (sym (floors_append P (block_places history block) _ ∙ ap (λ r. r ++ place_floors P (firsts ++ seconds)) (block_floors P history block) ∙ floors_append P firsts seconds))

head_floors : (P : Network) (c : Certificate) (best : Option Solution) (ls : List Line) → open_floors P ([] ∷ []) (heads c best ++ Root ∷ ls) ≡ open_floors P ([] ∷ []) ls
head_floors P c None ls = refl
head_floors P c (Some best) ls = refl

pub bound_by_lines : (P : Network) (c : Certificate) → bound P [] c.tree (threshold c) ≡ lowest (threshold c) (open_floors P ([] ∷ []) (lines_of c))
bound_by_lines P c =
    bound_by_places P [] c.tree (threshold c)
    ∙ ap (lowest (threshold c)) (sym (head_floors P c c.best (lines_of_tree c.tree ++ End ∷ []) ∙ floors_tree P [] [] c.tree (End ∷ []) ∙ append-nil (place_floors P (places [] c.tree))))

-- one line more
paths_of : State → List (List Event)
paths_of AtVersion = [] ∷ []
paths_of (AtNumbers version) = [] ∷ []
paths_of (AtLower version) = [] ∷ []
paths_of (AtBest version) = [] ∷ []
paths_of (AtValues version) = [] ∷ []
paths_of (AtRoot version) = [] ∷ []
paths_of (AtNodes version paths) = paths
paths_of AtOver = []

floors_by : (P : Network) (s : State) (l : Line) (t : State) (ls : List Line) → Follows s l t → open_floors P (paths_of s) (l ∷ ls) ≡ open_floors P (paths_of s) (l ∷ []) ++ open_floors P (paths_of t) ls
unfolding paths_of
floors_by P s l t ls VersionFollows = refl
floors_by P s l t ls NumbersFollow = refl
floors_by P s l t ls LowerFollows = refl
floors_by P s l t ls NoBestFollows = refl
floors_by P s l t ls BestFollows = refl
floors_by P s l t ls ValuesFollow = refl
floors_by P s l t ls RootFollows = refl
floors_by P s l t ls (NodeLineFollows {paths = queue} {more = more} {item = item} follows) = by_item queue item more follows
  where
    no_lines : (paths : List (List Event)) → open_floors P paths [] ≡ []
    no_lines [] = refl
    no_lines (path ∷ paths) = refl

    by_item : {version : versions.Version} (queue : List (List Event)) (item : Item) (more : List (List Event)) → NodeFollows version queue item more → open_floors P queue (Node item ∷ ls) ≡ open_floors P queue (Node item ∷ []) ++ open_floors P more ls
    by_item queue item more (ItemFollows {history = history} {paths = paths} has) =
        ap (λ r. r ++ open_floors P (paths_after history item ++ paths) ls) (sym (ap (λ r. floor_at P history item ++ r) (no_lines (paths_after history item ++ paths)) ∙ append-nil (floor_at P history item)))
floors_by P s l t ls EndFollows = sym (no_floors ls)
  where
    no_floors : (ls : List Line) → open_floors P [] ls ≡ []
    no_floors [] = refl
    no_floors (l ∷ ls) = refl

floors_from : (P : Network) (s t : State) (a b : List Line) → Runs s a t → open_floors P (paths_of s) (a ++ b) ≡ open_floors P (paths_of s) a ++ open_floors P (paths_of t) b
floors_from P s t [] b run = let Q : State → Type 0 = λ x. open_floors P (paths_of s) b ≡ open_floors P (paths_of x) b in subst Q run refl ∙ ap (λ r. r ++ open_floors P (paths_of t) b) (sym (no_lines (paths_of s)))
  where
    no_lines : (paths : List (List Event)) → open_floors P paths [] ≡ []
    no_lines [] = refl
    no_lines (path ∷ paths) = refl
floors_from P s t (l ∷ a) b run =
    floors_by P s l run.0 (a ++ b) run.1 ∙ ap (λ r. open_floors P (paths_of s) (l ∷ []) ++ r) (floors_from P run.0 t a b run.2) ∙ sym (append_assoc (open_floors P (paths_of s) (l ∷ [])) (open_floors P (paths_of run.0) a) (open_floors P (paths_of t) b))
    ∙ ap (λ r. r ++ open_floors P (paths_of t) b) (sym (floors_by P s l run.0 a run.1))

pub one_more_floor : (P : Network) (ls : List Line) (version : versions.Version) (history : List Event) (paths : List (List Event)) (item : Item) → Runs AtVersion ls (AtNodes version (history ∷ paths)) → open_floors P ([] ∷ []) (ls ++ Node item ∷ []) ≡ open_floors P ([] ∷ []) ls ++ floor_at P history item
unfolding paths_of
one_more_floor P ls version history paths item run =
    floors_from P AtVersion (AtNodes version (history ∷ paths)) ls (Node item ∷ []) run ∙ ap (λ r. open_floors P ([] ∷ []) ls ++ (floor_at P history item ++ r)) (no_lines (paths_after history item ++ paths)) ∙ ap (λ r. open_floors P ([] ∷ []) ls ++ r) (append-nil (floor_at P history item))
  where
    no_lines : (paths : List (List Event)) → open_floors P paths [] ≡ []
    no_lines [] = refl
    no_lines (path ∷ paths) = refl
