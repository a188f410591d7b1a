-- One line of a node after another.
use Rattle.std.proofs.Common.{◌≡◌, ℕ, ◌<◌, List, [], ◌∷◌, ◌++◌, length, refl, sym, ap, ◌∙◌, subst, arith, length-append, append_assoc}
use Rattle.std.proofs.lemmas.List.{append_cancel_left}
use Rattle.std.proofs.lemmas.List.Sums.{fold-append}
use Rattle.std.specs.Prelude.{Bool, true, false, if◌then◌else◌, Option, Some, None, unwrap_or, min}
use Rattle.cfn_model.specs.declared.step.Step.{Step}
use Rattle.cfn_model.specs.declared.step.Step.TheVariants as steps
use Rattle.cfn_model.specs.declared.step.Decision.{Decision}
use Rattle.cfn_model.specs.declared.step.Decision.TheVariants as decisions
use Rattle.cfn_model.specs.declared.step.Event.{Event as PathEvent}
use Rattle.cfn_model.specs.declared.version.Version as versions
use Rattle.cfn_model.specs.Network.{Network}
use Rattle.cfn_fault.specs.declared.kind.FaultKind.{FaultKind}
use Rattle.cfn_fault.specs.declared.kind.FaultKind.TheVariants as kinds
use Rattle.cfn_fault.specs.Nodes.{Item, Makes, LeavesOpen, Closes, Splits, paths_after}
use Rattle.cfn_fault.specs.Fault.{Fault, FailsPlace}
use Rattle.cfn_fault.specs.Lines.{Line, Node, State, AtNodes, bytes_of, text_of}
use Rattle.cfn_fault.specs.Judging.{LineFails, PassesPlace, threshold_in, open_floors, floor_at, lowest}
use Rattle.cfn_fault.proofs.CallerLemmas.{spelled_back, some_bytes, one_more_floor}
use Rattle.cfn_certtext.specs.declared.event.StepText.{StepText}
use Rattle.cfn_certtext.specs.declared.event.DecisionText.{DecisionText}
use Rattle.cfn_certtext.specs.declared.event.Item.{Item as TextItem}
use Rattle.cfn_certtext.specs.declared.event.Item.TheVariants as items
use Rattle.cfn_certtext.specs.declared.event.Event.{Event}
use Rattle.cfn_certtext.specs.Reading.{Reading, HasRead, Tells, item_of, values_behind, step_of, text_of_step, decision_of, text_of_decision}
use Rattle.cfn_check.specs.Walking.{Walking, Steps}
use Rattle.cfn_check.specs.Walking as walks
use Rattle.cfn_check.specs.Taking.{Takes}
use Rattle.cfn_check.specs.Checking.{Right, InTree, IsDueIn, opening_lines}
use Rattle.cfn_check.proofs.Telling.{Told, told, at_nodes, line_right, line_stops}

step_back : (step : Step) → step_of (text_of_step step) ≡ step
step_back (steps.Project f i a m) = refl
step_back (steps.Extend f i a m) = refl
step_back (steps.Lift x m) = refl
step_back (steps.CutValue x a) = refl
step_back (steps.CutTuple f c) = refl

same_text : {a b : StepText} → items.Step a ≡ items.Step b → a ≡ b
same_text e = cc

steps_take : (old new : Walking) (step : Step) (history : List PathEvent) (paths : List (List PathEvent)) (fault : Option FaultKind) → Steps old new step history paths fault → Takes old new (Makes step) history paths fault
steps_take old new step history paths None h = h
steps_take old new step history paths (Some kind) h = h

-- a step that was judged
pub step_taken : (old new : Walking) (item : TextItem) (text : StepText) (fault : Option FaultKind) → item ≡ items.Step text → ((history : List PathEvent) (paths : List (List PathEvent)) → old.paths ≡ history ∷ paths → Steps old new (step_of text) history paths fault)
    → (it : Item) (history : List PathEvent) (paths : List (List PathEvent)) → item ≡ item_of (Node it) → old.paths ≡ history ∷ paths → Takes old new it history paths fault
step_taken old new item text fault is judged (Makes step) history paths at due =
    let both : items.Step text ≡ items.Step (text_of_step step) = sym is ∙ at in
    let same : step_of text ≡ step = ap step_of (same_text both) ∙ step_back step in
    let Q : Step → Type 0 = λ s. Takes old new (Makes s) history paths fault in
    subst Q same (steps_take old new (step_of text) history paths fault (judged history paths due))
step_taken old new item text fault is judged LeavesOpen history paths at due = absurd (let both = sym is ∙ at in cc)
step_taken old new item text fault is judged Closes history paths at due = absurd (let both = sym is ∙ at in cc)
step_taken old new item text fault is judged (Splits d) history paths at due = absurd (let both = sym is ∙ at in cc)

decision_back : (d : Decision) → decision_of (text_of_decision d) ≡ d
decision_back (decisions.Is x a) = refl
decision_back (decisions.Most x v) = refl

same_split : {a b : DecisionText} → items.Split a ≡ items.Split b → a ≡ b
same_split e = cc

split_takes : (old new : Walking) (d : Decision) (history : List PathEvent) (paths : List (List PathEvent)) (splits : Bool) → walks.Splits old new d history paths splits → Takes old new (Splits d) history paths (if splits then None else Some kinds.Range)
split_takes old new d history paths true h = h
split_takes old new d history paths false h = (refl, h)

-- a split that was judged
pub split_taken : (old new : Walking) (item : TextItem) (text : DecisionText) (splits : Bool) (fault : Option FaultKind) → item ≡ items.Split text → fault ≡ (if splits then None else Some kinds.Range)
    → ((history : List PathEvent) (paths : List (List PathEvent)) → old.paths ≡ history ∷ paths → walks.Splits old new (decision_of text) history paths splits)
    → (it : Item) (history : List PathEvent) (paths : List (List PathEvent)) → item ≡ item_of (Node it) → old.paths ≡ history ∷ paths → Takes old new it history paths fault
split_taken old new item text splits fault is answer judged (Splits d) history paths at due =
    let both : items.Split text ≡ items.Split (text_of_decision d) = sym is ∙ at in
    let same : decision_of text ≡ d = ap decision_of (same_split both) ∙ decision_back d in
    let Q : Decision → Type 0 = λ e. Takes old new (Splits e) history paths (if splits then None else Some kinds.Range) in
    subst (λ f. Takes old new (Splits d) history paths f) (sym answer) (subst Q same (split_takes old new (decision_of text) history paths splits (judged history paths due)))
split_taken old new item text splits fault is answer judged (Makes step) history paths at due = absurd (let both = sym is ∙ at in cc)
split_taken old new item text splits fault is answer judged LeavesOpen history paths at due = absurd (let both = sym is ∙ at in cc)
split_taken old new item text splits fault is answer judged Closes history paths at due = absurd (let both = sym is ∙ at in cc)

-- the line of a node that was told
pub record NodeTold (old new : Reading) (ls : List Line) (version : versions.Version) (history : List PathEvent) (paths : List (List PathEvent)) (event : Event) : Type 0 where
  pub it : Item
  pub told_so : Told old new ls (AtNodes version (history ∷ paths)) event
  pub line : told_so.line ≡ Node it
  pub next : told_so.next ≡ AtNodes version (paths_after history it ++ paths)
  pub item : event.item ≡ item_of (Node it)

pub node_told : (old new : Reading) (ls : List Line) (version : versions.Version) (history : List PathEvent) (paths : List (List PathEvent)) (event : Event) → old.left ≡ [] → Tells old new ls (AtNodes version (history ∷ paths)) event → NodeTold old new ls version history paths event
node_told old new ls version history paths event none tells =
    let k = told old new ls (AtNodes version (history ∷ paths)) event none (λ e. cc) tells in
    let at = at_nodes version history paths k.line k.next k.follows in
    record { it = at.0; told_so = k; line = at.1; next = at.2; item = k.item ∙ ap item_of at.1 }

-- a line takes bytes
pub rest_shorter : (old new : Reading) (ls : List Line) (s : State) (event : Event) → new.text ≡ old.text → HasRead old ls s → (k : Told old new ls s event) → length new.rest < length old.rest
rest_shorter old new ls s event same read k =
    let whole : text_of ls ++ old.rest ≡ text_of ls ++ (bytes_of k.line ++ new.rest) = sym read.text ∙ sym same ∙ k.read.text ∙ text_more ls k.line new.rest in
    let rest = append_cancel_left (text_of ls) old.rest (bytes_of k.line ++ new.rest) whole in
    let spelled = (spelled_back ls (k.line ∷ []) k.read.spelled).0 in
    let some = positive (bytes_of k.line) (some_bytes k.line spelled) in
    omega (arith, ap length rest, length-append (bytes_of k.line) new.rest, some)
  where
    positive : (bytes : List ℕ) → (bytes ≡ [] → ⊥) → 0 < length bytes
    positive [] h = absurd (h refl)
    positive (b ∷ bytes) h = omega arith

    nil_right : (a : List ℕ) → a ++ [] ≡ a
    nil_right [] = refl
    nil_right (x ∷ a) = ap (λ r. x ∷ r) (nil_right a)

    text_more : (ls : List Line) (l : Line) (rest : List ℕ) → text_of (ls ++ l ∷ []) ++ rest ≡ text_of ls ++ (bytes_of l ++ rest)
    text_more [] l rest = ap (λ b. b ++ rest) (nil_right (bytes_of l))
    text_more (x ∷ ls) l rest = append_assoc (bytes_of x) (text_of (ls ++ l ∷ [])) rest ∙ ap (λ r. bytes_of x ++ r) (text_more ls l rest) ∙ sym (append_assoc (bytes_of x) (text_of ls) (bytes_of l ++ rest))

threshold_opening : (version : versions.Version) (P : Network) (lower : ℕ) (best : Option ℕ) (values : List ℕ) (nodes : List Line) → threshold_in (opening_lines version P lower best values ++ nodes) ≡ unwrap_or best P.upper
threshold_opening version P lower None values nodes = refl
threshold_opening version P lower (Some cost) values nodes = refl

-- a line of a node that is right
pub node_right : (P : Network) (old new : Reading) (w w' : Walking) (lower : ℕ) (best : Option ℕ) (history : List PathEvent) (paths : List (List PathEvent)) (event : Event) → w.paths ≡ history ∷ paths
    → ((ls : List Line) (s : State) → HasRead old ls s → Tells old new ls s event)
    → ((it : Item) → event.item ≡ item_of (Node it) → Takes w w' it history paths None)
    → InTree P old w lower best → InTree P new w' lower best
node_right P old new w w' lower best history paths event due tells takes tree =
    let version = tree.version in
    let ls = opening_lines version P lower best tree.values ++ tree.nodes in
    let right = subst (λ ps. Right P old ls (AtNodes version ps)) due tree.right in
    let n = node_told old new ls version history paths event right.left (tells ls (AtNodes version (history ∷ paths)) right.read) in
    let t = takes n.it n.item in
    let k : threshold_in ls ≡ w.threshold = threshold_opening version P lower best tree.values tree.nodes ∙ sym tree.threshold in
    let passes : PassesPlace P (threshold_in ls) history n.it = subst (λ m. PassesPlace P m history n.it) (sym k) (subst (λ (Q : Network). PassesPlace Q w.threshold history n.it) tree.network t.0) in
    let more = line_right P old new ls (AtNodes version (history ∷ paths)) event (Node n.it) (AtNodes version (paths_after history n.it ++ paths)) n.told_so n.line n.next refl passes right in
    let joined = append_assoc (opening_lines version P lower best tree.values) tree.nodes (Node n.it ∷ []) in
    let floors : open_floors P ([] ∷ []) (ls ++ Node n.it ∷ []) ≡ open_floors P ([] ∷ []) ls ++ floor_at P history n.it = one_more_floor P ls version history paths n.it right.read.run in
    let least : lowest w.threshold (open_floors P ([] ∷ []) (ls ++ Node n.it ∷ [])) ≡ lowest w.least (floor_at P history n.it)
    = ap (lowest w.threshold) floors ∙ fold-append min w.threshold (open_floors P ([] ∷ []) ls) (floor_at P history n.it) ∙ ap (λ m. lowest m (floor_at P history n.it)) (sym tree.least) in
    let same_threshold : w'.threshold ≡ w.threshold = ap (λ z. z.threshold) t.1 in
    record {
      version = version;
      values = tree.values;
      nodes = tree.nodes ++ Node n.it ∷ [];
      right = subst (λ (xs : List Line). Right P new xs (AtNodes version w'.paths)) joined (subst (λ ps. Right P new (ls ++ Node n.it ∷ []) (AtNodes version ps)) (sym (ap (λ z. z.paths) t.1)) more);
      network = ap (λ z. z.network) t.1 ∙ tree.network;
      threshold = same_threshold ∙ tree.threshold;
      least = ap (λ z. z.least) t.1 ∙ ap (λ (Q : Network). lowest w.least (floor_at Q history n.it)) tree.network ∙ sym least ∙ ap (λ m. lowest m (open_floors P ([] ∷ []) (ls ++ Node n.it ∷ []))) (sym same_threshold) ∙ ap (λ xs. lowest w'.threshold (open_floors P ([] ∷ []) xs)) joined;
    }

-- a line of a node that fails
pub node_stop : (P : Network) (old new : Reading) (w w' : Walking) (lower : ℕ) (best : Option ℕ) (history : List PathEvent) (paths : List (List PathEvent)) (event : Event) (kind : FaultKind) → w.paths ≡ history ∷ paths → new.text ≡ old.text
    → ((ls : List Line) (s : State) → HasRead old ls s → Tells old new ls s event)
    → ((it : Item) → event.item ≡ item_of (Node it) → Takes w w' it history paths (Some kind))
    → InTree P old w lower best → Fault P old.text event.line kind
node_stop P old new w w' lower best history paths event kind due same tells takes tree =
    let version = tree.version in
    let ls = opening_lines version P lower best tree.values ++ tree.nodes in
    let right = subst (λ ps. Right P old ls (AtNodes version ps)) due tree.right in
    let n = node_told old new ls version history paths event right.left (tells ls (AtNodes version (history ∷ paths)) right.read) in
    let k : threshold_in ls ≡ w.threshold = threshold_opening version P lower best tree.values tree.nodes ∙ sym tree.threshold in
    let fails : FailsPlace P (threshold_in ls) history n.it kind = subst (λ m. FailsPlace P m history n.it kind) (sym k) (subst (λ (Q : Network). FailsPlace Q w.threshold history n.it kind) tree.network (takes n.it n.item)) in
    let F : Line → Type 0 = λ l. LineFails P ls (AtNodes version (history ∷ paths)) l kind in
    line_stops P old new ls (AtNodes version (history ∷ paths)) event kind n.told_so same right (subst F (sym n.line) fails)

-- what is due behind a line of a node
pub due_next : (old new : Reading) (w w' : Walking) (history : List PathEvent) (paths : List (List PathEvent)) (event : Event) → w.paths ≡ history ∷ paths
    → ((ls : List Line) (s : State) → HasRead old ls s → Tells old new ls s event)
    → ((it : Item) → event.item ≡ item_of (Node it) → Takes w w' it history paths None)
    → IsDueIn old (λ version. AtNodes version w.paths) → IsDueIn new (λ version. AtNodes version w'.paths)
due_next old new w w' history paths event due tells takes is =
    let version = is.0 in
    let ls = is.1.0 in
    let read = subst (λ ps. HasRead old ls (AtNodes version ps)) due is.1.1 in
    let n = node_told old new ls version history paths event is.1.2 (tells ls (AtNodes version (history ∷ paths)) read) in
    let t = takes n.it n.item in
    let R : State → Type 0 = λ s. HasRead new (ls ++ n.told_so.line ∷ []) s in
    (version, (ls ++ n.told_so.line ∷ [], subst (λ ps. HasRead new (ls ++ n.told_so.line ∷ []) (AtNodes version ps)) (sym (ap (λ z. z.paths) t.1)) (subst R n.next n.told_so.read), n.told_so.left ∙ ap values_behind n.line))

pub shorter_next : (old new : Reading) (w : Walking) (history : List PathEvent) (paths : List (List PathEvent)) (event : Event) → w.paths ≡ history ∷ paths → new.text ≡ old.text
    → ((ls : List Line) (s : State) → HasRead old ls s → Tells old new ls s event)
    → IsDueIn old (λ version. AtNodes version w.paths) → length new.rest < length old.rest
shorter_next old new w history paths event due same tells is =
    let version = is.0 in
    let ls = is.1.0 in
    let read = subst (λ ps. HasRead old ls (AtNodes version ps)) due is.1.1 in
    let n = node_told old new ls version history paths event is.1.2 (tells ls (AtNodes version (history ∷ paths)) read) in
    rest_shorter old new ls (AtNodes version (history ∷ paths)) event same read n.told_so

-- paths that are there
pub first_path : (paths : List (List PathEvent)) → (paths ≡ [] → ⊥) → (history : List PathEvent) × (others : List (List PathEvent)) × (paths ≡ history ∷ others)
first_path [] h = absurd (h refl)
first_path (history ∷ paths) h = (history, paths, refl)
