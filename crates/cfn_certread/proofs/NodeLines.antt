-- The lines of a tree's nodes, read into a tree in the making.
use Rattle.std.proofs.Common.{◌≡◌, suc, ◌<◌, List, [], ◌∷◌, ◌++◌, length, refl, sym, ap, ◌∙◌, subst, arith, append_assoc, append-nil}
use Rattle.cfn_model.specs.declared.step.Step.{Step}
use Rattle.cfn_model.specs.declared.step.Step.TheVariants as steps
use Rattle.cfn_model.specs.declared.step.Decision.{Decision}
use Rattle.cfn_model.specs.declared.step.Decision.TheVariants as decisions
use Rattle.cfn_model.specs.declared.step.Event.{Event as PathEvent}
use Rattle.cfn_model.specs.declared.version.Version as versions
use Rattle.cfn_model.specs.Text.{IsSpelledStep}
use Rattle.cfn_fault.specs.Nodes.{Item, Makes, LeavesOpen, Closes, Splits, IsSpelledItem, paths_after, NodeFollows, ItemFollows}
use Rattle.cfn_fault.specs.Lines.{Line, Node, End, State, AtNodes, AtOver, Follows, NodeLineFollows, text_of, IsSpelledLine, lines_of_tree}
use Rattle.cfn_fault.specs.Laws.{Fronts}
use Rattle.cfn_proof.specs.Nodes.{open_node, IsLinked}
use Rattle.cfn_certtext.specs.declared.event.StepText.{StepText}
use Rattle.cfn_certtext.specs.declared.event.StepText.TheVariants as texts
use Rattle.cfn_certtext.specs.declared.event.DecisionText.{DecisionText}
use Rattle.cfn_certtext.specs.declared.event.Item.{Item as TextItem}
use Rattle.cfn_certtext.specs.declared.event.Item.TheVariants as items
use Rattle.cfn_certtext.specs.declared.event.Event.{Event}
use Rattle.cfn_certtext.specs.Reading.{Reading, HasRead, Tells, item_of, step_of, text_of_step, decision_of, text_of_decision}
use Rattle.cfn_certtext.specs.Stages.{owed_after}
use Rattle.std.specs.Prelude.{None}
use Rattle.cfn_certread.specs.declared.maker.Due.{Due}
use Rattle.cfn_certread.specs.declared.maker.Due.TheVariants.{Read}
use Rattle.cfn_certread.specs.Making.{Making, Reads, Goes}
use Rattle.cfn_certread.specs.Reading.{Stands, InTree, IsTreeRead}
use Rattle.cfn_certread.proofs.Growing.{begin_reads, all_read}
use Rattle.cfn_certread.proofs.Telling.{told, goes_on, rest_shorter, end_goes, nothing_behind}

text_back : (step : StepText) → text_of_step (step_of step) ≡ step
text_back (texts.Project f i a m) = refl
text_back (texts.Extend f i a m) = refl
text_back (texts.Lift x m) = refl
text_back (texts.CutValue x a) = refl
text_back (texts.CutTuple f c) = refl

-- a step that is told has a spelling
pub step_spelled : (item : TextItem) (step : StepText) → item ≡ items.Step step → ((it : Item) → item ≡ item_of (Node it) → IsSpelledItem it) → IsSpelledStep (step_of step)
step_spelled item step is spelled = spelled (Makes (step_of step)) (is ∙ ap items.Step (sym (text_back step)))

-- the line of a node that was told
pub record NodeTold (old new : Reading) (m : Making) (ls : List Line) (version : versions.Version) (event : Event) : Type 0 where
  pub it : Item
  pub item : event.item ≡ item_of (Node it)
  pub spelled : IsSpelledItem it
  pub paths : List (List PathEvent)
  pub long : length paths ≡ owed_after (length m.due) it
  pub stands : Stands new (ls ++ Node it ∷ []) (AtNodes version paths)
  pub shorter : new.text ≡ old.text → length new.rest < length old.rest

record NodeLine (version : versions.Version) (paths : List (List PathEvent)) (l : Line) (t : State) : Type 0 where
  it : Item
  line : l ≡ Node it
  more : List (List PathEvent)
  next : t ≡ AtNodes version more
  long : length more ≡ owed_after (length paths) it

owed_paths : (history : List PathEvent) (paths : List (List PathEvent)) (it : Item) → length (paths_after history it ++ paths) ≡ owed_after (suc (length paths)) it
owed_paths history paths (Makes step) = refl
owed_paths history paths LeavesOpen = omega arith
owed_paths history paths Closes = omega arith
owed_paths history paths (Splits d) = omega arith

owed_behind : {version : versions.Version} (paths : List (List PathEvent)) (it : Item) (more : List (List PathEvent)) → NodeFollows version paths it more → length more ≡ owed_after (length paths) it
owed_behind paths it more (ItemFollows {history = history} {paths = others} has) = owed_paths history others it

at_nodes : (version : versions.Version) (history : List PathEvent) (paths : List (List PathEvent)) (l : Line) (t : State) → Follows (AtNodes version (history ∷ paths)) l t → NodeLine version (history ∷ paths) l t
at_nodes version history paths l t (NodeLineFollows {more = more} {item = item} follows) = record { it = item; line = refl; more = more; next = refl; long = owed_behind (history ∷ paths) item more follows }

node_line : (version : versions.Version) (paths : List (List PathEvent)) (l : Line) (t : State) → 0 < length paths → Follows (AtNodes version paths) l t → NodeLine version paths l t
node_line version [] l t some follows = absurd (omega (arith, some))
node_line version (history ∷ paths) l t some follows = at_nodes version history paths l t follows

pub node_told : (old new : Reading) (m : Making) (ls : List Line) (version : versions.Version) (event : Event) (tree : InTree old m ls version) → 0 < length m.due → ((ls : List Line) (s : State) → HasRead old ls s → Tells old new ls s event) → NodeTold old new m (ls ++ tree.nodes) version event
node_told old new m ls version event tree some tells =
    let s = AtNodes version tree.paths in
    let front = ls ++ tree.nodes in
    let k = told old new front s event tree.stands.left (λ e. cc) (tells front s tree.stands.read) in
    let at = node_line version tree.paths k.line k.next (omega (arith, some, tree.long)) k.follows in
    let S : Line → Type 0 = IsSpelledLine in
    record {
      it = at.it;
      item = k.item ∙ ap item_of at.line;
      spelled = subst S at.line k.spelled;
      paths = at.more;
      long = at.long ∙ ap (λ n. owed_after n at.it) tree.long;
      stands = goes_on old new front s event (Node at.it) (AtNodes version at.more) k at.line at.next refl;
      shorter = λ same. rest_shorter old new front s event same tree.stands.read k;
    }

pub node_read : (old new : Reading) (m m' : Making) (ls : List Line) (version : versions.Version) (event : Event) (tree : InTree old m ls version) → 0 < length m.due → ((ls : List Line) (s : State) → HasRead old ls s → Tells old new ls s event)
    → ((it : Item) → event.item ≡ item_of (Node it) → Goes m m' it) → InTree new m' ls version
node_read old new m m' ls version event tree some tells goes =
    let t = node_told old new m ls version event tree some tells in
    let g = goes t.it t.item in
    record {
      nodes = tree.nodes ++ Node t.it ∷ [];
      paths = t.paths;
      stands = subst (λ (xs : List Line). Stands new xs (AtNodes version t.paths)) (append_assoc ls tree.nodes (Node t.it ∷ [])) t.stands;
      long = t.long ∙ sym g.owed;
      reads = g.reads tree.nodes tree.reads;
    }

pub step_back : (step : Step) → step_of (text_of_step step) ≡ step
step_back (steps.Project f i a m) = refl
step_back (steps.Extend f i a m) = refl
step_back (steps.Lift x m) = refl
step_back (steps.CutValue x a) = refl
step_back (steps.CutTuple f c) = refl

same_text : {a b : StepText} → items.Step a ≡ items.Step b → a ≡ b
same_text e = cc

pub decision_back : (d : Decision) → decision_of (text_of_decision d) ≡ d
decision_back (decisions.Is x a) = refl
decision_back (decisions.Most x v) = refl

same_split : {a b : DecisionText} → items.Split a ≡ items.Split b → a ≡ b
same_split e = cc

-- two items that are told alike are one
pub same_item : (a b : Item) → item_of (Node a) ≡ item_of (Node b) → a ≡ b
same_item (Makes step) (Makes other) e = ap Makes (sym (step_back step) ∙ ap step_of (same_text e) ∙ step_back other)
same_item (Makes step) LeavesOpen e = absurd (cc)
same_item (Makes step) Closes e = absurd (cc)
same_item (Makes step) (Splits d) e = absurd (cc)
same_item LeavesOpen (Makes other) e = absurd (cc)
same_item LeavesOpen LeavesOpen e = refl
same_item LeavesOpen Closes e = absurd (cc)
same_item LeavesOpen (Splits d) e = absurd (cc)
same_item Closes (Makes other) e = absurd (cc)
same_item Closes LeavesOpen e = absurd (cc)
same_item Closes Closes e = refl
same_item Closes (Splits d) e = absurd (cc)
same_item (Splits c) (Makes other) e = absurd (cc)
same_item (Splits c) LeavesOpen e = absurd (cc)
same_item (Splits c) Closes e = absurd (cc)
same_item (Splits c) (Splits d) e = ap Splits (sym (decision_back c) ∙ ap decision_of (same_split e) ∙ decision_back d)

pub items_spelled : (old new : Reading) (m : Making) (ls : List Line) (version : versions.Version) (event : Event) (tree : InTree old m ls version) → 0 < length m.due → ((ls : List Line) (s : State) → HasRead old ls s → Tells old new ls s event)
    → (it : Item) → event.item ≡ item_of (Node it) → IsSpelledItem it
items_spelled old new m ls version event tree some tells it is =
    let t = node_told old new m ls version event tree some tells in
    subst (λ (x : Item). IsSpelledItem x) (same_item t.it it (sym t.item ∙ is)) t.spelled

-- the tree begins
pub tree_begins : (r : Reading) (m : Making) (ls : List Line) (version : versions.Version) → m ≡ record { nodes = open_node None ∷ []; block = []; due = Read (record { number = 0 }) ∷ [] } → Stands r ls (AtNodes version ([] ∷ [])) → InTree r m ls version
tree_begins r m ls version begins stands = record {
  nodes = [];
  paths = [] ∷ [];
  stands = subst (λ (xs : List Line). Stands r xs (AtNodes version ([] ∷ []))) (sym (append-nil ls)) stands;
  long = sym (ap (λ (x : Making). length x.due) begins);
  reads = subst (λ (x : Making). Reads x []) (sym begins) begin_reads;
}

pub some_due : (due : List Due) → (due ≡ [] → ⊥) → 0 < length due
some_due [] some = absurd (some refl)
some_due (here ∷ due) some = omega arith

no_paths : (paths : List (List PathEvent)) → length paths ≡ 0 → paths ≡ []
no_paths [] none = refl
no_paths (path ∷ paths) none = absurd (omega (arith, none))

-- behind the last node
pub nodes_over : (r : Reading) (m : Making) (ls : List Line) (version : versions.Version) (tree : InTree r m ls version) → m.due ≡ [] → Stands r (ls ++ tree.nodes) (AtNodes version [])
nodes_over r m ls version tree over = subst (λ ps. Stands r (ls ++ tree.nodes) (AtNodes version ps)) (no_paths tree.paths (tree.long ∙ ap length over)) tree.stands

-- the tree ends
pub tree_ends : (old r mid new : Reading) (m : Making) (ls : List Line) (version : versions.Version) (end over : Event) → IsLinked m.nodes → m.due ≡ [] → InTree r m ls version → r.text ≡ old.text → mid.text ≡ r.text
    → ((ls : List Line) (s : State) → HasRead r ls s → Tells r mid ls s end) → ((ls : List Line) (s : State) → HasRead mid ls s → Tells mid new ls s over) → IsTreeRead old.text ls m.nodes
tree_ends old r mid new m ls version end over linked none tree same same_mid tells tells_over =
    let whole = all_read m tree.nodes linked none tree.reads in
    let front = ls ++ tree.nodes in
    let stands = nodes_over r m ls version tree none in
    let last = end_goes r mid front version end stands (tells front (AtNodes version []) stands.read) in
    let rest = nothing_behind mid new (front ++ End ∷ []) over last (tells_over (front ++ End ∷ []) AtOver last.read) in
    let lines : front ++ End ∷ [] ≡ ls ++ (lines_of_tree whole.tree ++ End ∷ []) = append_assoc ls tree.nodes (End ∷ []) ∙ ap (λ ns. ls ++ (ns ++ End ∷ [])) (sym whole.lines) in
    let fronts : Fronts old.text [] (front ++ End ∷ []) AtOver = record { text = sym (same_mid ∙ same) ∙ last.read.text ∙ ap (λ r. text_of (front ++ End ∷ []) ++ r) rest; run = last.read.run; spelled = last.read.spelled } in
    record { tree = whole.tree; is = whole.is; fronts = subst (λ (xs : List Line). Fronts old.text [] xs AtOver) lines fronts }
