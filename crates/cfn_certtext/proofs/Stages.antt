-- What is due by the version and numbers alone is what may follow.
use Rattle.std.proofs.Common.{◌≡◌, ℕ, ◌+◌, ◌≤◌, List, [], ◌∷◌, ◌++◌, length, refl, sym, ap, ◌∙◌, arith, true, false, inl, inr}
use Rattle.std.proofs.lemmas.Bool.{cases_Bool, ne_eqb}
use Rattle.std.specs.Prelude.{Some, None, ◌==◌}
use Rattle.cfn_model.specs.declared.step.Decision.{Decision}
use Rattle.cfn_model.specs.declared.step.Decision.TheVariants.{Is, Most}
use Rattle.cfn_model.specs.declared.step.Event.{Event}
use Rattle.cfn_model.specs.declared.version.Version as versions
use Rattle.cfn_model.specs.declared.version.Version.TheVariants.{First, Second}
use Rattle.cfn_model.specs.Text.{HasDecision}
use Rattle.cfn_fault.specs.Nodes.{Item, Makes, LeavesOpen, Closes, Splits, HasItem, paths_after, NodeFollows, ItemFollows}
use Rattle.cfn_fault.specs.Lines.{Line, Version, Numbers, Lower, NoBest, Best, Values, Root, Node, End, State, AtVersion, AtNumbers, AtLower, AtBest, AtValues, AtRoot, AtNodes, AtOver, Follows, VersionFollows, NumbersFollow, LowerFollows, NoBestFollows, BestFollows, ValuesFollow, RootFollows, NodeLineFollows, EndFollows}
use Rattle.cfn_certtext.specs.declared.stage.Stage.{Stage}
use Rattle.cfn_certtext.specs.declared.stage.Stage.TheVariants as stages
use Rattle.cfn_certtext.specs.Reading.{due_of}
use Rattle.cfn_certtext.specs.Stages.{next_stage, node_stage, end_stage, owed_after, owed_of, has_decision, has_item}

-- whether a version has a line for an item, as a test and as a fact
decision_has : (version : versions.Version) (d : Decision) → HasDecision version d → has_decision version d ≡ true
decision_has First (Is x a) h = refl
decision_has First (Most x v) h = absurd h
decision_has Second (Is x a) h = refl
decision_has Second (Most x v) h = refl

has_line : (version : versions.Version) (d : Decision) → has_decision version d ≡ true → HasDecision version d
has_line First (Is x a) e = tt
has_line First (Most x v) e = absurd cc
has_line Second (Is x a) e = tt
has_line Second (Most x v) e = tt

item_has : (version : versions.Version) (item : Item) → HasItem version item → has_item version item ≡ true
item_has version (Makes step) h = refl
item_has version LeavesOpen h = refl
item_has version Closes h = refl
item_has version (Splits d) h = decision_has version d h

has_it : (version : versions.Version) (item : Item) → has_item version item ≡ true → HasItem version item
has_it version (Makes step) e = tt
has_it version LeavesOpen e = tt
has_it version Closes e = tt
has_it version (Splits d) e = has_line version d e

owed_is : (history : List Event) (paths : List (List Event)) (item : Item) → owed_after (length (history ∷ paths)) item ≡ length (paths_after history item ++ paths)
owed_is history paths (Makes step) = omega arith
owed_is history paths LeavesOpen = omega arith
owed_is history paths Closes = omega arith
owed_is history paths (Splits d) = omega arith

some_owed : (history : List Event) (paths : List (List Event)) → (length (history ∷ paths) == 0) ≡ false
some_owed history paths = ne_eqb (length (history ∷ paths)) 0 (λ e. absurd (omega arith))

node_due : (version : versions.Version) (history : List Event) (paths : List (List Event)) (item : Item) → HasItem version item → node_stage version (length (history ∷ paths)) item ≡ Some (stages.Nodes version (length (paths_after history item ++ paths)))
node_due version history paths item has = rw (some_owed history paths, item_has version item has) (ap (λ n. Some (stages.Nodes version n)) (owed_is history paths item))

items_due : (version : versions.Version) (paths more : List (List Event)) (item : Item) → NodeFollows version paths item more → node_stage version (length paths) item ≡ Some (stages.Nodes version (length more))
items_due version paths more item (ItemFollows {history = history} {paths = others} has) = node_due version history others item has

pub follow_due : (s : State) (l : Line) (t : State) → Follows s l t → next_stage (due_of s) l ≡ Some (due_of t)
follow_due s l t VersionFollows = refl
follow_due s l t NumbersFollow = refl
follow_due s l t LowerFollows = refl
follow_due s l t NoBestFollows = refl
follow_due s l t BestFollows = refl
follow_due s l t ValuesFollow = refl
follow_due s l t RootFollows = refl
follow_due s l t (NodeLineFollows {version = version} {paths = paths} {more = more} {item = item} follows) = items_due version paths more item follows
follow_due s l t EndFollows = refl

pub record Due (s : State) (l : Line) (next : Stage) : Type 0 where
  pub state : State
  pub follows : Follows s l state
  pub due : next ≡ due_of state

none_due : {A : Type 0} (next : Stage) → None ≡ Some next → A
none_due next e = absurd cc

same_due : {a b : Stage} → Some a ≡ Some b → b ≡ a
same_due e = cc

node_follows : (version : versions.Version) (history : List Event) (paths : List (List Event)) (item : Item) (next : Stage) → node_stage version (length (history ∷ paths)) item ≡ Some next → Due (AtNodes version (history ∷ paths)) (Node item) next
node_follows version history paths item next e =
    elim (cases_Bool (has_item version item)) [
      | inl has ↦ (let it = has_it version item has in
          record { state = AtNodes version (paths_after history item ++ paths); follows = NodeLineFollows (ItemFollows it); due = same_due (sym (node_due version history paths item it) ∙ e) })
      | inr lacks ↦ none_due next (rw (some_owed history paths, lacks) at e)
    ]

pub due_follows : (s : State) (l : Line) (next : Stage) → next_stage (due_of s) l ≡ Some next → Due s l next
due_follows AtVersion (Version version) next e = record { state = AtNumbers version; follows = VersionFollows; due = same_due e }
due_follows AtVersion _ next e = none_due next e
due_follows (AtNumbers version) (Numbers n m upper) next e = record { state = AtLower version; follows = NumbersFollow; due = same_due e }
due_follows (AtNumbers version) _ next e = none_due next e
due_follows (AtLower version) (Lower lower) next e = record { state = AtBest version; follows = LowerFollows; due = same_due e }
due_follows (AtLower version) _ next e = none_due next e
due_follows (AtBest version) NoBest next e = record { state = AtRoot version; follows = NoBestFollows; due = same_due e }
due_follows (AtBest version) (Best cost) next e = record { state = AtValues version; follows = BestFollows; due = same_due e }
due_follows (AtBest version) _ next e = none_due next e
due_follows (AtValues version) (Values values) next e = record { state = AtRoot version; follows = ValuesFollow; due = same_due e }
due_follows (AtValues version) _ next e = none_due next e
due_follows (AtRoot version) Root next e = record { state = AtNodes version ([] ∷ []); follows = RootFollows; due = same_due e }
due_follows (AtRoot version) _ next e = none_due next e
due_follows (AtNodes version []) (Node item) next e = none_due next e
due_follows (AtNodes version []) End next e = record { state = AtOver; follows = EndFollows; due = same_due e }
due_follows (AtNodes version []) _ next e = none_due next e
due_follows (AtNodes version (history ∷ paths)) (Node item) next e = node_follows version history paths item next e
due_follows (AtNodes version (history ∷ paths)) End next e = none_due next (rw (some_owed history paths) at e)
due_follows (AtNodes version (history ∷ paths)) _ next e = none_due next e
due_follows AtOver _ next e = none_due next e

-- a line leaves one tree more to come at most
owed_less : (due next : Stage) (n : ℕ) → Some due ≡ Some next → owed_of due ≤ n → owed_of next ≤ n
owed_less due next n e le = omega (arith, ap owed_of (same_due e), le)

item_owed : (owed : ℕ) (item : Item) → owed_after owed item ≤ owed + 1
item_owed owed (Makes step) = omega arith
item_owed owed LeavesOpen = omega arith
item_owed owed Closes = omega arith
item_owed owed (Splits d) = omega arith

node_owed : (version : versions.Version) (owed : ℕ) (item : Item) (next : Stage) → node_stage version owed item ≡ Some next → owed_of next ≤ owed + 1
node_owed version owed item next e =
    elim (cases_Bool (owed == 0)) [
      | inl none ↦ none_due next (rw none at e)
      | inr some ↦ elim (cases_Bool (has_item version item)) [
        | inl has ↦ owed_less (stages.Nodes version (owed_after owed item)) next (owed + 1) (rw (some, has) at e) (item_owed owed item)
        | inr lacks ↦ none_due next (rw (some, lacks) at e)
      ]
    ]

end_owed : (owed : ℕ) (next : Stage) → end_stage owed ≡ Some next → owed_of next ≤ owed + 1
end_owed owed next e =
    elim (cases_Bool (owed == 0)) [
      | inl none ↦ owed_less stages.Over next (owed + 1) (rw none at e) (omega arith)
      | inr some ↦ none_due next (rw some at e)
    ]

pub owed_next : (stage : Stage) (l : Line) (next : Stage) → next_stage stage l ≡ Some next → owed_of next ≤ owed_of stage + 1
owed_next stages.Version (Version version) next e = owed_less (stages.Network version) next 1 e (omega arith)
owed_next stages.Version _ next e = none_due next e
owed_next (stages.Network version) (Numbers n m upper) next e = owed_less (stages.Lower version) next 1 e (omega arith)
owed_next (stages.Network version) _ next e = none_due next e
owed_next (stages.Lower version) (Lower lower) next e = owed_less (stages.Best version) next 1 e (omega arith)
owed_next (stages.Lower version) _ next e = none_due next e
owed_next (stages.Best version) NoBest next e = owed_less (stages.Tree version) next 1 e (omega arith)
owed_next (stages.Best version) (Best cost) next e = owed_less (stages.Values version) next 1 e (omega arith)
owed_next (stages.Best version) _ next e = none_due next e
owed_next (stages.Values version) (Values values) next e = owed_less (stages.Tree version) next 1 e (omega arith)
owed_next (stages.Values version) _ next e = none_due next e
owed_next (stages.Tree version) Root next e = owed_less (stages.Nodes version 1) next 1 e (omega arith)
owed_next (stages.Tree version) _ next e = none_due next e
owed_next (stages.Nodes version owed) (Node item) next e = node_owed version owed item next e
owed_next (stages.Nodes version owed) End next e = end_owed owed next e
owed_next (stages.Nodes version owed) _ next e = none_due next e
owed_next stages.Over _ next e = none_due next e
owed_next stages.Failed _ next e = none_due next e
