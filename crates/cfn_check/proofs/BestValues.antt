-- The line of the values of the best assignment.
use Rattle.std.proofs.Common.{◌≡◌, ℕ, ◌<◌, ◌≤◌, List, [], ◌∷◌, ◌++◌, length, refl, sym, ap, ◌∙◌, subst, arith, length-append}
use Rattle.std.specs.Prelude.{true, Some, None, Result, Ok, Err, IfOk, OnErr}
use Rattle.cfn_model.specs.declared.version.Version as versions
use Rattle.cfn_model.specs.Network.{Network, Fits, cost}
use Rattle.cfn_fault.specs.declared.kind.FaultKind.TheVariants as kinds
use Rattle.cfn_fault.specs.Fault.{Fault}
use Rattle.cfn_fault.specs.Lines.{Line, Values, Best, NoBest, State, AtBest, AtValues, AtRoot, IsSpelledLine}
use Rattle.cfn_fault.specs.Judging.{LineFails, threshold_in}
use Rattle.cfn_fault.proofs.CallerLemmas.{spelled_back, one_more}
use Rattle.cfn_certtext.specs.declared.event.Item.{Item}
use Rattle.cfn_certtext.specs.declared.event.Item.TheVariants as items
use Rattle.cfn_certtext.specs.declared.event.Event.{Event}
use Rattle.cfn_certtext.specs.Reading.{Reading, HasRead, Tells, NextLine, NextValue, NothingLeft, item_of, values_behind}
use Rattle.std.proofs.Common.{get_or, inl, inr}
use Rattle.std.specs.Prelude.{◌⊎◌}
use Rattle.std.proofs.lemmas.Bool.{MatchBool-at_true}
use Rattle.std.proofs.lemmas.List.{get_or_at}
use Rattle.cfn_net.proofs.CallerLemmas.{Fits-length, Fits-at}
use Rattle.cfn_check.specs.declared.assignment.Assignment.{Assignment}
use Rattle.cfn_check.specs.Assigning.{IsTold, value_of, value_in}
use Rattle.cfn_check.specs.declared.answer.Stop.{Stop}
use Rattle.cfn_check.specs.Checking.{Right}
use Rattle.cfn_check.proofs.Telling.{Told, told, None', Some', at_best, at_values, at_root, line_right, line_stops}

-- the first value of the line
pub record FirstValue (old new : Reading) (ls : List Line) (version : versions.Version) (event : Event) : Type 0 where
  pub first : ℕ
  pub others : List ℕ
  pub told_so : Told old new ls (AtValues version) event
  pub line : told_so.line ≡ Values (first ∷ others)
  pub item : event.item ≡ items.Value first
  pub left : new.left ≡ others
  pub read : HasRead new (ls ++ Values (first ∷ others) ∷ []) (AtRoot version)

first_of : (old new : Reading) (ls : List Line) (version : versions.Version) (event : Event) (k : Told old new ls (AtValues version) event) (values : List ℕ) → k.line ≡ Values values → k.next ≡ AtRoot version → FirstValue old new ls version event
first_of old new ls version event k [] line next =
    let spelled = (spelled_back ls (k.line ∷ []) k.read.spelled).0 in
    let S : Line → Type 0 = IsSpelledLine in
    let none = subst S line spelled in
    absurd (omega (arith, none.0))
first_of old new ls version event k (a ∷ values) line next =
    let R : Line → Type 0 = λ l. HasRead new (ls ++ l ∷ []) k.next in
    let S : State → Type 0 = λ s. HasRead new (ls ++ Values (a ∷ values) ∷ []) s in
    record { first = a; others = values; told_so = k; line = line; item = k.item ∙ ap item_of line; left = k.left ∙ ap values_behind line; read = subst S next (subst R line k.read) }

pub first_value : (old new : Reading) (ls : List Line) (version : versions.Version) (event : Event) → old.left ≡ [] → Tells old new ls (AtValues version) event → FirstValue old new ls version event
first_value old new ls version event none tells =
    let k = told old new ls (AtValues version) event none (λ e. cc) tells in
    let at = at_values version k.line k.next k.follows in
    first_of old new ls version event k at.0 at.1 at.2

-- what stands behind a value of the line
pub data Behind (old new : Reading) (event : Event) : Type 0 where
  AValue : (a : ℕ) → event.item ≡ items.Value a → old.left ≡ a ∷ new.left → Behind old new event
  NoValue : value_of event.item ≡ None → old.left ≡ [] → Behind old new event

pub behind_value : (old new : Reading) (ls : List Line) (version : versions.Version) (event : Event) → Tells old new ls (AtRoot version) event → Behind old new event
behind_value old new ls version event (NextLine l t none item _ follows _ _ _) = NoValue (ap value_of (item ∙ ap item_of (at_root version l t follows).0)) none
behind_value old new ls version event (NextValue a item _ left _) = AValue a item left
behind_value old new ls version event (NothingLeft _ _ over _ _ _) = absurd (cc)

-- the lines stay while values are told
pub value_read : (old new : Reading) (ls : List Line) (version : versions.Version) (event : Event) (a : ℕ) → event.item ≡ items.Value a → HasRead old ls (AtRoot version) → Tells old new ls (AtRoot version) event → HasRead new ls (AtRoot version)
value_read old new ls version event a is read (NextLine l t none item _ follows _ _ _) = absurd (let both = sym is ∙ item ∙ ap item_of (at_root version l t follows).0 in cc)
value_read old new ls version event a is read (NextValue _ item _ left same) = rw same (record { text = read.text; count = read.count; due = read.due; run = read.run; spelled = read.spelled })
value_read old new ls version event a is read (NothingLeft _ _ over _ _ _) = absurd (cc)

-- a value that is taken into an assignment
pub told_more : (P : Network) (told_so : Assignment) (all left left' : List ℕ) → left ≡ left' → IsTold P told_so all left → IsTold P told_so all left'
told_more P told_so all left left' same is = subst (λ xs. IsTold P told_so all xs) same is

-- values that have the cost leave all right, and values that have not are the fault
pub values_right : (P : Network) (old r : Reading) (ls : List Line) (version : versions.Version) (values : List ℕ) → r.left ≡ [] → HasRead r (ls ++ Values values ∷ []) (AtRoot version) → Right P old ls (AtValues version) → Fits P.sizes values × (cost P values ≡ threshold_in ls) → Right P r (ls ++ Values values ∷ []) (AtRoot version)
values_right P old r ls version values none read right has = record {
  read = read;
  left = none;
  pass = one_more P ls (AtValues version) (Values values) right.read.run right.pass has;
}

pub values_stop : (P : Network) (old new : Reading) (ls : List Line) (version : versions.Version) (event : Event) (v : FirstValue old new ls version event) → new.text ≡ old.text → Right P old ls (AtValues version) → (Fits P.sizes (v.first ∷ v.others) × (cost P (v.first ∷ v.others) ≡ threshold_in ls) → ⊥) → Fault P old.text event.line kinds.Best
values_stop P old new ls version event v same right wrong =
    let F : Line → Type 0 = λ l. LineFails P ls (AtValues version) l kinds.Best in
    line_stops P old new ls (AtValues version) event kinds.Best v.told_so same right (subst F (sym v.line) (refl, wrong))

-- values that are no assignment
pub too_many : (sizes got left all : List ℕ) (v : ℕ) → all ≡ got ++ v ∷ left → length sizes ≤ length got → Fits sizes all → ⊥
too_many sizes got left all v is full fits = omega (arith, Fits-length sizes all fits, ap length is, length-append got (v ∷ left))

pub too_large : (sizes got left all : List ℕ) (v : ℕ) → ((x : ℕ) → x < length sizes → (0 < get_or sizes x 0) × (get_or sizes x 0 ≤ 4096)) → all ≡ got ++ v ∷ left → 4096 ≤ v → Fits sizes all → ⊥
too_large sizes got left all v small is large fits =
    let there : length got < length sizes = omega (arith, Fits-length sizes all fits, ap length is, length-append got (v ∷ left)) in
    let at : get_or all (length got) 0 ≡ v = ap (λ xs. get_or xs (length got) 0) is ∙ get_or_at got v left 0 (length got) refl in
    omega (arith, Fits-at sizes all (length got) fits there, at, (small (length got) there).1)

pub still_told : (P : Network) (a : Assignment) (all left : List ℕ) → a.possible ≡ true → IsTold P a all left → all ≡ a.values.items ++ left
still_told P a all left possible is = MatchBool-at_true (all ≡ a.values.items ++ left) (Fits P.sizes all → ⊥) possible is

pub start_told : (P : Network) (a : Assignment) (all : List ℕ) → a.possible ≡ true → a.values.items ≡ [] → IsTold P a all all
start_told P a all possible none =
    let is : all ≡ a.values.items ++ all = ap (λ xs. xs ++ all) (sym none) in
    rw possible is

-- the event that told a value
value_item : (item : Item) (v : ℕ) → value_of item ≡ Some v → item ≡ items.Value v
value_item (items.Version version) v e = absurd (cc)
value_item (items.Network n e upper) v is = absurd (cc)
value_item (items.Lower lower) v e = absurd (cc)
value_item items.NoBest v e = absurd (cc)
value_item (items.Best cost) v e = absurd (cc)
value_item (items.Value a) v e = let same : a ≡ v = cc in ap items.Value same
value_item items.Tree v e = absurd (cc)
value_item (items.Step step) v e = absurd (cc)
value_item items.Open v e = absurd (cc)
value_item items.Closed v e = absurd (cc)
value_item (items.Split decision) v e = absurd (cc)
value_item items.End v e = absurd (cc)
value_item items.Over v e = absurd (cc)

abbrev TellsOn : Reading → Reading → Event → Type 0
TellsOn old new event = (ls : List Line) (s : State) → HasRead old ls s → Tells old new ls s event

pub record ValueGoes (old new : Reading) (v : ℕ) (ls : List Line) (version : versions.Version) : Type 0 where
  pub left : old.left ≡ v ∷ new.left
  pub read : HasRead new ls (AtRoot version)

by_behind : (old new : Reading) (event : Event) (v : ℕ) (ls : List Line) (version : versions.Version) → event.item ≡ items.Value v → HasRead new ls (AtRoot version) → Behind old new event → ValueGoes old new v ls version
by_behind old new event v ls version is read (AValue a item left) = let both : items.Value a ≡ items.Value v = sym item ∙ is in let same : a ≡ v = cc in record { left = left ∙ ap (λ b. b ∷ new.left) same; read = read }
by_behind old new event v ls version is read (NoValue none _) = absurd (let some = ap value_of is in let both : Some v ≡ None = sym some ∙ none in cc)

pub value_goes : (old new : Reading) (r : Result Event Stop) (v : ℕ) (ls : List Line) (version : versions.Version) → value_in r ≡ Some v → IfOk r (TellsOn old new) → HasRead old ls (AtRoot version) → ValueGoes old new v ls version
value_goes old new (Ok event) v ls version some tells read =
    let is = value_item event.item v some in
    let t = tells ls (AtRoot version) read in
    by_behind old new event v ls version is (value_read old new ls version event v is read t) (behind_value old new ls version event t)
value_goes old new (Err stop) v ls version some tells read = absurd (cc)

by_no_value : (old new : Reading) (event : Event) → value_of event.item ≡ None → Behind old new event → old.left ≡ []
by_no_value old new event none (AValue a item left) = absurd (let some = ap value_of item in let both : Some a ≡ None = sym some ∙ none in cc)
by_no_value old new event none (NoValue _ left) = left

pub none_left : (old new : Reading) (r : Result Event Stop) (ls : List Line) (version : versions.Version) → value_in r ≡ None → IfOk r (TellsOn old new) → OnErr r (old.left ≡ []) → HasRead old ls (AtRoot version) → old.left ≡ []
none_left old new (Ok event) ls version none tells left read = by_no_value old new event none (behind_value old new ls version event (tells ls (AtRoot version) read))
none_left old new (Err stop) ls version none tells left read = left

-- all values were told
pub record ValuesEnd (P : Network) (old first mid : Reading) (ls : List Line) (version : versions.Version) (event : Event) (now : Assignment) : Type 0 where
  pub value : FirstValue old first ls version event
  pub left : mid.left ≡ []
  pub told_all : IsTold P now (value.first ∷ value.others) []
  pub read : HasRead mid (ls ++ Values (value.first ∷ value.others) ∷ []) (AtRoot version)

pub values_end : (P : Network) (old first mid new : Reading) (ls : List Line) (version : versions.Version) (event : Event) (start begun now : Assignment) (v : ℕ) (r : Result Event Stop) → Right P old ls (AtValues version) → event.item ≡ items.Value v → ((ls' : List Line) (s : State) → HasRead old ls' s → Tells old first ls' s event)
    → start.possible ≡ true → start.values.items ≡ [] → ((all left : List ℕ) → IsTold P start all (v ∷ left) → IsTold P begun all left)
    → ((ls' : List Line) (its : versions.Version) → HasRead first ls' (AtRoot its) → HasRead mid ls' (AtRoot its)) → ((all : List ℕ) → IsTold P begun all first.left → IsTold P now all mid.left)
    → value_in r ≡ None → IfOk r (λ e. (ls' : List Line) (s : State) → HasRead mid ls' s → Tells mid new ls' s e) → OnErr r (mid.left ≡ []) → ValuesEnd P old first mid ls version event now
values_end P old first mid new ls version event start begun now v r right is tells possible empty begins reads tolds none after after_left =
    let f = first_value old first ls version event right.left (tells ls (AtValues version) right.read) in
    let both : items.Value f.first ≡ items.Value v = sym f.item ∙ is in
    let same : f.first ≡ v = cc in
    let all = f.first ∷ f.others in
    let begin = start_told P start all possible empty in
    let one = begins all f.others (told_more P start all all (v ∷ f.others) (ap (λ b. b ∷ f.others) same) begin) in
    let more = tolds all (told_more P begun all f.others first.left (sym f.left) one) in
    let read = reads (ls ++ Values all ∷ []) version f.read in
    let left = none_left mid new r (ls ++ Values all ∷ []) version none after after_left read in
    record { value = f; left = left; told_all = told_more P now all mid.left [] left more; read = read }

-- the line of the best assignment's cost, or that there is none
pub best_told : (old new : Reading) (ls : List Line) (version : versions.Version) (event : Event) → old.left ≡ [] → Tells old new ls (AtBest version) event → (event.item ≡ items.NoBest) ⊎ ((cost : ℕ) × (event.item ≡ items.Best cost))
best_told old new ls version event none tells = by_line (told old new ls (AtBest version) event none (λ e. cc) tells)
  where
    by_line : Told old new ls (AtBest version) event → (event.item ≡ items.NoBest) ⊎ ((cost : ℕ) × (event.item ≡ items.Best cost))
    by_line k = elim (at_best version k.line k.next k.follows) [
      | None' is _ ↦ inl (k.item ∙ ap item_of is)
      | Some' cost is _ ↦ inr (cost, k.item ∙ ap item_of is)
    ]

-- which line was told
pub record BestTold (old new : Reading) (ls : List Line) (version : versions.Version) (event : Event) (l : Line) (t : State) : Type 0 where
  pub told_so : Told old new ls (AtBest version) event
  pub line : told_so.line ≡ l
  pub next : told_so.next ≡ t

pub none_told : (old new : Reading) (ls : List Line) (version : versions.Version) (event : Event) → event.item ≡ items.NoBest → old.left ≡ [] → Tells old new ls (AtBest version) event → BestTold old new ls version event NoBest (AtRoot version)
none_told old new ls version event is none tells = by_line (told old new ls (AtBest version) event none (λ e. cc) tells)
  where
    by_line : (k : Told old new ls (AtBest version) event) → BestTold old new ls version event NoBest (AtRoot version)
    by_line k = elim (at_best version k.line k.next k.follows) [
      | None' line next ↦ record { told_so = k; line = line; next = next }
      | Some' cost line next ↦ absurd (let both : items.NoBest ≡ items.Best cost = sym is ∙ k.item ∙ ap item_of line in cc)
    ]

pub cost_told : (old new : Reading) (ls : List Line) (version : versions.Version) (event : Event) (cost : ℕ) → event.item ≡ items.Best cost → old.left ≡ [] → Tells old new ls (AtBest version) event → BestTold old new ls version event (Best cost) (AtValues version)
cost_told old new ls version event cost is none tells = by_line (told old new ls (AtBest version) event none (λ e. cc) tells)
  where
    by_line : (k : Told old new ls (AtBest version) event) → BestTold old new ls version event (Best cost) (AtValues version)
    by_line k = elim (at_best version k.line k.next k.follows) [
      | None' line next ↦ absurd (let both : items.Best cost ≡ items.NoBest = sym is ∙ k.item ∙ ap item_of line in cc)
      | Some' other line next ↦ (let both : items.Best other ≡ items.Best cost = sym (ap item_of line) ∙ sym k.item ∙ is in let same : other ≡ cost = cc in record { told_so = k; line = line ∙ ap Best same; next = next })
    ]

pub none_right : (P : Network) (old new : Reading) (ls : List Line) (version : versions.Version) (event : Event) → event.item ≡ items.NoBest → Right P old ls (AtBest version) → Tells old new ls (AtBest version) event → Right P new (ls ++ NoBest ∷ []) (AtRoot version)
none_right P old new ls version event is right tells =
    let b = none_told old new ls version event is right.left tells in
    line_right P old new ls (AtBest version) event NoBest (AtRoot version) b.told_so b.line b.next refl tt right

pub cost_right : (P : Network) (old new : Reading) (ls : List Line) (version : versions.Version) (event : Event) (cost : ℕ) → event.item ≡ items.Best cost → cost < P.upper → Right P old ls (AtBest version) → Tells old new ls (AtBest version) event → Right P new (ls ++ Best cost ∷ []) (AtValues version)
cost_right P old new ls version event cost is below right tells =
    let b = cost_told old new ls version event cost is right.left tells in
    line_right P old new ls (AtBest version) event (Best cost) (AtValues version) b.told_so b.line b.next refl below right

pub cost_stop : (P : Network) (old new : Reading) (ls : List Line) (version : versions.Version) (event : Event) (cost : ℕ) → event.item ≡ items.Best cost → P.upper ≤ cost → new.text ≡ old.text → Right P old ls (AtBest version) → Tells old new ls (AtBest version) event → Fault P old.text event.line kinds.Best
cost_stop P old new ls version event cost is above same right tells =
    let b = cost_told old new ls version event cost is right.left tells in
    let F : Line → Type 0 = λ l. LineFails P ls (AtBest version) l kinds.Best in
    line_stops P old new ls (AtBest version) event kinds.Best b.told_so same right (subst F (sym b.line) (refl, above))
