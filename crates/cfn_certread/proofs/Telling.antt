-- What the reader's events tell of the line that was due.
use Rattle.std.proofs.Common.{◌≡◌, ℕ, ◌+◌, ◌<◌, List, [], ◌∷◌, ◌++◌, length, refl, sym, ap, ◌∙◌, subst, arith, length-append, append_assoc, append-nil}
use Rattle.std.proofs.lemmas.List.{append_cancel_left}
use Rattle.cfn_model.specs.declared.step.Event.{Event as PathEvent}
use Rattle.cfn_model.specs.declared.version.Version as versions
use Rattle.cfn_fault.specs.Fault.{Begins, TextFault}
use Rattle.cfn_fault.specs.Lines.{Line, Version, Numbers, Lower, NoBest, Best, Values, Root, End, State, AtVersion, AtNumbers, AtLower, AtBest, AtValues, AtRoot, AtNodes, AtOver, Follows, VersionFollows, NumbersFollow, LowerFollows, NoBestFollows, BestFollows, ValuesFollow, RootFollows, NodeLineFollows, EndFollows, bytes_of, text_of, IsSpelledLine}
use Rattle.cfn_fault.specs.Nodes.{Item, NodeFollows}
use Rattle.cfn_fault.proofs.CallerLemmas.{some_bytes, text_fails}
use Rattle.cfn_certtext.specs.declared.event.Event.{Event}
use Rattle.cfn_certtext.specs.declared.event.Item.TheVariants as items
use Rattle.cfn_certtext.specs.Reading.{Reading, HasRead, Tells, NextLine, NextValue, NothingLeft, NoneBegins, item_of, values_behind}
use Rattle.cfn_certread.specs.Reading.{Stands}

-- the next line was told
pub record Told (old new : Reading) (ls : List Line) (s : State) (event : Event) : Type 0 where
  pub line : Line
  pub next : State
  pub item : event.item ≡ item_of line
  pub follows : Follows s line next
  pub spelled : IsSpelledLine line
  pub left : new.left ≡ values_behind line
  pub read : HasRead new (ls ++ line ∷ []) next

pub told : (old new : Reading) (ls : List Line) (s : State) (event : Event) → old.left ≡ [] → (s ≡ AtOver → ⊥) → Tells old new ls s event → Told old new ls s event
told old new ls s event none more (NextLine l t _ item number follows spelled left read) = record { line = l; next = t; item = item; follows = follows; spelled = spelled; left = left; read = read }
told old new ls s event none more (NextValue a _ _ some _) = absurd (let e = sym none ∙ some in cc)
told old new ls s event none more (NothingLeft _ _ over _ _ _) = absurd (more over)

-- a line that no certificate has behind those that were read
pub text_stops : (old : Reading) (ls : List Line) (s : State) (line : ℕ) → line ≡ old.count + 1 → HasRead old ls s → NoneBegins old → TextFault old.text line
text_stops old ls s line at read never =
    let n : line ≡ length ls + 1 = at ∙ ap (λ m. m + 1) read.count in
    subst (λ m. TextFault old.text m) (sym n) (text_fails old.text old.rest ls s read.run read.spelled read.text (λ c spelled begins. never c spelled (subst (λ m. Begins c old.text m) (ap (λ m. m + 1) (sym read.count)) begins)))

-- a line takes bytes
pub rest_shorter : (old new : Reading) (ls : List Line) (s : State) (event : Event) → new.text ≡ old.text → HasRead old ls s → (k : Told old new ls s event) → length new.rest < length old.rest
rest_shorter old new ls s event same read k =
    let whole : text_of ls ++ old.rest ≡ text_of ls ++ (bytes_of k.line ++ new.rest) = sym read.text ∙ sym same ∙ k.read.text ∙ text_more ls k.line new.rest in
    let rest = append_cancel_left (text_of ls) old.rest (bytes_of k.line ++ new.rest) whole in
    let some = positive (bytes_of k.line) (some_bytes k.line k.spelled) in
    omega (arith, ap length rest, length-append (bytes_of k.line) new.rest, some)
  where
    positive : (bytes : List ℕ) → (bytes ≡ [] → ⊥) → 0 < length bytes
    positive [] h = absurd (h refl)
    positive (b ∷ bytes) h = omega arith

    text_more : (ls : List Line) (l : Line) (rest : List ℕ) → text_of (ls ++ l ∷ []) ++ rest ≡ text_of ls ++ (bytes_of l ++ rest)
    text_more [] l rest = ap (λ b. b ++ rest) (append-nil (bytes_of l))
    text_more (x ∷ ls) l rest = append_assoc (bytes_of x) (text_of (ls ++ l ∷ [])) rest ∙ ap (λ r. bytes_of x ++ r) (text_more ls l rest) ∙ sym (append_assoc (bytes_of x) (text_of ls) (bytes_of l ++ rest))

-- which line each state lets come
at_version : (l : Line) (t : State) → Follows AtVersion l t → (version : versions.Version) × (l ≡ Version version) × (t ≡ AtNumbers version)
at_version l t (VersionFollows {version = version}) = (version, refl, refl)

at_numbers : (version : versions.Version) (l : Line) (t : State) → Follows (AtNumbers version) l t → (n : ℕ) × (e : ℕ) × (upper : ℕ) × (l ≡ Numbers n e upper) × (t ≡ AtLower version)
at_numbers version l t (NumbersFollow {n = n} {e = e} {upper = upper}) = (n, e, upper, refl, refl)

at_lower : (version : versions.Version) (l : Line) (t : State) → Follows (AtLower version) l t → (lower : ℕ) × (l ≡ Lower lower) × (t ≡ AtBest version)
at_lower version l t (LowerFollows {lower = lower}) = (lower, refl, refl)

data BestLine (version : versions.Version) (l : Line) (t : State) : Type 0 where
  None' : l ≡ NoBest → t ≡ AtRoot version → BestLine version l t
  Some' : (cost : ℕ) → l ≡ Best cost → t ≡ AtValues version → BestLine version l t

at_best : (version : versions.Version) (l : Line) (t : State) → Follows (AtBest version) l t → BestLine version l t
at_best version l t NoBestFollows = None' refl refl
at_best version l t (BestFollows {cost = cost}) = Some' cost refl refl

at_values : (version : versions.Version) (l : Line) (t : State) → Follows (AtValues version) l t → (values : List ℕ) × (l ≡ Values values) × (t ≡ AtRoot version)
at_values version l t (ValuesFollow {values = values}) = (values, refl, refl)

at_root : (version : versions.Version) (l : Line) (t : State) → Follows (AtRoot version) l t → (l ≡ Root) × (t ≡ AtNodes version ([] ∷ []))
at_root version l t RootFollows = (refl, refl)

no_item_due : {version : versions.Version} {item : Item} {more : List (List PathEvent)} → NodeFollows version [] item more → ⊥
no_item_due follows = elim follows [ ]

at_end : (version : versions.Version) (l : Line) (t : State) → Follows (AtNodes version []) l t → (l ≡ End) × (t ≡ AtOver)
at_end version l t (NodeLineFollows follows) = absurd (no_item_due follows)
at_end version l t EndFollows = (refl, refl)

-- a line that leaves no value to be told
pub goes_on : (old new : Reading) (ls : List Line) (s : State) (event : Event) (l : Line) (t : State) (k : Told old new ls s event) → k.line ≡ l → k.next ≡ t → values_behind l ≡ [] → Stands new (ls ++ l ∷ []) t
goes_on old new ls s event l t k is goes none =
    let R : Line → Type 0 = λ x. HasRead new (ls ++ x ∷ []) k.next in
    let S : State → Type 0 = λ x. HasRead new (ls ++ l ∷ []) x in
    record { read = subst S goes (subst R is k.read); left = k.left ∙ ap values_behind is ∙ none }

-- the lines before the best assignment
pub version_goes : (old new : Reading) (event : Event) → Stands old [] AtVersion → Tells old new [] AtVersion event → (version : versions.Version) × Stands new (Version version ∷ []) (AtNumbers version)
version_goes old new event stands tells =
    let k = told old new [] AtVersion event stands.left (λ e. cc) tells in
    let at = at_version k.line k.next k.follows in
    (at.0, goes_on old new [] AtVersion event (Version at.0) (AtNumbers at.0) k at.1 at.2 refl)

pub numbers_go : (old new : Reading) (ls : List Line) (version : versions.Version) (event : Event) → Stands old ls (AtNumbers version) → Tells old new ls (AtNumbers version) event
    → (n : ℕ) × (e : ℕ) × (upper : ℕ) × (event.item ≡ items.Network n e upper) × Stands new (ls ++ Numbers n e upper ∷ []) (AtLower version)
numbers_go old new ls version event stands tells =
    let k = told old new ls (AtNumbers version) event stands.left (λ e. cc) tells in
    let at = at_numbers version k.line k.next k.follows in
    (at.0, at.1, at.2, k.item ∙ ap item_of at.3, goes_on old new ls (AtNumbers version) event (Numbers at.0 at.1 at.2) (AtLower version) k at.3 at.4 refl)

pub numbers_are : (old new : Reading) (ls : List Line) (version : versions.Version) (event : Event) (n e upper : ℕ) → event.item ≡ items.Network n e upper → Stands old ls (AtNumbers version) → Tells old new ls (AtNumbers version) event → Stands new (ls ++ Numbers n e upper ∷ []) (AtLower version)
numbers_are old new ls version event n e upper is stands tells =
    let it = numbers_go old new ls version event stands tells in
    let both : items.Network it.0 it.1 it.2 ≡ items.Network n e upper = sym it.3 ∙ is in
    let same : Numbers it.0 it.1 it.2 ≡ Numbers n e upper = cc in
    subst (λ l. Stands new (ls ++ l ∷ []) (AtLower version)) same it.4

pub lower_goes : (old new : Reading) (ls : List Line) (version : versions.Version) (event : Event) → Stands old ls (AtLower version) → Tells old new ls (AtLower version) event
    → (lower : ℕ) × (event.item ≡ items.Lower lower) × Stands new (ls ++ Lower lower ∷ []) (AtBest version)
lower_goes old new ls version event stands tells =
    let k = told old new ls (AtLower version) event stands.left (λ e. cc) tells in
    let at = at_lower version k.line k.next k.follows in
    (at.0, k.item ∙ ap item_of at.1, goes_on old new ls (AtLower version) event (Lower at.0) (AtBest version) k at.1 at.2 refl)

pub lower_is : (old new : Reading) (ls : List Line) (version : versions.Version) (event : Event) (lower : ℕ) → event.item ≡ items.Lower lower → Stands old ls (AtLower version) → Tells old new ls (AtLower version) event → Stands new (ls ++ Lower lower ∷ []) (AtBest version)
lower_is old new ls version event lower is stands tells =
    let it = lower_goes old new ls version event stands tells in
    let both : items.Lower it.0 ≡ items.Lower lower = sym it.1 ∙ is in
    let same : it.0 ≡ lower = cc in
    subst (λ n. Stands new (ls ++ Lower n ∷ []) (AtBest version)) same it.2

-- the best assignment
pub data BestTold (new : Reading) (ls : List Line) (version : versions.Version) (event : Event) : Type 0 where
  NoneTold : event.item ≡ items.NoBest → Stands new (ls ++ NoBest ∷ []) (AtRoot version) → BestTold new ls version event
  CostTold : (cost : ℕ) → event.item ≡ items.Best cost → Stands new (ls ++ Best cost ∷ []) (AtValues version) → BestTold new ls version event

pub best_told : (old new : Reading) (ls : List Line) (version : versions.Version) (event : Event) → Stands old ls (AtBest version) → Tells old new ls (AtBest version) event → BestTold new ls version event
best_told old new ls version event stands tells = by_line (told old new ls (AtBest version) event stands.left (λ e. cc) tells)
  where
    by_line : Told old new ls (AtBest version) event → BestTold new ls version event
    by_line k = elim (at_best version k.line k.next k.follows) [
      | None' is next ↦ NoneTold (k.item ∙ ap item_of is) (goes_on old new ls (AtBest version) event NoBest (AtRoot version) k is next refl)
      | Some' cost is next ↦ CostTold cost (k.item ∙ ap item_of is) (goes_on old new ls (AtBest version) event (Best cost) (AtValues version) k is next refl)
    ]

pub none_goes : (old new : Reading) (ls : List Line) (version : versions.Version) (event : Event) → event.item ≡ items.NoBest → Stands old ls (AtBest version) → Tells old new ls (AtBest version) event → Stands new (ls ++ NoBest ∷ []) (AtRoot version)
none_goes old new ls version event is stands tells = elim (best_told old new ls version event stands tells) [
  | NoneTold _ goes ↦ goes
  | CostTold cost at goes ↦ absurd (let both : items.NoBest ≡ items.Best cost = sym is ∙ at in cc)
]

pub cost_goes : (old new : Reading) (ls : List Line) (version : versions.Version) (event : Event) (cost : ℕ) → event.item ≡ items.Best cost → Stands old ls (AtBest version) → Tells old new ls (AtBest version) event → Stands new (ls ++ Best cost ∷ []) (AtValues version)
cost_goes old new ls version event cost is stands tells = by_case (best_told old new ls version event stands tells)
  where
    by_case : BestTold new ls version event → Stands new (ls ++ Best cost ∷ []) (AtValues version)
    by_case (NoneTold at goes) = absurd (let both : items.NoBest ≡ items.Best cost = sym at ∙ is in cc)
    by_case (CostTold other at goes) =
        let both : items.Best other ≡ items.Best cost = sym at ∙ is in
        let same : other ≡ cost = cc in
        subst (λ n. Stands new (ls ++ Best n ∷ []) (AtValues version)) same goes

pub root_goes : (old new : Reading) (ls : List Line) (version : versions.Version) (event : Event) → Stands old ls (AtRoot version) → Tells old new ls (AtRoot version) event → Stands new (ls ++ Root ∷ []) (AtNodes version ([] ∷ []))
root_goes old new ls version event stands tells =
    let k = told old new ls (AtRoot version) event stands.left (λ e. cc) tells in
    let at = at_root version k.line k.next k.follows in
    goes_on old new ls (AtRoot version) event Root (AtNodes version ([] ∷ [])) k at.0 at.1 refl

-- the values of the best assignment: the first, and so many of the others as were told
pub record FirstValue (new : Reading) (ls : List Line) (version : versions.Version) (event : Event) : Type 0 where
  pub first : ℕ
  pub item : event.item ≡ items.Value first
  pub read : HasRead new (ls ++ Values (first ∷ new.left) ∷ []) (AtRoot version)

first_of : (old new : Reading) (ls : List Line) (version : versions.Version) (event : Event) (k : Told old new ls (AtValues version) event) (values : List ℕ) → k.line ≡ Values values → k.next ≡ AtRoot version → FirstValue new ls version event
first_of old new ls version event k [] line next =
    let S : Line → Type 0 = IsSpelledLine in
    let none = subst S line k.spelled in
    absurd (omega (arith, none.0))
first_of old new ls version event k (a ∷ values) line next =
    let left : new.left ≡ values = k.left ∙ ap values_behind line in
    let R : Line → Type 0 = λ l. HasRead new (ls ++ l ∷ []) k.next in
    let S : State → Type 0 = λ s. HasRead new (ls ++ Values (a ∷ values) ∷ []) s in
    let V : List ℕ → Type 0 = λ vs. HasRead new (ls ++ Values (a ∷ vs) ∷ []) (AtRoot version) in
    record { first = a; item = k.item ∙ ap item_of line; read = subst V (sym left) (subst S next (subst R line k.read)) }

pub first_value : (old new : Reading) (ls : List Line) (version : versions.Version) (event : Event) → Stands old ls (AtValues version) → Tells old new ls (AtValues version) event → FirstValue new ls version event
first_value old new ls version event stands tells =
    let k = told old new ls (AtValues version) event stands.left (λ e. cc) tells in
    let at = at_values version k.line k.next k.follows in
    first_of old new ls version event k at.0 at.1 at.2

pub first_is : (old new : Reading) (ls : List Line) (version : versions.Version) (event : Event) (value : ℕ) → event.item ≡ items.Value value → Stands old ls (AtValues version) → Tells old new ls (AtValues version) event → HasRead new (ls ++ Values (value ∷ new.left) ∷ []) (AtRoot version)
first_is old new ls version event value is stands tells =
    let it = first_value old new ls version event stands tells in
    let both : items.Value it.first ≡ items.Value value = sym it.item ∙ is in
    let same : it.first ≡ value = cc in
    subst (λ n. HasRead new (ls ++ Values (n ∷ new.left) ∷ []) (AtRoot version)) same it.read

-- one value more, which was the next that was left
pub record NextOne (old new : Reading) (ls : List Line) (version : versions.Version) (value : ℕ) : Type 0 where
  pub left : old.left ≡ value ∷ new.left
  pub read : HasRead new ls (AtRoot version)

pub next_value : (old new : Reading) (ls : List Line) (version : versions.Version) (event : Event) (value : ℕ) → event.item ≡ items.Value value → HasRead old ls (AtRoot version) → Tells old new ls (AtRoot version) event → NextOne old new ls version value
next_value old new ls version event value is read (NextLine l t none item _ follows _ _ _) = absurd (let both = sym is ∙ item ∙ ap item_of (at_root version l t follows).0 in cc)
next_value old new ls version event value is read (NextValue a item _ left same) =
    let both : items.Value a ≡ items.Value value = sym item ∙ is in
    let one : a ≡ value = cc in
    record { left = left ∙ ap (λ n. n ∷ new.left) one; read = rw same (record { text = read.text; count = read.count; due = read.due; run = read.run; spelled = read.spelled }) }
next_value old new ls version event value is read (NothingLeft _ _ over _ _ _) = absurd (cc)

-- no value more: then none was left, and the tree begins
pub no_value : (old new : Reading) (ls : List Line) (version : versions.Version) (event : Event) → ((value : ℕ) → event.item ≡ items.Value value → ⊥) → HasRead old ls (AtRoot version) → Tells old new ls (AtRoot version) event → (old.left ≡ []) × Stands new (ls ++ Root ∷ []) (AtNodes version ([] ∷ []))
no_value old new ls version event not read (NextLine l t none item number follows spelled left more) =
    (none, root_goes old new ls version event (record { read = read; left = none }) (NextLine l t none item number follows spelled left more))
no_value old new ls version event not read (NextValue a item _ left same) = absurd (not a item)
no_value old new ls version event not read (NothingLeft _ _ over _ _ _) = absurd (cc)

-- the last line, and nothing behind it
pub end_goes : (old new : Reading) (ls : List Line) (version : versions.Version) (event : Event) → Stands old ls (AtNodes version []) → Tells old new ls (AtNodes version []) event → Stands new (ls ++ End ∷ []) AtOver
end_goes old new ls version event stands tells =
    let k = told old new ls (AtNodes version []) event stands.left (λ e. cc) tells in
    let at = at_end version k.line k.next k.follows in
    goes_on old new ls (AtNodes version []) event End AtOver k at.0 at.1 refl

pub nothing_behind : (old new : Reading) (ls : List Line) (event : Event) → Stands old ls AtOver → Tells old new ls AtOver event → old.rest ≡ []
nothing_behind old new ls event stands (NextLine l t _ _ _ follows _ _ _) = absurd (nothing l t follows)
  where
    nothing : (l : Line) (t : State) → Follows AtOver l t → ⊥
    nothing l t follows = elim follows [ ]
nothing_behind old new ls event stands (NextValue a _ _ some _) = absurd (let e = sym stands.left ∙ some in cc)
nothing_behind old new ls event stands (NothingLeft _ _ _ rest _ _) = rest

-- one value more behind those so far, and the whole line
pub values_go : (old new : Reading) (ls : List Line) (version : versions.Version) (event : Event) (value : ℕ) (values more : List ℕ) → more ≡ values ++ value ∷ [] → event.item ≡ items.Value value → HasRead old (ls ++ Values (values ++ old.left) ∷ []) (AtRoot version)
    → ((ls : List Line) (s : State) → HasRead old ls s → Tells old new ls s event) → HasRead new (ls ++ Values (more ++ new.left) ∷ []) (AtRoot version)
values_go old new ls version event value values more is value_is read tells =
    let front = ls ++ Values (values ++ old.left) ∷ [] in
    let one = next_value old new front version event value value_is read (tells front (AtRoot version) read) in
    let same : values ++ old.left ≡ more ++ new.left = ap (λ vs. values ++ vs) one.left ∙ sym (append_assoc values (value ∷ []) new.left) ∙ ap (λ vs. vs ++ new.left) (sym is) in
    subst (λ (vs : List ℕ). HasRead new (ls ++ Values vs ∷ []) (AtRoot version)) same one.read

pub fewer_left : (old new : Reading) (ls : List Line) (version : versions.Version) (event : Event) (value : ℕ) → event.item ≡ items.Value value → HasRead old ls (AtRoot version) → Tells old new ls (AtRoot version) event → length new.left < length old.left
fewer_left old new ls version event value is read tells =
    let one = next_value old new ls version event value is read tells in
    omega (arith, ap length one.left)

pub values_over : (old new : Reading) (ls : List Line) (version : versions.Version) (event : Event) (values : List ℕ) → ((value : ℕ) → event.item ≡ items.Value value → ⊥) → HasRead old (ls ++ Values (values ++ old.left) ∷ []) (AtRoot version)
    → ((ls : List Line) (s : State) → HasRead old ls s → Tells old new ls s event) → Stands new (ls ++ Values values ∷ Root ∷ []) (AtNodes version ([] ∷ []))
values_over old new ls version event values not read tells =
    let front = ls ++ Values (values ++ old.left) ∷ [] in
    let it = no_value old new front version event not read (tells front (AtRoot version) read) in
    let same : values ++ old.left ≡ values = ap (λ vs. values ++ vs) it.0 ∙ append-nil values in
    let lines : front ++ Root ∷ [] ≡ ls ++ Values values ∷ Root ∷ [] = append_assoc ls (Values (values ++ old.left) ∷ []) (Root ∷ []) ∙ ap (λ (vs : List ℕ). ls ++ Values vs ∷ Root ∷ []) same in
    subst (λ (xs : List Line). Stands new xs (AtNodes version ([] ∷ []))) lines it.1

-- the lines of the best assignment as a whole
pub no_best_read : (old mid new : Reading) (ls : List Line) (version : versions.Version) (event root : Event) → event.item ≡ items.NoBest → Stands old ls (AtBest version) → Tells old mid ls (AtBest version) event
    → ((ls : List Line) (s : State) → HasRead mid ls s → Tells mid new ls s root) → Stands new (ls ++ NoBest ∷ Root ∷ []) (AtNodes version ([] ∷ []))
no_best_read old mid new ls version event root is stands tells tells_root =
    let none = none_goes old mid ls version event is stands tells in
    let begun = root_goes mid new (ls ++ NoBest ∷ []) version root none (tells_root (ls ++ NoBest ∷ []) (AtRoot version) none.read) in
    subst (λ (xs : List Line). Stands new xs (AtNodes version ([] ∷ []))) (append_assoc ls (NoBest ∷ []) (Root ∷ [])) begun

pub best_read : (new : Reading) (ls : List Line) (version : versions.Version) (cost : ℕ) (values : List ℕ) → Stands new ((ls ++ Best cost ∷ []) ++ Values values ∷ Root ∷ []) (AtNodes version ([] ∷ [])) → Stands new (ls ++ Best cost ∷ Values values ∷ Root ∷ []) (AtNodes version ([] ∷ []))
best_read new ls version cost values stands = subst (λ (xs : List Line). Stands new xs (AtNodes version ([] ∷ []))) (append_assoc ls (Best cost ∷ []) (Values values ∷ Root ∷ [])) stands

pub no_other_best : (new : Reading) (ls : List Line) (version : versions.Version) (event : Event) → (event.item ≡ items.NoBest → ⊥) → ((cost : ℕ) → event.item ≡ items.Best cost → ⊥) → BestTold new ls version event → ⊥
no_other_best new ls version event not_none not_cost (NoneTold is goes) = not_none is
no_other_best new ls version event not_none not_cost (CostTold cost is goes) = not_cost cost is
