-- What the reader's events tell of the line that was due.
use Rattle.std.proofs.Common.{◌≡◌, ℕ, ◌+◌, List, [], ◌∷◌, ◌++◌, length, refl, sym, ap, ◌∙◌, subst, length-append}
use Rattle.cfn_model.specs.declared.step.Event.{Event as PathEvent}
use Rattle.cfn_model.specs.declared.version.Version as versions
use Rattle.cfn_model.specs.Network.{Network}
use Rattle.cfn_fault.specs.declared.kind.FaultKind.{FaultKind}
use Rattle.cfn_fault.specs.declared.kind.FaultKind.TheVariants as kinds
use Rattle.cfn_fault.specs.Nodes.{Item, paths_after, NodeFollows, ItemFollows}
use Rattle.cfn_fault.specs.Fault.{Fault, Begins}
use Rattle.cfn_fault.specs.Lines.{Line, Version, Numbers, Lower, NoBest, Best, Values, Root, Node, End, State, AtVersion, AtNumbers, AtLower, AtBest, AtValues, AtRoot, AtNodes, AtOver, Follows, VersionFollows, NumbersFollow, LowerFollows, NoBestFollows, BestFollows, ValuesFollow, RootFollows, NodeLineFollows, EndFollows, text_of}
use Rattle.cfn_fault.specs.Judging.{LineFails, LinePasses}
use Rattle.cfn_fault.specs.Laws.{Fronts}
use Rattle.cfn_fault.proofs.CallerLemmas.{text_faults, line_faults, one_more}
use Rattle.cfn_certtext.specs.declared.event.Event.{Event}
use Rattle.cfn_certtext.specs.declared.event.Item.TheVariants as items
use Rattle.cfn_certtext.specs.Reading.{Reading, HasRead, Tells, NextLine, NextValue, NothingLeft, NoneBegins, item_of, values_behind}
use Rattle.cfn_check.specs.Checking.{Right, IsBegun, IsNumbered, IsBounded, IsAll, front_lines}

-- the next line was told
pub record Told (old new : Reading) (ls : List Line) (s : State) (event : Event) : Type 0 where
  pub line : Line
  pub next : State
  pub item : event.item ≡ item_of line
  pub number : event.line ≡ new.count
  pub follows : Follows s line next
  pub left : new.left ≡ values_behind line
  pub read : HasRead new (ls ++ line ∷ []) next

pub told : (old new : Reading) (ls : List Line) (s : State) (event : Event) → old.left ≡ [] → (s ≡ AtOver → ⊥) → Tells old new ls s event → Told old new ls s event
told old new ls s event none more (NextLine l t _ item number follows _ left read) = record { line = l; next = t; item = item; number = number; follows = follows; left = left; read = read }
told old new ls s event none more (NextValue a _ _ some _) = absurd (let e = sym none ∙ some in cc)
told old new ls s event none more (NothingLeft _ _ over _ _ _) = absurd (more over)

-- a line that is right leaves all right
pub right_more : (P : Network) (old new : Reading) (ls : List Line) (s : State) (event : Event) (t : Told old new ls s event) → Right P old ls s → values_behind t.line ≡ [] → LinePasses P ls s t.line → Right P new (ls ++ t.line ∷ []) t.next
right_more P old new ls s event t right none passes = record {
  read = t.read;
  left = t.left ∙ none;
  pass = one_more P ls s t.line right.read.run right.pass passes;
}

pub number_is : (old new : Reading) (ls : List Line) (s : State) (event : Event) (t : Told old new ls s event) → event.line ≡ length ls + 1
number_is old new ls s event t = t.number ∙ t.read.count ∙ length-append ls (t.line ∷ [])

-- a line that fails is the fault
pub line_stops : (P : Network) (old new : Reading) (ls : List Line) (s : State) (event : Event) (kind : FaultKind) (t : Told old new ls s event) → new.text ≡ old.text → Right P old ls s → LineFails P ls s t.line kind → Fault P old.text event.line kind
line_stops P old new ls s event kind t same right fails =
    let at = number_is old new ls s event t in
    let fronts : Fronts old.text new.rest (ls ++ t.line ∷ []) t.next = record { text = sym same ∙ t.read.text; run = t.read.run; spelled = t.read.spelled } in
    let F : ℕ → Type 0 = λ n. Fault P old.text n kind in
    subst F (sym at) (line_faults P old.text new.rest ls s t.next t.line kind right.read.run fronts right.pass fails)

-- a line that does not follow the grammar is the fault
pub text_stops : (P : Network) (old : Reading) (ls : List Line) (s : State) (line : ℕ) → line ≡ old.count + 1 → Right P old ls s → NoneBegins old → Fault P old.text line kinds.Text
text_stops P old ls s line at right never =
    let n : line ≡ length ls + 1 = at ∙ ap (λ m. m + 1) right.read.count in
    let fronts : Fronts old.text old.rest ls s = record { text = right.read.text; run = right.read.run; spelled = right.read.spelled } in
    let F : ℕ → Type 0 = λ m. Fault P old.text m kinds.Text in
    subst F (sym n) (text_faults P old.text old.rest ls s fronts right.pass (λ c spelled begins. never c spelled (subst (λ m. Begins c old.text m) (ap (λ m. m + 1) (sym right.read.count)) begins)))

-- which line each state lets come
pub at_version : (l : Line) (t : State) → Follows AtVersion l t → (version : versions.Version) × (l ≡ Version version) × (t ≡ AtNumbers version)
at_version l t (VersionFollows {version = version}) = (version, refl, refl)

pub at_numbers : (version : versions.Version) (l : Line) (t : State) → Follows (AtNumbers version) l t → (n : ℕ) × (e : ℕ) × (upper : ℕ) × (l ≡ Numbers n e upper) × (t ≡ AtLower version)
at_numbers version l t (NumbersFollow {n = n} {e = e} {upper = upper}) = (n, e, upper, refl, refl)

pub at_lower : (version : versions.Version) (l : Line) (t : State) → Follows (AtLower version) l t → (lower : ℕ) × (l ≡ Lower lower) × (t ≡ AtBest version)
at_lower version l t (LowerFollows {lower = lower}) = (lower, refl, refl)

pub data BestLine (version : versions.Version) (l : Line) (t : State) : Type 0 where
  None' : l ≡ NoBest → t ≡ AtRoot version → BestLine version l t
  Some' : (cost : ℕ) → l ≡ Best cost → t ≡ AtValues version → BestLine version l t

pub at_best : (version : versions.Version) (l : Line) (t : State) → Follows (AtBest version) l t → BestLine version l t
at_best version l t NoBestFollows = None' refl refl
at_best version l t (BestFollows {cost = cost}) = Some' cost refl refl

pub at_values : (version : versions.Version) (l : Line) (t : State) → Follows (AtValues version) l t → (values : List ℕ) × (l ≡ Values values) × (t ≡ AtRoot version)
at_values version l t (ValuesFollow {values = values}) = (values, refl, refl)

pub at_root : (version : versions.Version) (l : Line) (t : State) → Follows (AtRoot version) l t → (l ≡ Root) × (t ≡ AtNodes version ([] ∷ []))
at_root version l t RootFollows = (refl, refl)

behind_item : {version : versions.Version} {history : List PathEvent} {paths more : List (List PathEvent)} {item : Item} → NodeFollows version (history ∷ paths) item more → more ≡ paths_after history item ++ paths
behind_item (ItemFollows has) = refl

pub at_nodes : (version : versions.Version) (history : List PathEvent) (paths : List (List PathEvent)) (l : Line) (t : State) → Follows (AtNodes version (history ∷ paths)) l t → (item : Item) × (l ≡ Node item) × (t ≡ AtNodes version (paths_after history item ++ paths))
at_nodes version history paths l t (NodeLineFollows {item = item} follows) = (item, refl, ap (AtNodes version) (behind_item follows))

no_item_due : {version : versions.Version} {item : Item} {more : List (List PathEvent)} → NodeFollows version [] item more → ⊥
no_item_due follows = elim follows [ ]

pub at_end : (version : versions.Version) (l : Line) (t : State) → Follows (AtNodes version []) l t → (l ≡ End) × (t ≡ AtOver)
at_end version l t (NodeLineFollows follows) = absurd (no_item_due follows)
at_end version l t EndFollows = (refl, refl)

pub line_right : (P : Network) (old new : Reading) (ls : List Line) (s : State) (event : Event) (l : Line) (t : State) (k : Told old new ls s event) → k.line ≡ l → k.next ≡ t → values_behind l ≡ [] → LinePasses P ls s l → Right P old ls s → Right P new (ls ++ l ∷ []) t
line_right P old new ls s event l t k is goes none passes right =
    let Q : Line → Type 0 = λ x. LinePasses P ls s x in
    let R : Line → Type 0 = λ x. Right P new (ls ++ x ∷ []) k.next in
    let S : State → Type 0 = λ x. Right P new (ls ++ l ∷ []) x in
    subst S goes (subst R is (right_more P old new ls s event k right (ap values_behind is ∙ none) (subst Q (sym is) passes)))

pub version_right : (P : Network) (old new : Reading) (event : Event) → Right P old [] AtVersion → Tells old new [] AtVersion event → IsBegun P new
version_right P old new event right tells =
    let k = told old new [] AtVersion event right.left (λ e. cc) tells in
    let at = at_version k.line k.next k.follows in
    (at.0, line_right P old new [] AtVersion event (Version at.0) (AtNumbers at.0) k at.1 at.2 refl tt right)

pub root_right : (P : Network) (old new : Reading) (ls : List Line) (version : versions.Version) (event : Event) → Right P old ls (AtRoot version) → Tells old new ls (AtRoot version) event → Right P new (ls ++ Root ∷ []) (AtNodes version ([] ∷ []))
root_right P old new ls version event right tells =
    let k = told old new ls (AtRoot version) event right.left (λ e. cc) tells in
    let at = at_root version k.line k.next k.follows in
    line_right P old new ls (AtRoot version) event Root (AtNodes version ([] ∷ [])) k at.0 at.1 refl tt right

-- the lower bound
pub lower_told : (old new : Reading) (ls : List Line) (version : versions.Version) (event : Event) → old.left ≡ [] → Tells old new ls (AtLower version) event → (lower : ℕ) × (event.item ≡ items.Lower lower)
lower_told old new ls version event none tells =
    let k = told old new ls (AtLower version) event none (λ e. cc) tells in
    let at = at_lower version k.line k.next k.follows in
    (at.0, k.item ∙ ap item_of at.1)

pub lower_right : (P : Network) (old new : Reading) (event : Event) (lower : ℕ) → event.item ≡ items.Lower lower → (numbered : IsNumbered P old) → Tells old new (front_lines numbered.0 P) (AtLower numbered.0) event → IsBounded P new lower
lower_right P old new event lower is numbered tells =
    let version = numbered.0 in
    let ls = front_lines version P in
    let k = told old new ls (AtLower version) event numbered.1.left (λ e. cc) tells in
    let at = at_lower version k.line k.next k.follows in
    let both : items.Lower at.0 ≡ items.Lower lower = sym (ap item_of at.1) ∙ sym k.item ∙ is in
    let same : at.0 ≡ lower = cc in
    (version, line_right P old new ls (AtLower version) event (Lower lower) (AtBest version) k (at.1 ∙ ap Lower same) at.2 refl tt numbered.1)

-- the network's numbers
pub numbers_told : (old new : Reading) (ls : List Line) (version : versions.Version) (event : Event) → old.left ≡ [] → Tells old new ls (AtNumbers version) event → (n : ℕ) × (e : ℕ) × (upper : ℕ) × (event.item ≡ items.Network n e upper)
numbers_told old new ls version event none tells =
    let k = told old new ls (AtNumbers version) event none (λ e. cc) tells in
    let at = at_numbers version k.line k.next k.follows in
    (at.0, at.1, at.2, k.item ∙ ap item_of at.3)

numbers_line : (old new : Reading) (ls : List Line) (version : versions.Version) (event : Event) (n e upper : ℕ) (k : Told old new ls (AtNumbers version) event) → event.item ≡ items.Network n e upper → k.line ≡ Numbers n e upper
numbers_line old new ls version event n e upper k is =
    let at = at_numbers version k.line k.next k.follows in
    let both : items.Network at.0 at.1 at.2 ≡ items.Network n e upper = sym (ap item_of at.3) ∙ sym k.item ∙ is in
    let line : k.line ≡ Numbers at.0 at.1 at.2 = at.3 in
    cc

pub numbers_right : (P : Network) (old new : Reading) (event : Event) (n e upper : ℕ) → event.item ≡ items.Network n e upper → (n ≡ length P.sizes) × (e ≡ length P.functions) × (upper ≡ P.upper) → (begun : IsBegun P old) → Tells old new (Version begun.0 ∷ []) (AtNumbers begun.0) event → IsNumbered P new
numbers_right P old new event n e upper is same begun tells =
    let version = begun.0 in
    let ls = Version version ∷ [] in
    let k = told old new ls (AtNumbers version) event begun.1.left (λ e. cc) tells in
    let at = at_numbers version k.line k.next k.follows in
    let line = numbers_line old new ls version event n e upper k is in
    let is_n = same.0 in
    let is_e = same.1 in
    let is_upper = same.2 in
    let due : Numbers n e upper ≡ Numbers (length P.sizes) (length P.functions) P.upper = cc in
    (version, line_right P old new ls (AtNumbers version) event (Numbers (length P.sizes) (length P.functions) P.upper) (AtLower version) k (line ∙ due) at.4 refl (refl, refl, refl) begun.1)

pub numbers_stop : (P : Network) (old new : Reading) (event : Event) (n e upper : ℕ) → event.item ≡ items.Network n e upper → ((n ≡ length P.sizes) × (e ≡ length P.functions) × (upper ≡ P.upper) → ⊥) → new.text ≡ old.text → (begun : IsBegun P old) → Tells old new (Version begun.0 ∷ []) (AtNumbers begun.0) event → Fault P old.text event.line kinds.Network
numbers_stop P old new event n e upper is other text begun tells =
    let version = begun.0 in
    let ls = Version version ∷ [] in
    let k = told old new ls (AtNumbers version) event begun.1.left (λ e. cc) tells in
    let line = numbers_line old new ls version event n e upper k is in
    let F : Line → Type 0 = λ x. LineFails P ls (AtNumbers version) x kinds.Network in
    line_stops P old new ls (AtNumbers version) event kinds.Network k text begun.1 (subst F (sym line) (refl, other))

pub end_right : (P : Network) (old new : Reading) (ls : List Line) (version : versions.Version) (event : Event) → Right P old ls (AtNodes version []) → Tells old new ls (AtNodes version []) event → Right P new (ls ++ End ∷ []) AtOver
end_right P old new ls version event right tells =
    let k = told old new ls (AtNodes version []) event right.left (λ e. cc) tells in
    let at = at_end version k.line k.next k.follows in
    line_right P old new ls (AtNodes version []) event End AtOver k at.0 at.1 refl tt right

-- the end
pub all_read : (P : Network) (old mid new : Reading) (ls : List Line) (version : versions.Version) (event over : Event) → mid.text ≡ old.text → Right P old ls (AtNodes version []) → Tells old mid ls (AtNodes version []) event → Tells mid new (ls ++ End ∷ []) AtOver over → IsAll P old.text (ls ++ End ∷ [])
all_read P old mid new ls version event over text right tells last =
    let right' = end_right P old mid ls version event right tells in
    finished P old mid new (ls ++ End ∷ []) over text right' last
  where
    finished : (P : Network) (old mid new : Reading) (ls : List Line) (over : Event) → mid.text ≡ old.text → Right P mid ls AtOver → Tells mid new ls AtOver over → IsAll P old.text ls
    finished P old mid new ls over text right (NextLine l t _ _ _ follows _ _ _) = absurd (nothing l t follows)
      where
        nothing : (l : Line) (t : State) → Follows AtOver l t → ⊥
        nothing l t follows = elim follows [ ]
    finished P old mid new ls over text right (NextValue a _ _ some _) = absurd (let e = sym right.left ∙ some in cc)
    finished P old mid new ls over text right (NothingLeft _ _ _ rest _ _) = record {
      fronts = record { text = sym text ∙ right.read.text ∙ ap (λ r. text_of ls ++ r) rest; run = right.read.run; spelled = right.read.spelled };
      pass = right.pass;
    }
