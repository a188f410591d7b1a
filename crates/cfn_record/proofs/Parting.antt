-- The lines of a record say what it is.
use Rattle.std.proofs.Common.{◌≡◌, ℕ, List, [], ◌∷◌, ◌++◌, map, refl, sym, ap, ap₂, subst, ◌∙◌, append_assoc}
use Rattle.std.proofs.lemmas.List.{map-append}
use Rattle.std.specs.Prelude.{Option, Some, None}
use Rattle.cfn_model.specs.declared.step.Step.{Step}
use Rattle.cfn_model.specs.declared.step.Decision.{Decision}
use Rattle.cfn_model.specs.Tree.{Tree, Open, Closed, Split}
use Rattle.cfn_model.specs.Certificate.{Solution}
use Rattle.cfn_fault.specs.Nodes.{Item, Makes, LeavesOpen, Closes, Splits}
use Rattle.cfn_fault.specs.Lines as lines
use Rattle.cfn_fault.specs.Lines.{Line}
use Rattle.cfn_record.specs.Entries.{Entry, Took, Gave, Freed, CalledBack, Swept}
use Rattle.cfn_record.specs.Lines.{Record, RecordLine, Heading, Budget, Take, Give, Back, Recall, Sweep, Says, said, lines_of_tree, lines_of_entry, lines_of_entries, lines_of_best, lines_of}
use Rattle.cfn_record.specs.Laws.{OneRecord}
use Rattle.cfn_record.proofs.Spelling.{heads, tails, same_lines}

abbrev node : Item → RecordLine
node item = Says (lines.Node item)

-- the lines of a block, and the item that ends it
abbrev block_lines : List Step → List RecordLine
block_lines block = said (map (λ step. lines.Node (Makes step)) block)

abbrev EndsBlock : Item → Type 0
EndsBlock (Makes step) = ⊥
EndsBlock LeavesOpen = Unit {0}
EndsBlock Closes = Unit {0}
EndsBlock (Splits d) = Unit {0}

same_item : {i j : Item} → node i ≡ node j → i ≡ j
same_item e = cc

same_step : {a b : Step} → Makes a ≡ Makes b → a ≡ b
same_step e = cc

same_block : (b c : List Step) (i j : Item) (r s : List RecordLine) → EndsBlock i → EndsBlock j → block_lines b ++ node i ∷ r ≡ block_lines c ++ node j ∷ s → (b ≡ c) × (i ≡ j) × (r ≡ s)
same_block [] [] i j r s ends other e = (refl, same_item (heads e), tails e)
same_block [] (y ∷ c) i j r s ends other e = absurd (subst EndsBlock (same_item (heads e)) ends)
same_block (x ∷ b) [] i j r s ends other e = absurd (subst EndsBlock (sym (same_item (heads e))) other)
same_block (x ∷ b) (y ∷ c) i j r s ends other e =
    let more = same_block b c i j r s ends other (tails e) in
    (ap₂ (λ z zs. z ∷ zs) (same_step (same_item (heads e))) more.0, more.1, more.2)

-- a tree by its lines: a block, its end, and what stands behind that
abbrev block_of : Tree → List Step
block_of (Open block) = block
block_of (Closed block) = block
block_of (Split block d first second) = block

abbrev end_of : Tree → Item
end_of (Open block) = LeavesOpen
end_of (Closed block) = Closes
end_of (Split block d first second) = Splits d

abbrev behind : Tree → List RecordLine → List RecordLine
behind (Open block) rest = rest
behind (Closed block) rest = rest
behind (Split block d first second) rest = lines_of_tree first ++ (lines_of_tree second ++ rest)

pub said_append : (a b : List Line) → said (a ++ b) ≡ said a ++ said b
said_append a b = map-append (λ l. Says l) a b

with_end : (block : List Step) (ls : List Line) (rest : List RecordLine) → said (map (λ step. lines.Node (Makes step)) block ++ ls) ++ rest ≡ block_lines block ++ (said ls ++ rest)
with_end block ls rest = ap (λ x. x ++ rest) (said_append (map (λ step. lines.Node (Makes step)) block) ls) ∙ append_assoc (block_lines block) (said ls) rest

parted : (tree : Tree) (rest : List RecordLine) → lines_of_tree tree ++ rest ≡ block_lines (block_of tree) ++ node (end_of tree) ∷ behind tree rest
parted (Open block) rest = with_end block (lines.Node LeavesOpen ∷ []) rest
parted (Closed block) rest = with_end block (lines.Node Closes ∷ []) rest
parted (Split block d first second) rest =
    with_end block (lines.Node (Splits d) ∷ (lines.lines_of_tree first ++ lines.lines_of_tree second)) rest
    ∙ ap (λ r. block_lines block ++ node (Splits d) ∷ (r ++ rest)) (said_append (lines.lines_of_tree first) (lines.lines_of_tree second))
    ∙ ap (λ r. block_lines block ++ node (Splits d) ∷ r) (append_assoc (lines_of_tree first) (lines_of_tree second) rest)

ends_block : (tree : Tree) → EndsBlock (end_of tree)
ends_block (Open block) = tt
ends_block (Closed block) = tt
ends_block (Split block d first second) = tt

same_decision : {d e : Decision} → Splits d ≡ Splits e → d ≡ e
same_decision same = cc

split_of : {b c : List Step} {d e : Decision} {t t' u u' : Tree} → b ≡ c → d ≡ e → t ≡ t' → u ≡ u' → Split b d t u ≡ Split c e t' u'
split_of f g h i = cc

-- two trees whose lines begin one text begin alike
begins : (t u : Tree) (rest more : List RecordLine) → lines_of_tree t ++ rest ≡ lines_of_tree u ++ more → (block_of t ≡ block_of u) × (end_of t ≡ end_of u) × (behind t rest ≡ behind u more)
begins t u rest more e = same_block (block_of t) (block_of u) (end_of t) (end_of u) (behind t rest) (behind u more) (ends_block t) (ends_block u) (sym (parted t rest) ∙ e ∙ parted u more)

pub same_tree : (t u : Tree) (rest more : List RecordLine) → lines_of_tree t ++ rest ≡ lines_of_tree u ++ more → (t ≡ u) × (rest ≡ more)
same_tree (Open b) (Open c) rest more e = let same = begins (Open b) (Open c) rest more e in (ap Open same.0, same.2)
same_tree (Closed b) (Closed c) rest more e = let same = begins (Closed b) (Closed c) rest more e in (ap Closed same.0, same.2)
same_tree (Split b d t t') (Split c d' u u') rest more e =
    let same = begins (Split b d t t') (Split c d' u u') rest more e in
    let first = same_tree t u (lines_of_tree t' ++ rest) (lines_of_tree u' ++ more) same.2 in
    let second = same_tree t' u' rest more first.1 in
    (split_of same.0 (same_decision same.1) first.0 second.0, second.1)
same_tree (Open b) (Closed c) rest more e = absurd (let k : LeavesOpen ≡ Closes = (begins (Open b) (Closed c) rest more e).1 in cc)
same_tree (Closed b) (Open c) rest more e = absurd (let k : Closes ≡ LeavesOpen = (begins (Closed b) (Open c) rest more e).1 in cc)
same_tree (Open b) (Split c d' u u') rest more e = absurd (let k : LeavesOpen ≡ Splits d' = (begins (Open b) (Split c d' u u') rest more e).1 in cc)
same_tree (Closed b) (Split c d' u u') rest more e = absurd (let k : Closes ≡ Splits d' = (begins (Closed b) (Split c d' u u') rest more e).1 in cc)
same_tree (Split b d t t') (Open c) rest more e = absurd (let k : Splits d ≡ LeavesOpen = (begins (Split b d t t') (Open c) rest more e).1 in cc)
same_tree (Split b d t t') (Closed c) rest more e = absurd (let k : Splits d ≡ Closes = (begins (Split b d t t') (Closed c) rest more e).1 in cc)

-- an entry by its first line and what stands behind that
abbrev first_of : Entry → RecordLine
first_of (Took worker want leaf grant) = Take worker want leaf grant
first_of (Gave worker leaf grant threshold seen tree) = Give worker leaf grant threshold seen
first_of (Freed worker leaf grant) = Back worker leaf grant
first_of CalledBack = Recall
first_of (Swept seen) = Sweep seen

abbrev others_of : Entry → List RecordLine
others_of (Took worker want leaf grant) = []
others_of (Gave worker leaf grant threshold seen tree) = lines_of_tree tree
others_of (Freed worker leaf grant) = []
others_of CalledBack = []
others_of (Swept seen) = []

pub entry_lines : (entry : Entry) → lines_of_entry entry ≡ first_of entry ∷ others_of entry
entry_lines (Took worker want leaf grant) = refl
entry_lines (Gave worker leaf grant threshold seen tree) = refl
entry_lines (Freed worker leaf grant) = refl
entry_lines CalledBack = refl
entry_lines (Swept seen) = refl

-- the entries of one text are the same, up to a line that is no event
abbrev pub IsEvent : RecordLine → Type 0
IsEvent Heading = ⊥
IsEvent (Budget budget) = ⊥
IsEvent (Take worker want leaf grant) = Unit {0}
IsEvent (Give worker leaf grant threshold seen) = Unit {0}
IsEvent (Back worker leaf grant) = Unit {0}
IsEvent Recall = Unit {0}
IsEvent (Sweep seen) = Unit {0}
IsEvent (Says l) = ⊥

abbrev pub NoEvent : List RecordLine → Type 0
NoEvent [] = Unit {0}
NoEvent (l ∷ ls) = IsEvent l → ⊥

is_event : (entry : Entry) → IsEvent (first_of entry)
is_event (Took worker want leaf grant) = tt
is_event (Gave worker leaf grant threshold seen tree) = tt
is_event (Freed worker leaf grant) = tt
is_event CalledBack = tt
is_event (Swept seen) = tt

same_entry : (a b : Entry) (r s : List RecordLine) → first_of a ≡ first_of b → others_of a ++ r ≡ others_of b ++ s → (a ≡ b) × (r ≡ s)
same_entry (Took w n l g) (Took w' n' l' g') r s e f = (whole e, f)
  where
    whole : {a b c d a' b' c' d' : ℕ} → Take a b c d ≡ Take a' b' c' d' → Took a b c d ≡ Took a' b' c' d'
    whole e = cc
same_entry (Gave w l g k n t) (Gave w' l' g' k' n' t') r s e f = let same = same_tree t t' r s f in (whole e same.0, same.1)
  where
    whole : {a b c d f a' b' c' d' f' : ℕ} {t t' : Tree} → Give a b c d f ≡ Give a' b' c' d' f' → t ≡ t' → Gave a b c d f t ≡ Gave a' b' c' d' f' t'
    whole e i = cc
same_entry (Freed w l g) (Freed w' l' g') r s e f = (whole e, f)
  where
    whole : {a b c a' b' c' : ℕ} → Back a b c ≡ Back a' b' c' → Freed a b c ≡ Freed a' b' c'
    whole e = cc
same_entry CalledBack CalledBack r s e f = (refl, f)
same_entry (Swept n) (Swept n') r s e f = (whole e, f)
  where
    whole : {a b : ℕ} → Sweep a ≡ Sweep b → Swept a ≡ Swept b
    whole e = cc
same_entry (Took w n l g) (Gave w' l' g' k' n' t') r s e f = absurd cc
same_entry (Took w n l g) (Freed w' l' g') r s e f = absurd cc
same_entry (Took w n l g) CalledBack r s e f = absurd cc
same_entry (Took w n l g) (Swept n') r s e f = absurd cc
same_entry (Gave w l g k n t) (Took w' n' l' g') r s e f = absurd cc
same_entry (Gave w l g k n t) (Freed w' l' g') r s e f = absurd cc
same_entry (Gave w l g k n t) CalledBack r s e f = absurd cc
same_entry (Gave w l g k n t) (Swept n') r s e f = absurd cc
same_entry (Freed w l g) (Took w' n' l' g') r s e f = absurd cc
same_entry (Freed w l g) (Gave w' l' g' k' n' t') r s e f = absurd cc
same_entry (Freed w l g) CalledBack r s e f = absurd cc
same_entry (Freed w l g) (Swept n') r s e f = absurd cc
same_entry CalledBack (Took w' n' l' g') r s e f = absurd cc
same_entry CalledBack (Gave w' l' g' k' n' t') r s e f = absurd cc
same_entry CalledBack (Freed w' l' g') r s e f = absurd cc
same_entry CalledBack (Swept n') r s e f = absurd cc
same_entry (Swept n) (Took w' n' l' g') r s e f = absurd cc
same_entry (Swept n) (Gave w' l' g' k' n' t') r s e f = absurd cc
same_entry (Swept n) (Freed w' l' g') r s e f = absurd cc
same_entry (Swept n) CalledBack r s e f = absurd cc

opened : (entry : Entry) (entries : List Entry) (r : List RecordLine) → lines_of_entries (entry ∷ entries) ++ r ≡ first_of entry ∷ (others_of entry ++ (lines_of_entries entries ++ r))
opened entry entries r = append_assoc (lines_of_entry entry) (lines_of_entries entries) r ∙ ap (λ x. x ++ (lines_of_entries entries ++ r)) (entry_lines entry)

no_event : (l : RecordLine) (r x : List RecordLine) → IsEvent l → NoEvent r → r ≡ l ∷ x → ⊥
no_event l r x event none e = (subst NoEvent e none) event

pub same_entries : (a b : List Entry) (r s : List RecordLine) → NoEvent r → NoEvent s → lines_of_entries a ++ r ≡ lines_of_entries b ++ s → (a ≡ b) × (r ≡ s)
same_entries [] [] r s nr ns e = (refl, e)
same_entries [] (y ∷ b) r s nr ns e = absurd (no_event (first_of y) r (others_of y ++ (lines_of_entries b ++ s)) (is_event y) nr (e ∙ opened y b s))
same_entries (x ∷ a) [] r s nr ns e = absurd (no_event (first_of x) s (others_of x ++ (lines_of_entries a ++ r)) (is_event x) ns (sym e ∙ opened x a r))
same_entries (x ∷ a) (y ∷ b) r s nr ns e =
    let both = sym (opened x a r) ∙ e ∙ opened y b s in
    let one = same_entry x y (lines_of_entries a ++ r) (lines_of_entries b ++ s) (heads both) (tails both) in
    let more = same_entries a b r s nr ns one.1 in
    (ap₂ (λ z zs. z ∷ zs) one.0 more.0, more.1)

-- the best, and the lines behind it
pub best_no_event : (best : Option Solution) (rest : List RecordLine) → NoEvent (lines_of_best best ++ rest)
best_no_event None rest = λ event. event
best_no_event (Some best) rest = λ event. event

pub same_best : (p q : Option Solution) (rest more : List RecordLine) → lines_of_best p ++ rest ≡ lines_of_best q ++ more → (p ≡ q) × (rest ≡ more)
same_best None None rest more e = (refl, tails e)
same_best (Some p) (Some q) rest more e =
    (ap₂ (λ amount values. Some (record { cost = amount; values = values })) (amount (heads e)) (listed (heads (tails e))), tails (tails e))
  where
    amount : {a b : ℕ} → Says (lines.Best a) ≡ Says (lines.Best b) → a ≡ b
    amount e = cc

    listed : {a b : List ℕ} → Says (lines.Values a) ≡ Says (lines.Values b) → a ≡ b
    listed e = cc
same_best None (Some q) rest more e = absurd (let k : Says lines.NoBest ≡ Says (lines.Best q.cost) = heads e in cc)
same_best (Some p) None rest more e = absurd (let k : Says (lines.Best p.cost) ≡ Says lines.NoBest = heads e in cc)

pub told_numbers : {n n' e e' u u' : ℕ} → Says (lines.Numbers n e u) ≡ Says (lines.Numbers n' e' u') → (n ≡ n') × (e ≡ e') × (u ≡ u')
told_numbers e = (cc, cc, cc)

pub told_budget : {b b' : ℕ} → Budget b ≡ Budget b' → b ≡ b'
told_budget e = cc

made_of : ℕ → ℕ → ℕ → ℕ → List Entry → Option Solution → Record
made_of variables functions upper budget entries best = record { variables = variables; functions = functions; upper = upper; budget = budget; entries = entries; best = best }

same_made : {n n' e e' u u' b b' : ℕ} {x x' : List Entry} {p p' : Option Solution} → n ≡ n' → e ≡ e' → u ≡ u' → b ≡ b' → x ≡ x' → p ≡ p' → made_of n e u b x p ≡ made_of n' e' u' b' x' p'
same_made a b c d e f = cc

pub same_record : (r s : Record) → lines_of r ≡ lines_of s → r ≡ s
unfolding made_of
same_record r s e =
    let numbers = told_numbers (heads (tails e)) in
    let budget = told_budget (heads (tails (tails e))) in
    let end : List RecordLine = Says lines.End ∷ [] in
    let both = same_entries r.entries s.entries (lines_of_best r.best ++ end) (lines_of_best s.best ++ end) (best_no_event r.best end) (best_no_event s.best end) (tails (tails (tails e))) in
    let best = same_best r.best s.best end end both.1 in
    same_made numbers.0 numbers.1 numbers.2 budget both.0 best.0

pub one_record : OneRecord
one_record bytes r s its also = same_record r s (same_lines (lines_of r) (lines_of s) its.spelled also.spelled (sym its.exact ∙ also.exact))
