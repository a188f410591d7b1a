-- Bytes spell one certificate at most: its lines say what it is.
use Rattle.std.proofs.Common.{◌≡◌, ℕ, List, [], ◌∷◌, ◌++◌, map, refl, sym, ap, ap₂, subst, ◌∙◌, append_assoc}
use Rattle.std.specs.Prelude.{Option, Some, None}
use Rattle.cfn_model.specs.declared.step.Step.{Step}
use Rattle.cfn_model.specs.declared.step.Decision.{Decision}
use Rattle.cfn_model.specs.declared.version.Version as versions
use Rattle.cfn_model.specs.Tree.{Tree, Open, Closed, Split}
use Rattle.cfn_model.specs.Certificate.{Solution, Certificate}
use Rattle.cfn_fault.specs.Nodes.{Item, Makes, LeavesOpen, Closes, Splits}
use Rattle.cfn_fault.specs.Lines.{Line, Version, Numbers, Lower, NoBest, Best, Values, Root, Node, End, lines_of_tree, lines_of_best, lines_of}
use Rattle.cfn_fault.specs.Laws.{OneCertificate}
use Rattle.cfn_fault.proofs.Judging.{same_head, same_tail}
use Rattle.cfn_fault.proofs.Faults.{front_whole}

-- the lines of a block, and the item that ends it
abbrev block_lines : List Step → List Line
block_lines block = map (λ step. Node (Makes step)) block

abbrev EndsBlock : Item → Type 0
EndsBlock (Makes step) = ⊥
EndsBlock LeavesOpen = Unit {0}
EndsBlock Closes = Unit {0}
EndsBlock (Splits d) = Unit {0}

same_item : {i j : Item} → Node i ≡ Node j → i ≡ j
same_item e = cc

same_step : {a b : Step} → Makes a ≡ Makes b → a ≡ b
same_step e = cc

same_block : (b c : List Step) (i j : Item) (r s : List Line) → EndsBlock i → EndsBlock j → block_lines b ++ Node i ∷ r ≡ block_lines c ++ Node j ∷ s → (b ≡ c) × (i ≡ j) × (r ≡ s)
same_block [] [] i j r s ends other e = (refl, same_item (same_head e), same_tail e)
same_block [] (y ∷ c) i j r s ends other e = absurd (subst EndsBlock (same_item (same_head e)) ends)
same_block (x ∷ b) [] i j r s ends other e = absurd (subst EndsBlock (sym (same_item (same_head e))) other)
same_block (x ∷ b) (y ∷ c) i j r s ends other e =
    let more = same_block b c i j r s ends other (same_tail e) in
    (ap₂ (λ z zs. z ∷ zs) (same_step (same_item (same_head e))) more.0, more.1, more.2)

-- a tree by its lines: a block, its end, and what stands behind that
abbrev block_of : Tree → List Step
block_of (Open block) = block
block_of (Closed block) = block
block_of (Split block d first second) = block

abbrev end_of : Tree → Item
end_of (Open block) = LeavesOpen
end_of (Closed block) = Closes
end_of (Split block d first second) = Splits d

abbrev behind : Tree → List Line → List Line
behind (Open block) rest = rest
behind (Closed block) rest = rest
behind (Split block d first second) rest = lines_of_tree first ++ (lines_of_tree second ++ rest)

ends_block : (tree : Tree) → EndsBlock (end_of tree)
ends_block (Open block) = tt
ends_block (Closed block) = tt
ends_block (Split block d first second) = tt

parted : (tree : Tree) (rest : List Line) → lines_of_tree tree ++ rest ≡ block_lines (block_of tree) ++ Node (end_of tree) ∷ behind tree rest
parted (Open block) rest = append_assoc (block_lines block) (Node LeavesOpen ∷ []) rest
parted (Closed block) rest = append_assoc (block_lines block) (Node Closes ∷ []) rest
parted (Split block d first second) rest =
    append_assoc (block_lines block) (Node (Splits d) ∷ (lines_of_tree first ++ lines_of_tree second)) rest
    ∙ ap (λ r. block_lines block ++ Node (Splits d) ∷ r) (append_assoc (lines_of_tree first) (lines_of_tree second) rest)

same_decision : {d e : Decision} → Splits d ≡ Splits e → d ≡ e
same_decision same = cc

split_of : {b c : List Step} {d e : Decision} {t t' u u' : Tree} → b ≡ c → d ≡ e → t ≡ t' → u ≡ u' → Split b d t u ≡ Split c e t' u'
split_of f g h i = cc

same_tree : (t u : Tree) (rest more : List Line) → lines_of_tree t ++ rest ≡ lines_of_tree u ++ more → (t ≡ u) × (rest ≡ more)
same_tree (Open b) (Open c) rest more e =
    let same = same_block b c LeavesOpen LeavesOpen rest more tt tt (sym (parted (Open b) rest) ∙ e ∙ parted (Open c) more) in (ap Open same.0, same.2)
same_tree (Closed b) (Closed c) rest more e =
    let same = same_block b c Closes Closes rest more tt tt (sym (parted (Closed b) rest) ∙ e ∙ parted (Closed c) more) in (ap Closed same.0, same.2)
same_tree (Split b d t t') (Split c d' u u') rest more e =
    let same = same_block b c (Splits d) (Splits d') (lines_of_tree t ++ (lines_of_tree t' ++ rest)) (lines_of_tree u ++ (lines_of_tree u' ++ more)) tt tt (sym (parted (Split b d t t') rest) ∙ e ∙ parted (Split c d' u u') more) in
    let first = same_tree t u (lines_of_tree t' ++ rest) (lines_of_tree u' ++ more) same.2 in
    let second = same_tree t' u' rest more first.1 in
    (split_of same.0 (same_decision same.1) first.0 second.0, second.1)
same_tree (Open b) (Closed c) rest more e = absurd (let same = same_block b c LeavesOpen Closes rest more tt tt (sym (parted (Open b) rest) ∙ e ∙ parted (Closed c) more) in let k : LeavesOpen ≡ Closes = same.1 in cc)
same_tree (Closed b) (Open c) rest more e = absurd (let same = same_block b c Closes LeavesOpen rest more tt tt (sym (parted (Closed b) rest) ∙ e ∙ parted (Open c) more) in let k : Closes ≡ LeavesOpen = same.1 in cc)
same_tree (Open b) (Split c d' u u') rest more e = absurd (let same = same_block b c LeavesOpen (Splits d') rest (behind (Split c d' u u') more) tt tt (sym (parted (Open b) rest) ∙ e ∙ parted (Split c d' u u') more) in let k : LeavesOpen ≡ Splits d' = same.1 in cc)
same_tree (Closed b) (Split c d' u u') rest more e = absurd (let same = same_block b c Closes (Splits d') rest (behind (Split c d' u u') more) tt tt (sym (parted (Closed b) rest) ∙ e ∙ parted (Split c d' u u') more) in let k : Closes ≡ Splits d' = same.1 in cc)
same_tree (Split b d t t') (Open c) rest more e = absurd (let same = same_block b c (Splits d) LeavesOpen (behind (Split b d t t') rest) more tt tt (sym (parted (Split b d t t') rest) ∙ e ∙ parted (Open c) more) in let k : Splits d ≡ LeavesOpen = same.1 in cc)
same_tree (Split b d t t') (Closed c) rest more e = absurd (let same = same_block b c (Splits d) Closes (behind (Split b d t t') rest) more tt tt (sym (parted (Split b d t t') rest) ∙ e ∙ parted (Closed c) more) in let k : Splits d ≡ Closes = same.1 in cc)

-- the best, and the lines behind it
same_best : (p q : Option Solution) (rest more : List Line) → lines_of_best p ++ Root ∷ rest ≡ lines_of_best q ++ Root ∷ more → (p ≡ q) × (rest ≡ more)
same_best None None rest more e = (refl, same_tail (same_tail e))
same_best (Some p) (Some q) rest more e =
    (ap₂ (λ amount values. Some (record { cost = amount; values = values })) (amount (same_head e)) (listed (same_head (same_tail e))), same_tail (same_tail (same_tail e)))
  where
    amount : {a b : ℕ} → Best a ≡ Best b → a ≡ b
    amount e = cc

    listed : {a b : List ℕ} → Values a ≡ Values b → a ≡ b
    listed e = cc
same_best None (Some q) rest more e = absurd (let k : NoBest ≡ Best q.cost = same_head e in cc)
same_best (Some p) None rest more e = absurd (let k : Best p.cost ≡ NoBest = same_head e in cc)

made_of : versions.Version → ℕ → ℕ → ℕ → Option Solution → ℕ → Tree → Certificate
made_of version variables functions upper best lower tree = record { version = version; variables = variables; functions = functions; upper = upper; best = best; lower = lower; tree = tree }

same_made : {v v' : versions.Version} {n n' e e' u u' l l' : ℕ} {p p' : Option Solution} {t t' : Tree} → v ≡ v' → n ≡ n' → e ≡ e' → u ≡ u' → p ≡ p' → l ≡ l' → t ≡ t' → made_of v n e u p l t ≡ made_of v' n' e' u' p' l' t'
same_made a b c d e f g = cc

pub same_certificate : (c d : Certificate) → lines_of c ≡ lines_of d → c ≡ d
unfolding made_of
same_certificate c d e =
    let numbers = told_numbers (same_head (same_tail e)) in
    let lower = told_lower (same_head (same_tail (same_tail e))) in
    let best = same_best c.best d.best (lines_of_tree c.tree ++ End ∷ []) (lines_of_tree d.tree ++ End ∷ []) (same_tail (same_tail (same_tail e))) in
    let tree = same_tree c.tree d.tree (End ∷ []) (End ∷ []) best.1 in
    same_made (told_version (same_head e)) numbers.0 numbers.1 numbers.2 best.0 lower tree.0
  where
    told_version : {v w : versions.Version} → Version v ≡ Version w → v ≡ w
    told_version e = cc

    told_numbers : {n n' e e' u u' : ℕ} → Numbers n e u ≡ Numbers n' e' u' → (n ≡ n') × (e ≡ e') × (u ≡ u')
    told_numbers e = (cc, cc, cc)

    told_lower : {l l' : ℕ} → Lower l ≡ Lower l' → l ≡ l'
    told_lower e = cc

pub one_certificate : OneCertificate
one_certificate bytes c d its also = same_certificate c d (front_whole c d bytes its also)
