-- Leaves that are set aside at the opening.
use Rattle.std.proofs.Common.{◌≡◌, ℕ, zero, suc, ◌+◌, ◌<◌, ◌≤◌, inl, inr, List, [], ◌∷◌, ◌++◌, length, length-append, refl, sym, ap, ap₂, ◌∙◌, subst, arith, true, false, Bool, if◌then◌else◌, nat_le, Contains, leb-true, leb-false}
use Rattle.std.specs.List.{AllByRecursion}
use Rattle.std.specs.Prelude.{◌==◌}
use Rattle.std.proofs.lemmas.Bool.{cases_eq, ne_eqb}
use Rattle.std.proofs.lemmas.List.{append_assoc}
use Rattle.std.proofs.lemmas.List.Elements.{All-contains, All-from_recursion, Contains-append_left, Contains-append_right}
use Rattle.cfn_model.specs.declared.step.Event.{Event}
use Rattle.cfn_model.specs.declared.step.Event.TheVariants.{Did, Took, Refused}
use Rattle.cfn_model.specs.Network.{Network}
use Rattle.cfn_model.specs.Sums.{floor}
use Rattle.cfn_model.specs.Steps.{after}
use Rattle.cfn_model.specs.declared.step.Step.{Step}
use Rattle.cfn_model.specs.Tree.{Tree, Open, Closed, Split, Valid, Strict, count, splits, open_leaves}
use Rattle.cfn_model.specs.Paths.{Tame}
use Rattle.cfn_machine.specs.Pool.{Mark, Free, Out, PoolTree, Leaf, Shut, Fork, tree_of, IsLeaf, granted, grant_of, numbered, recalled, swept, mark_for, dealt, active_mark, Task, Pool, leaves_with, AreNumbered, opening_with, price}
use Rattle.cfn_machine.specs.Steps.{PoolStep, PoolSteps, Takes, Gives, Returns, Recalls, Sweeps, Meets, Notes}
use Rattle.cfn_machine.specs.Parts.{others_from, IsAside, EndsAt, OpenAt, HasOwn, AllOthers, HasActiveBelow, NoneActiveBelow}
use Rattle.cfn_machine.specs.Laws.{IsPool, IsTaken, OpensPart, KeepsAside, SetsAside, EndsOthers, WasAside, TellsOwnLeaves, HasPaths}
use Rattle.cfn_machine.proofs.Keeping.{opens_with, rows_kept}
use Rattle.cfn_machine.proofs.Answering.{one_path}
use Rattle.cfn_machine.proofs.Numbering.{same_grant, replaced_leaf}
use Rattle.cfn_machine.proofs.Outgoing.{stays_out, was_out}
use Rattle.cfn_machine.proofs.Tracing.{hands_out}

pub dealt_is : (mine : ℕ → Bool) (tree : PoolTree) → tree_of (dealt mine tree) ≡ tree_of tree
dealt_is mine (Leaf number mark block) = refl
dealt_is mine (Shut block) = refl
dealt_is mine (Fork block d first second) = ap₂ (λ f s. Split block d f s) (dealt_is mine first) (dealt_is mine second)

-- where all leaves are the part's own the tree stays
pub dealt_whole : (tree : Tree) (next : ℕ) → dealt (λ n. true) (numbered next tree) ≡ numbered next tree
dealt_whole (Open block) next = refl
dealt_whole (Closed block) next = refl
dealt_whole (Split block d first second) next = ap₂ (λ f s. Fork block d f s) (dealt_whole first next) (dealt_whole second (next + open_leaves first))

none_granted : (t : Bool) → grant_of (mark_for t) ≡ 0
none_granted true = refl
none_granted false = refl

dealt_granted : (mine : ℕ → Bool) (tree : PoolTree) → granted (dealt mine tree) ≡ 0
dealt_granted mine (Leaf number mark block) = none_granted (mine number)
dealt_granted mine (Shut block) = refl
dealt_granted mine (Fork block d first second) = omega (arith, dealt_granted mine first, dealt_granted mine second)

dealt_numbers : (mine : ℕ → Bool) (m : ℕ) (tree : PoolTree) → leaves_with m (dealt mine tree) ≡ leaves_with m tree
dealt_numbers mine m (Leaf number mark block) = refl
dealt_numbers mine m (Shut block) = refl
dealt_numbers mine m (Fork block d first second) = ap₂ ◌+◌ (dealt_numbers mine m first) (dealt_numbers mine m second)

dealt_from : (mine : ℕ → Bool) (P : Network) (tree : PoolTree) (history : List Event) (n : ℕ) (mark : Mark) (path : List Event) → IsLeaf (dealt mine tree) history n mark path →
    (m : ℕ) × (other : Mark) × (before : List Event) × IsLeaf tree history m other before × (floor P before ≤ floor P path)
dealt_from mine P (Leaf number l block) history n mark path at = (n, l, path, (at.0, refl, at.2), omega arith)
dealt_from mine P (Shut block) history n mark path at = absurd at
dealt_from mine P (Fork block d first second) history n mark path (inl at) = (let f = dealt_from mine P first (Took d ∷ after block history) n mark path at in (f.0, f.1, f.2, inl f.3, f.4))
dealt_from mine P (Fork block d first second) history n mark path (inr at) = (let f = dealt_from mine P second (Refused d ∷ after block history) n mark path at in (f.0, f.1, f.2, inr f.3, f.4))

pub opens_part : OpensPart
opens_part mine P shares budget tree best network kept =
    let is = opens_with P shares budget tree best network kept in
    let whole = numbered 0 tree in
    let same = dealt_is mine whole in
    record {
      sound = record {
        seen = is.sound.seen;
        valid = subst (λ t. Valid P [] t (price P best)) (sym same) is.sound.valid;
        strict = subst (Strict P []) (sym same) is.sound.strict;
        tame = subst (Tame P []) (sym same) is.sound.tame;
        expanded = (let e = ap splits same in omega (arith, e, is.sound.expanded));
        counted = (let e = ap count same in omega (arith, e, is.sound.counted));
        within = omega (arith, dealt_granted mine whole, is.sound.within);
        rows = rows_kept P whole (dealt mine whole) (price P best) (price P best) (opening_with P shares budget tree best).rows (omega arith) (dealt_from mine P whole []) is.sound.rows;
      };
      numbered = record {
        different = λ n. (let e = dealt_numbers mine n whole in omega (arith, e, is.numbered.different n));
        fresh = λ n h. dealt_numbers mine n whole ∙ is.numbered.fresh n h;
      };
      keeps = is.keeps;
    }

-- a leaf that is set aside is given by no piece and back by no task
not_ended : (pool : Pool) (own : AreNumbered pool) (n worker other grant : ℕ) (path before : List Event) → IsLeaf pool.tree [] n (Out worker 0) path → IsLeaf pool.tree [] n (Out other grant) before → 1 ≤ grant → ⊥
not_ended pool own n worker other grant path before at here some =
    let marks = (one_path n (Out worker 0) (Out other grant) path before pool.tree [] (own.different n) at here).0 in
    let same = same_grant marks in omega (arith, same, some)

pub keeps_aside : KeepsAside
keeps_aside P pool new word (Takes taker want task) own legal may step n worker path at =
    stays_out P pool new word (Takes taker want task) (record { leaf = n; worker = worker; grant = 0; floor = 0; path = path }) step at (λ ends. ends)
keeps_aside P pool new word (Gives piece) own legal may step n worker path at =
    stays_out P pool new word (Gives piece) (record { leaf = n; worker = worker; grant = 0; floor = 0; path = path }) step at (λ ends.
    let here = replaced_leaf piece.task.leaf (Out piece.task.worker piece.task.grant) piece.task.path (numbered pool.next piece.tree) pool.tree [] step.tree step.placed in
    let there = subst (λ m. IsLeaf pool.tree [] m (Out piece.task.worker piece.task.grant) piece.task.path) ends here in
    not_ended pool own n worker piece.task.worker piece.task.grant path piece.task.path at there (omega (arith, legal.0.some, legal.0.few)))
keeps_aside P pool new word (Returns task) own legal may step n worker path at =
    stays_out P pool new word (Returns task) (record { leaf = n; worker = worker; grant = 0; floor = 0; path = path }) step at (λ ends.
    let here = replaced_leaf task.leaf (Out task.worker task.grant) step.path (Leaf task.leaf Free []) pool.tree [] step.tree step.freed in
    let there = subst (λ m. IsLeaf pool.tree [] m (Out task.worker task.grant) step.path) ends here in
    not_ended pool own n worker task.worker task.grant path step.path at there may)
keeps_aside P pool new word Recalls own legal may step n worker path at = absurd may
keeps_aside P pool new word Sweeps own legal may step n worker path at =
    stays_out P pool new word Sweeps (record { leaf = n; worker = worker; grant = 0; floor = 0; path = path }) step at (λ ends. ends)
keeps_aside P pool new word (Meets view) own legal may step n worker path at =
    stays_out P pool new word (Meets view) (record { leaf = n; worker = worker; grant = 0; floor = 0; path = path }) step at (λ ends. ends)
keeps_aside P pool new word Notes own legal may step n worker path at =
    stays_out P pool new word Notes (record { leaf = n; worker = worker; grant = 0; floor = 0; path = path }) step at (λ ends. ends)

-- the others' leaves are set aside
all_append : {X : Type 0} (Q : X → Type 0) (xs ys : List X) → AllByRecursion Q xs → AllByRecursion Q ys → AllByRecursion Q (xs ++ ys)
all_append Q [] ys front back = back
all_append Q (x ∷ xs) ys front back = (front.0, all_append Q xs ys front.1 back)

all_weaker : {X : Type 0} (Q R : X → Type 0) → ((x : X) → Q x → R x) → (xs : List X) → AllByRecursion Q xs → AllByRecursion R xs
all_weaker Q R weaker [] all = tt
all_weaker Q R weaker (x ∷ xs) all = (weaker x all.0, all_weaker Q R weaker xs all.1)

abbrev AsideFrom : PoolTree → List Event → List Event → Type 0
AsideFrom tree history path = (n : ℕ) × (worker : ℕ) × IsLeaf tree history n (Out worker 0) path

open_aside : (t : Bool) (next : ℕ) (history : List Event) (block : List Step) → AllByRecursion (AsideFrom (Leaf next (mark_for t) block) history) (if t then [] else after block history ∷ [])
open_aside true next history block = tt
open_aside false next history block = ((next, 0, (refl, refl, refl)), tt)

aside_from : (mine : ℕ → Bool) (tree : Tree) (next : ℕ) (history : List Event) → AllByRecursion (AsideFrom (dealt mine (numbered next tree)) history) (others_from mine next history tree)
aside_from mine (Open block) next history = open_aside (mine next) next history block
aside_from mine (Closed block) next history = tt
aside_from mine (Split block d first second) next history =
    let one = dealt mine (numbered next first) in
    let two = dealt mine (numbered (next + open_leaves first) second) in
    let whole = AsideFrom (Fork block d one two) history in
    let left = others_from mine next (Took d ∷ after block history) first in
    let right = others_from mine (next + open_leaves first) (Refused d ∷ after block history) second in
    all_append whole left right
    (all_weaker (AsideFrom one (Took d ∷ after block history)) whole (λ path at. (at.0, at.1, inl at.2)) left (aside_from mine first next (Took d ∷ after block history)))
    (all_weaker (AsideFrom two (Refused d ∷ after block history)) whole (λ path at. (at.0, at.1, inr at.2)) right (aside_from mine second (next + open_leaves first) (Refused d ∷ after block history)))

-- and no more
one_aside : (t : Bool) (next : ℕ) (block : List Step) (history : List Event) (n worker : ℕ) (path : List Event) → IsLeaf (Leaf next (mark_for t) block) history n (Out worker 0) path → Contains (if t then [] else after block history ∷ []) path
one_aside true next block history n worker path at = absurd (let free : Free ≡ Out worker 0 = at.1 in cc)
one_aside false next block history n worker path at = (0, omega arith, sym at.2)

aside_only : (mine : ℕ → Bool) (tree : Tree) (next : ℕ) (history : List Event) (n worker : ℕ) (path : List Event) → IsLeaf (dealt mine (numbered next tree)) history n (Out worker 0) path → Contains (others_from mine next history tree) path
aside_only mine (Open block) next history n worker path at = one_aside (mine next) next block history n worker path at
aside_only mine (Closed block) next history n worker path at = absurd at
aside_only mine (Split block d first second) next history n worker path (inl at) = Contains-append_left _ _ path (aside_only mine first next (Took d ∷ after block history) n worker path at)
aside_only mine (Split block d first second) next history n worker path (inr at) = Contains-append_right _ _ path (aside_only mine second (next + open_leaves first) (Refused d ∷ after block history) n worker path at)

pub sets_aside : SetsAside
sets_aside mine tree path =
    let others = others_from mine 0 [] tree in
    let aside = AsideFrom (dealt mine (numbered 0 tree)) [] in
    (λ there. All-contains aside others path (All-from_recursion aside others (aside_from mine tree 0 [])) there, λ at. aside_only mine tree 0 [] at.0 at.1 path at.2)

-- a task that is handed out may make a node at least
not_handed : (P : Network) (pool new : Pool) (word : ℕ) (step : PoolStep) (task : Task) → IsPool P pool → PoolSteps P pool word step new → task.grant ≡ 0 → IsTaken step task → ⊥
not_handed P pool new word (Takes worker want taken) task is step none same =
    let some = (hands_out P pool new worker want taken is.sound step).0.some in
    let e = ap (λ (t : Task). t.grant) same in omega (arith, some, none, e)
not_handed P pool new word (Gives piece) task is step none same = same
not_handed P pool new word (Returns back) task is step none same = same
not_handed P pool new word Recalls task is step none same = same
not_handed P pool new word Sweeps task is step none same = same
not_handed P pool new word (Meets view) task is step none same = same
not_handed P pool new word Notes task is step none same = same

pub was_aside : WasAside
was_aside P pool new word step is steps path at =
    let task : Task = record { leaf = at.0; worker = at.1; grant = 0; floor = floor P path; path = path } in
    elim (was_out P pool new word step task is.numbered steps at.2 refl) [
      | inl before ↦ (at.0, at.1, before.0)
      | inr taken ↦ absurd (not_handed P pool new word step task is steps refl taken)
    ]

-- they are still there once all leaves were called back and swept
swept_ends : (t : Bool) (number : ℕ) (block : List Step) (history path : List Event) → path ≡ after block history → EndsAt (tree_of (if t then Shut block else Leaf number Free block)) history path
swept_ends true number block history path is = is
swept_ends false number block history path is = is

ends_from : (P : Network) (k : ℕ) (tree : PoolTree) (history : List Event) (n worker : ℕ) (path : List Event) → IsLeaf tree history n (Out worker 0) path → EndsAt (tree_of (swept P k (recalled tree) history)) history path
ends_from P k (Leaf number mark block) history n worker path at = swept_ends (nat_le k (floor P (after block history))) number block history path at.2
ends_from P k (Shut block) history n worker path at = absurd at
ends_from P k (Fork block d first second) history n worker path (inl at) = inl (ends_from P k first (Took d ∷ after block history) n worker path at)
ends_from P k (Fork block d first second) history n worker path (inr at) = inr (ends_from P k second (Refused d ∷ after block history) n worker path at)

pub ends_others : EndsOthers
ends_others P k tree path aside = ends_from P k tree [] aside.0 aside.1 path aside.2

-- leaves of different sides of a split have different paths
after_behind : (block : List Step) (history : List Event) → (more : List Event) × (after block history ≡ more ++ history)
after_behind [] history = ([], refl)
after_behind (step ∷ block) history =
    let a = after_behind block (Did step ∷ history) in
    (a.0 ++ Did step ∷ [], a.1 ∙ sym (append_assoc a.0 (Did step ∷ []) history))

side_behind : (block : List Step) (history : List Event) (side : Event) (path : List Event) → (more : List Event) × (path ≡ more ++ (side ∷ after block history)) → (more : List Event) × (path ≡ more ++ history)
side_behind block history side path (more, is) =
    let a = after_behind block history in
    (more ++ side ∷ a.0, is ∙ ap (λ h. more ++ side ∷ h) a.1 ∙ sym (append_assoc more (side ∷ a.0) history))

leaf_behind : (tree : PoolTree) (history : List Event) (n : ℕ) (mark : Mark) (path : List Event) → IsLeaf tree history n mark path → (more : List Event) × (path ≡ more ++ history)
leaf_behind (Leaf number m block) history n mark path at = (let a = after_behind block history in (a.0, at.2 ∙ a.1))
leaf_behind (Shut block) history n mark path at = absurd at
leaf_behind (Fork block d first second) history n mark path (inl at) = side_behind block history (Took d) path (leaf_behind first (Took d ∷ after block history) n mark path at)
leaf_behind (Fork block d first second) history n mark path (inr at) = side_behind block history (Refused d) path (leaf_behind second (Refused d ∷ after block history) n mark path at)

other_sides : (x y history : List Event) (a b : Event) → x ++ a ∷ history ≡ y ++ b ∷ history → a ≡ b
other_sides [] [] history a b same = head_same same
  where
    head_same : a ∷ history ≡ b ∷ history → a ≡ b
    head_same e = cc
other_sides [] (e ∷ y) history a b same = absurd (let long = ap length same in let l = length-append y (b ∷ history) in omega (arith, long, l))
other_sides (e ∷ x) [] history a b same = absurd (let long = ap length same in let l = length-append x (a ∷ history) in omega (arith, long, l))
other_sides (e ∷ x) (f ∷ y) history a b same = other_sides x y history a b (tail_same same)
  where
    tail_same : e ∷ (x ++ a ∷ history) ≡ f ∷ (y ++ b ∷ history) → x ++ a ∷ history ≡ y ++ b ∷ history
    tail_same e = cc

pub one_mark : (tree : PoolTree) (history : List Event) (n m : ℕ) (mark other : Mark) (path : List Event) → IsLeaf tree history n mark path → IsLeaf tree history m other path → mark ≡ other
one_mark (Leaf number l block) history n m mark other path at here = sym at.1 ∙ here.1
one_mark (Shut block) history n m mark other path at here = absurd at
one_mark (Fork block d first second) history n m mark other path (inl at) (inl here) = one_mark first (Took d ∷ after block history) n m mark other path at here
one_mark (Fork block d first second) history n m mark other path (inr at) (inr here) = one_mark second (Refused d ∷ after block history) n m mark other path at here
one_mark (Fork block d first second) history n m mark other path (inl at) (inr here) =
    let l = leaf_behind first (Took d ∷ after block history) n mark path at in
    let r = leaf_behind second (Refused d ∷ after block history) m other path here in
    absurd (let e = other_sides l.0 r.0 (after block history) (Took d) (Refused d) (sym l.1 ∙ r.1) in cc)
one_mark (Fork block d first second) history n m mark other path (inr at) (inl here) =
    let l = leaf_behind first (Took d ∷ after block history) m other path here in
    let r = leaf_behind second (Refused d ∷ after block history) n mark path at in
    absurd (let e = other_sides l.0 r.0 (after block history) (Took d) (Refused d) (sym l.1 ∙ r.1) in cc)

-- what is open once all leaves were called back and swept
open_swept : (P : Network) (k number : ℕ) (block : List Step) (history path : List Event) (t : Bool) → nat_le k (floor P (after block history)) ≡ t → path ≡ after block history → floor P path < k →
    OpenAt (tree_of (if t then Shut block else Leaf number Free block)) history path
open_swept P k number block history path true test is below = absurd (let h = leb-true _ _ test in let e = ap (floor P) is in omega (arith, h, e, below))
open_swept P k number block history path false test is below = is

stays_open : (P : Network) (k : ℕ) (tree : PoolTree) (history : List Event) (n : ℕ) (mark : Mark) (path : List Event) → IsLeaf tree history n mark path → floor P path < k → OpenAt (tree_of (swept P k (recalled tree) history)) history path
stays_open P k (Leaf number m block) history n mark path at below = open_swept P k number block history path (nat_le k (floor P (after block history))) refl at.2 below
stays_open P k (Shut block) history n mark path at below = absurd at
stays_open P k (Fork block d first second) history n mark path (inl at) below = inl (stays_open P k first (Took d ∷ after block history) n mark path at below)
stays_open P k (Fork block d first second) history n mark path (inr at) below = inr (stays_open P k second (Refused d ∷ after block history) n mark path at below)

abbrev WasBelow : Network → ℕ → PoolTree → List Event → List Event → Type 0
WasBelow P k tree history path = (n : ℕ) × (mark : Mark) × IsLeaf tree history n mark path × (floor P path < k)

swept_below : (P : Network) (k number : ℕ) (mark : Mark) (block : List Step) (history path : List Event) (t : Bool) → nat_le k (floor P (after block history)) ≡ t →
    OpenAt (tree_of (if t then Shut block else Leaf number Free block)) history path → WasBelow P k (Leaf number mark block) history path
swept_below P k number mark block history path true test here = absurd here
swept_below P k number mark block history path false test here = (number, mark, (refl, refl, here), (let h = leb-false _ _ test in let e = ap (floor P) here in omega (arith, h, e)))

was_below : (P : Network) (k : ℕ) (tree : PoolTree) (history path : List Event) → OpenAt (tree_of (swept P k (recalled tree) history)) history path → WasBelow P k tree history path
was_below P k (Leaf number mark block) history path here = swept_below P k number mark block history path (nat_le k (floor P (after block history))) refl here
was_below P k (Shut block) history path here = absurd here
was_below P k (Fork block d first second) history path (inl here) = (let w = was_below P k first (Took d ∷ after block history) path here in (w.0, w.1, inl w.2, w.3))
was_below P k (Fork block d first second) history path (inr here) = (let w = was_below P k second (Refused d ∷ after block history) path here in (w.0, w.1, inr w.2, w.3))

-- a leaf that is not active is set aside
not_active : (tree : PoolTree) (n : ℕ) (mark : Mark) (path : List Event) → IsLeaf tree [] n mark path → (active_mark mark ≡ 1 → ⊥) → IsAside tree path
not_active tree n Free path at idle = absurd (idle refl)
not_active tree n (Out worker zero) path at idle = (n, worker, at)
not_active tree n (Out worker (suc grant)) path at idle = absurd (idle (let e : (suc grant == 0) ≡ false = ne_eqb (suc grant) 0 (λ none. omega (arith, none)) in rw e refl))

pub tells_own : TellsOwnLeaves
tells_own P k tree aside are = (some, none)
  where
    some : HasActiveBelow P tree k → HasOwn aside (tree_of (swept P k (recalled tree) []))
    some (n, mark, path, at, active, below) = (
      path,
      stays_open P k tree [] n mark path at below,
      λ there.
          let other = (are path).0 there in
          let same : mark ≡ Out other.1 0 = one_mark tree [] n other.0 mark (Out other.1 0) path at other.2 in
          let e : active_mark mark ≡ 0 = ap active_mark same in omega (arith, active, e),
    )

    none : NoneActiveBelow P tree k → AllOthers aside (tree_of (swept P k (recalled tree) []))
    none all path here =
        let w = was_below P k tree [] path here in
        (are path).1 (not_active tree w.0 w.1 path w.2 (λ active. let h = all w.0 w.1 path w.2 active in let below = w.3 in omega (arith, h, below)))

-- open leaves have paths
some_path : (tree : Tree) (history : List Event) → 0 < open_leaves tree → (path : List Event) × OpenAt tree history path
some_path (Open block) history some = (after block history, refl)
some_path (Closed block) history some = absurd (omega (arith, some))
some_path (Split block d first second) history some = elim (cases_eq (open_leaves first) 0) [
  | inl none ↦ (let r = some_path second (Refused d ∷ after block history) (omega (arith, some, none)) in (r.0, inr r.1))
  | inr more ↦ (let l = some_path first (Took d ∷ after block history) (omega (arith, more)) in (l.0, inl l.1))
]

some_open : (tree : Tree) (history path : List Event) → OpenAt tree history path → 0 < open_leaves tree
some_open (Open block) history path here = omega arith
some_open (Closed block) history path here = absurd here
some_open (Split block d first second) history path (inl here) = (let l = some_open first (Took d ∷ after block history) path here in omega (arith, l))
some_open (Split block d first second) history path (inr here) = (let r = some_open second (Refused d ∷ after block history) path here in omega (arith, r))

pub has_paths : HasPaths
has_paths tree = (some_path tree [], λ at. some_open tree [] at.0 at.1)
