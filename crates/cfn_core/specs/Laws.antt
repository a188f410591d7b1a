-- What holds of the world, whatever the workers do and in whatever order.
use Rattle.std.specs.Prelude.{◌≡◌, ◌≢◌, ℕ, ◌<◌, ◌≤◌, ◌⊎◌, min, List, [], ◌∷◌, None, IfSome}
use Rattle.std.specs.List.{AllByRecursion}
use Rattle.cfn_model.specs.declared.step.Step.{Step}
use Rattle.cfn_model.specs.declared.step.Event.{Event}
use Rattle.cfn_model.specs.Sums.{floor}
use Rattle.cfn_model.specs.Network.{Network, IsNetwork, Fits, Least, cost}
use Rattle.cfn_model.specs.Tree.{Valid, bound, open_leaves}
use Rattle.cfn_machine.specs.Pool.{Mark, Free, Out, PoolTree, Leaf, Shut, Fork, tree_of, IsLeaf, leaf_of, Task, IsTask, Piece, IsSound, AreNumbered, price}
use Rattle.cfn_machine.specs.Steps.{IsOut}
use Rattle.cfn_machine.specs.Laws.{AgreesOnce}
use Rattle.cfn_machine.specs.Word.{HasWord}
use Rattle.cfn_core.specs.World.{World, HasWordRule, view_at, opening, sights_of}
use Rattle.cfn_core.specs.Actions.{Action, Look, Lower, Note, Meet, Take, Give, Back, Recall, Sweep, Reply, Idle, Given, Gone, Done, IsAction, IsThere, Acts, Runs, AreActions}

-- The pool is sound, and the word keeps its rule.
pub record IsWorld (P : Network) (w : World) : Type 0 where
  pub sound : IsSound P w.pool
  pub word : HasWordRule P w

-- It holds at the opening, and each action keeps it.
abbrev pub Opens : Type 0
Opens = (P : Network) (workers budget : ℕ) → IsNetwork P → workers ≤ 64 → IsWorld P (opening P workers budget)

abbrev pub Keeps : Type 0
Keeps = (P : Network) (w new : World) (action : Action) (r : Reply) → IsAction P action → IsWorld P w → Acts P w action r new → IsWorld P new

-- The lower bound at the opening: the floor of the whole network, or the upper bound where that is less.
abbrev pub opening_bound : Network → ℕ
opening_bound P = min P.upper (floor P [])

-- A task is in hand.
abbrev pub IsInHand : Task → List Task → Type 0
IsInHand task [] = ⊥
IsInHand task (other ∷ hands) = (task ≡ other) ⊎ IsInHand task hands

-- The task of each leaf that is out is in hand, and the worker of each task in hand is there.
pub record IsHanded (P : Network) (w : World) : Type 0 where
  pub in_hand : (n worker grant : ℕ) (path : List Event) → IsLeaf w.pool.tree [] n (Out worker grant) path →
      IsInHand (record { leaf = n; worker = worker; grant = grant; floor = floor P path; path = path }) w.hands
  pub there : (task : Task) → IsInHand task w.hands → IsThere w task.worker

-- An assignment is covered by its leaf: the leaf is free, or out with its task in hand, or closed and the assignment
-- costs at least the threshold that the pool has seen.
abbrev pub IsCovered : Network → World → List ℕ → PoolTree → Type 0
IsCovered P w values (Leaf n Free block) = Unit {0}
IsCovered P w values (Leaf n (Out worker grant) block) =
    (path : List Event) × IsInHand (record { leaf = n; worker = worker; grant = grant; floor = floor P path; path = path }) w.hands
IsCovered P w values (Shut block) = w.pool.view.seen ≤ cost P values
IsCovered P w values (Fork block d first second) = ⊥

-- Exactly one leaf has a path that agrees with an assignment, and where that leaf is out, its task, in hand, has that
-- very path.
pub record AgreesInHand (P : Network) (w : World) (values : List ℕ) : Type 0 where
  pub once : AgreesOnce w.pool.tree values
  pub out : (n worker grant : ℕ) (block : List Step) → leaf_of values w.pool.tree ≡ Leaf n (Out worker grant) block →
      IsInHand (record { leaf = n; worker = worker; grant = grant; floor = floor P once.path; path = once.path }) w.hands

-- Both hold at the opening, and each action keeps them.
abbrev pub OpensNumbered : Type 0
OpensNumbered = (P : Network) (workers budget : ℕ) → AreNumbered (opening P workers budget).pool

abbrev pub KeepsNumbered : Type 0
KeepsNumbered = (P : Network) (w new : World) (action : Action) (r : Reply) → AreNumbered w.pool → Acts P w action r new → AreNumbered new.pool

abbrev pub OpensHanded : Type 0
OpensHanded = (P : Network) (workers budget : ℕ) → IsHanded P (opening P workers budget)

abbrev pub KeepsHanded : Type 0
KeepsHanded = (P : Network) (w new : World) (action : Action) (r : Reply) → AreNumbered w.pool → IsHanded P w → Acts P w action r new → IsHanded P new

-- What holds of the world that is left after any list of actions. The pool is sound and the word keeps its rule. Every
-- assignment is covered by its leaf, the only one whose path agrees with it. The tree is valid at the word, which may be less than what the pool has seen, so its bound
-- there is at most every cost. The opening's lower bound is at most every cost, and at most the floor of each open leaf.
-- Leaves have numbers of their own, the task of each leaf that is out is in hand, and the workers of tasks are there.
pub record Always (P : Network) (w : World) : Type 0 where
  pub world : IsWorld P w
  pub covered : (values : List ℕ) → Fits P.sizes values → IsCovered P w values (leaf_of values w.pool.tree)
  pub agreed : (values : List ℕ) → Fits P.sizes values → AgreesInHand P w values
  pub valid : Valid P [] (tree_of w.pool.tree) w.word
  pub bound : (values : List ℕ) → Fits P.sizes values → bound P [] (tree_of w.pool.tree) w.word ≤ cost P values
  pub row : (values : List ℕ) → Fits P.sizes values → opening_bound P ≤ cost P values
  pub floors : (n : ℕ) (mark : Mark) (path : List Event) → IsLeaf w.pool.tree [] n mark path → opening_bound P ≤ floor P path
  pub numbered : AreNumbered w.pool
  pub handed : IsHanded P w

abbrev pub Holds : Type 0
Holds = (P : Network) (workers budget : ℕ) (actions : List Action) (replies : List Reply) (w : World) → IsNetwork P → workers ≤ 64 → AreActions P actions →
    Runs P (opening P workers budget) actions replies w → Always P w

-- Where the word is below the upper bound, an assignment that is kept has it as its cost. So where no leaf is open the
-- word is the least cost, or every assignment costs the upper bound.
abbrev pub IsFound : Type 0
IsFound = (P : Network) (w : World) → IsWorld P w → w.word < P.upper → (values : List ℕ) × Fits P.sizes values × (cost P values ≡ w.word)

abbrev pub Solves : Type 0
Solves = (P : Network) (w : World) → IsNetwork P → IsWorld P w → open_leaves (tree_of w.pool.tree) ≡ 0 →
    (w.word < P.upper → Least P w.word) × (w.word ≡ P.upper → (values : List ℕ) → Fits P.sizes values → cost P values ≡ P.upper)

-- The word of such a world keeps the rule that the word keeps in memory.
abbrev pub ReadsAsWord : Type 0
ReadsAsWord = (P : Network) (w : World) → HasWordRule P w → HasWord P.upper w.word (sights_of P w)

-- No action calls the leaves back.
abbrev pub IsNoRecall : Action → Type 0
IsNoRecall (Look worker) = Unit {0}
IsNoRecall (Lower worker found) = Unit {0}
IsNoRecall (Note worker) = Unit {0}
IsNoRecall (Meet worker) = Unit {0}
IsNoRecall (Take worker want) = Unit {0}
IsNoRecall (Give piece note) = Unit {0}
IsNoRecall (Back task) = Unit {0}
IsNoRecall Recall = ⊥
IsNoRecall Sweep = Unit {0}

-- As long as none does, no piece of a task in hand is refused.
abbrev pub NeverGone : Type 0
NeverGone = (P : Network) (workers budget : ℕ) (actions : List Action) (replies : List Reply) (w new : World) (piece : Piece) (note : ℕ) (r : Reply) →
    AllByRecursion IsNoRecall actions → Runs P (opening P workers budget) actions replies w → IsInHand piece.task w.hands → Acts P w (Give piece note) r new → r ≢ Gone

-- Each task in hand is of a leaf that is out. That holds at the opening, where none is in hand, and as long as no leaf is
-- called back.
abbrev pub AreOut : World → Type 0
AreOut w = (task : Task) → IsInHand task w.hands → IsOut w.pool task

-- A piece whose task is in hand when it is given is not answered Gone: in one answer, and in all answers to a list.
abbrev pub IsKept : World → Action → Reply → Type 0
IsKept w (Look worker) r = Unit {0}
IsKept w (Lower worker found) r = Unit {0}
IsKept w (Note worker) r = Unit {0}
IsKept w (Meet worker) r = Unit {0}
IsKept w (Take worker want) r = Unit {0}
IsKept w (Give piece note) r = IsInHand piece.task w.hands → r ≢ Gone
IsKept w (Back task) r = Unit {0}
IsKept w Recall r = Unit {0}
IsKept w Sweep r = Unit {0}

abbrev pub AreKept : Network → World → List Action → List Reply → Type 0
AreKept P w [] replies = Unit {0}
AreKept P w (action ∷ actions) [] = ⊥
AreKept P w (action ∷ actions) (r ∷ replies) = (between : World) × Acts P w action r between × IsKept w action r × AreKept P between actions replies

-- Each action has an answer in every world, and one alone where the leaves have numbers of their own.
abbrev pub AnswersAll : Type 0
AnswersAll = (P : Network) (w : World) (action : Action) → (r : Reply) × (new : World) × Acts P w action r new

abbrev pub AnswersOnce : Type 0
AnswersOnce = (P : Network) (w : World) (action : Action) (r other : Reply) (new another : World) → AreNumbered w.pool → Acts P w action r new → Acts P w action other another → (r ≡ other) × (new ≡ another)

-- An action names a worker that is not there. Then it is answered Idle and changes nothing, whatever else it brings.
abbrev pub NamesNobody : World → Action → Type 0
NamesNobody w (Look worker) = IsThere w worker → ⊥
NamesNobody w (Lower worker found) = IsThere w worker → ⊥
NamesNobody w (Note worker) = IsThere w worker → ⊥
NamesNobody w (Meet worker) = IsThere w worker → ⊥
NamesNobody w (Take worker want) = IsThere w worker → ⊥
NamesNobody w (Give piece note) = IsThere w piece.task.worker → ⊥
NamesNobody w (Back task) = IsThere w task.worker → ⊥
NamesNobody w Recall = ⊥
NamesNobody w Sweep = ⊥

abbrev pub AnswersNobody : Type 0
AnswersNobody = (P : Network) (w new : World) (action : Action) (r : Reply) → NamesNobody w action → Acts P w action r new → (r ≡ Idle) × (new ≡ w)

-- So every list of actions from the opening leaves one world, with one list of answers.
abbrev pub RunsAll : Type 0
RunsAll = (P : Network) (workers budget : ℕ) (actions : List Action) → (replies : List Reply) × (w : World) × Runs P (opening P workers budget) actions replies w

abbrev pub RunsOnce : Type 0
RunsOnce = (P : Network) (workers budget : ℕ) (actions : List Action) (replies others : List Reply) (w another : World) →
    Runs P (opening P workers budget) actions replies w → Runs P (opening P workers budget) actions others another → (replies ≡ others) × (w ≡ another)

-- A task that is handed out keeps what a task keeps, for a worker that is there and no more nodes than it wants.
abbrev pub HandsOutTasks : Type 0
HandsOutTasks = (P : Network) (w new : World) (worker want : ℕ) (task : Task) → IsWorld P w → Acts P w (Take worker want) (Given task) new →
    IsTask P task × (task.worker ≡ worker) × (task.grant ≤ want)

-- What the word is at most: the threshold of a piece that is taken over, and what a view that is met had seen.
abbrev pub IsAtMost : ℕ → World → Action → Reply → Type 0
IsAtMost word w (Look worker) r = Unit {0}
IsAtMost word w (Lower worker found) r = Unit {0}
IsAtMost word w (Note worker) r = Unit {0}
IsAtMost word w (Meet worker) r = IfSome (view_at w.views worker) (λ view. word ≤ view.seen)
IsAtMost word w (Take worker want) r = Unit {0}
IsAtMost word w (Give piece note) r = r ≡ Done → word ≤ piece.threshold
IsAtMost word w (Back task) r = Unit {0}
IsAtMost word w Recall r = Unit {0}
IsAtMost word w Sweep r = Unit {0}

abbrev pub AreAtMost : Network → ℕ → World → List Action → List Reply → Type 0
AreAtMost P word w [] replies = Unit {0}
AreAtMost P word w (action ∷ actions) [] = ⊥
AreAtMost P word w (action ∷ actions) (r ∷ replies) =
    (between : World) × Acts P w action r between × IsAtMost word w action r × AreAtMost P word between actions replies

-- After every list of actions the word is at most each of them. Where all views are met, it is the price of the best that
-- the pool keeps, or the upper bound where it keeps none.
abbrev pub EndsAtMost : Type 0
EndsAtMost = (P : Network) (workers budget : ℕ) (actions : List Action) (replies : List Reply) (w : World) → IsNetwork P → workers ≤ 64 → AreActions P actions →
    Runs P (opening P workers budget) actions replies w → AreAtMost P w.word (opening P workers budget) actions replies

abbrev pub MeetsAll : Type 0
MeetsAll = (P : Network) (w : World) → IsWorld P w → ((i : ℕ) → view_at w.views i ≡ None) → w.word ≡ price P w.pool.view.best
