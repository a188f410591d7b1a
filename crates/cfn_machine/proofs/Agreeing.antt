-- Exactly one leaf has a path that agrees with an assignment.
use Rattle.std.proofs.Common.{◌≡◌, ℕ, inl, inr, List, [], ◌∷◌, refl, sym, ◌∙◌, subst}
use Rattle.std.specs.Prelude.{Bool, true, false, if◌then◌else◌}
use Rattle.cfn_model.specs.declared.step.Step.{Step}
use Rattle.cfn_model.specs.declared.step.Decision.{Decision}
use Rattle.cfn_model.specs.declared.step.Event.{Event}
use Rattle.cfn_model.specs.declared.step.Event.TheVariants.{Did, Took, Refused}
use Rattle.cfn_model.specs.Decisions.{holds}
use Rattle.cfn_model.specs.Steps.{after}
use Rattle.cfn_model.specs.Paths.{Agrees}
use Rattle.cfn_machine.specs.Pool.{Mark, PoolTree, Leaf, Shut, Fork, IsLeaf, IsAnyLeaf, leaf_of}
use Rattle.cfn_machine.specs.Laws.{Agreed}

-- steps say nothing
agrees_after : (values : List ℕ) (block : List Step) (history : List Event) → Agrees values history → Agrees values (after block history)
agrees_after values [] history agrees = agrees
agrees_after values (step ∷ block) history agrees = agrees_after values block (Did step ∷ history) agrees

agrees_before : (values : List ℕ) (block : List Step) (history : List Event) → Agrees values (after block history) → Agrees values history
agrees_before values [] history agrees = agrees
agrees_before values (step ∷ block) history agrees = agrees_before values block (Did step ∷ history) agrees

-- what agrees with a leaf's path agrees with what stands before the tree
agrees_above : (values : List ℕ) (tree : PoolTree) (history : List Event) (leaf : PoolTree) (path : List Event) → IsAnyLeaf tree history leaf path → Agrees values path → Agrees values history
agrees_above values (Leaf number mark block) history leaf path at agrees = agrees_before values block history (subst (Agrees values) at.1 agrees)
agrees_above values (Shut block) history leaf path at agrees = agrees_before values block history (subst (Agrees values) at.1 agrees)
agrees_above values (Fork block d first second) history leaf path (inl at) agrees =
    agrees_before values block history (agrees_above values first (Took d ∷ after block history) leaf path at agrees).1
agrees_above values (Fork block d first second) history leaf path (inr at) agrees =
    agrees_before values block history (agrees_above values second (Refused d ∷ after block history) leaf path at agrees).1

-- the path of an assignment's leaf agrees with it
abbrev HasAgreeing : List ℕ → PoolTree → List Event → PoolTree → Type 0
HasAgreeing values tree history leaf = (path : List Event) × IsAnyLeaf tree history leaf path × Agrees values path

agreeing_by : (values : List ℕ) (block : List Step) (d : Decision) (first second : PoolTree) (history : List Event) (b : Bool) (f s : PoolTree) → holds d values ≡ b →
    (holds d values ≡ true → HasAgreeing values first (Took d ∷ after block history) f) →
    (holds d values ≡ false → HasAgreeing values second (Refused d ∷ after block history) s) → HasAgreeing values (Fork block d first second) history (if b then f else s)
agreeing_by values block d first second history true f s test one two = let r = one test in (r.0, inl r.1, r.2)
agreeing_by values block d first second history false f s test one two = let r = two test in (r.0, inr r.1, r.2)

agreeing : (values : List ℕ) (tree : PoolTree) (history : List Event) → Agrees values history → HasAgreeing values tree history (leaf_of values tree)
agreeing values (Leaf number mark block) history agrees = (after block history, (refl, refl), agrees_after values block history agrees)
agreeing values (Shut block) history agrees = (after block history, (refl, refl), agrees_after values block history agrees)
agreeing values (Fork block d first second) history agrees =
    agreeing_by values block d first second history (holds d values) (leaf_of values first) (leaf_of values second) refl
    (λ is. agreeing values first (Took d ∷ after block history) (is, agrees_after values block history agrees))
    (λ not. agreeing values second (Refused d ∷ after block history) (not, agrees_after values block history agrees))

holds_once : {b : Bool} {C : Type 0} → b ≡ true → b ≡ false → C
holds_once h k = cc

-- no other leaf's path does
only_one : (values : List ℕ) (tree : PoolTree) (history : List Event) (leaf : PoolTree) (path : List Event) (other : PoolTree) (another : List Event) →
    IsAnyLeaf tree history leaf path → Agrees values path → IsAnyLeaf tree history other another → Agrees values another → (other ≡ leaf) × (another ≡ path)
only_one values (Leaf number mark block) history leaf path other another at agrees there too = (there.0 ∙ sym at.0, there.1 ∙ sym at.1)
only_one values (Shut block) history leaf path other another at agrees there too = (there.0 ∙ sym at.0, there.1 ∙ sym at.1)
only_one values (Fork block d first second) history leaf path other another (inl at) agrees (inl there) too =
    only_one values first (Took d ∷ after block history) leaf path other another at agrees there too
only_one values (Fork block d first second) history leaf path other another (inl at) agrees (inr there) too =
    holds_once (agrees_above values first (Took d ∷ after block history) leaf path at agrees).0 (agrees_above values second (Refused d ∷ after block history) other another there too).0
only_one values (Fork block d first second) history leaf path other another (inr at) agrees (inl there) too =
    holds_once (agrees_above values first (Took d ∷ after block history) other another there too).0 (agrees_above values second (Refused d ∷ after block history) leaf path at agrees).0
only_one values (Fork block d first second) history leaf path other another (inr at) agrees (inr there) too =
    only_one values second (Refused d ∷ after block history) leaf path other another at agrees there too

-- an open leaf
number_of : {n m : ℕ} {mark other : Mark} {block more : List Step} → Leaf n mark block ≡ Leaf m other more → m ≡ n
number_of h = cc

mark_of : {n m : ℕ} {mark other : Mark} {block more : List Step} → Leaf n mark block ≡ Leaf m other more → other ≡ mark
mark_of h = cc

not_shut : {n : ℕ} {mark : Mark} {own block : List Step} → Leaf n mark own ≡ Shut block → ⊥
not_shut h = cc

pub open_leaf : (tree : PoolTree) (history : List Event) (n : ℕ) (mark : Mark) (own : List Step) (path : List Event) → IsAnyLeaf tree history (Leaf n mark own) path → IsLeaf tree history n mark path
open_leaf (Leaf number m block) history n mark own path at = (number_of at.0, mark_of at.0, at.1)
open_leaf (Shut block) history n mark own path at = absurd (not_shut at.0)
open_leaf (Fork block d first second) history n mark own path (inl at) = inl (open_leaf first (Took d ∷ after block history) n mark own path at)
open_leaf (Fork block d first second) history n mark own path (inr at) = inr (open_leaf second (Refused d ∷ after block history) n mark own path at)

pub agreed : Agreed
agreed tree values =
    let own = agreeing values tree [] tt in
    record {
      path = own.0;
      there = own.1;
      agrees = own.2;
      only = λ leaf other at agrees. only_one values tree [] (leaf_of values tree) own.0 leaf other own.1 own.2 at agrees;
    }
