-- The tests' pieces are splits at their leaves, and their pools are sound.
use Rattle.std.proofs.Common.{◌≡◌, ℕ, List, [], ◌∷◌, sym, ap, ◌∙◌, subst, Option, None, Result, Ok, Err, IfOk}
use Rattle.cfn_model.specs.declared.step.Decision.TheVariants.{Is}
use Rattle.cfn_model.specs.declared.step.Event.{Event}
use Rattle.cfn_model.specs.Network.{Network, IsNetwork}
use Rattle.cfn_machine.specs.Pool.{View, price, opening_with, opening_pool, IsSound}
use Rattle.cfn_machine.proofs.CallerLemmas.{opens}
use Rattle.cfn_proof.specs.declared.tree.Node.{Node}
use Rattle.cfn_leaves.specs.Answers.{IsSoundPool}
use Rattle.cfn_leaves.specs.Value.{Holding, pool_of}
use Rattle.cfn_model.specs.Paths.{HasSmallCosts, Tame, TameAlong}
use Rattle.cfn_model.proofs.CallerLemmas.{small_took, small_refused}
use Rattle.cfn_proof.specs.Nodes as nodes
use Rattle.cfn_proof.specs.Nodes.{open_node, split_at}

-- costs stay small at the end of a path, and where a leaf there is split
at_end : (P : Network) (path : List Event) → TameAlong P path → HasSmallCosts P path
at_end P [] tame = tame
at_end P (event ∷ path) tame = tame.0

pub half_tame : (P : Network) (path : List Event) (x : ℕ) → TameAlong P path → Tame P path (nodes.tree_of (split_at (open_node None ∷ []) 0 (Is x 0)))
half_tame P path x tame = (at_end P path tame, small_took P path (Is x 0) (at_end P path tame), small_refused P path (Is x 0) (at_end P path tame))

-- the leaves of one open leaf are those of a sound pool
pub sound_start : {E : Type 0} (P : Network) (r : Result Holding E) (budget threshold : ℕ) (list : List Node) → IsNetwork P → threshold ≡ P.upper → list ≡ open_node None ∷ [] → IfOk r (λ l. l.network ≡ P) →
    IfOk r (λ l. (shares : ℕ) (best : Option (List ℕ)) → price P best ≡ threshold → pool_of l (record { best = best; seen = threshold; shares = shares }) ≡ opening_with P shares budget (nodes.tree_of list) best) → IfOk r IsSoundPool
sound_start P (Ok l) budget threshold list network upper one own is =
    let view : View = record { best = None; seen = threshold; shares = 0 } in
    let same : pool_of l view ≡ opening_pool P 0 budget = is 0 None (sym upper) ∙ ap (λ n. opening_with P 0 budget (nodes.tree_of n) None) one in
    (view, subst (λ N. IsSound N (pool_of l view)) (sym own) (subst (IsSound P) (sym same) (opens P 0 budget network).sound))
sound_start P (Err e) budget threshold list network upper one own is = tt
