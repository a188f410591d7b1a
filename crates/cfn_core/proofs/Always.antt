-- What holds of the world after any list of actions, and what it says where no leaf is open.
use Rattle.std.proofs.Common.{◌≡◌, ℕ, suc, ◌<◌, ◌≤◌, inl, inr, List, [], ◌∷◌, refl, subst, arith, Option, Some, None}
use Rattle.std.proofs.lemmas.Bool.{cases_lt}
use Rattle.cfn_model.specs.declared.step.Event.{Event}
use Rattle.cfn_model.specs.declared.step.Event.TheVariants.{Took, Refused}
use Rattle.cfn_model.specs.Network.{Network, IsNetwork, Fits, cost}
use Rattle.cfn_model.specs.Steps.{after}
use Rattle.cfn_model.specs.Tree.{Tree, Open, Closed, Split, bound, open_leaves}
use Rattle.cfn_model.proofs.CallerLemmas.{bounds}
use Rattle.cfn_machine.specs.Pool.{Free, Out, PoolTree, Leaf, Shut, Fork, tree_of, IsAnyLeaf, leaf_of, View, AreNumbered, price, KeepsFitting}
use Rattle.cfn_machine.specs.Laws as parts
use Rattle.cfn_machine.proofs.CallerLemmas as machine
use Rattle.cfn_machine.proofs.CallerLemmas.{open_leaf}
use Rattle.cfn_core.specs.World.{World, view_at, least_price, opening}
use Rattle.cfn_core.specs.Laws.{IsWorld, IsHanded, IsCovered, AgreesInHand, Always, Holds, IsFound, Solves}
use Rattle.cfn_core.proofs.Views.{least_low}
use Rattle.cfn_core.proofs.Keeping.{opens, valid_at_word}
use Rattle.cfn_core.proofs.Keeping as keeping
use Rattle.cfn_core.proofs.Handing as handing
use Rattle.cfn_core.proofs.Handing.{opens_numbered, opens_handed}

word_low : (P : Network) (w : World) → IsWorld P w → w.word ≤ P.upper
word_low P w world = omega (arith, world.word.pool.from, world.word.pool.upto)

bound_at_word : (P : Network) (w : World) → IsNetwork P → IsWorld P w → (values : List ℕ) → Fits P.sizes values → bound P [] (tree_of w.pool.tree) w.word ≤ cost P values
bound_at_word P w network world values fits = bounds P (tree_of w.pool.tree) w.word values network (word_low P w world) (valid_at_word P w world) fits

-- an assignment's leaf is covered, with its task in hand where it is out
agreed : (P : Network) (w : World) (values : List ℕ) → IsHanded P w → AgreesInHand P w values
agreed P w values handed =
    let once = machine.agreed w.pool.tree values in
    record {
      once = once;
      out = λ n worker grant block is. handed.in_hand n worker grant once.path (open_leaf w.pool.tree [] n (Out worker grant) block once.path (subst (λ leaf. IsAnyLeaf w.pool.tree [] leaf once.path) is once.there));
    }

covered_by : (P : Network) (w : World) (values : List ℕ) (path : List Event) → IsHanded P w → (leaf : PoolTree) → IsAnyLeaf w.pool.tree [] leaf path → parts.IsCovered P w.pool values leaf → IsCovered P w values leaf
covered_by P w values path handed (Leaf n Free block) at covered = tt
covered_by P w values path handed (Leaf n (Out worker grant) block) at covered = (path, handed.in_hand n worker grant path (open_leaf w.pool.tree [] n (Out worker grant) block path at))
covered_by P w values path handed (Shut block) at covered = covered
covered_by P w values path handed (Fork block d first second) at covered = covered

covered : (P : Network) (w : World) → IsNetwork P → IsWorld P w → IsHanded P w → (values : List ℕ) → Fits P.sizes values → IsCovered P w values (leaf_of values w.pool.tree)
covered P w network world handed values fits =
    let once = machine.agreed w.pool.tree values in
    covered_by P w values once.path handed (leaf_of values w.pool.tree) once.there (machine.covered P w.pool values network world.sound fits)

pub always : (P : Network) (w : World) → IsNetwork P → IsWorld P w → AreNumbered w.pool → IsHanded P w → Always P w
always P w network world numbers handed = record {
  world = world;
  covered = covered P w network world handed;
  agreed = λ values fits. agreed P w values handed;
  valid = valid_at_word P w world;
  bound = bound_at_word P w network world;
  row = λ values fits. bounds P (Open []) P.upper values network (omega arith) tt fits;
  floors = λ n mark path at. omega (arith, machine.rises P w.pool.tree n mark path at);
  numbered = numbers;
  handed = handed;
}

pub always_holds : Holds
always_holds P workers budget actions replies w network few are runs =
    always P w network (keeping.runs_keep P actions replies (opening P workers budget) w are (opens P workers budget network few) runs)
    (handing.runs_numbered P actions replies (opening P workers budget) w (opens_numbered P workers budget) runs)
    (handing.runs_keep P actions replies (opening P workers budget) w (opens_numbered P workers budget) (opens_handed P workers budget) runs)

-- the least of the prices that are kept is one of them
price_found : (P : Network) (best : Option (List ℕ)) (k : ℕ) → KeepsFitting P best → price P best ≡ k → k < P.upper → (values : List ℕ) × Fits P.sizes values × (cost P values ≡ k)
price_found P None k keeps is below = absurd (omega (arith, is))
price_found P (Some values) k keeps is below = (values, keeps, is)

views_found : (P : Network) (views : List (Option View)) (k : ℕ) → ((i : ℕ) (view : View) → view_at views i ≡ Some view → KeepsFitting P view.best) →
    least_price P views ≡ k → k < P.upper → (values : List ℕ) × Fits P.sizes values × (cost P values ≡ k)
views_found P [] k keep is below = absurd (omega (arith, is))
views_found P (None ∷ views) k keep is below = views_found P views k (λ i view at. keep (suc i) view at) (omega (arith, is, least_low P views)) below
views_found P (Some view ∷ views) k keep is below = elim (cases_lt (price P view.best) (least_price P views)) [
  | inl less ↦ price_found P view.best k (keep 0 view refl) (omega (arith, is)) below
  | inr more ↦ views_found P views k (λ i other at. keep (suc i) other at) (omega (arith, is)) below
]

pub found : IsFound
found P w world below =
    elim (cases_lt (price P w.pool.view.best) (least_price P w.views)) [
      | inl less ↦ price_found P w.pool.view.best w.word world.word.pool.keeps (omega (arith, world.word.least)) below
      | inr more ↦ views_found P w.views w.word (λ i view at. (world.word.views i view at).keeps) (omega (arith, world.word.least)) below
    ]

no_open_bound : (P : Network) (tree : Tree) (history : List Event) (k : ℕ) → open_leaves tree ≡ 0 → bound P history tree k ≡ k
no_open_bound P (Open block) history k none = absurd (omega (arith, none))
no_open_bound P (Closed block) history k none = refl
no_open_bound P (Split block d first second) history k none =
    omega (arith, no_open_bound P first (Took d ∷ after block history) k (omega (arith, none)), no_open_bound P second (Refused d ∷ after block history) k (omega (arith, none)))

pub solves : Solves
solves P w network world none =
    let from : (values : List ℕ) → Fits P.sizes values → w.word ≤ cost P values = λ values fits.
    (let b = bound_at_word P w network world values fits in let e = no_open_bound P (tree_of w.pool.tree) [] w.word none in omega (arith, b, e)) in
    (λ below. record { reached = found P w world below; below = below; bound = from }, λ is values fits. omega (arith, is, from values fits))
