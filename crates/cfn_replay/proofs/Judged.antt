-- The certificate of the leaves' tree is good exactly where that of the pool's tree is, and then they are one.
use Rattle.std.proofs.Common.{◌≡◌, ℕ, suc, ◌<◌, ◌≤◌, List, [], ◌∷◌, length, slice_index, refl, sym, ap, subst, ◌∙◌, arith}
use Rattle.std.specs.Prelude.{Option, Some, None, IfSome, IsTrue, is_some}
use Rattle.std.specs.List.{AllByRecursion}
use Rattle.cfn_model.specs.declared.limits.TheConstants.{MOST_VALUES}
use Rattle.cfn_model.specs.Words.{greatest}
use Rattle.cfn_model.specs.Network.{Network, IsNetwork, Fits}
use Rattle.cfn_model.proofs.CallerLemmas.{fits_length}
use Rattle.cfn_model.specs.Tree.{Tree, Valid}
use Rattle.cfn_model.specs.Certificate as model
use Rattle.cfn_model.specs.Certificate.{Solution, IsSolution, IsBest, Good, threshold_of}
use Rattle.cfn_model.specs.Text as texts
use Rattle.cfn_model.specs.Text.{IsSpelled, IsSpelledBest, spelling}
use Rattle.cfn_machine.specs.Pool.{Pool, tree_of}
use Rattle.cfn_proof.specs.declared.certificate.Certificate.{Certificate}
use Rattle.cfn_proof.specs.Certificates.{certificate_of}
use Rattle.cfn_net.specs.Scoring.{Scoring}
use Rattle.cfn_leaves.specs.Value.{Holding, pool_tree}
use Rattle.cfn_record.specs.Replaying as replaying
use Rattle.cfn_replay.specs.Capping.{cap_tree}
use Rattle.cfn_replay.specs.Doing.{IsHeld}
use Rattle.cfn_replay.specs.Judging.{IsGoodAs, IsGoodText, IsJudged}
use Rattle.cfn_replay.proofs.Capping.{tree_cap}
use Rattle.cfn_replay.proofs.Small.{valid_stays, valid_is_own}

-- the best assignment
pub price_same : (a b : ℕ) (held : Option Solution) → IsTrue (is_some held) → threshold_of a held ≡ threshold_of b held
price_same a b None some = absurd cc
price_same a b (Some best) some = refl

pub holds_best : (best : Option Scoring) → IfSome best (λ scored. IsTrue (is_some scored.held)) → (x : Scoring) → best ≡ Some x → IsTrue (is_some x.held)
holds_best best held x is = subst (λ b. IfSome b (λ scored. IsTrue (is_some scored.held))) is held

pub best_low : (P : Network) (best : Option Solution) → IsBest P best → threshold_of P.upper best ≤ P.upper
best_low P None is = omega arith
best_low P (Some best) is = let b = is.below in omega (arith, b)

values_small : (sizes values : List ℕ) → ((x : ℕ) → x < length sizes → slice_index sizes x ≤ MOST_VALUES) → Fits sizes values → AllByRecursion (λ a. a ≤ greatest) values
values_small [] [] small fits = tt
values_small [] (v ∷ values) small fits = absurd fits
values_small (size ∷ sizes) [] small fits = absurd fits
values_small (size ∷ sizes) (v ∷ values) small fits =
    (let f = fits.0 in let s = small 0 (omega arith) in omega (arith, f, s), values_small sizes values (λ x there. small (suc x) (omega (arith, there))) fits.1)

pub best_spelled : (P : Network) (best : Option Solution) → IsNetwork P → IsBest P best → IsSpelledBest best
best_spelled P None network is = tt
best_spelled P (Some best) network is = (
  (let b = is.below in let u = network.upper in omega (arith, b, u)),
  (let l = fits_length P.sizes best.values is.fits in let s = network.some in omega (arith, l, s)),
  values_small P.sizes best.values (λ x there. (network.sizes x there).1) is.fits,
)

module _ (P : Network) (network : IsNetwork P) (pool : Pool) (h : Holding) (is : IsHeld P pool h) where
  held_tree : tree_of (pool_tree h) ≡ cap_tree (tree_of pool.tree)
  held_tree = ap (λ (p : Pool). tree_of p.tree) is.is ∙ tree_cap pool.tree

  abbrev made : Option Solution → Tree → model.Certificate
  made best tree = replaying.certificate_of P best tree

  own_tree : (best : Option Solution) → Good P (made best (tree_of (pool_tree h))) → tree_of (pool_tree h) ≡ tree_of pool.tree
  own_tree best good =
      let k = threshold_of P.upper best in
      held_tree ∙ valid_is_own P (tree_of pool.tree) k network (subst (λ t. Valid P [] t k) held_tree good.valid)

  true_tree : (best : Option Solution) → Good P (made best (tree_of pool.tree)) → tree_of (pool_tree h) ≡ tree_of pool.tree
  true_tree best good = held_tree ∙ valid_stays P (tree_of pool.tree) (threshold_of P.upper best) network good.valid

  module _ (best told : Option Solution) (c : Certificate) (same : told ≡ best) (c_is : certificate_of c ≡ made told (tree_of (pool_tree h))) where
    c_made : certificate_of c ≡ made best (tree_of (pool_tree h))
    c_made = subst (λ b. certificate_of c ≡ made b (tree_of (pool_tree h))) same c_is

    judged_good : (bytes : List ℕ) → Good P (certificate_of c) → IsSpelled (certificate_of c) → bytes ≡ spelling (certificate_of c) → IsGoodAs P (made best (tree_of pool.tree)) bytes
    judged_good bytes good spelled is =
        let tree = own_tree best (subst (Good P) c_made good) in
        let whole : certificate_of c ≡ made best (tree_of pool.tree) = c_made ∙ ap (made best) tree in
        record { good = subst (Good P) whole good; spells = subst (λ k. texts.Spells k bytes) whole (record { spelled = spelled; exact = is }) }

    judged_bad : (Good P (certificate_of c) → ⊥) → Good P (made best (tree_of pool.tree)) → ⊥
    judged_bad bad good =
        let tree = true_tree best good in
        bad (subst (Good P) (sym (c_made ∙ ap (made best) tree)) good)

    pub judged : (text : Option (List ℕ)) → IsSpelled (certificate_of c) → IsGoodText P (certificate_of c) text → IsJudged P pool best text
    judged None spelled bad = judged_bad bad
    judged (Some bytes) spelled good = judged_good bytes good.0 spelled good.1
