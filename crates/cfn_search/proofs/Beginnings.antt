-- What a search begins with.
use Rattle.std.proofs.Common.{◌≡◌, ◌↔◌, ℕ, ◌<◌, Contains, ◌∙◌, refl, sym, ap, subst, List, [], ◌∷◌, Option, Some, None, Bool, true, false, nat_lt, if◌then◌else◌, min, arith, ltb-true, ltb-false}
use Rattle.std.specs.Prelude.{IfSome}
use Rattle.cfn_model.specs.declared.report.Row.{Row}
use Rattle.cfn_model.specs.Network.{Network, IsNetwork}
use Rattle.cfn_model.specs.Certificate.{Solution}
use Rattle.cfn_model.specs.Sums.{floor}
use Rattle.cfn_model.specs.Tree.{Open, Tree, count}
use Rattle.cfn_proof.specs.declared.tree.Node.{Node}
use Rattle.cfn_proof.specs.Nodes.{tree_of, open_node}
use Rattle.cfn_net.specs.Scoring.{Scoring}
use Rattle.cfn_low.specs.Outcome.{Start, fresh}
use Rattle.cfn_model.specs.declared.step.Event.{Event}
use Rattle.cfn_machine.specs.declared.part.Part.{Part}
use Rattle.cfn_machine.specs.Parts.{IsAside, IsPart, has_leaf, others_of}
use Rattle.cfn_machine.specs.Pool.{IsKept, Pool, dealt, numbered, opening_part, opening_pool, price, row_of}
use Rattle.cfn_machine.specs.Laws.{SetsAside}
use Rattle.cfn_machine.proofs.CallerLemmas.{opening_small}
use Rattle.cfn_search.specs.Searching.{IsSearch}
use Rattle.cfn_low.specs.Holding.{kept}
use Rattle.cfn_pool.specs.Views.{values_of}
use Rattle.cfn_search.specs.declared.begin.Begin.{Begin}
use Rattle.cfn_search.specs.Beginning.{IsFresh, MayBegin, start_of}

-- one open leaf may be gone on from, where nothing is known
pub fresh_may : (P : Network) (begin : Begin) → IsNetwork P → begin.tree ≡ open_node None ∷ [] → begin.best ≡ record { network = P; held = None } → begin.part ≡ None → MayBegin P begin
fresh_may P begin network one none whole = record {
  own = ap (λ (s : Scoring). s.network) none;
  below = subst (λ (s : Scoring). IfSome s.held (λ best. best.cost < P.upper)) (sym none) tt;
  kept = subst (λ (ns : List Node). IsKept P (tree_of ns) (values_of begin.best.held)) (sym one)
      (subst (λ (s : Scoring). IsKept P (Open []) (values_of s.held)) (sym none) (record { valid = tt; strict = tt; tame = opening_small P network; fits = tt }));
  few = let n = ap (λ (ns : List Node). count (tree_of ns)) one in omega (arith, n);
  part = subst (λ (p : Option Part). IfSome p IsPart) (sym whole) tt;
  fresh = λ recorded. record { tree = ap (λ (ns : List Node). tree_of ns) one; none = ap (λ (s : Scoring). s.held) none; whole = whole };
}

no_upper : (u : ℕ) (b : Bool) → nat_lt u u ≡ b → (if b then Some u else None) ≡ None
no_upper u true below = absurd (let h = ltb-true _ _ below in omega (arith, h))
no_upper u false below = refl

begins : ℕ → Row → List (List Event) → Start
begins n row others = record { begun = n; first = row; aside = others }

first_row : ℕ → Option ℕ → Row
first_row l u = record { lower = l; upper = u }

pub fresh_start : (P : Network) (begin : Begin) → begin.tree ≡ open_node None ∷ [] → begin.best ≡ record { network = P; held = None } → begin.part ≡ None → start_of P begin ≡ fresh P
unfolding begins first_row
fresh_start P begin one none whole =
    ap (λ (ns : List Node). begins (count (tree_of ns)) (row_of P (tree_of ns) (price P (values_of begin.best.held))) (others_of begin.part (tree_of ns))) one
    ∙ ap (λ (s : Scoring). begins 0 (row_of P (Open []) (price P (values_of s.held))) (others_of begin.part (Open []))) none
    ∙ ap (λ (p : Option Part). begins 0 (row_of P (Open []) P.upper) (others_of p (Open []))) whole
    ∙ ap (λ (u : Option ℕ). begins 0 (first_row (min P.upper (floor P [])) u) []) (no_upper P.upper (nat_lt P.upper P.upper) refl)

same_both : (b : Bool) (held : Option Solution) → (if b then held else held) ≡ held
same_both true held = refl
same_both false held = refl

-- an assignment below the upper bound is kept where nothing was
pub kept_first : (P : Network) (held : Option Solution) → IfSome held (λ best. best.cost < P.upper) → kept P None held ≡ held
kept_first P None below = same_both (nat_lt P.upper P.upper) None
kept_first P (Some best) below = taken (nat_lt best.cost P.upper) refl
  where
    taken : (b : Bool) → nat_lt best.cost P.upper ≡ b → (if b then Some best else None) ≡ Some best
    taken true e = refl
    taken false e = absurd (let h = ltb-false _ _ e in omega (arith, h, below))

-- a pool at the beginning is a search's
pub opening_search : (P : Network) (start : Start) (part : Option Part) (shares budget : ℕ) (tree : Tree) (best : Option (List ℕ)) → SetsAside → start.begun ≡ count tree → start.first ≡ row_of P tree (price P best) → start.aside ≡ others_of part tree →
    IsSearch start (opening_part (has_leaf part) P shares budget tree best)
opening_search P start part shares budget tree best sets begun first aside = record {
  begun_is = sym begun;
  others = [];
  begin = ap (λ (r : Row). r ∷ []) (sym first);
  aside = λ path. subst (λ paths. Contains paths path ↔ IsAside (dealt (has_leaf part) (numbered 0 tree)) path) (sym aside) (sets (has_leaf part) tree path);
}

-- a pool that begins with one open leaf and nothing known is at the usual opening
pub fresh_opening : (P : Network) (part : Option Part) (shares budget : ℕ) (tree : Tree) (held : Option Solution) (now : Pool) → (tree ≡ Open []) × (held ≡ None) × (part ≡ None) → now ≡ opening_part (has_leaf part) P shares budget tree (values_of held) →
    (shares : ℕ) × (now ≡ opening_pool P shares now.budget)
fresh_opening P part shares budget tree held now fresh is =
    let opened : now ≡ opening_pool P shares budget =
    is ∙ ap (λ (t : Tree). opening_part (has_leaf part) P shares budget t (values_of held)) fresh.0
    ∙ ap (λ (h : Option Solution). opening_part (has_leaf part) P shares budget (Open []) (values_of h)) fresh.1
    ∙ ap (λ (p : Option Part). opening_part (has_leaf p) P shares budget (Open []) None) fresh.2 in
    (shares, opened ∙ ap (opening_pool P shares) (sym (ap (λ (p : Pool). p.budget) opened)))
