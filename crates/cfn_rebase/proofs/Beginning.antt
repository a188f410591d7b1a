-- What is kept of a certificate is a search's beginning.
use Rattle.std.proofs.Common.{◌≡◌, ℕ, ◌<◌, ◌≤◌, ◌^◌, inl, inr, List, [], length, sym, ap, ◌∙◌, subst, arith, Option, Some, None, Vec, slice_index, Bool, false}
use Rattle.std.specs.Prelude.{IfSome, IsTrue}
use Rattle.std.specs.Global.{Global}
use Rattle.cfn_model.specs.Network.{Network, IsNetwork}
use Rattle.cfn_model.specs.Certificate.{Certificate, IsBest, Solution, threshold, threshold_of}
use Rattle.cfn_model.specs.Tree.{Tree, count}
use Rattle.cfn_model.specs.Text.{Spells}
use Rattle.cfn_net.specs.Scoring.{IsPriced}
use Rattle.cfn_net.proofs.CallerLemmas.{Fits-at, Fits-length}
use Rattle.cfn_proof.specs.Nodes.{tree_of}
use Rattle.cfn_machine.specs.Parts.{IsPart, others_of}
use Rattle.cfn_machine.specs.Pool.{KeepsFitting, price, row_of}
use Rattle.cfn_pool.specs.Views.{values_of}
use Rattle.cfn_pool.proofs.CallerLemmas.{price_is}
use Rattle.cfn_mending.specs.Keeping.{Kept}
use Rattle.cfn_mending.specs.Laws.{IsWell, KeepsAll, KeptIsWell}
use Rattle.cfn_certread.specs.declared.certificate.ReadCertificate.{ReadCertificate}
use Rattle.cfn_certread.specs.Reading.{IsRead, solution_of}
use Rattle.cfn_search.specs.declared.begin.Begin.{Begin}
use Rattle.cfn_search.specs.Beginning.{MayBegin, start_of}
use Rattle.cfn_rebase.specs.Keeping.{AreFit, IsKeptValues, IsKeptBest, IsNarrow}
use Rattle.cfn_rebase.specs.Resuming.{Resumes}
use Rattle.cfn_rebase.proofs.Narrowed.{kept_of_narrowed}
use Rattle.cfn_rebase.proofs.Counted.{kept_few}

-- a value of 2^32 or more fits no domain
too_great : (P : Network) (values : List ℕ) (x : ℕ) → IsNetwork P → x < length values → 4294967296 ≤ slice_index values x → AreFit P values → ⊥
too_great P values x network there great fit =
    let len = Fits-length P.sizes values fit.0 in
    let within : x < length P.sizes = omega (arith, there, len) in
    let below = Fits-at P.sizes values x fit.0 within in
    let most = (network.sizes x within).1 in
    omega (arith, great, below, most)

-- where a value is so great nothing is kept
pub none_kept : (P : Network) (values : List ℕ) (narrow : Option (Vec ℕ Global)) (held : Option Solution) → IsNetwork P → IsNarrow values narrow → narrow ≡ None → held ≡ None → IsKeptValues P values held
none_kept P values narrow held network is none empty = let n = subst (IsNarrow values) none is in inr ((λ fit. too_great P values n.0 network n.1 n.2 fit), empty)

-- what is kept of values costs less than the upper bound
below_values : (P : Network) (values : List ℕ) (kept : Option Solution) → IsKeptValues P values kept → IfSome kept (λ best. best.cost < P.upper)
below_values P values kept (inl is) = subst (λ o. IfSome o (λ best. best.cost < P.upper)) (sym is.1) is.0.1
below_values P values kept (inr is) = subst (λ o. IfSome o (λ best. best.cost < P.upper)) (sym is.1) tt

below_best : (P : Network) (best kept : Option Solution) → IsKeptBest P best kept → IfSome kept (λ best. best.cost < P.upper)
below_best P None kept is = subst (λ o. IfSome o (λ best. best.cost < P.upper)) (sym is) tt
below_best P (Some best) kept is = below_values P best.values kept is

fits : (P : Network) (held : Option Solution) → IsPriced P held → KeepsFitting P (values_of held)
fits P None priced = tt
fits P (Some best) priced = priced.0

-- a best assignment that is right is kept as it is
same_best : (P : Network) (best kept : Option Solution) → IsKeptBest P best kept → IsBest P best → kept ≡ best
same_best P None kept is right = is
same_best P (Some best) kept (inl is) right = is.1 ∙ ap (λ n. Some (record { cost = n; values = best.values })) right.cost
same_best P (Some best) kept (inr is) right = absurd (let below = right.below in let same = right.cost in is.0 (right.fits, omega (arith, below, same)))

-- what is false is not true
never : (b : Bool) → b ≡ false → IsTrue b → ⊥
never b is asked = absurd (cc)

pub begins : (P : Network) (text : List ℕ) (old : ReadCertificate) (begin : Begin) (k : ℕ) → IsNetwork P → KeptIsWell → KeepsAll → length text < 2 ^ 64 → begin.best.network ≡ P → IsPriced P begin.best.held → IsKeptBest P (solution_of old.best) begin.best.held → k ≡ threshold_of P.upper begin.best.held → Kept P [] k (tree_of old.tree) (tree_of begin.tree) →
    IfSome begin.part IsPart → begin.recorded ≡ false → (c : Certificate) → Spells c text → IsRead c old → MayBegin P begin × Resumes P begin.part text (start_of P begin)
begins P text old begin k network well all short own priced keeps_best at keeps part unasked c spells read =
    let held = begin.best.held in
    let kept : Kept P [] k c.tree (tree_of begin.tree) = kept_of_narrowed P network [] k c.tree (tree_of begin.tree) (subst (λ t. Kept P [] k t (tree_of begin.tree)) read.tree keeps) in
    let is_well = well P [] k c.tree (tree_of begin.tree) kept in
    let same : k ≡ price P (values_of held) = at ∙ sym (price_is P held priced) in
    let few = kept_few P k c text (tree_of begin.tree) spells kept in
    let best : IsKeptBest P c.best held = subst (λ o. IsKeptBest P o held) read.best keeps_best in (
      record {
        own = own;
        below = below_best P c.best held best;
        kept = record {
          valid = subst (λ n. Rattle.cfn_model.specs.Tree.Valid P [] (tree_of begin.tree) n) same is_well.valid;
          strict = is_well.strict;
          tame = is_well.tame;
          fits = fits P held priced;
        };
        few = omega (arith, few, short);
        part = part;
        fresh = λ asked. absurd (never begin.recorded unasked asked);
      },
      record {
        certificate = c;
        spells = spells;
        best = held;
        keeps_best = best;
        tree = tree_of begin.tree;
        keeps = subst (λ n. Kept P [] n c.tree (tree_of begin.tree)) at kept;
        whole = λ good strict tame.
            let b = same_best P c.best held best good.best in
            let at_best : threshold c ≡ k = ap (λ u. threshold_of u c.best) good.upper ∙ ap (threshold_of P.upper) (sym b) ∙ sym at in
            let is : IsWell P [] k c.tree = record { valid = subst (λ n. Rattle.cfn_model.specs.Tree.Valid P [] c.tree n) at_best good.valid; strict = strict; tame = tame } in
            (b, all P [] k c.tree (tree_of begin.tree) is kept);
        start_is = ap (λ n. record { begun = count (tree_of begin.tree); first = row_of P (tree_of begin.tree) n; aside = others_of begin.part (tree_of begin.tree) }) (sym same ∙ at);
      },
    )
