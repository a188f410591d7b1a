use Rattle.std.proofs.Common.{◌≡◌, ℕ, ◌<◌, List, length, get_or, refl, sym, ap, ◌∙◌, subst, arith}
use Rattle.std.specs.Prelude.{slice_index, true, false}
use Rattle.cfn_model.specs.Network.{arity, dims_at}
use Rattle.cfn_model.specs.Sums.{is_live}
use Rattle.cfn_check.specs.declared.probe.Spot.{Spot}
use Rattle.cfn_check.specs.Probing.{IsOnly, Lacks}
use Rattle.cfn_check.proofs.Probing.{only_same, only_dead, size_at}
use Rattle.cfn_check.proofs.probe.open_place.Goals as goal

pub returns-then-not-is_live : goal.returns-then-not-is_live
returns-then-not-is_live c =
    let P = c.args.network.now in
    let f = c.args.asked.function in
    let spot = c.loop-spot.spot in
    let l : spot.place < arity P f = omega (arith, c.loop-spot-test.true, ap length c.scope-scope.ensures) in
    let at = ap (λ (xs : List ℕ). get_or xs spot.place 0) c.scope-scope.ensures in
    let size = size_at P f c.scope-scope.result.now spot.place _ c.scope-scope.ensures l refl in
    let only = subst (λ y. IsOnly (slice_index (dims_at P f) spot.place) c.args.asked y c.in-Some.value) at (subst (λ n. IsOnly n c.args.asked (get_or c.scope-scope.result.now spot.place 0) c.in-Some.value) size c.in-Some.ensures) in
    let dead = subst (λ y. is_live c.args.ledger.now.history y c.in-Some.value ≡ false) at (sym c.is_live.ensures ∙ c.if-not-is_live.true) in
    λ lack. only_dead P c.args.ledger.now.history c.args.asked spot c.in-Some.value l only dead (c.loop-spot.invariant.same.1 lack)

pub loop-spot-preserved : goal.loop-spot-preserved
loop-spot-preserved c =
    let P = c.args.network.now in
    let h = c.args.ledger.now.history in
    let asked = c.args.asked in
    let f = asked.function in
    let spot = c.loop-spot.spot in
    let l : spot.place < arity P f = omega (arith, c.loop-spot-test.true, ap length c.scope-scope.ensures) in
    let at = ap (λ (xs : List ℕ). get_or xs spot.place 0) c.scope-scope.ensures in
    let size = size_at P f c.scope-scope.result.now spot.place _ c.scope-scope.ensures l refl in
    let only = subst (λ y. IsOnly (slice_index (dims_at P f) spot.place) asked y c.in-Some.value) at (subst (λ n. IsOnly n asked (get_or c.scope-scope.result.now spot.place 0) c.in-Some.value) size c.in-Some.ensures) in
    let live = subst (λ y. is_live h y c.in-Some.value ≡ true) at (sym c.is_live.ensures ∙ c.if-not-is_live.false) in
    let is = c.behind-spot.ensures.behind in
    let both = only_same P h asked spot c.in-Some.value l only live in
    let same = c.loop-spot.invariant.same in
    let later = c.loop-spot.invariant.later in
    record {
      spot = c.behind-spot.ensures.spot;
      later = omega (arith, later, ap (λ (s : Spot). s.place) is);
      same = (
        λ lack. same.0 (both.0 (subst (λ (s : Spot). Lacks P h asked s) is lack)),
        λ lack. subst (λ (s : Spot). Lacks P h asked s) (sym is) (both.1 (same.1 lack)),
      );
    }
