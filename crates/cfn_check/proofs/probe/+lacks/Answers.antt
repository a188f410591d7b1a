use Rattle.std.proofs.Common.{◌≡◌, ℕ, ◌<◌, List, length, get_or, refl, sym, ap, ◌∙◌, subst, arith}
use Rattle.std.proofs.lemmas.Bool.{false≢true}
use Rattle.std.specs.Prelude.{true}
use Rattle.cfn_model.specs.Network.{arity}
use Rattle.cfn_model.specs.Sums.{is_live}
use Rattle.cfn_check.specs.declared.probe.Spot.{Spot}
use Rattle.cfn_check.specs.Probing.{Lacks}
use Rattle.cfn_check.proofs.Probing.{lacks_end, lacks_more, none_more, none_left, size_at, bound_same}
use Rattle.cfn_check.proofs.probe.+lacks.Goals as goal
use Rattle.cfn_check.proofs.probe.+lacks.Goals.{then-is_live+else-lacks, else-is_live}

pub returns-then-left-eq0 : goal.returns-then-left-eq0
returns-then-left-eq0 t c =
    let P = c.args.network.now in
    let asked = c.args.asked in
    let spot = c.in-Some.spot in
    let opened = c.in-Some.ensures in
    let end = lacks_end P c.args.ledger.now.history asked spot (omega (arith, c.if-left-eq0.true, ap length c.scope-scope.ensures)) in
    let low = rw (bound_same P asked.function spot c.law_limits.ensures c.requires.asked.function opened.is) at c.is_low.ensures in (
      λ yes. opened.same.0 (end.1 (low.0 yes)),
      λ lack. low.1 (end.0 (opened.same.1 lack)),
    )

pub size-value-end-requires : goal.size-value-end-requires
size-value-end-requires t c =
    let P = c.args.network.now in
    let asked = c.args.asked in
    let spot = c.in-Some.spot in
    let l : spot.place < arity P asked.function = omega (arith, c.if-left-eq0.false, ap length c.scope-scope.ensures) in
    let at = ap (λ (xs : List ℕ). get_or xs spot.place 0) c.scope-scope.ensures in
    let there = (c.law_limits.ensures.functions asked.function c.requires.asked.function).variables spot.place l in
    omega (arith, at, there)

pub returns-then-lacks : goal.returns-then-lacks
returns-then-lacks t c =
    let P = c.args.network.now in
    let h = c.args.ledger.now.history in
    let asked = c.args.asked in
    let spot = c.in-Some.spot in
    let opened = c.in-Some.ensures in
    let l : spot.place < arity P asked.function = omega (arith, c.if-left-eq0.false, ap length c.scope-scope.ensures) in
    let at = ap (λ (xs : List ℕ). get_or xs spot.place 0) c.scope-scope.ensures in
    let size = size_at P asked.function c.scope-scope.result.now spot.place c.size-value-end.result c.scope-scope.ensures l c.size-value-end.ensures in
    let live = subst (λ y. is_live h y c.loop-value.value ≡ true) at (sym c.is_live.ensures ∙ c.if-is_live.true) in
    let rest = subst (λ (s : Spot). Lacks P h asked s) c.behind-next.ensures.behind (c.lacks.ensures.0 c.if-lacks.true) in
    let more = lacks_more P h asked spot c.loop-value.value l (omega (arith, size, c.loop-value-test.true)) (λ e. absurd (opened.apart l e)) live rest in
    (λ yes. opened.same.0 more, λ lack. refl)

pub loop-value-preserved : goal.loop-value-preserved
loop-value-preserved t c =
    let P = c.args.network.now in
    let h = c.args.ledger.now.history in
    let asked = c.args.asked in
    let spot = c.in-Some.spot in
    none_more P h asked spot _ c.loop-value.value (λ live lack. elim c.if-is_live.branch [
      | then-is_live+else-lacks w ↦ false≢true (sym w.if-lacks.false ∙ w.lacks.ensures.1 (subst (λ (s : Spot). Lacks P h asked s) (sym w.behind-next.ensures.behind) lack))
      | else-is_live w ↦ false≢true (sym w.if-is_live.false ∙ c.is_live.ensures ∙ live)
    ]) c.loop-value.invariant

pub returns : goal.returns
returns t c =
    let P = c.args.network.now in
    let asked = c.args.asked in
    let spot = c.in-Some.spot in
    let opened = c.in-Some.ensures in
    let l : spot.place < arity P asked.function = omega (arith, c.if-left-eq0.false, ap length c.scope-scope.ensures) in
    let at = ap (λ (xs : List ℕ). get_or xs spot.place 0) c.scope-scope.ensures in
    let size = size_at P asked.function c.scope-scope.result.now spot.place c.size-value-end.result c.scope-scope.ensures l c.size-value-end.ensures in (
      λ no. absurd (false≢true no),
      λ lack. absurd (none_left P c.args.ledger.now.history asked spot _ c.loop-value.value at l (omega (arith, size, c.loop-value-test.false)) c.loop-value.invariant (opened.same.1 lack)),
    )
