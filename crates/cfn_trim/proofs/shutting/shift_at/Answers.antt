use Rattle.std.proofs.Common.{◌≡◌, ◌<◌, length, sym, ap, subst, ◌∙◌, arith}
use Rattle.std.specs.Prelude.{slice_index}
use Rattle.cfn_model.specs.Network.{IsNetwork, arity, scope_at, variable_at}
use Rattle.cfn_store.specs.Standing.{history}
use Rattle.cfn_model.specs.declared.step.Step.TheVariants.{Project}
use Rattle.cfn_model.specs.Sums.{floor}
use Rattle.cfn_model.specs.Steps.{IsValue}
use Rattle.cfn_trim.proofs.Emptying.{shift_more, shift_none, shift_empty, place_of, live_kept, made_network}
use Rattle.cfn_trim.proofs.Ending.{range_of}
use Rattle.cfn_trim.proofs.shutting.shift_at.Goals.{then-is_empty-via-then-is_empty, then-is_empty-via-else-is_empty+then-lacks-eq0}
use Rattle.cfn_trim.proofs.shutting.shift_at.Goals as goal

pub returns-then-is_empty : goal.returns-then-is_empty
returns-then-is_empty c = λ before values old. elim c.then-is_empty.branch [
  | then-is_empty-via-then-is_empty w ↦ (let t = w.if-is_empty.true in let e = c.is_empty.ensures in let s = ap length c.scope-scope.ensures in let n = ap (λ N. arity N c.args.f) c.network-network.ensures in
      shift_empty before c.args.store.now values c.args.k (length c.args.store.now.network.sizes) c.args.f (grind (arith, t, e, s, n)) (range_of c.args.store.now.network (history c.args.store.now) c.law_exact.ensures) old)
  | then-is_empty-via-else-is_empty+then-lacks-eq0 w ↦ (let l = w.lacks.ensures in let z = w.if-lacks-eq0.true in
      shift_none before c.args.store.now values c.args.k (length c.args.store.now.network.sizes) c.args.f (λ low. (let bad = low in omega (arith, l, z, bad))) old)
]

pub lift_at-requires-clause-live : goal.lift_at-requires-clause-live
lift_at-requires-clause-live c =
    live_kept c.args.store.now c.project_at.new.store c.args.f c.value_of-a.result c.project_at.ensures.amount (slice_index c.scope-scope.result.now 0) c.value_of-a.result c.project_at.ensures.made ∙ c.value_of-a.ensures.live

pub lift_at-requires-clause-only : goal.lift_at-requires-clause-only
lift_at-requires-clause-only c = λ b value live.
    (let x = slice_index c.scope-scope.result.now 0 in
    let network = made_network c.args.store.now c.project_at.new.store c.project_at.ensures.amount (Project c.args.f 0 c.value_of-a.result c.project_at.ensures.amount) c.project_at.ensures.made in
    let leaf = c.requires.start.2.leaf in
    leaf.only x b (subst (λ N. IsValue N x b) network value) (sym (live_kept c.args.store.now c.project_at.new.store c.args.f c.value_of-a.result c.project_at.ensures.amount x b c.project_at.ensures.made) ∙ live)
    ∙ sym (c.value_of-a.ensures.value c.requires.start.1 leaf))

pub returns : goal.returns
returns c = λ before values old.
    (let s = c.args.store.now in let P = s.network in let f = c.args.f in let x = slice_index c.scope-scope.result.now 0 in let a = c.value_of-a.result in
    let scope : c.scope-scope.result.now ≡ scope_at P f = c.scope-scope.ensures ∙ ap (λ N. scope_at N f) c.network-network.ensures in
    let net = subst IsNetwork c.network-network.ensures c.law_limits.ensures in
    let some : 0 < arity P f = (let t = c.if-is_empty.false in let e = c.is_empty.ensures in let n = ap length scope in grind (arith, t, e, n)) in
    let at : x ≡ variable_at P f 0 = ap (λ l. slice_index l 0) scope in
    let lacking : floor P (history s) < c.args.k = (let l = c.lacks.ensures in let z = c.if-lacks-eq0.false in omega (arith, l, z)) in
    let room : 1 < s.spare = (let r = old.room in let t = c.requires.function in omega (arith, r, t)) in
    shift_more before s c.project_at.new.store c.lift_at.new.store values c.args.k f a x net (place_of P f a x net c.requires.function some at c.value_of-a.ensures.is) at c.value_of-a.ensures.is.variable (c.value_of-a.ensures.value values old.leaf) lacking room old c.project_at.ensures c.lift_at.ensures)
