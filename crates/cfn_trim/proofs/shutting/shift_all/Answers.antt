use Rattle.std.proofs.Common.{◌≡◌, ◌+◌, ℕ, List, length, sym, ap, subst, ◌∙◌, arith}
use Rattle.cfn_model.specs.Network.{Network}
use Rattle.cfn_store.specs.Standing.{Standing}
use Rattle.cfn_trim.specs.Shifting.{IsShutting}
use Rattle.cfn_trim.proofs.shutting.shift_all.Goals as goal

-- the sizes that the function was called with
width : (c : goal.After-shift_at) → length c.loop-f.store.network.sizes ≡ length c.args.store.now.network.sizes
width c = ap (λ (N : Network). length N.sizes) c.loop-f.invariant.0

pub shift_at-requires-clause-start : goal.shift_at-requires-clause-start
shift_at-requires-clause-start c = (
  c.requires.start.0,
  c.requires.start.1,
  subst (λ n. IsShutting c.requires.start.0 c.loop-f.store c.requires.start.1 c.args.k n c.loop-f.f) (sym (ap (λ (N : Network). length N.sizes) c.loop-f.invariant.0)) (c.loop-f.invariant.1 c.requires.start.0 c.requires.start.1 c.requires.start.2),
)

pub loop-f-preserved : goal.loop-f-preserved
loop-f-preserved c =
    let go : (before : Standing) (values : List ℕ) → IsShutting before c.args.store.now values c.args.k (length c.args.store.now.network.sizes) 0 → IsShutting before c.shift_at.new.store values c.args.k (length c.args.store.now.network.sizes) (c.loop-f.f + 1) = λ before values start.
    subst (λ n. IsShutting before c.shift_at.new.store values c.args.k n (c.loop-f.f + 1)) (width c) (c.shift_at.ensures before values (subst (λ n. IsShutting before c.loop-f.store values c.args.k n c.loop-f.f) (sym (width c)) (c.loop-f.invariant.1 before values start))) in
    let now = go c.requires.start.0 c.requires.start.1 c.requires.start.2 in
    (now.adds.network ∙ sym c.requires.start.2.adds.network, go)

pub returns : goal.returns
returns c = λ before values start.
    (let all : c.loop-f.f ≡ length c.args.store.now.network.functions = (let t = c.loop-f-test.false in let l = c.loop-f.auto.f-end in let e = c.functions-f-end.ensures in let n = ap (λ (N : Network). length N.functions) c.network-network.ensures in omega (arith, t, l, e, n)) in
    subst (IsShutting before c.loop-f.store values c.args.k (length c.args.store.now.network.sizes)) all (c.loop-f.invariant.1 before values start))
