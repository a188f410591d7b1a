use Rattle.std.proofs.Common.{◌≡◌, ℕ, ◌*◌, ◌≤◌, ap, ◌∙◌, subst}
use Rattle.cfn_vac.specs.Running.{amount_of}
use Rattle.cfn_vac.proofs.Running.{can_make}
use Rattle.cfn_vac.proofs.run.make.Goals as goal

within : (factor amount given product capacity : ℕ) → given ≡ amount → product ≡ factor * given → product ≤ capacity → factor * amount ≤ capacity
within factor amount given product capacity same is le = subst (λ n. n ≤ capacity) (is ∙ ap (λ n. factor * n) same) le

pub shift-requires-clause-can : goal.shift-requires-clause-can
shift-requires-clause-can c =
    can_make c.args.store.now c.args.step c.args.factor c.room-capacity.result c.requires.shift c.room-capacity.ensures c.requires.some
    (within c.args.factor (amount_of c.args.step) c.amount.result c.in-Some.amount c.room-capacity.result c.amount.ensures c.in-Some.ensures.0 c.in-Some.ensures.1)

pub returns-in-Some-clause-made : goal.returns-in-Some-clause-made
returns-in-Some-clause-made c =
    can_make c.args.store.now c.args.step c.args.factor c.room-capacity.result c.requires.shift c.room-capacity.ensures c.requires.some
    (within c.args.factor (amount_of c.args.step) c.amount.result c.in-Some.amount c.room-capacity.result c.amount.ensures c.in-Some.ensures.0 c.in-Some.ensures.1)
