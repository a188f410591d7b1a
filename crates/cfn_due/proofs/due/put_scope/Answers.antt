use Rattle.std.proofs.Common.{◌≡◌, ap, sym, subst}
use Rattle.std.specs.Prelude.{slice_index}
use Rattle.cfn_model.specs.Network.{variable_at}
use Rattle.cfn_due.specs.Going.{ArePut}
use Rattle.cfn_due.proofs.Putting.{none_put, more_put, put_one}
use Rattle.cfn_due.proofs.due.put_scope.Goals as goal

pub loop-x-init : goal.loop-x-init
loop-x-init c = none_put c.args.queue.now (λ i x. variable_at c.args.network.now c.args.f i ≡ x)

pub loop-x-preserved : goal.loop-x-preserved
loop-x-preserved c =
    let P = c.args.network.now in let f = c.args.f in let i = c.loop-x.x-index in
    more_put c.args.queue.now c.loop-x.queue c.put.new.self (λ j x. variable_at P f j ≡ x) i c.loop-x.invariant
    (subst (λ v. ArePut c.loop-x.queue c.put.new.self (λ x. v ≡ x)) (ap (λ l. slice_index l i) c.scope-x-items.ensures)
    (subst (λ queue. ArePut c.loop-x.queue queue (λ x. slice_index c.scope-x-items.result.now i ≡ x)) (sym c.put.ensures) (put_one c.loop-x.queue (slice_index c.scope-x-items.result.now i))))
