use Rattle.std.proofs.Common.{[], ◌∷◌, ◌++◌, refl}
use Rattle.std.proofs.lemmas.Result.{err_from_is_err_and}
use Rattle.cfn_fault.specs.Lines.{AtBest, AtRoot, NoBest, Best}
use Rattle.cfn_check.specs.Checking.{best_front}
use Rattle.cfn_check.proofs.BestValues.{none_right, cost_right, cost_stop}
use Rattle.cfn_check.proofs.best.best.Goals as goal

pub returns-in_err-event-clause-stop : goal.returns-in_err-event-clause-stop
returns-in_err-event-clause-stop c =
    let p = err_from_is_err_and c.from_residual.result c.from_residual.ensures.1 in
    rw (p.1, p.2) (λ lower bounded. c.in_err-event.ensures.stop c.args.network.now (best_front bounded.0 c.args.network.now lower) (AtBest bounded.0) bounded.1)

pub returns-in_err-root-in-NoBest-clause-stop : goal.returns-in_err-root-in-NoBest-clause-stop
returns-in_err-root-in-NoBest-clause-stop c =
    let p = err_from_is_err_and c.from_residual-in_err-root-in-NoBest.result c.from_residual-in_err-root-in-NoBest.ensures.1 in
    rw (p.1, p.2) (λ lower bounded.
    let P = c.args.network.now in
    let version = bounded.0 in
    let ls = best_front version P lower in
    let more = none_right P c.args.reader.now c.next.new.reader ls version c.in_ok-event.event c.in-NoBest.is bounded.1 (c.in_ok-event.ensures.event ls (AtBest version) bounded.1.read) in
    rw c.in_ok-event.ensures.text at (c.in_err-root-in-NoBest.ensures.stop P (ls ++ NoBest ∷ []) (AtRoot version) more))

pub returns-then-cost-ub-clause-stop : goal.returns-then-cost-ub-clause-stop
returns-then-cost-ub-clause-stop c = λ lower bounded.
    let P = c.args.network.now in
    let version = bounded.0 in
    let ls = best_front version P lower in
    cost_stop P c.args.reader.now c.next.new.reader ls version c.in_ok-event.event c.in-Best.cost c.in-Best.is (rw c.ub.ensures at c.if-cost-ub.true) c.in_ok-event.ensures.text bounded.1 (c.in_ok-event.ensures.event ls (AtBest version) bounded.1.read)

pub returns-in_err-values-in-Best-clause-stop : goal.returns-in_err-values-in-Best-clause-stop
returns-in_err-values-in-Best-clause-stop c =
    let p = err_from_is_err_and c.from_residual-in_err-values-in-Best.result c.from_residual-in_err-values-in-Best.ensures.1 in
    rw (p.1, p.2) (λ lower bounded.
    let P = c.args.network.now in
    let version = bounded.0 in
    let ls = best_front version P lower in
    let more = cost_right P c.args.reader.now c.next.new.reader ls version c.in_ok-event.event c.in-Best.cost c.in-Best.is (rw c.ub.ensures at c.if-cost-ub.false) bounded.1 (c.in_ok-event.ensures.event ls (AtBest version) bounded.1.read) in
    rw c.in_ok-event.ensures.text at (c.in_err-values-in-Best.ensures.stop (ls ++ Best c.in-Best.cost ∷ []) version more refl))

pub returns-in_ok-root-in-NoBest-clause-right : goal.returns-in_ok-root-in-NoBest-clause-right
returns-in_ok-root-in-NoBest-clause-right c = λ lower bounded.
    let P = c.args.network.now in
    let version = bounded.0 in
    let ls = best_front version P lower in
    let more = none_right P c.args.reader.now c.next.new.reader ls version c.in_ok-event.event c.in-NoBest.is bounded.1 (c.in_ok-event.ensures.event ls (AtBest version) bounded.1.read) in
    (version, [], c.in_ok-root-in-NoBest.ensures.right P (ls ++ NoBest ∷ []) version more)

pub returns-in_ok-values-in-Best-clause-right : goal.returns-in_ok-values-in-Best-clause-right
returns-in_ok-values-in-Best-clause-right c = λ lower bounded.
    let P = c.args.network.now in
    let version = bounded.0 in
    let ls = best_front version P lower in
    let more = cost_right P c.args.reader.now c.next.new.reader ls version c.in_ok-event.event c.in-Best.cost c.in-Best.is (rw c.ub.ensures at c.if-cost-ub.false) bounded.1 (c.in_ok-event.ensures.event ls (AtBest version) bounded.1.read) in
    let read = c.in_ok-values-in-Best.ensures.right (ls ++ Best c.in-Best.cost ∷ []) version more refl in
    (version, read.0, read.1)
