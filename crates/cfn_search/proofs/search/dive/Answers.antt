use Rattle.std.proofs.Common.{◌≡◌, IfErr, sym, subst}
use Rattle.cfn_machine.specs.Pool.{Task}
use Rattle.cfn_machine.specs.Steps.{IsOut}
use Rattle.cfn_machine.proofs.CallerLemmas.{takes_out}
use Rattle.cfn_pool.specs.Views.{pool}
use Rattle.cfn_search.specs.declared.hand.Unplaced.{Unplaced}
use Rattle.cfn_search.specs.Searching.{IsUnplaced}
use Rattle.cfn_search.proofs.search.dive.Goals as goal

-- no piece comes too late: its leaf was taken, and no other worker gives it back
pub returns-in-Err-Late-clause-more : goal.returns-in-Err-Late-clause-more
returns-in-Err-Late-clause-more g c =
    let taken = c.take.new.held in
    let task = c.in-Task.task.task in
    let made = c.in-Ok.made in
    let out = takes_out g.M.Incumbent.network (pool c.args.held.now) (pool taken) _ _ task c.in-Task.ensures.asks.1 in
    let of_task = c.in-Ok.ensures.made.piece_is.task_is in
    let unplaced = subst (λ (why : Unplaced). IsUnplaced taken made.task why c.hand_in-handed.new.held) c.in-Err-Late.field-0-is
    (rw c.in-Err-Late.is (subst (λ answer. IfErr answer (λ why. IsUnplaced taken made.task why c.hand_in-handed.new.held)) c.in-Err-Late.is c.hand_in-handed.ensures.unplaced)) in
    absurd (unplaced.1 (subst (λ (t : Task). IsOut (pool taken) t) (sym of_task) out))
