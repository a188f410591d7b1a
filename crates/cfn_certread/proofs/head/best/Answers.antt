use Rattle.std.proofs.Common.{[], ◌∷◌, ◌++◌}
use Rattle.cfn_fault.specs.Lines.{Best, AtBest}
use Rattle.cfn_certread.proofs.Telling.{cost_goes, no_best_read, best_read}
use Rattle.cfn_certread.proofs.head.best.Goals as goal

pub returns-in_ok-_root-in-NoBest-clause-read : goal.returns-in_ok-_root-in-NoBest-clause-read
returns-in_ok-_root-in-NoBest-clause-read c = λ version ls stands.
    no_best_read c.args.reader.now c.next.new.reader c.next-in-NoBest.new.reader ls version c.in_ok-event.event c.in_ok-_root-in-NoBest._root c.in-NoBest.is stands (c.in_ok-event.ensures.event ls (AtBest version) stands.read) c.in_ok-_root-in-NoBest.ensures.event

pub returns-in_ok-values-in-Best-clause-read : goal.returns-in_ok-values-in-Best-clause-read
returns-in_ok-values-in-Best-clause-read c = λ version ls stands.
    (let cost = cost_goes c.args.reader.now c.next.new.reader ls version c.in_ok-event.event c.in-Best.cost c.in-Best.is stands (c.in_ok-event.ensures.event ls (AtBest version) stands.read) in
    best_read c.values.new.reader ls version c.in-Best.cost c.in_ok-values-in-Best.values.items (c.in_ok-values-in-Best.ensures.read version (ls ++ Best c.in-Best.cost ∷ []) cost))
