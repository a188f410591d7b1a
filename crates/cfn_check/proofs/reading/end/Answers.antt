use Rattle.std.proofs.Common.{[], ◌∷◌, ◌++◌}
use Rattle.std.proofs.lemmas.Result.{err_from_is_err_and}
use Rattle.cfn_fault.specs.Lines.{AtNodes, AtOver, End}
use Rattle.cfn_check.proofs.Telling.{end_right, all_read}
use Rattle.cfn_check.proofs.reading.end.Goals as goal

pub returns-in_err-_end-clause-stop : goal.returns-in_err-_end-clause-stop
returns-in_err-_end-clause-stop c =
    let p = err_from_is_err_and c.from_residual.result c.from_residual.ensures.1 in
    rw (p.1, p.2) (λ P ls version right. c.in_err-_end.ensures.stop P ls (AtNodes version []) right)

pub returns-in_err-_over-clause-stop : goal.returns-in_err-_over-clause-stop
returns-in_err-_over-clause-stop c =
    let p = err_from_is_err_and c.from_residual-in_err-_over.result c.from_residual-in_err-_over.ensures.1 in
    rw (p.1, p.2) (λ P ls version right.
    let mid = end_right P c.args.reader.now c.next.new.reader ls version _ right (c.in_ok-_end.ensures.event ls (AtNodes version []) right.read) in
    rw c.in_ok-_end.ensures.text at (c.in_err-_over.ensures.stop P (ls ++ End ∷ []) AtOver mid))

pub returns-clause-right : goal.returns-clause-right
returns-clause-right c = λ P ls version right.
    let mid = end_right P c.args.reader.now c.next.new.reader ls version _ right (c.in_ok-_end.ensures.event ls (AtNodes version []) right.read) in
    all_read P c.args.reader.now c.next.new.reader c.next-2.new.reader ls version _ _ c.in_ok-_end.ensures.text right (c.in_ok-_end.ensures.event ls (AtNodes version []) right.read) (c.in_ok-_over.ensures.event (ls ++ End ∷ []) AtOver mid.read)
