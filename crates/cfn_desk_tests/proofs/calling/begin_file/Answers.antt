-- After a piece was put the file is being written.
use Rattle.std.proofs.Common.{rules, subst, sym, ℕ, List}
use Rattle.std.specs.Prelude.{Result, Ok, Err, OnOk}
use Rattle.cfn_desk.specs.Outside.{Call, Outside, IsWriting, after_put}
use Rattle.cfn_desk.proofs.CallerLemmas.{IsWriting-puts}
use Rattle.cfn_desk_tests.proofs.calling.begin_file.Goals as goal

after_piece : {T E : Type 0} (piece : List ℕ) (answer : Result T E) (calls : List Call) → IsWriting calls → OnOk answer (IsWriting (after_put piece answer calls))
after_piece piece (Ok _) calls begun = IsWriting-puts piece calls begun
after_piece piece (Err _) calls begun = tt

pub returns : goal.returns
returns g c =
    let calls = (g.D.Desk.outside c.open_out.new.self).calls in
    let begun : IsWriting calls = search rules in
    subst (λ (o : Outside). OnOk c.put.result (IsWriting o.calls)) (sym c.put.ensures.called) (after_piece c.args.piece.now c.put.result calls begun)
