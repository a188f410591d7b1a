-- After a piece was put the file is still being written.
use Rattle.std.proofs.Common.{rules, subst, sym}
use Rattle.cfn_desk.specs.Outside.{Outside, IsWriting}
use Rattle.cfn_desk.proofs.CallerLemmas.{IsWriting-puts}
use Rattle.cfn_desk_tests.proofs.calling.write_file.Goals as goal

pub put-requires-2 : goal.put-requires-2
put-requires-2 g c =
    let calls = (g.D.Desk.outside c.open_out.new.self).calls in
    let begun : IsWriting calls = search rules in
    subst (λ (o : Outside). IsWriting o.calls) (sym c.in_default.ensures.called) (IsWriting-puts c.args.front.now calls begun)

pub close_out-requires : goal.close_out-requires
close_out-requires g c =
    let calls = (g.D.Desk.outside c.open_out.new.self).calls in
    let begun : IsWriting calls = search rules in
    let first : IsWriting (g.D.Desk.outside c.put.new.self).calls = subst (λ (o : Outside). IsWriting o.calls) (sym c.in_default.ensures.called) (IsWriting-puts c.args.front.now calls begun) in
    subst (λ (o : Outside). IsWriting o.calls) (sym c.in_default-put.ensures.called) (IsWriting-puts c.args.back.now (g.D.Desk.outside c.put.new.self).calls first)
