use Rattle.std.proofs.Common.{◌∙◌, ◌≤◌, ap, map, replicate, length, arith, take_all}
use Rattle.std.specs.Prelude.{false}
use Rattle.cfn_model.specs.Network.{cells, dims}
use Rattle.cfn_store.proofs.Roots.{cuts_at_root}
use Rattle.cfn_store.proofs.cuts.Cuts.at_root.Goals as goal

pub returns : goal.returns
returns c =
    let P = c.args.network.now in
    let l : length P.functions ≤ c.loop-f.f = (let t = c.loop-f-test.false in let e = c.functions-f-end.ensures in omega (arith, t, e)) in
    let whole = c.loop-f.invariant ∙ ap (map (λ f. cells (dims P.sizes f.scope))) (take_all c.loop-f.f P.functions l) in
    cuts_at_root P _ (c.in_ok-filled.ensures ∙ ap (λ lengths. map (λ n. replicate n false) lengths) (c.deref.ensures.value ∙ whole)) c.new.ensures.items
