use Rattle.std.proofs.Common.{◌≡◌, false, sym, ap, ◌∙◌, subst}
use Rattle.std.specs.Prelude.{slice_index, IsTrue}
use Rattle.cfn_model.specs.Network.{variable_at}
use Rattle.cfn_model.specs.Sums.{is_live}
use Rattle.cfn_scan.specs.Lines.{IsLine}
use Rattle.cfn_store.specs.Standing.{history}
use Rattle.cfn_scan.proofs.CallerLemmas.{side_line}
use Rattle.cfn_dac.proofs.Spreading.{share_dead}
use Rattle.cfn_dac.proofs.spread.share.Goals as goal

pub returns-then-not-is_live : goal.returns-then-not-is_live
returns-then-not-is_live c =
    let s = c.args.store.now in let pair = c.args.pair in
    let y = ap (λ l. slice_index l pair.other) c.scope.ensures ∙ ap (λ P. variable_at P pair.function pair.other) c.network-2.ensures in
    share_dead s.network (history s) pair c.args.moves.now c.args.value c.requires.pair (subst (λ v. is_live (history s) v c.args.value ≡ false) y (sym c.is_live.ensures ∙ c.if-not-is_live.true))

pub line-requires : goal.line-requires
line-requires c =
    let s = c.args.store.now in let pair = c.args.pair in let q = c.requires in
    (s.network, history s, pair.function, pair.other, pair.place, c.in-Some.ensures.1 pair.place q.pair.place (λ same. q.pair.different (sym same)), q.value)

pub share_along-requires-clause-line : goal.share_along-requires-clause-line
share_along-requires-clause-line c =
    let s = c.args.store.now in let pair = c.args.pair in let q = c.requires in
    let y = ap (λ l. slice_index l pair.other) c.scope.ensures ∙ ap (λ P. variable_at P pair.function pair.other) c.network-2.ensures in
    subst (IsLine s.network (history s) pair.function pair.other c.args.value pair.place) (sym c.line.ensures)
    (side_line s.network (history s) pair.function pair.other pair.place c.in-Some.side (c.in-Some.ensures.1 pair.place q.pair.place (λ same. q.pair.different (sym same))) c.args.value q.value
    (subst (λ v. IsTrue (is_live (history s) v c.args.value)) y (sym c.is_live.ensures ∙ c.if-not-is_live.false)))
