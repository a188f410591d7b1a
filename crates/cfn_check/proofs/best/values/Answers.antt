use Rattle.std.proofs.Common.{◌≡◌, List, [], ◌∷◌, ◌++◌, length, ap, sym, ◌∙◌, arith}
use Rattle.std.proofs.lemmas.Bool.{iff_false}
use Rattle.std.proofs.lemmas.Result.{err_from_is_err_and, IfOk-at_ok, IfErr-at_err}
use Rattle.cfn_model.specs.declared.version.Version.{Version}
use Rattle.cfn_fault.specs.Lines.{Line, State, AtValues, AtRoot, Values}
use Rattle.cfn_certtext.specs.Reading.{HasRead, Tells}
use Rattle.cfn_certtext.specs.declared.event.Event.{Event}
use Rattle.cfn_check.specs.Checking.{Stops}
use Rattle.cfn_check.proofs.Telling.{root_right}
use Rattle.cfn_check.proofs.BestValues.{told_more, value_goes, values_end, values_right, values_stop}
use Rattle.cfn_check.proofs.best.values.Goals as goal

pub returns-in_err-event-clause-stop : goal.returns-in_err-event-clause-stop
returns-in_err-event-clause-stop c =
    let p = err_from_is_err_and c.from_residual.result c.from_residual.ensures.1 in
    rw (p.1, p.2) (λ ls version right same. c.in_err-event.ensures.stop c.args.network.now ls (AtValues version) right)

pub loop-value-smaller : goal.loop-value-smaller
loop-value-smaller c =
    let due = c.loop-value.invariant.due in
    let g = value_goes c.loop-value.reader c.next-after.new.reader c.next-after.result c.in-Some.value due.1 due.0 (sym c.value_in.ensures ∙ c.in-Some.is) c.next-after.ensures.event due.2 in
    omega (arith, ap length g.left)

pub loop-value-preserved : goal.loop-value-preserved
loop-value-preserved c =
    let due = c.loop-value.invariant.due in
    let some = sym c.value_in.ensures ∙ c.in-Some.is in
    let goes = λ (ls : List Line) (version : Version) (read : HasRead c.loop-value.reader ls (AtRoot version)). value_goes c.loop-value.reader c.next-after.new.reader c.next-after.result c.in-Some.value ls version some c.next-after.ensures.event read in
    record {
      text = c.next-after.ensures.text ∙ c.loop-value.invariant.text;
      due = (due.0, due.1, (goes due.1 due.0 due.2).read);
      read = λ ls version read. (goes ls version (c.loop-value.invariant.read ls version read)).read;
      told = λ values told. c.in_ok-add-2.ensures values c.next-after.new.reader.left (told_more c.args.network.now c.loop-value.told values _ _ (goes due.1 due.0 due.2).left (c.loop-value.invariant.told values told));
    }

pub returns-then-not-has_cost-clause-stop : goal.returns-then-not-has_cost-clause-stop
returns-then-not-has_cost-clause-stop c = λ ls version right same.
    let P = c.args.network.now in
    let e = values_end P c.args.reader.now c.next.new.reader c.loop-value.reader c.next-after.new.reader ls version c.in_ok-event.event c.new-told.result c.add.new.self c.loop-value.told c.in-Value.value c.next-after.result right c.in-Value.is c.in_ok-event.ensures.event c.new-told.ensures.possible c.new-told.ensures.values c.in_ok-add.ensures c.loop-value.invariant.read c.loop-value.invariant.told (sym c.value_in.ensures ∙ c.in_default-value_in.is) c.next-after.ensures.event c.next-after.ensures.left in
    let wrong = iff_false (c.has_cost.ensures (e.value.first ∷ e.value.others) e.told_all) c.if-not-has_cost.true in
    values_stop P c.args.reader.now c.next.new.reader ls version c.in_ok-event.event e.value c.in_ok-event.ensures.text right (λ has. wrong (has.0, has.1 ∙ same))

pub returns-in_err-_root-clause-stop : goal.returns-in_err-_root-clause-stop
returns-in_err-_root-clause-stop c =
    let p = err_from_is_err_and c.from_residual-in_err-_root.result c.from_residual-in_err-_root.ensures.1 in
    rw (p.1, p.2) (λ ls version right same.
    let P = c.args.network.now in
    let e = values_end P c.args.reader.now c.next.new.reader c.loop-value.reader c.next-after.new.reader ls version c.in_ok-event.event c.new-told.result c.add.new.self c.loop-value.told c.in-Value.value c.next-after.result right c.in-Value.is c.in_ok-event.ensures.event c.new-told.ensures.possible c.new-told.ensures.values c.in_ok-add.ensures c.loop-value.invariant.read c.loop-value.invariant.told (sym c.value_in.ensures ∙ c.in_default-value_in.is) c.next-after.ensures.event c.next-after.ensures.left in
    let has = (c.has_cost.ensures (e.value.first ∷ e.value.others) e.told_all).0 c.if-not-has_cost.false in
    let all_right = values_right P c.args.reader.now c.loop-value.reader ls version (e.value.first ∷ e.value.others) e.left e.read right (has.0, has.1 ∙ sym same) in
    let stop = IfErr-at_err (Stops c.loop-value.reader) c.in_err-_root.was c.next-after.ensures.stop in
    let text : c.loop-value.reader.text ≡ c.args.reader.now.text = c.loop-value.invariant.text ∙ c.in_ok-event.ensures.text in
    rw text at (stop P (ls ++ Values (e.value.first ∷ e.value.others) ∷ []) (AtRoot version) all_right))

pub returns-in-loop-value-clause-right : goal.returns-in-loop-value-clause-right
returns-in-loop-value-clause-right c = λ ls version right same.
    let P = c.args.network.now in
    let e = values_end P c.args.reader.now c.next.new.reader c.loop-value.reader c.next-after.new.reader ls version c.in_ok-event.event c.new-told.result c.add.new.self c.loop-value.told c.in-Value.value c.next-after.result right c.in-Value.is c.in_ok-event.ensures.event c.new-told.ensures.possible c.new-told.ensures.values c.in_ok-add.ensures c.loop-value.invariant.read c.loop-value.invariant.told (sym c.value_in.ensures ∙ c.in_default-value_in.is) c.next-after.ensures.event c.next-after.ensures.left in
    let has = (c.has_cost.ensures (e.value.first ∷ e.value.others) e.told_all).0 c.if-not-has_cost.false in
    let all_right = values_right P c.args.reader.now c.loop-value.reader ls version (e.value.first ∷ e.value.others) e.left e.read right (has.0, has.1 ∙ sym same) in
    let tells = IfOk-at_ok (λ (event : Event). (ls' : List Line) (s : State) → HasRead c.loop-value.reader ls' s → Tells c.loop-value.reader c.next-after.new.reader ls' s event) c.in_ok-_root.was c.next-after.ensures.event in
    (e.value.first ∷ e.value.others, root_right P c.loop-value.reader c.next-after.new.reader (ls ++ Values (e.value.first ∷ e.value.others) ∷ []) version c.in_ok-_root._root all_right (tells (ls ++ Values (e.value.first ∷ e.value.others) ∷ []) (AtRoot version) all_right.read))
