use Rattle.std.proofs.Common.{sym, subst, arith}
use Rattle.cfn_store.specs.Marking.{IsBehind}
use Rattle.cfn_settled_tests.proofs.Behind.{behind_more, behind_back}
use Rattle.cfn_settled_tests.proofs.walking.+walk.Goals.{in-1+in_ok-end-in-1+in-Back+else-past-gt0, in_default+in_ok-advance-in_default}
use Rattle.cfn_settled_tests.proofs.walking.+walk.Goals as goal

pub returns-in_err-end-in-1 : goal.returns-in_err-end-in-1
returns-in_err-end-in-1 t c = behind_more c.args.store.now c.loop-left.store c.walk.new.store c.loop-left.invariant.behind c.walk.ensures

pub returns-in_default-end : goal.returns-in_default-end
returns-in_default-end t c = behind_more c.args.store.now c.loop-left.store c.walk.new.store c.loop-left.invariant.behind c.walk.ensures

pub returns-then-marks-gt0 : goal.returns-then-marks-gt0
returns-then-marks-gt0 t c = behind_more c.args.store.now c.loop-left.store c.walk.new.store c.loop-left.invariant.behind c.walk.ensures

pub returns-in_err-advance-in_default : goal.returns-in_err-advance-in_default
returns-in_err-advance-in_default t c = behind_more c.args.store.now c.loop-left.store c.advance.new.store c.loop-left.invariant.behind c.advance.ensures

pub returns-in_err-fault : goal.returns-in_err-fault
returns-in_err-fault t c =
    subst (IsBehind c.args.store.now) (sym c.fault_behind.ensures.same) (elim c.match-below.branch [
      | in-1+in_ok-end-in-1+in-Back+else-past-gt0 w ↦
          subst (IsBehind c.args.store.now) (sym w.store-is) (behind_more c.args.store.now c.loop-left.store w.undo.new.self c.loop-left.invariant.behind
          (behind_back c.loop-left.store w.mark-mark.result w.walk.new.store w.undo.new.self w.mark-mark.ensures w.walk.ensures w.undo.ensures))
      | in_default+in_ok-advance-in_default w ↦
          subst (IsBehind c.args.store.now) (sym w.store-is) (behind_more c.args.store.now c.loop-left.store w.advance.new.store c.loop-left.invariant.behind w.advance.ensures)
    ])

pub returns-in-Some : goal.returns-in-Some
returns-in-Some t c =
    subst (IsBehind c.args.store.now) (sym c.fault_behind.ensures.same) (elim c.match-below.branch [
      | in-1+in_ok-end-in-1+in-Back+else-past-gt0 w ↦
          subst (IsBehind c.args.store.now) (sym w.store-is) (behind_more c.args.store.now c.loop-left.store w.undo.new.self c.loop-left.invariant.behind
          (behind_back c.loop-left.store w.mark-mark.result w.walk.new.store w.undo.new.self w.mark-mark.ensures w.walk.ensures w.undo.ensures))
      | in_default+in_ok-advance-in_default w ↦
          subst (IsBehind c.args.store.now) (sym w.store-is) (behind_more c.args.store.now c.loop-left.store w.advance.new.store c.loop-left.invariant.behind w.advance.ensures)
    ])

pub loop-left-preserved : goal.loop-left-preserved
loop-left-preserved t c = record {
  behind = subst (IsBehind c.args.store.now) (sym c.fault_behind.ensures.same) (elim c.match-below.branch [
    | in-1+in_ok-end-in-1+in-Back+else-past-gt0 w ↦
        subst (IsBehind c.args.store.now) (sym w.store-is) (behind_more c.args.store.now c.loop-left.store w.undo.new.self c.loop-left.invariant.behind
        (behind_back c.loop-left.store w.mark-mark.result w.walk.new.store w.undo.new.self w.mark-mark.ensures w.walk.ensures w.undo.ensures))
    | in_default+in_ok-advance-in_default w ↦
        subst (IsBehind c.args.store.now) (sym w.store-is) (behind_more c.args.store.now c.loop-left.store w.advance.new.store c.loop-left.invariant.behind w.advance.ensures)
  ]);
  fewer = (let few = c.loop-left.invariant.fewer in elim c.match-below.branch [
    | in-1+in_ok-end-in-1+in-Back+else-past-gt0 w ↦ (let is = w.left-is in let least = w.min-left.ensures in omega (arith, few, is, least))
    | in_default+in_ok-advance-in_default w ↦ (let is = w.left-is in omega (arith, few, is))
  ]);
}
