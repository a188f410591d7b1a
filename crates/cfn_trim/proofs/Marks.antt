-- Back to where a block began.
use Rattle.std.proofs.Common.{◌≡◌, ◌+◌, ◌-◌, ◌≤◌, List, [], ◌∷◌, ◌++◌, length, length-append, append_assoc, refl, sym, ap, ◌∙◌, subst, arith}
use Rattle.cfn_model.specs.declared.step.Step.{Step}
use Rattle.cfn_model.specs.declared.step.Event.{Event}
use Rattle.cfn_model.specs.declared.step.Event.TheVariants.{Did}
use Rattle.cfn_model.specs.Steps.{after}
use Rattle.cfn_store.specs.Marking.{IsBehind, back_at}
use Rattle.cfn_store.specs.Standing.{Standing, history}
use Rattle.cfn_trim.specs.Trimming.{IsBegin, IsBeside}

behind : (steps : List Step) (before : List Event) → (later : List Event) × (after steps before ≡ later ++ before) × (length later ≡ length steps)
behind [] before = ([], refl, refl)
behind (step ∷ steps) before =
    let r = behind steps (Did step ∷ before) in let long = length-append r.0 (Did step ∷ []) in let n = r.2 in
    (r.0 ++ Did step ∷ [], r.1 ∙ sym (append_assoc r.0 (Did step ∷ []) before), omega (arith, long, n))

-- the history of a mark where a block began is the store's base
mark_history : (mark s : Standing) → IsBegin mark s → history mark ≡ s.base
mark_history mark s begin = ap (λ l. after l mark.base) begin.none ∙ begin.base

pub begin_behind : (mark s : Standing) → IsBegin mark s → IsBehind mark s
begin_behind mark s begin =
    let r = behind s.block s.base in
    record { network = begin.network; later = r.0; path = r.1 ∙ ap (λ l. r.0 ++ l) (sym (mark_history mark s begin)) }

pub begin_beside : (mark before now : Standing) → IsBegin mark before → IsBeside before now → IsBegin mark now
begin_beside mark before now begin beside = record { network = begin.network ∙ sym beside.network; base = begin.base ∙ sym beside.base; none = begin.none }

pub beside_then : (one two three : Standing) → IsBeside one two → IsBeside two three → IsBeside one three
beside_then one two three first second = record { network = second.network ∙ first.network; base = second.base ∙ first.base; room = second.room ∙ first.room }

-- how many events are taken back
taken : (mark s : Standing) → IsBegin mark s → length (history s) - length (history mark) ≡ length s.block
taken mark s begin =
    let r = behind s.block s.base in
    let long = ap length r.1 ∙ length-append r.0 s.base in let n = r.2 in let m = ap length (mark_history mark s begin) in
    omega (arith, long, n, m)

-- a store that has gone back
pub back_spare : (mark s : Standing) → IsBegin mark s → (back_at mark s).spare ≡ s.spare + length s.block
back_spare mark s begin = ap (λ n. s.spare + n) (taken mark s begin)

pub back_beside : (mark s : Standing) → IsBegin mark s → IsBeside s (back_at mark s)
back_beside mark s begin =
    let spare = back_spare mark s begin in let none = ap length begin.none in
    record { network = refl; base = begin.base; room = omega (arith, spare, none) }

pub back_same : (mark before now : Standing) → IsBegin mark before → IsBeside before now → back_at mark now ≡ back_at mark before
back_same mark before now begin beside =
    let one = back_spare mark before begin in
    let two = back_spare mark now (begin_beside mark before now begin beside) in
    let room = beside.room in
    ap (λ P. record { network = P; base = mark.base; block = mark.block; spare = (back_at mark now).spare }) beside.network
    ∙ ap (λ n. record { network = before.network; base = mark.base; block = mark.block; spare = n }) (two ∙ room ∙ sym one)

pub undone_beside : (mark s undone : Standing) → IsBegin mark s → undone ≡ back_at mark s → IsBeside s undone
undone_beside mark s undone begin is = subst (IsBeside s) (sym is) (back_beside mark s begin)

-- there is room for the whole block again
pub undone_room : (mark s undone : Standing) (whole : List Step) → IsBegin mark s → undone ≡ back_at mark s → whole ≡ s.block → length whole ≤ undone.spare
undone_room mark s undone whole begin is all =
    let spare = ap (λ (t : Standing). t.spare) is ∙ back_spare mark s begin in let long = ap length all in omega (arith, spare, long)
