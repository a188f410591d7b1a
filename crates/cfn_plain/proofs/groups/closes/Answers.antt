use Rattle.std.proofs.Common.{◌≡◌, ℕ, List, ◌∷◌, Result, sym, ◌∙◌, subst}
use Rattle.std.specs.Prelude.{Bool, ◌↔◌, ◌⊎◌, IsTrue, IfOk}
use Rattle.std.specs.declared.alloc.AllocError.{AllocError}
use Rattle.cfn_model.specs.declared.step.Step.{Step}
use Rattle.cfn_model.specs.declared.step.Step.TheVariants.{Project, CutTuple}
use Rattle.cfn_model.specs.declared.step.Event.{Event}
use Rattle.cfn_model.specs.declared.step.Event.TheVariants.{Did}
use Rattle.cfn_model.specs.Network.{Network}
use Rattle.cfn_consistency.specs.Groups.{GotSupport, GotFullSupport, Closes}
use Rattle.cfn_plain.proofs.groups.closes.Goals as goal

-- an answer on a step that is known
abbrev Says : Network → List Event → List Event → Result Bool AllocError → Step → Type 0
Says P start history result step = IfOk result (λ answer. IsTrue answer ↔ Closes P start history step)

says_on : (P : Network) (start history : List Event) (result : Result Bool AllocError) (step known : Step) → step ≡ known → Says P start history result known → Says P start history result step
says_on P start history result step known is = subst (Says P start history result) (sym is)

says_end : (P : Network) (start history end : List Event) (result : Result Bool AllocError) (step : Step) (f i a m : ℕ) → step ≡ Project f i a m → end ≡ Did (Project f i a m) ∷ history
    → IfOk result (λ answer. IsTrue answer ↔ (GotSupport P start end f i a ⊎ GotFullSupport P start end f i a)) → Says P start history result step
says_end P start history end result step f i a m is ends got =
    let Got : List Event → Type 0 = λ end. IfOk result (λ answer. IsTrue answer ↔ (GotSupport P start end f i a ⊎ GotFullSupport P start end f i a)) in
    says_on P start history result step (Project f i a m) is (subst Got ends got)

pub returns-in_ok-end-in-Project : goal.returns-in_ok-end-in-Project
returns-in_ok-end-in-Project c =
    says_end c.args.network.now c.args.start.now c.args.history.now c.as_slice.result.now c.got_any.result c.args.step c.in-Project.function c.in-Project.place c.in-Project.value c.in-Project.amount
    c.in-Project.is (c.as_slice.ensures.value ∙ c.in_ok-end-in-Project.ensures) c.got_any.ensures

pub returns-in-CutTuple : goal.returns-in-CutTuple
returns-in-CutTuple c =
    says_on c.args.network.now c.args.start.now c.args.history.now c.is_live_cell.result c.args.step (CutTuple c.in-CutTuple.function c.in-CutTuple.cell) c.in-CutTuple.is c.is_live_cell.ensures
