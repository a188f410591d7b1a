use Rattle.std.proofs.Common.{◌≡◌, ℕ, List, Result, Ok, Err, sym, subst}
use Rattle.std.specs.Prelude.{Bool, ◌↔◌, IsTrue, IfOk}
use Rattle.std.specs.declared.alloc.AllocError.{AllocError}
use Rattle.cfn_model.specs.declared.step.Step.{Step}
use Rattle.cfn_model.specs.declared.step.Step.TheVariants.{CutTuple}
use Rattle.cfn_model.specs.declared.step.Event.{Event}
use Rattle.cfn_model.specs.Network.{Network, Fits, dims_at}
use Rattle.cfn_model.specs.Steps.{IsCell, InRange, Allowed}
use Rattle.cfn_plain.specs.Tuples.{function_in, TupleAllows}
use Rattle.cfn_plain.proofs.steps.allowed.Goals as goal

-- an answer on every tuple
abbrev TellsTuples : Network → List Event → ℕ → Result Bool AllocError → Step → Type 0
TellsTuples P history k result step = IfOk result (λ answer. IsTrue answer ↔ ((tuple : List ℕ) → Fits (dims_at P (function_in step)) tuple → TupleAllows P history k step tuple))

-- an answer on the step
abbrev TellsAllowed : Network → List Event → ℕ → Result Bool AllocError → Step → Type 0
TellsAllowed P history k result step = IfOk result (λ answer. IsTrue answer ↔ Allowed P history k step)

cut_allowed : (P : Network) (history : List Event) (k f number : ℕ) (result : Result Bool AllocError) → IsCell P f number → TellsTuples P history k result (CutTuple f number) → TellsAllowed P history k result (CutTuple f number)
cut_allowed P history k f number (Ok answer) range tells = (λ yes. (range, tells.0 yes), λ allowed. tells.1 allowed.1)
cut_allowed P history k f number (Err e) range tells = tt

cut_step_allowed : (P : Network) (history : List Event) (k f number : ℕ) (step : Step) (result : Result Bool AllocError) → step ≡ CutTuple f number → InRange P step → TellsTuples P history k result step → TellsAllowed P history k result step
cut_step_allowed P history k f number step result is =
    let Q : Step → Type 0 = λ s. InRange P s → TellsTuples P history k result s → TellsAllowed P history k result s in
    subst Q (sym is) (cut_allowed P history k f number result)

pub returns-in-CutTuple : goal.returns-in-CutTuple
returns-in-CutTuple c =
    let in_range = c.is_in_range.ensures.0 c.if-not-is_in_range.false in
    cut_step_allowed c.args.network.now c.args.history.now c.args.k c.in-CutTuple.function c.in-CutTuple.cell c.args.step c.all_tuples_allow-in-CutTuple.result c.in-CutTuple.is in_range c.all_tuples_allow-in-CutTuple.ensures
