use Rattle.std.proofs.Common.{subst, ◌∷◌}
use Rattle.std.specs.Prelude.{Some}
use Rattle.cfn_certtext.specs.Stages.{values_of}
use Rattle.cfn_replay.specs.Said.{line_in}
use Rattle.cfn_replay.specs.Standing.{IsAtBest}
use Rattle.cfn_replay.proofs.Ending.{no_values_text, values_right}
use Rattle.cfn_replay.proofs.best.values.Goals as goal

pub returns-in_default-values_in-clause-stop : goal.returns-in_default-values_in-clause-stop
returns-in_default-values_in-clause-stop c = λ h at.
    let told = subst (λ b. IsAtBest c.args.network.now c.args.lines.now h b) c.in-Some.is at in
    rw (c.refused.ensures, c.due-line.ensures) (no_values_text c.args.network.now c.args.lines.now c.next-said.new.self h c.in-Some.cost told (line_in c.next-said.result) c.next-said.ensures.tells c.in_default-values_in.ensures)

pub returns-clause-right : goal.returns-clause-right
returns-clause-right c = λ h at.
    let told = subst (λ b. IsAtBest c.args.network.now c.args.lines.now h b) c.in-Some.is at in
    let values = c.in-Some-values_in.first ∷ values_of c.in-Some-values_in.others in
    (Some (record { cost = c.in-Some.cost; values = values }), values_right c.args.network.now c.args.lines.now c.next-said.new.self h c.in-Some.cost told (line_in c.next-said.result) c.next-said.ensures.tells values c.in-Some-values_in.ensures, c.in_ok-solution.ensures)
