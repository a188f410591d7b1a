use Rattle.std.proofs.Common.{ap}
use Rattle.std.specs.Prelude.{slice_index}
use Rattle.cfn_due.proofs.Noting.{noted_project}
use Rattle.cfn_due.proofs.due.Due.note_step.Goals as goal

pub returns-in-Project-clause-noted : goal.returns-in-Project-clause-noted
returns-in-Project-clause-noted c =
    noted_project c.args.network.now c.args.step c.in-Project.function c.in-Project.place c.in-Project.value c.in-Project.amount (slice_index c.scope.result.now c.in-Project.place) c.args.self.now c.rise.new.self
    c.in-Project.is (ap (λ l. slice_index l c.in-Project.place) c.scope.ensures) c.rise.ensures.arcs c.rise.ensures.directed c.rise.ensures.existing
