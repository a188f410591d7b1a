use Rattle.std.proofs.Common.{ap}
use Rattle.std.specs.Prelude.{slice_index}
use Rattle.cfn_derivation.proofs.Noting.{grows_project}
use Rattle.cfn_derivation.proofs.notes.raise.Goals as goal

pub returns-in-Project : goal.returns-in-Project
returns-in-Project c =
    grows_project c.args.network.now c.args.step c.in-Project.function c.in-Project.place _ _ (slice_index c.scope.result.now c.in-Project.place) c.args.costly.now c.put.new.self
    c.in-Project.is (ap (λ l. slice_index l c.in-Project.place) c.scope.ensures) c.put.ensures
