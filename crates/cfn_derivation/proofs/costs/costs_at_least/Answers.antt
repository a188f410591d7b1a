use Rattle.std.proofs.Common.{◌-◌, ap, ◌∙◌}
use Rattle.std.specs.Prelude.{slice_index}
use Rattle.cfn_model.specs.Network.{variable_at}
use Rattle.cfn_derivation.proofs.costs.costs_at_least.Goals as goal

pub costs_along-requires-clause-other : goal.costs_along-requires-clause-other
costs_along-requires-clause-other c = let f = c.args.f in let j = 1 - c.args.place in ap (λ l. slice_index l j) c.scope-in-Some.ensures ∙ ap (λ P. variable_at P f j) c.network-in-Some.ensures
