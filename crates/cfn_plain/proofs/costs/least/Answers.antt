use Rattle.std.proofs.Common.{List, ℕ, ap, ◌∙◌, sym, subst, replicate}
use Rattle.cfn_model.specs.Network.{Fits}
use Rattle.cfn_plain.proofs.Assignments.{Fits-zeros}
use Rattle.cfn_plain.proofs.costs.least.Goals as goal

pub least_from-c-requires-clause-fits : goal.least_from-c-requires-clause-fits
least_from-c-requires-clause-fits c =
    let sizes = c.args.network.now.sizes in
    let zeros = Fits-zeros sizes (λ x there. (c.law_limits.ensures.sizes x there).0) in
    let is = c.as_mut_slice.ensures.value ∙ c.in_ok-values.ensures.items_if_clones_equal (λ y h. h) ∙ ap (λ n. replicate n 0) c.variables.ensures in
    subst (λ (values : List ℕ). Fits sizes values) (sym is) zeros
