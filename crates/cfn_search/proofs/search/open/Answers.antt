use Rattle.std.proofs.Common.{sym, ap, subst, ◌∙◌}
use Rattle.cfn_proof.specs.Nodes.{tree_of}
use Rattle.cfn_machine.specs.Pool.{Pool}
use Rattle.cfn_pool.specs.Views.{pool, values_of}
use Rattle.cfn_search.specs.Searching.{IsSearch}
use Rattle.cfn_search.proofs.Beginnings.{fresh_opening, opening_search}
use Rattle.cfn_search.proofs.search.open.Goals as goal

pub record_if-requires-clause-opening : goal.record_if-requires-clause-opening
record_if-requires-clause-opening g c = λ asked.
    fresh_opening g.M.Incumbent.network c.args.part c.args.holder.shares c.args.budget (tree_of c.args.tree) c.args.holder.held (pool c.in-Ok.held) (c.requires.fresh asked) c.in-Ok.ensures.pool

pub sweep-requires-clause-search : goal.sweep-requires-clause-search
sweep-requires-clause-search g c =
    let start = g.M.Incumbent.start in
    let opening = opening_search g.M.Incumbent.network start c.args.part c.args.holder.shares c.args.budget (tree_of c.args.tree) (values_of c.args.holder.held)
    c.law_parts.ensures.sets c.requires.begun c.requires.first c.requires.aside in
    subst (λ (p : Pool). IsSearch start p) (sym (c.record_if.ensures.pool ∙ c.in-Ok.ensures.pool)) opening
