use Rattle.std.proofs.Common.{zero, suc, ap, ◌∙◌, sym, arith}
use Rattle.cfn_wcnf.specs.Partial.{Partial, Keeps}
use Rattle.cfn_wcnf.proofs.Tables.{can_take, fits_tuple, same_keeps}
use Rattle.cfn_wcnf.proofs.clause.Clause.add_to.Goals as goal

pub function-requires-clause-room : goal.function-requires-clause-room
function-requires-clause-room c =
    let P = c.args.builder.now in
    let n = c.args.self.now.variables in
    let os = c.args.self.now.occurrences in
    let keeps : Keeps n os = same_keeps c.self.inside.variables n c.self.inside.occurrences.items os (ap (λ (p : Partial). p.variables) c.self.view_is) (ap (λ (p : Partial). p.occurrences) c.self.view_is) c.self.invariant in
    can_take P n os c.as_slice.result.now keeps c.requires.sizes (c.as_slice.ensures.value ∙ c.scope-scope.ensures) (sym c.is_tautology.ensures ∙ c.if-is_tautology.false) c.requires.functions c.requires.cells

pub function-requires-clause-listed : goal.function-requires-clause-listed
function-requires-clause-listed c zero d lt =
    let n = c.args.self.now.variables in
    let os = c.args.self.now.occurrences in
    let keeps : Keeps n os = same_keeps c.self.inside.variables n c.self.inside.occurrences.items os (ap (λ (p : Partial). p.variables) c.self.view_is) (ap (λ (p : Partial). p.occurrences) c.self.view_is) c.self.invariant in
    rw (c.requires.sizes, c.as_slice.ensures.value, c.scope-scope.ensures, c.as_slice-2.ensures.value, c.refuting_tuple-tuple.ensures) (fits_tuple n os keeps.increases)
function-requires-clause-listed c (suc k) d lt = absurd (omega arith)
