use Rattle.std.proofs.Common.{◌∙◌, sym, eq-eqb, ne_eqb}
use Rattle.cfn_leaves.proofs.LastRows.{last_is, same_lower, other_lower}
use Rattle.cfn_leaves.proofs.noting.is_last.Goals as goal

pub returns-then-row-last : goal.returns-then-row-last
returns-then-row-last c =
    let some = c.in-Some.ensures.item.3 in
    c.is_same_upper.ensures ∙ sym (last_is c.args.row c.in-Some.last.now c.args.rows.now some.0 some.1 ∙ same_lower c.args.row c.in-Some.last.now (eq-eqb _ _ c.if-row-last.true))

pub returns-else-row-last : goal.returns-else-row-last
returns-else-row-last c =
    let some = c.in-Some.ensures.item.3 in
    sym (last_is c.args.row c.in-Some.last.now c.args.rows.now some.0 some.1 ∙ other_lower c.args.row c.in-Some.last.now (ne_eqb _ _ c.if-row-last.false))
