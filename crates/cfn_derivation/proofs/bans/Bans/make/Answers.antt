use Rattle.std.proofs.Common.{ap, ◌∙◌, replicate, false}
use Rattle.std.specs.Prelude.{map}
use Rattle.cfn_derivation.proofs.Banning.{filled_has, filled_none}
use Rattle.cfn_derivation.proofs.bans.Bans.make.Goals as goal

pub invariant_of-result : goal.invariant_of-result
invariant_of-result c =
    filled_has c.args.network.now c.in_ok-filled.field-0 c.in_ok-filled-2.field-0 c.in_ok-widths.field-0.items (c.in_ok-filled.ensures ∙ ap (map (λ n. replicate n false)) c.sizes.ensures)
    (c.in_ok-widths.ensures) (c.in_ok-filled-2.ensures ∙ ap (map (λ n. replicate n false)) c.deref.ensures.value)

pub returns-clause-none : goal.returns-clause-none
returns-clause-none c =
    filled_none c.args.network.now c.in_ok-filled.field-0 c.in_ok-filled-2.field-0 c.in_ok-widths.field-0.items (c.in_ok-filled.ensures ∙ ap (map (λ n. replicate n false)) c.sizes.ensures)
    (c.in_ok-filled-2.ensures ∙ ap (map (λ n. replicate n false)) c.deref.ensures.value)
