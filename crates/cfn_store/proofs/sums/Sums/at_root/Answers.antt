use Rattle.std.proofs.Common.{◌∙◌, ap, map, replicate}
use Rattle.cfn_store.proofs.Roots.{sums_at_root}
use Rattle.cfn_store.proofs.sums.Sums.at_root.Goals as goal

pub returns : goal.returns
returns c = sums_at_root c.args.network.now _ c.constants.ensures.value
    (c.in_ok-vec.ensures.items_if_clones_equal (λ y e. e) ∙ ap (λ n. replicate n 0) c.variables.ensures)
    (c.in_ok-filled.ensures ∙ ap (λ lengths. map (λ n. replicate n 0) lengths) c.sizes.ensures)
    (c.in_ok-filled-2.ensures ∙ ap (λ lengths. map (λ n. replicate n 0) lengths) (c.deref.ensures.value ∙ c.in_ok-widths.ensures))
