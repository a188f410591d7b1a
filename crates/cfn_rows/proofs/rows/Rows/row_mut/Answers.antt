use Rattle.std.proofs.Common.{◌<◌, length, refl, sym, ap, ◌∙◌, subst, arith}
use Rattle.cfn_rows.specs.Jagged.{row_at, rows_of, with_row}
use Rattle.cfn_rows.proofs.Cutting.{lies, found}
use Rattle.cfn_rows.proofs.Writing.{rows_after, with_is_set}
use Rattle.cfn_rows.proofs.rows.Rows.row_mut.Goals as goal

pub index-from-requires : goal.index-from-requires
index-from-requires g c =
    let h = lies c.self.inside.items.items c.self.inside.starts.items _ c.args.r c.self.invariant (subst (λ rows. c.args.r < length rows) (sym c.self.view_is) c.requires) in
    let n = c.self.inside.starts.ok.0 in
    omega (arith, h.there, n)

pub overflow_add-r : goal.overflow_add-r
overflow_add-r g c =
    let h = lies c.self.inside.items.items c.self.inside.starts.items _ c.args.r c.self.invariant (subst (λ rows. c.args.r < length rows) (sym c.self.view_is) c.requires) in
    let n = c.self.inside.starts.ok.0 in
    omega (arith, h.there, n)

pub index-to-requires : goal.index-to-requires
index-to-requires g c =
    let h = lies c.self.inside.items.items c.self.inside.starts.items _ c.args.r c.self.invariant (subst (λ rows. c.args.r < length rows) (sym c.self.view_is) c.requires) in
    let n = c.self.inside.starts.ok.0 in
    omega (arith, h.there, n)

pub slice_mut-requires : goal.slice_mut-requires
slice_mut-requires g c =
    let h = found c.self.inside.items.items c.self.inside.starts.items c.args.r _ _ c.self.invariant (subst (λ rows. c.args.r < length rows) (sym c.self.view_is) c.requires) c.index-from.ensures c.index-to.ensures in
    let n = c.self.inside.items.ok.0 in
    record { start_le_end = h.rises; in_bounds = omega (arith, h.within, n); not_exhausted = tt }

pub returns : goal.returns
returns g c =
    let there : c.args.r < length (rows_of c.self.inside.items.items c.self.inside.starts.items) = subst (λ rows. c.args.r < length rows) (sym c.self.view_is) c.requires in
    let h = found c.self.inside.items.items c.self.inside.starts.items c.args.r _ _ c.self.invariant there c.index-from.ensures c.index-to.ensures in (
      (refl, λ w. rows_after c.self.inside.items.items w c.self.inside.starts.items _ _ c.args.r c.self.invariant there c.index-from.ensures c.self.inside.items.ok.0 ∙ ap (λ rows. with_row rows c.args.r w) c.self.view_is),
      record {
        writes_back = tt;
        value = c.slice_mut.ensures.value ∙ h.is ∙ ap (λ rows. row_at rows c.args.r) c.self.view_is;
        others = with_is_set c.args.self.now c.args.r;
      },
    )
