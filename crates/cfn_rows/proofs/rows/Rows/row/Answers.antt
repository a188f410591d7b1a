use Rattle.std.proofs.Common.{◌<◌, length, sym, ◌∙◌, subst, arith}
use Rattle.cfn_rows.proofs.Cutting.{lies, found}
use Rattle.cfn_rows.proofs.rows.Rows.row.Goals as goal

pub index-requires : goal.index-requires
index-requires g c =
    let h = lies c.self.inside.items.items c.self.inside.starts.items _ c.args.r c.self.invariant (subst (λ rows. c.args.r < length rows) (sym c.self.view_is) c.requires) in
    let n = c.self.inside.starts.ok.0 in
    omega (arith, h.there, n)

pub overflow_add-r : goal.overflow_add-r
overflow_add-r g c =
    let h = lies c.self.inside.items.items c.self.inside.starts.items _ c.args.r c.self.invariant (subst (λ rows. c.args.r < length rows) (sym c.self.view_is) c.requires) in
    let n = c.self.inside.starts.ok.0 in
    omega (arith, h.there, n)

pub index-requires-2 : goal.index-requires-2
index-requires-2 g c =
    let h = lies c.self.inside.items.items c.self.inside.starts.items _ c.args.r c.self.invariant (subst (λ rows. c.args.r < length rows) (sym c.self.view_is) c.requires) in
    let n = c.self.inside.starts.ok.0 in
    omega (arith, h.there, n)

pub part-requires : goal.part-requires
part-requires g c =
    let h = found c.self.inside.items.items c.self.inside.starts.items c.args.r _ _ c.self.invariant (subst (λ rows. c.args.r < length rows) (sym c.self.view_is) c.requires) c.index.ensures c.index-2.ensures in
    record { rises = h.rises; within = rw (c.deref.ensures.value) h.within }

pub returns : goal.returns
returns g c =
    let h = found c.self.inside.items.items c.self.inside.starts.items c.args.r _ _ c.self.invariant (subst (λ rows. c.args.r < length rows) (sym c.self.view_is) c.requires) c.index.ensures c.index-2.ensures in
    c.part.ensures ∙ rw (c.deref.ensures.value, ← c.self.view_is) h.is
