use Rattle.std.proofs.Common.{◌<◌, length, subst, sym, ap, ◌∙◌, arith}
use Rattle.std.proofs.lemmas.List.{get_or_read}
use Rattle.std.proofs.Math.ListN.{length-replicate}
use Rattle.cfn_rows.specs.Jagged.{IsCut}
use Rattle.cfn_rows.proofs.Filling.{ends_length, filled_is, filled_cut, resized}
use Rattle.cfn_rows.proofs.rows.Rows.filled.Goals as goal

pub index-requires : goal.index-requires
index-requires g c =
    let e = ap length c.in_ok-starts.ensures in
    let f = ends_length 0 c.args.lengths.now in
    let n = c.in_ok-starts.starts.ok.0 in
    omega (arith, e, f, n)

pub invariant_of-result : goal.invariant_of-result
invariant_of-result g c =
    let starts = c.in_ok-starts.ensures in
    let there : length c.args.lengths.now < length c.in_ok-starts.starts.items = let e = ap length starts in let f = ends_length 0 c.args.lengths.now in omega (arith, e, f) in
    let all = get_or_read c.in_ok-starts.starts.items (length c.args.lengths.now) c.index.result.now there c.index.ensures 0 in
    let are = resized c.args.value c.resize.new.self.items c.new-items.result.items c.index.result.now _ c.new-items.ensures.items c.new-items.ensures.len c.in_ok-resize.ensures.items in
    subst (λ n. IsCut c.in_ok-starts.starts.items n) (sym (ap length are ∙ length-replicate c.index.result.now c.args.value)) (filled_cut c.in_ok-starts.starts.items c.args.lengths.now c.index.result.now starts all)

pub returns : goal.returns
returns g c =
    let starts = c.in_ok-starts.ensures in
    let there : length c.args.lengths.now < length c.in_ok-starts.starts.items = let e = ap length starts in let f = ends_length 0 c.args.lengths.now in omega (arith, e, f) in
    let all = get_or_read c.in_ok-starts.starts.items (length c.args.lengths.now) c.index.result.now there c.index.ensures 0 in
    let are = resized c.args.value c.resize.new.self.items c.new-items.result.items c.index.result.now _ c.new-items.ensures.items c.new-items.ensures.len c.in_ok-resize.ensures.items in
    filled_is c.args.value c.resize.new.self.items c.in_ok-starts.starts.items c.args.lengths.now c.index.result.now starts all are
