use Rattle.std.proofs.Common.{◌≡◌, ℕ, ◌<◌, length, get_or, map, sym, ap, ◌∙◌, arith}
use Rattle.std.proofs.lemmas.List.{length-map}
use Rattle.cfn_rows.specs.Jagged.{row_at}
use Rattle.cfn_rows.proofs.Making.{sizes_of_filled, one_row_more}
use Rattle.cfn_rows.proofs.Tracing.{size_at, sizes_kept}
use Rattle.cfn_rows.proofs.live.orders.Goals as goal

pub loop-x-init : goal.loop-x-init
loop-x-init c = record {
  sizes = ap (map length) c.in_ok-rows.ensures ∙ sizes_of_filled c.args.sizes.now;
  places = λ y a none inside. absurd (omega (arith, none));
}

pub count_up-requires : goal.count_up-requires
count_up-requires c =
    let size : length c.row_mut.result.now ≡ get_or c.args.sizes.now c.loop-x.x 0 = ap length c.row_mut.ensures.value ∙ sym (size_at c.loop-x.rows c.loop-x.x) ∙ ap (λ l. get_or l c.loop-x.x 0) c.loop-x.invariant.sizes in
    let small = c.type_inv.sizes c.loop-x.x in
    omega (arith, size, small.fits)

pub loop-x-preserved : goal.loop-x-preserved
loop-x-preserved c =
    let x = c.loop-x.x in
    let row = c.count_up.new.row in
    let there : x < length c.loop-x.rows = let e = ap length c.loop-x.invariant.sizes in let n = length-map c.loop-x.rows length in omega (arith, e, n, c.loop-x-test.true) in
    let long : length row ≡ length (row_at c.loop-x.rows x) = c.count_up.auto.row ∙ ap length c.row_mut.ensures.value in
    let own = λ (a : ℕ) (l : a < length row). c.count_up.ensures a (omega (arith, l, c.count_up.auto.row)) in
    rw (c.row_mut.ensures.others row long) (record {
      sizes = sizes_kept c.loop-x.rows x row long ∙ c.loop-x.invariant.sizes;
      places = one_row_more c.loop-x.rows x row there own c.loop-x.invariant.places;
    })
