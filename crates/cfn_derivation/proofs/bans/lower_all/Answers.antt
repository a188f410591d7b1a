use Rattle.std.proofs.Common.{ap, ◌∙◌, length, arith, ◌≡◌, ◌<◌}
use Rattle.std.specs.Prelude.{slice_set}
use Rattle.cfn_rows.specs.Jagged.{row_at, with_row}
use Rattle.cfn_derivation.specs.Banned.{flag_at}
use Rattle.cfn_derivation.proofs.Banning.{shape_set, down_set, length_set, all_down}
use Rattle.cfn_derivation.proofs.bans.lower_all.Goals as goal

pub row_mut-requires : goal.row_mut-requires
row_mut-requires c = omega (arith, c.loop-r-test.true, c.len-r-end.ensures, c.loop-r.invariant.rows)

pub loop-r-preserved : goal.loop-r-preserved
loop-r-preserved c =
    let rows = c.loop-r.rows in let r = c.loop-r.r in let row = c.lower.new.row in
    let there : r < length rows = omega (arith, c.loop-r-test.true, c.len-r-end.ensures, c.loop-r.invariant.rows) in
    let size : length row ≡ length (row_at rows r) = c.lower.ensures.size ∙ ap length c.row_mut.ensures.value in
    let same : with_row rows r row ≡ slice_set rows r row = c.row_mut.ensures.others row size in
    record {
      rows = ap length same ∙ length_set rows r row ∙ c.loop-r.invariant.rows;
      shape = λ g. ap (λ l. length (row_at l g)) same ∙ shape_set rows r g row there size ∙ c.loop-r.invariant.shape g;
      down = λ g i less. ap (λ l. flag_at l g i) same ∙ down_set rows r row there c.lower.ensures.down c.loop-r.invariant.down g i less;
    }

pub returns-clause-down : goal.returns-clause-down
returns-clause-down c = all_down c.loop-r.rows c.loop-r.r (omega (arith, c.loop-r-test.false, c.len-r-end.ensures, c.loop-r.invariant.rows)) c.loop-r.invariant.down
