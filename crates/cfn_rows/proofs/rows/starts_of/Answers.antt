use Rattle.std.proofs.Common.{◌≡◌, ℕ, ◌+◌, ◌∷◌, [], ◌++◌, take, get_or, sym, ap, ◌∙◌, arith}
use Rattle.std.proofs.lemmas.List.{take_more}
use Rattle.cfn_rows.specs.Jagged.{ends_from}
use Rattle.cfn_rows.proofs.Filling.{ends_behind, sum, sum_behind}
use Rattle.cfn_rows.proofs.rows.starts_of.Goals as goal

pub loop-length-preserved : goal.loop-length-preserved
loop-length-preserved c =
    let i = c.loop-length.length-index in
    let n = get_or c.args.lengths.now i 0 in
    let more = take_more c.args.lengths.now i 0 c.loop-length-test.true in
    let total : c.in-Some.next ≡ sum (take i c.args.lengths.now) + n = c.in-Some.ensures.1 ∙ ap (λ e. e + n) c.loop-length.invariant.end in
    record {
      starts =
          c.push_reserved-in-loop-length.ensures.items
          ∙ ap (λ l. l ++ c.in-Some.next ∷ []) c.loop-length.invariant.starts
          ∙ ap (λ e. 0 ∷ (ends_from 0 (take i c.args.lengths.now) ++ e ∷ [])) (total ∙ from_none (sum (take i c.args.lengths.now)) n)
          ∙ ap (λ l. 0 ∷ l) (sym (ap (ends_from 0) more ∙ ends_behind 0 n (take i c.args.lengths.now)));
      end = total ∙ sym (ap sum more ∙ sum_behind n (take i c.args.lengths.now));
      count = omega (arith, c.push_reserved-in-loop-length.ensures.len, c.loop-length.invariant.count);
      room = omega (arith, c.push_reserved-in-loop-length.ensures.capacity, c.loop-length.invariant.room);
    }
  where
    from_none : (s n : ℕ) → s + n ≡ 0 + s + n
    from_none s n = omega arith
