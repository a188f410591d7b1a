use Rattle.std.proofs.Common.{◌+◌, ◌<◌, refl, map, take, drop, ◌++◌, length, get_or, slice_set, ap, ◌∙◌, arith}
use Rattle.cfn_scan.specs.Words.{more}
use Rattle.cfn_scan.proofs.Changing.{next, change}
use Rattle.cfn_scan.proofs.words.put_on.Goals as goal

pub loop-word-preserved : goal.loop-word-preserved
loop-word-preserved c =
    let f = more c.args.amount in
    let xs = c.args.words.now in
    let i = c.loop-word.word-index in
    let is = c.loop-word.invariant in
    let there : i < length xs = omega arith in
    let same = ap (λ l. get_or l i 0) is ∙ next f xs i in
    ap (λ l. slice_set l i (f (get_or c.loop-word.words i 0))) is
    ∙ ap (λ w. slice_set (map f (take i xs) ++ drop i xs) i (f w)) same
    ∙ change f xs i (i + 1) refl there
