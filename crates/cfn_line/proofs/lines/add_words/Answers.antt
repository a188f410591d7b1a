use Rattle.std.proofs.Common.{◌++◌, ap}
use Rattle.cfn_line.proofs.CallerLemmas.{line-item, line-dropped}
use Rattle.cfn_line.proofs.Adding.{add_on, add_break, add_finish}
use Rattle.cfn_line.proofs.lines.add_words.Goals as goal

pub returns-in_err-add_word : goal.returns-in_err-add_word
returns-in_err-add_word g c =
    add_break _ c.from_residual.ensures.0 _ (ap (λ t. c.loop-word.into ++ t) (line-item g.W.AsWord.bytes c.args.front.now (g.W.AsWord.bytes c.args.last.now) c.loop-word.word-index _ c.word-item.is c.loop-word-test.true)) c.loop-word.invariant (rw c.as_word.ensures at c.in_err-add_word.ensures)

pub loop-word-preserved : goal.loop-word-preserved
loop-word-preserved g c =
    add_on _ (ap (λ t. c.loop-word.into ++ t) (line-item g.W.AsWord.bytes c.args.front.now (g.W.AsWord.bytes c.args.last.now) c.loop-word.word-index _ c.word-item.is c.loop-word-test.true)) c.loop-word.invariant (rw c.as_word.ensures at c.in_ok-add_word.ensures)

pub returns : goal.returns
returns g c =
    add_finish (rw (line-dropped g.W.AsWord.bytes c.args.front.now (g.W.AsWord.bytes c.args.last.now) c.loop-word.word-index c.loop-word-test.false) at c.loop-word.invariant) (rw c.as_word-2.ensures at c.add_word-2.ensures)
