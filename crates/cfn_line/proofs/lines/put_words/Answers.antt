use Rattle.cfn_line.proofs.CallerLemmas.{begin, finish, go_on, halt, line-item, line-dropped}
use Rattle.cfn_line.proofs.lines.put_words.Goals as goal

pub loop-word-init : goal.loop-word-init
loop-word-init g c = begin _ _ _ c.requires

pub put_word-requires : goal.put_word-requires
put_word-requires g c = c.loop-word.invariant.appends.still

pub returns-in_err-put_word : goal.returns-in_err-put_word
returns-in_err-put_word g c =
    halt _ c.from_residual.ensures.0 _ (line-item g.W.AsWord.bytes c.args.front.now (g.W.AsWord.bytes c.args.last.now) c.loop-word.word-index _ c.word-item.is c.loop-word-test.true) c.loop-word.invariant (rw c.as_word.ensures at c.in_err-put_word.ensures)

pub loop-word-preserved : goal.loop-word-preserved
loop-word-preserved g c =
    go_on _ (line-item g.W.AsWord.bytes c.args.front.now (g.W.AsWord.bytes c.args.last.now) c.loop-word.word-index _ c.word-item.is c.loop-word-test.true) c.loop-word.invariant (rw c.as_word.ensures at c.in_ok-put_word.ensures)

pub put_word-requires-2 : goal.put_word-requires-2
put_word-requires-2 g c = c.loop-word.invariant.appends.still

pub returns : goal.returns
returns g c = finish (rw (line-dropped g.W.AsWord.bytes c.args.front.now (g.W.AsWord.bytes c.args.last.now) c.loop-word.word-index c.loop-word-test.false) at c.loop-word.invariant) (rw c.as_word-2.ensures at c.put_word-2.ensures)
