use Rattle.std.proofs.Common.{◌∷◌, ◌++◌, [], map, decimal}
use Rattle.cfn_line.specs.Words.{word_text}
use Rattle.cfn_line.proofs.Sending.{begin, finish, go_on, halt, line-before, line-behind, some_words}
use Rattle.cfn_line.proofs.lines.put_behind.Goals as goal

pub loop-word-init : goal.loop-word-init
loop-word-init g c = begin _ _ _ c.requires

pub put_word-requires : goal.put_word-requires
put_word-requires g c = c.loop-word.invariant.appends.still

pub returns-in_err-put_word : goal.returns-in_err-put_word
returns-in_err-put_word g c =
    halt _ c.from_residual.ensures.0 _ (line-before word_text c.args.words.now (map decimal c.args.front.now ++ decimal c.args.last.now ∷ []) c.loop-word.word-index _ (some_words decimal c.args.front.now (decimal c.args.last.now)) c.loop-word-test.true) c.loop-word.invariant c.in_err-put_word.ensures

pub loop-word-preserved : goal.loop-word-preserved
loop-word-preserved g c =
    go_on _ (line-before word_text c.args.words.now (map decimal c.args.front.now ++ decimal c.args.last.now ∷ []) c.loop-word.word-index _ (some_words decimal c.args.front.now (decimal c.args.last.now)) c.loop-word-test.true) c.loop-word.invariant c.in_ok-put_word.ensures

pub put_words-requires : goal.put_words-requires
put_words-requires g c = c.loop-word.invariant.appends.still

pub returns : goal.returns
returns g c = finish (rw (line-behind word_text c.args.words.now (map decimal c.args.front.now ++ decimal c.args.last.now ∷ []) c.loop-word.word-index c.loop-word-test.false) at c.loop-word.invariant) c.put_words.ensures
