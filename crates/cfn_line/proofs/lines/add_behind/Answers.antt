use Rattle.std.proofs.Common.{◌∷◌, ◌++◌, [], map, decimal, ap}
use Rattle.cfn_line.specs.Words.{word_text}
use Rattle.cfn_line.proofs.Sending.{line-before, line-behind, some_words}
use Rattle.cfn_line.proofs.Adding.{add_on, add_break, add_finish}
use Rattle.cfn_line.proofs.lines.add_behind.Goals as goal

pub returns-in_err-add_word : goal.returns-in_err-add_word
returns-in_err-add_word g c =
    add_break _ c.from_residual.ensures.0 _ (ap (λ t. c.loop-word.into ++ t) (line-before word_text c.args.words.now (map decimal c.args.front.now ++ decimal c.args.last.now ∷ []) c.loop-word.word-index _ (some_words decimal c.args.front.now (decimal c.args.last.now)) c.loop-word-test.true)) c.loop-word.invariant c.in_err-add_word.ensures

pub loop-word-preserved : goal.loop-word-preserved
loop-word-preserved g c =
    add_on _ (ap (λ t. c.loop-word.into ++ t) (line-before word_text c.args.words.now (map decimal c.args.front.now ++ decimal c.args.last.now ∷ []) c.loop-word.word-index _ (some_words decimal c.args.front.now (decimal c.args.last.now)) c.loop-word-test.true)) c.loop-word.invariant c.in_ok-add_word.ensures

pub returns : goal.returns
returns g c =
    add_finish (rw (line-behind word_text c.args.words.now (map decimal c.args.front.now ++ decimal c.args.last.now ∷ []) c.loop-word.word-index c.loop-word-test.false) at c.loop-word.invariant) c.add_words.ensures
