use Rattle.std.proofs.Common.{◌≡◌, ◌++◌, refl, ◌∙◌}
use Rattle.cfn_certread.specs.Reading.{head_lines, best_lines}
use Rattle.cfn_certread.proofs.Whole.{whole_read}
use Rattle.cfn_certread.proofs.reading.certificate.Goals as goal

pub tree-requires : goal.tree-requires
tree-requires c =
    let begun = c.in_ok-head.ensures.read in
    let ls = head_lines begun.0 c.in_ok-head.head in
    (begun.0, ls ++ best_lines c.in_ok-best.best, c.in_ok-best.ensures.read begun.0 ls begun.1)

pub returns-clause-read : goal.returns-clause-read
returns-clause-read c =
    let begun = c.in_ok-head.ensures.read in
    let ls = head_lines begun.0 c.in_ok-head.head in
    let text : c.best.new.reader.text ≡ c.args.reader.now.text = c.in_ok-best.ensures.text ∙ c.in_ok-head.ensures.text in
    let tree = c.in_ok-tree.ensures.read begun.0 (ls ++ best_lines c.in_ok-best.best) (c.in_ok-best.ensures.read begun.0 ls begun.1) in
    whole_read c.args.reader.now.text begun.0 c.in_ok-head.head c.in_ok-best.best _ refl refl refl refl refl (rw text at tree)
