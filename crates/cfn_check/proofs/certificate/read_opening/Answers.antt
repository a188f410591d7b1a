use Rattle.std.proofs.Common.{◌≡◌, [], ◌∙◌}
use Rattle.std.proofs.lemmas.Result.{err_from_is_err_and}
use Rattle.cfn_fault.specs.Lines.{AtVersion, AtLower}
use Rattle.cfn_check.specs.Checking.{front_lines, best_front}
use Rattle.cfn_check.proofs.certificate.read_opening.Goals as goal

pub returns-in_err-version-clause-stop : goal.returns-in_err-version-clause-stop
returns-in_err-version-clause-stop c =
    let p = err_from_is_err_and c.from_residual.result c.from_residual.ensures.1 in
    rw (p.1, p.2) (c.in_err-version.ensures.stop c.args.network.now [] AtVersion c.requires)

pub numbers-requires : goal.numbers-requires
numbers-requires c = c.in_ok-version.ensures.right c.args.network.now c.requires

pub lower_bound-requires : goal.lower_bound-requires
lower_bound-requires c =
    let numbered = c.in_ok-numbers.ensures.right in
    (numbered.0, (front_lines numbered.0 c.args.network.now, numbered.1.read, numbered.1.left))

pub returns-in_err-lower-clause-stop : goal.returns-in_err-lower-clause-stop
returns-in_err-lower-clause-stop c =
    let p = err_from_is_err_and c.from_residual-in_err-lower.result c.from_residual-in_err-lower.ensures.1 in
    let text : c.numbers.new.reader.text ≡ c.args.reader.now.text = c.in_ok-numbers.ensures.text ∙ c.in_ok-version.ensures.text in
    let numbered = c.in_ok-numbers.ensures.right in
    rw (p.1, p.2) (rw text at (c.in_err-lower.ensures.stop c.args.network.now (front_lines numbered.0 c.args.network.now) (AtLower numbered.0) numbered.1))

pub best-requires : goal.best-requires
best-requires c =
    let bounded = c.in_ok-lower.ensures.right c.args.network.now c.in_ok-numbers.ensures.right in
    (bounded.0, (best_front bounded.0 c.args.network.now c.in_ok-lower.lower, bounded.1.read, bounded.1.left))

pub returns-in_err-best-clause-stop : goal.returns-in_err-best-clause-stop
returns-in_err-best-clause-stop c =
    let p = err_from_is_err_and c.from_residual-in_err-best.result c.from_residual-in_err-best.ensures.1 in
    let bounded = c.in_ok-lower.ensures.right c.args.network.now c.in_ok-numbers.ensures.right in
    let text : c.lower_bound.new.reader.text ≡ c.args.reader.now.text = c.in_ok-lower.ensures.text ∙ c.in_ok-numbers.ensures.text ∙ c.in_ok-version.ensures.text in
    rw (p.1, p.2) (rw text at (c.in_err-best.ensures.stop c.in_ok-lower.lower bounded))

pub returns-clause-opened : goal.returns-clause-opened
returns-clause-opened c = c.in_ok-best.ensures.right c.in_ok-lower.lower (c.in_ok-lower.ensures.right c.args.network.now c.in_ok-numbers.ensures.right)
