use Rattle.std.proofs.Common.{sym, subst, ◌+◌, ◌∙◌}
use Rattle.std.specs.Prelude.{option_map}
use Rattle.std.proofs.lemmas.Bool.{iff_false}
use Rattle.std.proofs.lemmas.Result.{err_from_is_err_and}
use Rattle.cfn_record.specs.declared.kind.RecordFault.TheVariants as kinds
use Rattle.cfn_record.specs.Fault.{Fault}
use Rattle.cfn_replay.specs.Judging.{IsJudged}
use Rattle.cfn_replay.specs.Replayed.{IsReplayed}
use Rattle.cfn_replay.specs.Said.{line_in}
use Rattle.cfn_replay.proofs.Ending.{no_end_text, not_good, more_text, replayed}
use Rattle.cfn_replay.proofs.closing.closing.Goals as goal

pub returns-in_err-told-clause-stop : goal.returns-in_err-told-clause-stop
returns-in_err-told-clause-stop c =
    let p = err_from_is_err_and c.from_residual.result c.from_residual.ensures.1 in
    rw (p.1, p.2) (c.in_err-told.ensures.stop c.args.leaves c.requires)

pub judged-requires-clause-told : goal.judged-requires-clause-told
judged-requires-clause-told c = (let v = c.in_ok-told.ensures.right c.args.leaves c.requires in (v.0, v.2))

pub returns-then-not-is_end-clause-stop : goal.returns-then-not-is_end-clause-stop
returns-then-not-is_end-clause-stop c =
    let mid = c.values.new.lines in
    let v = c.in_ok-told.ensures.right c.args.leaves c.requires in
    rw (c.refused.ensures, c.due-line.ensures) (subst (λ t. Fault c.args.network.now t (mid.count + 1) kinds.Text) c.in_ok-told.ensures.text
    (no_end_text c.args.network.now mid c.next-said.new.self c.args.leaves v.0 v.1 (line_in c.next-said.result) c.next-said.ensures.tells (sym c.is_end.ensures ∙ c.if-not-is_end.true)))

pub returns-in_default-clause-stop : goal.returns-in_default-clause-stop
returns-in_default-clause-stop c =
    let mid = c.values.new.lines in
    let v = c.in_ok-told.ensures.right c.args.leaves c.requires in
    let bad = subst (λ o. IsJudged c.args.network.now v.1.pool v.0 (option_map (λ t. t.items) o)) c.in_default.is (c.in_ok-bytes.ensures v.1.pool v.0 v.1.held v.2) in
    rw (c.refused-in_default.ensures, c.due-line.ensures) (subst (λ t. Fault c.args.network.now t (mid.count + 1) kinds.Certificate) c.in_ok-told.ensures.text
    (not_good c.args.network.now mid c.next-said.new.self c.args.leaves v.0 v.1 (line_in c.next-said.result) c.next-said.ensures.tells (sym c.is_end.ensures ∙ c.if-not-is_end.false) bad))

pub returns-then-not-is_over-clause-stop : goal.returns-then-not-is_over-clause-stop
returns-then-not-is_over-clause-stop c =
    let mid = c.values.new.lines in
    let new = c.next-said.new.self in
    let v = c.in_ok-told.ensures.right c.args.leaves c.requires in
    let good = subst (λ o. IsJudged c.args.network.now v.1.pool v.0 (option_map (λ t. t.items) o)) c.in-Some.is (c.in_ok-bytes.ensures v.1.pool v.0 v.1.held v.2) in
    rw (c.refused-then-not-is_over.ensures, c.due.ensures) (subst (λ t. Fault c.args.network.now t (new.count + 1) kinds.Text) (c.next-said.ensures.text ∙ c.in_ok-told.ensures.text)
    (more_text c.args.network.now mid new c.args.leaves v.0 v.1 (line_in c.next-said.result) c.next-said.ensures.tells (sym c.is_end.ensures ∙ c.if-not-is_end.false) good.good (iff_false c.is_over.ensures c.if-not-is_over.true)))

pub returns-clause-good : goal.returns-clause-good
returns-clause-good c =
    let mid = c.values.new.lines in
    let new = c.next-said.new.self in
    let v = c.in_ok-told.ensures.right c.args.leaves c.requires in
    let good = subst (λ o. IsJudged c.args.network.now v.1.pool v.0 (option_map (λ t. t.items) o)) c.in-Some.is (c.in_ok-bytes.ensures v.1.pool v.0 v.1.held v.2) in
    subst (λ t. IsReplayed c.args.network.now t c.in-Some.bytes.items) (c.next-said.ensures.text ∙ c.in_ok-told.ensures.text)
    (replayed c.args.network.now mid new c.args.leaves v.0 v.1 (line_in c.next-said.result) c.next-said.ensures.tells (sym c.is_end.ensures ∙ c.if-not-is_end.false) good.good (c.is_over.ensures.0 c.if-not-is_over.false) c.in-Some.bytes.items good.spells)
