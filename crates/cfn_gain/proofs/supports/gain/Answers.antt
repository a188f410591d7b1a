use Rattle.std.specs.Prelude.{IsTrue}
use Rattle.std.proofs.Common.{sym, subst}
use Rattle.cfn_model.specs.declared.step.Step.TheVariants.{Project}
use Rattle.cfn_model.specs.Sums.{is_live}
use Rattle.cfn_consistency.specs.Groups.{IsBegun}
use Rattle.cfn_store.specs.Standing.{history}
use Rattle.cfn_gain.proofs.Gaining.{gained_none, opened, gains_refused, due_support}
use Rattle.cfn_gain.proofs.Earning.{no_support, got_support, close_one, open_one, live_projected}
use Rattle.std.proofs.Common.{ap, ◌∙◌, arith}
use Rattle.std.specs.Prelude.{slice_index}
use Rattle.cfn_model.specs.Network.{variable_at}
use Rattle.cfn_gain.proofs.Adding.{adds_then}
use Rattle.cfn_gain.proofs.Moving.{cut_reaches_at}
use Rattle.cfn_gain.proofs.supports.gain.Goals as goal

pub cut_value-requires-2-clause-reaches : goal.cut_value-requires-2-clause-reaches
cut_value-requires-2-clause-reaches c =
    let e = ap (λ l. slice_index l c.args.place) c.scope.ensures ∙ ap (λ P. variable_at P c.args.f c.args.place) c.network-2.ensures in
    cut_reaches_at c.args.store.now c.project.new.store c.args.limits.threshold c.args.f c.args.place c.args.value c.min.result c.unary-has.result c.lacking-lacks.result _ e
    c.in_ok-project.ensures.made c.lacking-lacks.ensures c.unary-has.ensures c.requires.live (omega (arith, c.min.ensures, c.if-least-short.false, c.if-has-lacks.false))

pub returns-clause-does : goal.returns-clause-does
returns-clause-does c =
    let one = c.in_ok-project.ensures.does in let two = c.cut_value-2.ensures.does in
    record { adds = adds_then c.args.store.now c.project.new.store c.cut_value-2.new.store c.args.limits one.adds two.adds; ends = two.ends }

pub returns-then-has-lacks-clause-gains : goal.returns-then-has-lacks-clause-gains
returns-then-has-lacks-clause-gains c = λ part cost.
    let s = c.args.store.now in let f = c.args.f in let i = c.args.place in let a = c.args.value in
    let e = ap (λ l. slice_index l i) c.scope.ensures ∙ ap (λ P. variable_at P f i) c.network-2.ensures in
    c.cut_value.ensures.gains (subst (λ v. IsTrue (is_live (history s) v a)) (sym e) c.requires.live) s (opened s s IsBegun (gained_none s))

pub returns-in_err-project-clause-gains : goal.returns-in_err-project-clause-gains
returns-in_err-project-clause-gains c = λ part cost.
    let s = c.args.store.now in let q = c.requires in let err = c.in_err-project.ensures in
    gains_refused s s c.project.new.store c.args.limits c.from_residual.result c.in_err-project.field-0.0 (opened s s IsBegun (gained_none s))
    (due_support s c.args.limits c.args.f c.args.place c.args.value part q.place q.live (no_support s.network (history s) c.args.f c.args.place c.args.value c.args.least q.least q.some))
    err.stopped err.spent c.from_residual.ensures.1

pub returns-then-least-short-clause-gains : goal.returns-then-least-short-clause-gains
returns-then-least-short-clause-gains c = λ part cost.
    let s = c.args.store.now in let q = c.requires in let short = c.if-least-short.true in let m = c.min.ensures in
    close_one s c.project.new.store (Project c.args.f c.args.place c.args.value c.min.result) c.in_ok-project.ensures.made
    (got_support s.network (history s) c.args.f c.args.place c.args.value c.min.result c.args.least part q.live q.least q.some
    (cost (let l = c.ranges.least in let r = c.lacking-lacks.auto in omega (arith, short))) (omega (arith, short, m)))

pub returns-clause-gains : goal.returns-clause-gains
returns-clause-gains c = λ part cost.
    let s = c.args.store.now in let f = c.args.f in let i = c.args.place in let a = c.args.value in
    let e = ap (λ l. slice_index l i) c.scope.ensures ∙ ap (λ P. variable_at P f i) c.network-2.ensures in
    let live = subst (λ v. IsTrue (is_live (history s) v a)) (sym e) c.requires.live in
    let made = c.in_ok-project.ensures.made in
    c.cut_value-2.ensures.gains (live_projected s c.project.new.store f i a c.min.result _ a made live) s (open_one s c.project.new.store (Project f i a c.min.result) made tt)
