use Rattle.std.proofs.Common.{refl, sym, ap, ap₂, ◌∙◌, subst, reverse}
use Rattle.cfn_model.specs.Steps.{after}
use Rattle.cfn_store.specs.Standing.{Standing, history}
use Rattle.cfn_rebase.specs.Making.{CanMake}
use Rattle.cfn_rebase.proofs.Grounds.{step_events, made}
use Rattle.cfn_rebase.proofs.ground.Ground.step.Goals as goal

pub invariant_of-self-2 : goal.invariant_of-self-2
invariant_of-self-2 c =
    let mid = c.reserve-2.new.self in
    let is = c.in_ok-reserve-2.ensures in (
      c.self.invariant.0 ∙ sym (ap (λ (t : Standing). t.network) c.go.ensures ∙ is.network),
      ap reverse c.push_reserved.ensures.items
          ∙ step_events c.reserve.new.self.items mid c.args.step (ap reverse c.in_ok-reserve.ensures.items ∙ c.self.invariant.1 ∙ sym (ap₂ after is.block is.base))
          ∙ sym (ap history c.go.ensures),
    )

pub returns : goal.returns
returns c =
    let old = c.args.self.now in
    let mid = c.reserve-2.new.self in
    let is = c.in_ok-reserve-2.ensures in
    made old mid c.go.new.store c.args.threshold c.args.step
    (is.network ∙ ap (λ (t : Standing). t.network) c.self.view_is)
    (is.base ∙ ap (λ (t : Standing). t.base) c.self.view_is)
    (is.block ∙ ap (λ (t : Standing). t.block) c.self.view_is)
    c.go.ensures (subst (λ (t : Standing). CanMake t c.args.threshold c.args.step) c.self.view_is (c.if-not-may_make.ensures.can refl)) c.law_exact.ensures
