use Rattle.std.proofs.Common.{inl, inr, sym, subst}
use Rattle.cfn_model.specs.declared.step.Event.TheVariants.{Did}
use Rattle.cfn_due.specs.Going.{GoesSide}
use Rattle.cfn_due.specs.Siding.{AreAsked}
use Rattle.cfn_due.proofs.sides.Sides.note_step.Goals as goal

pub returns-in-Extend : goal.returns-in-Extend
returns-in-Extend c =
    let P = c.args.incidence.now in
    elim c.in-Extend.is [
      | inl e ↦ subst (λ step. AreAsked P c.args.self.now c.doubt.new.self (GoesSide P (Did step))) (sym e.3) (c.doubt.ensures P)
      | inr e ↦ subst (λ step. AreAsked P c.args.self.now c.doubt.new.self (GoesSide P (Did step))) (sym e.1) (c.doubt.ensures P)
    ]
