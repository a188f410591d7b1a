use Rattle.std.proofs.Common.{◌≡◌, refl, ap, ◌∙◌, arith}
use mir.Syntax.{w128}
use Rattle.std.proofs.lemmas.Int.{to_z_pos}
use Rattle.std.specs.Prelude.{◌&&◌, ◌==◌, pos, neg_ℤ}
use Rattle.cfn_model.specs.declared.step.Step.{Step}
use Rattle.cfn_model.specs.declared.step.Step.TheVariants.{Extend}
use Rattle.cfn_model.specs.declared.step.Event.{Event}
use Rattle.cfn_model.specs.declared.step.Event.TheVariants.{Did}
use Rattle.cfn_model.specs.Network.{dims_at, variable_at}
use Rattle.cfn_tables.specs.Slots.{slot}
use Rattle.cfn_tables.proofs.Shifted.{moved_back}
use Rattle.cfn_tables.proofs.costs.Costs.revert.Goals as goal

pub returns-in-Did-Extend-clause-adds : goal.returns-in-Did-Extend-clause-adds
returns-in-Did-Extend-clause-adds c =
    let P = c.args.network.now in
    let inner = rw c.in-Did-Extend.is at c.in-Did-Extend.field-0-is in
    let is : ◌≡◌ {A = Event} c.args.event (Did (Extend c.in-Did-Extend.function c.in-Did-Extend.place c.in-Did-Extend.value c.in-Did-Extend.amount)) = c.in-Did-Extend.is ∙ ap (λ (s : Step). Did s) inner in
    let possible = rw is at c.requires.event in
    let amount = to_z_pos w128 c.in-Did-Extend.amount (omega (arith, possible.1)) in
    rw is (moved_back P (λ y b. (variable_at P c.in-Did-Extend.function c.in-Did-Extend.place == y) && (c.in-Did-Extend.value == b)) (λ g n. (c.in-Did-Extend.function == g) && (slot (dims_at P c.in-Did-Extend.function) c.in-Did-Extend.place c.in-Did-Extend.value == n)) (pos c.in-Did-Extend.amount) (neg_ℤ (pos c.in-Did-Extend.amount)) c.args.self.now c.shift-in-Did-Extend.new.self refl (rw amount at c.shift-in-Did-Extend.ensures.moves))
