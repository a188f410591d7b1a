use Rattle.std.proofs.Common.{sym, ◌∙◌}
use Rattle.cfn_model.specs.declared.step.Step.TheVariants.{Project}
use Rattle.cfn_model.specs.declared.step.Event.TheVariants.{Did}
use Rattle.cfn_store.proofs.Stores.{did_from, no_side_from, same_step}
use Rattle.cfn_store.proofs.block.step_from.Goals as goal

pub unreachable-requires : goal.unreachable-requires
unreachable-requires c = no_side_from c.args.events.now c.args.place c.args.number _ c.requires.steps c.requires.number c.in-Took.is

pub returns : goal.returns
returns c = λ other.
    same_step _ c.in-Did.step (sym (did_from c.args.events.now c.args.place c.args.number (Did (Project 0 0 0 0)) other c.requires.steps c.requires.number) ∙ c.in-Did.is)
