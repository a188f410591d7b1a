use Rattle.std.proofs.Common.{ap, ◌∙◌}
use Rattle.std.specs.Prelude.{slice_index}
use Rattle.cfn_model.specs.Network.{variable_at}
use Rattle.cfn_derivation.specs.Banned.{bans_of}
use Rattle.cfn_derivation.proofs.Going.{goes_none, dead_quiet}
use Rattle.cfn_derivation.proofs.looks.look_value.Goals as goal

pub returns-then-not-deletes-clause-goes : goal.returns-then-not-deletes-clause-goes
returns-then-not-deletes-clause-goes c = goes_none c.args.q (bans_of c.args.bans.now) c.args.store.now c.args.work.now c.requires.room

pub returns-clause-quiet : goal.returns-clause-quiet
returns-clause-quiet c = λ none.
    dead_quiet c.args.store.now.network c.strike.new.store c.args.q (bans_of c.args.bans.now) c.args.f c.args.place c.args.value (slice_index c.scope.result.now c.args.place) c.strike.ensures.network
    (ap (λ l. slice_index l c.args.place) c.scope.ensures ∙ ap (λ P. variable_at P c.args.f c.args.place) c.network-2.ensures) c.strike.ensures.dead
