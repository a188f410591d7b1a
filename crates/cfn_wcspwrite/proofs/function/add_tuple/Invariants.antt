use Rattle.std.proofs.Common.{◌≡◌, ◌++◌, drop}
use Rattle.cfn_model.specs.Network.{cells, dims}
use Rattle.cfn_line.specs.Appending.{Midway}
use Rattle.cfn_line.specs.declared.channel.Channel.TheVariants.{Screen}
use Rattle.cfn_wcspwrite.specs.Canonical.{spaced, tuple_of}
use Rattle.cfn_wcspwrite.proofs.function.add_tuple.Given as goal

abbrev pub invariant-loop-x : goal.invariant-loop-x
invariant-loop-x g l = record {
  behind : l.behind ≡ cells (drop l.x-index (dims l.network.sizes l.scope));
  text : Midway Screen (g.D.Desk.outside l.initial.desk)
      (l.initial.into ++ spaced (tuple_of (dims l.network.sizes l.scope) l.number))
      (l.into ++ spaced (tuple_of (drop l.x-index (dims l.network.sizes l.scope)) l.rest))
      (g.D.Desk.outside l.desk);
}
