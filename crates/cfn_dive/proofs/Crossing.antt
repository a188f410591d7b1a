-- Divers may be sent to other threads, and what makes them may be shared by those.
use denote.Ref.{NamedLft}
use denote.Param.Send.{IsSend, IsSync, sendable, view_send}
use denote.Param.SendFields.{declared_send}
use Rattle.std.proofs.Crossing.{crosses}
use Rattle.cfn_net.specs.contracts.network.Network as Network
use Rattle.cfn_net.specs.contracts.tables.Tables as Tables
use Rattle.cfn_net.specs.contracts.scored.Scored as Scored
use Rattle.cfn_net.proofs.CallerLemmas.{snapshot_send, snapshot_sync}
use Rattle.cfn_rows.specs.contracts.past.Past as Past
use Rattle.cfn_rows.specs.contracts.live.LiveSets as LiveSets
use Rattle.cfn_store.specs.contracts.state.State as State
use Rattle.cfn_store.specs.contracts.shelf.Shelf as Shelf
use Rattle.cfn_store.specs.contracts.supports.Supports as Supports
use Rattle.cfn_store.specs.contracts.store.Store as Store
use Rattle.cfn_store.specs.contracts.mark.Mark as Mark
use Rattle.cfn_incidence.specs.contracts.incidence.Incidence as Incidence
use Rattle.cfn_branch.specs.contracts.weights.Weights as Weights
use Rattle.cfn_edac.specs.contracts.enforcer.Enforcer as Enforcer
use Rattle.cfn_trim.specs.contracts.trimmer.Trimmer as Trimmer
use Rattle.cfn_dive.specs.contracts.parts.Parts as Parts
use Rattle.cfn_dive.specs.contracts.parts.Waiting as Waiting
use Rattle.cfn_dive.specs.contracts.diver.Diver as Diver
use Rattle.cfn_dive.specs.contracts.divers.Divers as Divers

network_sync : IsSync Network.the_row
network_sync = search (sendable, crosses) depth 40

tables_sync : IsSync Tables.the_row
tables_sync = search (sendable, crosses, snapshot_sync) depth 40

tables_send : IsSend Tables.the_row
tables_send = search (sendable, crosses, snapshot_send) depth 40

-- a list of events for contracts alone owns nothing
past_send : IsSend Past.the_row
past_send = record { owned = λ d vs. ((λ _. (tt, ((λ _. (tt, tt)), tt))), tt); leaving = λ k f vs. tt }

live_send : IsSend LiveSets.the_row
live_send = search (sendable, crosses, past_send) depth 40

state_send : IsSend State.the_row
state_send = search (sendable, crosses, live_send) depth 40

supports_send : IsSend Supports.the_row
supports_send = search (sendable, crosses) depth 40

weights_send : IsSend Weights.the_row
weights_send = search (sendable, crosses) depth 40

incidence_send : IsSend Incidence.the_row
incidence_send = search (sendable, crosses, snapshot_send) depth 40

scored_send : IsSend Scored.the_row
scored_send = search (sendable, crosses, snapshot_send) depth 40

-- of what has many fields, one after another in the order of its declaration
module _ (a : NamedLft) where
  pub divers_sync : IsSync (Divers.the_row a)
  divers_sync = search (sendable, crosses, network_sync, tables_sync) depth 40

  mark_send : IsSend (Mark.the_row a)
  mark_send = search (sendable, crosses, snapshot_send) depth 40

  waiting_send : IsSend (Waiting.the_row a)
  waiting_send = search (sendable, crosses, mark_send) depth 40

  trimmer_send : IsSend (Trimmer.the_row a)
  trimmer_send = search (sendable, crosses, network_sync) depth 40 fits 20000

  enforcer_send : IsSend (Enforcer.the_row a)
  enforcer_send = search (sendable, crosses, network_sync) depth 40 fits 20000

  shelf_send : IsSend (Shelf.the_row a)
  shelf_send = search (sendable, crosses, tables_sync, tables_send) depth 40

  store_inside : IsSend (Store.TheInside.the_row a)
  store_inside = declared_send (Store.TheInside.the_type a) (search (sendable, crosses, network_sync), (search (sendable, shelf_send), (search (sendable, state_send), (search sendable, (search sendable, (search (sendable, crosses, supports_send) depth 40, tt))))))

  store_send : IsSend (Store.the_row a)
  store_send = view_send (Store.TheInside.the_row a) _ _ _ _ store_inside

  parts_send : IsSend (Parts.the_row a)
  parts_send = declared_send (Parts.the_type a) (search (sendable, store_send), (search (sendable, enforcer_send), (search sendable, (search (sendable, weights_send), (search (sendable, incidence_send), (search (sendable, trimmer_send), (search sendable, (search (sendable, crosses), (search (sendable, scored_send), (search (sendable, crosses, waiting_send) depth 40, tt))))))))))

  diver_inside : IsSend (Diver.TheInside.the_row a)
  diver_inside = declared_send (Diver.TheInside.the_type a) (search (sendable, parts_send), tt)

  pub diver_send : IsSend (Diver.the_row a)
  diver_send = view_send (Diver.TheInside.the_row a) _ _ _ _ diver_inside
