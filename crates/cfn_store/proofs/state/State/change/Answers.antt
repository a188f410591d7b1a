use Rattle.cfn_store.proofs.States.{live_room}
use Rattle.cfn_store.proofs.state.State.change.Goals as goal

pub take-requires-clause-room : goal.take-requires-clause-room
take-requires-clause-room c = live_room c.args.network.now c.args.self.now c.requires.room.0 c.requires.state c.requires.room.1 c.requires.room.2

pub refuse-requires-clause-room : goal.refuse-requires-clause-room
refuse-requires-clause-room c = live_room c.args.network.now c.args.self.now c.requires.room.0 c.requires.state c.requires.room.1 c.requires.room.2
