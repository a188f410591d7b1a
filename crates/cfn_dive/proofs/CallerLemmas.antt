-- What callers cite.
pub use Rattle.cfn_dive.proofs.Alive.{some_choice, only_choices, choices_fit}
pub use Rattle.cfn_dive.proofs.Sides.{since_split, settled_moved}
pub use Rattle.cfn_dive.proofs.Leaves.{is_leaf, goes_by_shifts}
pub use Rattle.cfn_dive.proofs.Crossing.{divers_sync, diver_send}
pub use Rattle.cfn_dive.proofs.Onwards.{begins_at, runs_further, runs_on, settled_alive, spent_alive}
pub use Rattle.cfn_dive.proofs.Splitting.{split_decision, split_strict}
