-- What the crates above cite of the proofs here.
pub use Rattle.cfn_machine.proofs.Placing.{after_append, numbered_is, numbered_granted, recalled_is, recalled_granted, replaced_granted, swept_granted}
pub use Rattle.cfn_machine.proofs.Keeping.{holds, opens, opens_with, keeps, keeps_rows, keeps_sound, opening_small, cheaper_price, cheaper_keeps}
pub use Rattle.cfn_machine.proofs.Numbering.{by_noted, keeps_numbered, opens_numbered, leaf_counts, numbered_behind, numbered_before, numbered_free, numbered_once, recalled_numbers, recalled_free, replaced_back, replaced_in, replaced_leaf, replaced_numbers, replaced_stays, swept_numbers}
pub use Rattle.cfn_machine.proofs.Deciding.{can_replace, find_some}
pub use Rattle.cfn_machine.proofs.Agreeing.{agreed, open_leaf}
pub use Rattle.cfn_machine.proofs.Covering.{covered, rises, sweeps_all}
pub use Rattle.cfn_machine.proofs.Tracing.{hands_out, takes_out}
pub use Rattle.cfn_machine.proofs.Outgoing.{stays_out, was_out}
pub use Rattle.cfn_machine.proofs.Answering.{leaf_open, one_path, takes_or_none, never_both, one_lack, gives_or_not, gives_out, returns_or_not, returns_out, one_task, one_pool}
pub use Rattle.cfn_machine.proofs.Words.{best_top}
pub use Rattle.cfn_machine.proofs.Parting.{keeps_aside, opens_part, sets_aside, was_aside, dealt_is, dealt_whole, ends_others, tells_own, has_paths}
pub use Rattle.cfn_machine.proofs.Answering.{free_active, granted_active, none_active}
