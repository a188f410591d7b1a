-- What the crates above cite of the proofs here.
pub use Rattle.cfn_record.proofs.Following.{alike_after, follows_too, left_by, moves_follow, seen_after, seen_is, step_follows}
pub use Rattle.cfn_record.proofs.Repeating.{alike, follows_numbered, follows_once, one_end, one_run, same_after, turned}
pub use Rattle.cfn_record.proofs.Spelling.{Fronted, SameLine, front, line_said_is, line_says, one_front, same_line, some_bytes}
pub use Rattle.cfn_record.proofs.Parting.{one_record, same_entries, same_record, same_tree}
pub use Rattle.cfn_record.proofs.Passing.{come_once, faults_are_one, right_not_wrong}
pub use Rattle.cfn_record.proofs.Reading.{comes_first, comes_more, entry_passes, no_fault_where_good, no_whole_piece, nodes_pass, one_more_passes, one_tree, pass_append, runs_tree, whole_texts}
pub use Rattle.cfn_record.proofs.Searching.{search_is_recorded}
pub use Rattle.cfn_record.proofs.Judging.{find_piece, good_or_fault_record, tree_of_lines}
pub use Rattle.cfn_record.proofs.Rows.{tiny_is_good, tiny_text}
