-- What the crates above cite of the proofs here.
pub use Rattle.cfn_best.proofs.Unlisted.{others_cost_more}
pub use Rattle.cfn_best.proofs.Ordering.{ordered_more}
pub use Rattle.cfn_best.proofs.Spelling.{Fronted, SameLine, front, line_said_is, line_says, one_front, same_line, some_bytes}
pub use Rattle.cfn_best.proofs.Passing.{faults_are_one}
pub use Rattle.cfn_best.proofs.Reading.{no_fault_where_good, one_list, whole_texts}
