-- What the crates above cite of the proofs here.
pub use Rattle.cfn_fault.proofs.Running.{has_node, no_node_due, node_follows, nothing_over, run_append, run_one_more, run_split, runs_tree, same_end, spelled_append, spelled_back, spelled_lines, told}
pub use Rattle.cfn_fault.proofs.Decoding.{said_by, says}
pub use Rattle.cfn_fault.proofs.Numerals.{IsNumeral, numeral_is, numeral_of_decimal}
pub use Rattle.cfn_fault.proofs.Bytes.{HasNoEnd, IsClean, clean_words, decimal_clean, front_of, fronted, inside_front, line_back, line_of_front, lines_first, lines_last, same_words, words_back, words_some}
pub use Rattle.cfn_fault.proofs.Beginning.{first_line, front_of_lines, none_begins, some_bytes, some_rest, spelling_is, text_append, text_fails}
pub use Rattle.cfn_fault.proofs.Judging.{none_pass_yet, place_right}
pub use Rattle.cfn_fault.proofs.Whole.{one_more_floor}
pub use Rattle.cfn_fault.proofs.Faults.{line_faults, no_fault_where_good, one_fault, one_kind_place, one_more, text_faults, whole_texts, whole_spells}
pub use Rattle.cfn_fault.proofs.Spelling.{one_certificate, same_certificate}
pub use Rattle.cfn_fault.proofs.TextFaults.{fault_of_text, no_text_fault_where_spelled, one_text_fault, spells_or_text_fault}
pub use Rattle.cfn_fault.proofs.Deciding.{Behind, Decided, Ends, Never, ends, good_or_fault}
