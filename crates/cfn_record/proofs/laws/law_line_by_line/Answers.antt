use Rattle.cfn_record.proofs.Passing.{come_once}
use Rattle.cfn_record.proofs.Reading.{entry_passes, no_whole_piece, one_more_passes, whole_texts}
use Rattle.cfn_record.proofs.laws.law_line_by_line.Goals as goal

pub returns-clause-one_pool : goal.returns-clause-one_pool
returns-clause-one_pool c = come_once

pub returns-clause-one_more : goal.returns-clause-one_more
returns-clause-one_more c = one_more_passes

pub returns-clause-entry : goal.returns-clause-entry
returns-clause-entry c = entry_passes

pub returns-clause-piece : goal.returns-clause-piece
returns-clause-piece c = no_whole_piece

pub returns-clause-whole : goal.returns-clause-whole
returns-clause-whole c = whole_texts
