use Rattle.cfn_line.proofs.CallerLemmas.{then, stop, respell}
use Rattle.cfn_certwrite.proofs.RecordLines.{piece_text}
use Rattle.cfn_certwrite.proofs.entries.put_entry.Goals as goal

pub returns-in_err-put_give-in-Gave : goal.returns-in_err-put_give-in-Gave
returns-in_err-put_give-in-Gave g c =
    rw c.in-Gave.is (respell _ (piece_text _ _ _ _ _ _) (stop _ c.from_residual.ensures.0 _ c.in_err-put_give-in-Gave.ensures))

pub returns-in_ok-put_give-in-Gave : goal.returns-in_ok-put_give-in-Gave
returns-in_ok-put_give-in-Gave g c =
    rw c.in-Gave.is (respell _ (piece_text _ _ _ _ _ _) (then c.in_ok-put_give-in-Gave.ensures c.put_tree.ensures))
