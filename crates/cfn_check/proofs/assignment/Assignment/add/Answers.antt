use Rattle.std.proofs.Common.{arith}
use Rattle.cfn_check.proofs.BestValues.{still_told, too_many, too_large}
use Rattle.cfn_check.proofs.assignment.Assignment.add.Goals as goal
use Rattle.cfn_check.proofs.assignment.Assignment.add.Goals.{else-room-via-then-room+else-value-lt4096, else-room-via-else-room}

pub returns-else-room : goal.returns-else-room
returns-else-room c = λ all left is fits.
    let got = c.args.self.now.values.items in
    let all_is = still_told c.args.network.now c.args.self.now all _ c.if-not-self.false is in
    elim c.else-room.branch [
      | else-room-via-then-room+else-value-lt4096 w ↦ too_large c.args.network.now.sizes got left all c.args.value c.law_limits.ensures.sizes all_is w.if-value-lt4096.false fits
      | else-room-via-else-room w ↦ too_many c.args.network.now.sizes got left all c.args.value all_is (omega (arith, w.if-room.false)) fits
    ]
