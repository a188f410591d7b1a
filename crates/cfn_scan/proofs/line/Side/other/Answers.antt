use Rattle.cfn_scan.proofs.Sides.{other_variable}
use Rattle.cfn_scan.proofs.line.Side.other.Goals as goal

pub returns : goal.returns
returns c = λ P h f i j is. other_variable P h f i j c.args.self.now is
