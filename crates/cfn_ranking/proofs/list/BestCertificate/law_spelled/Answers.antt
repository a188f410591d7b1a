use Rattle.std.proofs.Common.{arith}
use Rattle.cfn_ranking.proofs.Spelled.{spelled_list}
use Rattle.cfn_ranking.proofs.list.BestCertificate.law_spelled.Goals as goal

pub returns : goal.returns
returns c = spelled_list c.args.self.now c.law_linked.ensures (omega arith) (omega arith)
