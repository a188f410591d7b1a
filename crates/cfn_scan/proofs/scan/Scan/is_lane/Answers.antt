use Rattle.std.proofs.Common.{sym, ◌∙◌, arith, eqb-true}
use Rattle.cfn_scan.proofs.Lanes.{all_stand}
use Rattle.cfn_scan.proofs.scan.Scan.is_lane.Goals as goal

pub returns-in-Least : goal.returns-in-Least
returns-in-Least c = λ e.
    all_stand c.args.self.now c.args.scope.now c.args.spot c.requires.spot
    (let s = c.requires.some in let l = c.if-scope-gt1.false in omega (arith, s, l)) c.in-Least.is c.if-place-self.false c.if-place-self-2.false
    (sym c.count.ensures ∙ eqb-true _ _ e)
