use Rattle.std.proofs.Common.{refl, sym, subst, [], ◌∷◌, MatchOption}
use Rattle.cfn_scan.specs.Scanning.{NoneMet, IsFound}
use Rattle.cfn_scan.proofs.Lanes.{lane_row, lane_none, lane_found}
use Rattle.cfn_scan.proofs.scan.Scan.lane.Goals as goal

pub returns : goal.returns
returns c =
    lane_found c.args.self.now c.args.x c.args.spot _ c.in_ok-found.found c.requires.lane
    (lane_row c.args.self.now c.args.x c.args.spot _ c.requires.spot refl refl refl refl refl) c.in_ok-found.ensures

pub returns-in_err-found : goal.returns-in_err-found
returns-in_err-found c = subst (λ r. MatchOption r (NoneMet c.args.self.now (c.args.x ∷ []) c.args.spot) (IsFound c.args.self.now (c.args.x ∷ []) c.args.spot)) (sym c.from_residual.ensures) (
    lane_none c.args.self.now c.args.x c.args.spot _
    (lane_row c.args.self.now c.args.x c.args.spot _ c.requires.spot refl refl refl refl refl) c.in_err-found.ensures)
