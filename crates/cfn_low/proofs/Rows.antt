-- What rows that hold can't say.
use Rattle.std.proofs.Common.{◌≡◌, ◌≢◌, ℕ, List, Some, subst}
use Rattle.std.specs.Prelude.{IfSome}
use Rattle.cfn_model.specs.declared.report.Row.{Row}
use Rattle.cfn_model.specs.Network.{Network, Fits, cost}
use Rattle.cfn_model.specs.Certificate.{Certificate}
use Rattle.cfn_low.specs.Outcome.{RowHolds, UpperHolds}

-- no row has an upper number that no assignment costs
pub none_invented : (P : Network) (c : Certificate) (row : Row) (u : ℕ) → row.upper ≡ Some u → ((values : List ℕ) → Fits P.sizes values → cost P values ≢ u) → RowHolds P c row → ⊥
none_invented P c row u is none holds =
    let known : UpperHolds P c u = subst (λ o. IfSome o (UpperHolds P c)) is holds.known in
    none known.reached.0 known.reached.1 known.reached.2
