-- What is told of a pool holds.
use Rattle.std.proofs.Common.{ℕ, ◌≤◌, ◌≡◌, [], refl, ltb-true, Some, None, nat_lt, IfSome, Bool, true, false, if◌then◌else◌}
use Rattle.cfn_model.specs.Network.{Network, IsNetwork}
use Rattle.cfn_model.specs.Tree.{Tree, Valid}
use Rattle.cfn_model.proofs.CallerLemmas.{bounds}
use Rattle.cfn_machine.specs.Pool.{row_of}
use Rattle.cfn_low.specs.Steps.{IsReached}
use Rattle.cfn_explore.specs.Telling.{IsPrice, AreBounds}
use Rattle.cfn_pool.proofs.Kept.{upper_reached}

-- a threshold that was reached is a price where it is below the upper bound
upper_holds : (P : Network) (seen : ℕ) (b : Bool) → nat_lt seen P.upper ≡ b → IsReached P seen → IfSome (if b then Some seen else None) (IsPrice P)
upper_holds P seen true below reached = record { below = ltb-true _ _ below; reached = upper_reached P seen true below reached }
upper_holds P seen false below reached = tt

-- the row of bounds of a valid tree holds, where the threshold was reached
pub row_holds : (P : Network) (tree : Tree) (seen : ℕ) → IsNetwork P → seen ≤ P.upper → Valid P [] tree seen → IsReached P seen → AreBounds P (row_of P tree seen)
row_holds P tree seen network most valid reached = record {
  lower = λ values fits. bounds P tree seen values network most valid fits;
  upper = upper_holds P seen (nat_lt seen P.upper) refl reached;
}
