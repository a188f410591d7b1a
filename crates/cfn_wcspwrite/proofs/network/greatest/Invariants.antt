use Rattle.std.proofs.Common.{◌≡◌, drop}
use Rattle.std.specs.Prelude.{fold, max}
use Rattle.cfn_wcspwrite.proofs.network.greatest.Given as goal

-- going on over the sizes that are left gives the greatest of all
abbrev pub invariant-loop-size : goal.invariant-loop-size
invariant-loop-size l = fold max l.greatest (drop l.size-index l.sizes) ≡ fold max 0 l.sizes
