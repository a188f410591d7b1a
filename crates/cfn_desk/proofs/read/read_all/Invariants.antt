-- The bytes so far, and then those that the file has left, are those that were there and all that it had.
use Rattle.std.proofs.Common.{◌≡◌, ◌++◌, IfSome}
use Rattle.std.specs.Option.{IsSomeAnd}
use Rattle.cfn_desk.proofs.read.read_all.Given as goal

abbrev pub invariant-loop : goal.invariant-loop
invariant-loop g l =
    let remaining = g.F.Read.remaining in
    IfSome (remaining l.initial.file) (λ all. IsSomeAnd (remaining l.file) (λ left.
    l.into.items ++ left ≡ l.initial.into.items ++ all))
