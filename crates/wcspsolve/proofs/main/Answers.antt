use Rattle.wcspsolve.proofs.main.Goals as goal

pub invariant_of-result : goal.invariant_of-result
invariant_of-result c d = record { ended = ∣ d.exit_number.ensures ∣₁ }
