-- What callers cite.
use Rattle.std.proofs.Common.{◌≡◌, ◌≤◌, List, [], ◌∷◌, length, refl, arith}
use Rattle.cfn_rota.specs.Balances.{weigh, AreWithin}
pub use Rattle.cfn_rota.proofs.Crossing.{ends_send}
pub use Rattle.cfn_rota.proofs.Dealt.{rest as all_before, same_map}
pub use Rattle.cfn_rota.proofs.Gathering.{last_others, last_parts, own_absorbed, mine_ends, theirs_ends, met_one, thieves_step, same_lanes, before_step, met_step, all_met, all_but_last, same_access, in_turn, all_in_turn}

-- each task weighs 1
ones : {T : Type 0} (xs : List T) → weigh (λ x. 1) xs ≡ length xs
ones [] = refl
ones (x ∷ xs) = let rest = ones xs in omega (arith, rest)

-- no more were taken than were pushed
pub within_length : {T : Type 0} (taken pushed : List T) → AreWithin taken pushed → length taken ≤ length pushed
within_length taken pushed within = let h = within (λ x. 1) in let t = ones taken in let p = ones pushed in omega (arith, h, t, p)
