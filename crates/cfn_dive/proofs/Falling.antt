-- What a part of the word has seen and keeps does not rise.
use Rattle.std.proofs.Common.{◌≡◌, ℕ, ◌≤◌, Bool, true, false, nat_lt, if◌then◌else◌, Option, refl, ap, ◌∙◌, ltb-true, arith}
use Rattle.cfn_model.specs.Network.{Network}
use Rattle.cfn_model.specs.Certificate.{Solution, threshold_of}
use Rattle.cfn_low.specs.Holding.{Holding, kept, price_of}
use Rattle.cfn_explore.specs.Falling.{HasFallen}

cheaper_by : (upper : ℕ) (b : Bool) (one other : Option Solution) → nat_lt (threshold_of upper other) (threshold_of upper one) ≡ b → threshold_of upper (if b then other else one) ≤ threshold_of upper one
cheaper_by upper true one other is = let h = ltb-true (threshold_of upper other) (threshold_of upper one) is in omega (arith, h)
cheaper_by upper false one other is = omega arith

pub kept_falls : (P : Network) (one other : Option Solution) → threshold_of P.upper (kept P one other) ≤ threshold_of P.upper one
kept_falls P one other = cheaper_by P.upper (nat_lt (threshold_of P.upper other) (threshold_of P.upper one)) one other refl

-- a look
pub look_falls : (P : Network) (old new : Holding) (seen : ℕ) → new ≡ record old { seen = seen } → seen ≤ old.seen → HasFallen P old new
look_falls P old new seen is less = record {
  shares = ap (λ (h : Holding). h.shares) is;
  seen = (let e = ap (λ (h : Holding). h.seen) is in omega (arith, e, less));
  price = (let e = ap (λ (h : Holding). price_of P h) is in omega (arith, e));
}

-- an offer
pub offer_falls : (P : Network) (old new : Holding) (offer : Option Solution) (seen : ℕ) → new ≡ record { held = kept P old.held offer; seen = seen; shares = old.shares } → seen ≤ old.seen → HasFallen P old new
offer_falls P old new offer seen is less = record {
  shares = ap (λ (h : Holding). h.shares) is;
  seen = (let e = ap (λ (h : Holding). h.seen) is in omega (arith, e, less));
  price = (let e = ap (λ (h : Holding). price_of P h) is in let k = kept_falls P old.held offer in omega (arith, e, k));
}

pub fall_trans : (P : Network) (a b c : Holding) → HasFallen P a b → HasFallen P b c → HasFallen P a c
fall_trans P a b c one two = record {
  shares = two.shares ∙ one.shares;
  seen = (let x = one.seen in let y = two.seen in omega (arith, x, y));
  price = (let x = one.price in let y = two.price in omega (arith, x, y));
}

pub falls_not : (P : Network) (a : Holding) → HasFallen P a a
falls_not P a = record { shares = refl; seen = omega arith; price = omega arith }
