-- What a part of the word keeps.
use Rattle.std.specs.Prelude.{ℕ, ◌<◌, ◌≤◌, Option, nat_lt, if◌then◌else◌}
use Rattle.atomic_table.specs.Seated.{TableId}
use Rattle.cfn_model.specs.Network.{Network}
use Rattle.cfn_model.specs.Certificate.{Solution, threshold_of}
use Rattle.cfn_machine.specs.declared.sight.Sight.{Sight}
use Rattle.cfn_machine.specs.Word.{all_shares}
use Rattle.cfn_low.specs.Steps.{IsReached, sight}

-- The best assignment that a worker keeps, if it keeps one, the threshold that it has seen, and its shares.
pub record Holding : Type 0 where
  pub held : Option Solution
  pub seen : ℕ
  pub shares : ℕ

-- The price of what is kept.
abbrev pub price_of : Network → Holding → ℕ
price_of P h = threshold_of P.upper h.held

-- What is kept of two: the second where it is cheaper.
abbrev pub kept : Network → Option Solution → Option Solution → Option Solution
kept P one other = if nat_lt (threshold_of P.upper other) (threshold_of P.upper one) then other else one

-- How it stands on the word.
abbrev pub sight_of : Network → Holding → Sight
sight_of P h = sight (price_of P h) h.seen h.shares

-- It has a share, no more than there are, and nothing above the upper bound. What was seen is the upper bound, or the cost
-- of an assignment.
pub record IsHolding (P : Network) (h : Holding) : Type 0 where
  pub some : 0 < h.shares
  pub few : h.shares ≤ all_shares
  pub price : price_of P h ≤ P.upper
  pub seen : h.seen ≤ P.upper
  pub reached : IsReached P h.seen

-- A word that has just been made: which table it is, and of which network.
pub record Made : Type 0 where
  pub table : TableId
  pub network : Network
