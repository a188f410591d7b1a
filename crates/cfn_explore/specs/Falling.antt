-- What does not rise while a task is explored.
use Rattle.std.specs.Prelude.{◌≡◌, ◌≤◌}
use Rattle.cfn_model.specs.Network.{Network}
use Rattle.cfn_low.specs.Holding.{Holding, price_of}

-- What a part of the word has seen, and the price of what it keeps, do not rise; its shares stay.
pub record HasFallen (P : Network) (old new : Holding) : Type 0 where
  pub shares : new.shares ≡ old.shares
  pub seen : new.seen ≤ old.seen
  pub price : price_of P new ≤ price_of P old
