-- What is looked up once of a pair's function and its two variables.
use Rattle.std.specs.Prelude.{◌≡◌, ℕ, List, IfSome}
use Rattle.cfn_model.specs.declared.step.Event.{Event}
use Rattle.cfn_model.specs.Network.{Network}
use Rattle.cfn_model.specs.Steps.{IsValue}
use Rattle.cfn_scan.specs.declared.line.Line.{Line}
use Rattle.cfn_scan.specs.declared.unaries.Unaries.{Unaries}
use Rattle.cfn_scan.specs.Lines.{IsSide, IsAlong}
use Rattle.cfn_scan.specs.Unaries.{AreUnaries}
use Rattle.cfn_store.specs.Standing.{Standing, history}
use Rattle.cfn_dac.specs.declared.pair.Pair.{Pair}
use Rattle.cfn_dac.specs.declared.binary.Binary.{Binary}
use Rattle.cfn_dac.specs.declared.plan.View.{View}
use Rattle.cfn_dac.specs.Full.{first_of, second_of}

-- The function of a pair has the pair's variables alone: this is the function seen from the first place, and these are the
-- second variable and its values' unary costs.
pub record IsBinary (s : Standing) (pair : Pair) (binary : Binary) : Type 0 where
  pub side : IsSide s.network (history s) pair.function pair.place pair.other binary.side
  pub second : binary.second ≡ second_of s.network pair
  pub theirs : AreUnaries s.network (history s) (second_of s.network pair) binary.theirs

-- The first variable of a pair, its values' unary costs, and its function where it has the pair's variables alone.
pub record IsView (s : Standing) (pair : Pair) (view : View) : Type 0 where
  pub first : view.first ≡ first_of s.network pair
  pub own : AreUnaries s.network (history s) (first_of s.network pair) view.own
  pub binary : IfSome view.binary (IsBinary s pair)

-- A live value b of the second variable stands on a line of the value a of the first, and these are the second one's unary
-- costs.
pub record IsMet (P : Network) (history : List Event) (pair : Pair) (a : ℕ) (line : Line) (theirs : Unaries) (b : ℕ) : Type 0 where
  pub along : IsAlong P history pair.function pair.place a pair.other line b
  pub value : IsValue P (second_of P pair) b
  pub unaries : AreUnaries P history (second_of P pair) theirs
