-- How far a record was run again.
use Rattle.std.specs.Prelude.{◌≡◌, ℕ, List, [], ◌∷◌, ◌++◌, length, Option, Some, None, unwrap_or}
use Rattle.cfn_model.specs.Network.{Network}
use Rattle.cfn_model.specs.Certificate.{Solution, threshold_of}
use Rattle.cfn_machine.specs.Pool.{Pool}
use Rattle.cfn_fault.specs.Lines as lines
use Rattle.cfn_leaves.specs.Value.{Holding}
use Rattle.cfn_record.specs.Lines.{RecordLine, Heading, Budget, Says, lines_of_best, State, AtEvents, AtValues, AtEnd}
use Rattle.cfn_record.specs.Fault.{ComesTo, Fault}
use Rattle.cfn_replay.specs.declared.answer.Stop.{Stop}
use Rattle.cfn_replay.specs.declared.answer.Stop.TheVariants as stops
use Rattle.cfn_replay.specs.Position.{Position, At}
use Rattle.cfn_replay.specs.Doing.{IsHeld}

-- The lines so far are right, and come to a pool that has seen this last. The leaves stand for it.
pub record Stands (P : Network) (r : Position) (h : Holding) (seen : ℕ) : Type 0 where
  pub front : List RecordLine
  pub at : At P r front (AtEvents [])
  pub pool : Pool
  pub comes : ComesTo P front [] pool
  pub held : IsHeld P pool h
  pub seen_is : pool.view.seen ≡ seen

-- A line fails so, if memory was not refused.
abbrev pub IsStop : Network → List ℕ → Stop → Type 0
IsStop P text (stops.Refused kind line) = Fault P text line kind
IsStop P text stops.Memory = Unit {0}

-- The first lines, up to the budget.
abbrev pub heading_lines : List RecordLine
heading_lines = Heading ∷ []

abbrev pub numbers_lines : Network → List RecordLine
numbers_lines P = Heading ∷ Says (lines.Numbers (length P.sizes) (length P.functions) P.upper) ∷ []

-- The lines before the events.
abbrev pub opening_lines : Network → ℕ → List RecordLine
opening_lines P budget = Heading ∷ Says (lines.Numbers (length P.sizes) (length P.functions) P.upper) ∷ Budget budget ∷ []

-- The line of the best assignment's cost, or that there is none, and what is due behind it.
abbrev pub best_line : Option ℕ → RecordLine
best_line None = Says lines.NoBest
best_line (Some cost) = Says (lines.Best cost)

abbrev pub behind_best : Option ℕ → State
behind_best None = AtEnd
behind_best (Some cost) = AtValues

-- The lines up to that one are right: the events come to a pool that has seen this last. The leaves stand for it.
pub record IsAtBest (P : Network) (r : Position) (h : Holding) (best : Option ℕ) : Type 0 where
  pub front : List RecordLine
  pub at : At P r (front ++ best_line best ∷ []) (behind_best best)
  pub pool : Pool
  pub comes : ComesTo P front [] pool
  pub held : IsHeld P pool h
  pub seen_is : pool.view.seen ≡ unwrap_or best P.upper

-- All lines but the last one are right, and tell this best assignment.
pub record IsAtEnd (P : Network) (r : Position) (h : Holding) (best : Option Solution) : Type 0 where
  pub front : List RecordLine
  pub at : At P r (front ++ lines_of_best best) AtEnd
  pub pool : Pool
  pub comes : ComesTo P front [] pool
  pub held : IsHeld P pool h
  pub seen_is : pool.view.seen ≡ threshold_of P.upper best
