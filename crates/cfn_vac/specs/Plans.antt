-- Plans while they are built, and the sources of what one lacks.
use Rattle.std.specs.Prelude.{◌≡◌, ◌≢◌, ℕ, ◌<◌, ◌≤◌, List, ◌++◌, map, reverse, slice_index, pos, ◌<ℤ◌}
use Rattle.cfn_model.specs.declared.step.Step.{Step}
use Rattle.cfn_model.specs.declared.step.Step.TheVariants.{Extend}
use Rattle.cfn_model.specs.declared.step.Event.{Event}
use Rattle.cfn_model.specs.Network.{Network, cell, arity, variable_at, dims_at}
use Rattle.cfn_model.specs.Sums.{residual}
use Rattle.cfn_model.specs.Steps.{IsPlace}
use Rattle.cfn_scan.specs.Extremes.{IsPicked}
use Rattle.cfn_store.specs.Standing.{Standing, history}
use Rattle.cfn_consistency.specs.declared.deletion.Deletion.{Deletion}
use Rattle.cfn_consistency.specs.declared.deletion.Source.{Source}
use Rattle.cfn_consistency.specs.Virtual.{without_sources, AreSourcesOf, AreSources, gathering}
use Rattle.cfn_vac.specs.declared.sources.Target.{Target}
use Rattle.cfn_vac.specs.Running.{AreShifts}
use Rattle.cfn_vac.specs.Tables.{item, AreWants}

-- A network, and the steps of a plan in their order.
pub record Planned : Type 0 where
  pub network : Network
  pub steps : List Step

-- Steps, the last of which stands first, are shifts; and numbers tell what they ask of each value.
pub record IsPlanned (P : Network) (steps : List Step) (numbers : List (List ℕ)) : Type 0 where
  pub shifts : AreShifts P steps
  pub wants : AreWants P (reverse steps) numbers

-- A live tuple of f with the value a at place i has a number, and a residual cost below q.
pub record IsCheap (P : Network) (history : List Event) (f i a q number : ℕ) : Type 0 where
  pub tuple : List ℕ
  pub picked : IsPicked P history f i a tuple
  pub cell_is : cell (dims_at P f) tuple ≡ number
  pub cheap : residual P history f tuple <ℤ pos q

-- Each value of a tuple at another place than i has a number of at least an end; and one has a number below it, of which there
-- is no lower one.
abbrev pub NoneBefore : Network → List (List ℕ) → ℕ → ℕ → ℕ → List ℕ → Type 0
NoneBefore P rows f i end tuple = (j : ℕ) → j < arity P f → j ≢ i → end ≤ item rows (variable_at P f j) (slice_index tuple j)

pub record IsBefore (P : Network) (rows : List (List ℕ)) (f i end : ℕ) (tuple : List ℕ) (source : Source) : Type 0 where
  pub place : IsPlace P f source.place source.value
  pub other : source.place ≢ i
  pub value : source.value ≡ slice_index tuple source.place
  pub before : item rows (variable_at P f source.place) source.value < end
  pub least : (j : ℕ) → j < arity P f → j ≢ i → item rows (variable_at P f source.place) source.value ≤ item rows (variable_at P f j) (slice_index tuple j)

-- What a function gathers from sources, an extend for each of them.
abbrev pub extends : ℕ → ℕ → List Source → List Step
extends f amount sources = map (λ (s : Source). Extend f s.place s.value amount) sources

-- Sources were cut in a store, and their extends put before a plan.
pub record IsGathered (P : Network) (before now : Standing) (q f i a amount : ℕ) (earlier : List Deletion) (old new : List Step) : Type 0 where
  pub sources : List Source
  pub are : AreSourcesOf P (history before) q f i a earlier sources
  pub cut : history now ≡ without_sources P f sources (history before)
  pub put : new ≡ extends f amount sources ++ old

-- The extends of sources of the value a at place i of f were put before a plan.
pub record Gathers (P : Network) (history : List Event) (q f i a amount : ℕ) (earlier : List Deletion) (old new : List Step) : Type 0 where
  pub sources : List Source
  pub are : AreSources P history q f i a earlier sources
  pub put : new ≡ extends f amount sources ++ old

-- What gathers an amount for a target was put before a plan.
abbrev pub Feeds : Network → List Event → ℕ → Target → List Deletion → List Step → List Step → Type 0
Feeds P history q t earlier old new =
    (sources : List Source) × AreSources P history q t.function t.place t.value earlier sources × (new ≡ gathering t.function t.place t.value t.amount sources ++ old)
