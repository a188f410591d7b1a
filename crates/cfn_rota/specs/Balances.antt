-- What the ends of a lane have pushed and taken.
use Rattle.std.specs.Prelude.{◌≡◌, ℕ, ◌+◌, ◌≤◌, List, [], ◌∷◌, ◌++◌}
use Rattle.std.specs.List.{AllByRecursion}
use mathlib.Core.Option.{some}
use lib.ListN.{get_elem?}
use Rattle.cfn_rota.specs.declared.rule.Tally.{Tally}

module _ {T : Type 0} where
  -- The weights of some tasks, added up.
  abbrev pub weigh : (T → ℕ) → List T → ℕ
  weigh h [] = 0
  weigh h (x ∷ xs) = h x + weigh h xs

  -- A number of each end, added up.
  abbrev pub total : (Tally T → ℕ) → List (Tally T) → ℕ
  total f [] = 0
  total f (v ∷ vs) = f v + total f vs

  abbrev pub tally : ℕ → List T → List T → Tally T
  tally parts pushed taken = record { parts = parts; pushed = pushed; taken = taken }

  abbrev pub pushed : Tally T → List T → Tally T
  pushed v xs = tally v.parts (v.pushed ++ xs) v.taken

  abbrev pub taken : Tally T → List T → Tally T
  taken v xs = tally v.parts v.pushed (v.taken ++ xs)

  abbrev pub joined : Tally T → Tally T → Tally T
  joined v w = tally (v.parts + w.parts) (v.pushed ++ w.pushed) (v.taken ++ w.taken)

  -- However tasks are weighed, what was pushed weighs what was taken and what is left.
  abbrev pub AreWhole : List T → List T → List T → Type 0
  AreWhole pushed taken left = (h : T → ℕ) → weigh h pushed ≡ weigh h taken + weigh h left

  -- However tasks are weighed, what was taken weighs no more than what was pushed.
  abbrev pub AreWithin : List T → List T → Type 0
  AreWithin taken pushed = (h : T → ℕ) → weigh h taken ≤ weigh h pushed

  -- The end that has all parts knows that no more was taken than pushed.
  abbrev pub KnowsMost : Tally T → Type 0
  KnowsMost v = v.parts ≡ 128 → AreWithin v.taken v.pushed

  -- The end that has all parts knows all that was pushed and taken.
  abbrev pub KnowsWhole : Tally T → List T → Type 0
  KnowsWhole v left = v.parts ≡ 128 → AreWhole v.pushed v.taken left

  -- An end with no part has pushed and taken nothing.
  abbrev pub AreIdle : List (Tally T) → Type 0
  AreIdle views = (port : ℕ) (v : Tally T) → get_elem? views port ≡ some v → v.parts ≡ 0 → (v.pushed ≡ []) × (v.taken ≡ [])

  -- The rule: the parts are 128, however tasks are weighed the ends have pushed what they have taken and what the lane holds, and each task there fits.
  pub record Balanced (Fits : T → Type 0) (items : List T) (views : List (Tally T)) : Type 0 where
    pub parts : total (λ v. v.parts) views ≡ 128
    pub weights : (h : T → ℕ) → total (λ v. weigh h v.pushed) views ≡ total (λ v. weigh h v.taken) views + weigh h items
    pub idle : AreIdle views
    pub fits : AllByRecursion Fits items
