-- Virtual arc consistency (Cooper et al. 2010): what propagation deletes in the network that forbids each value and each
-- tuple whose cost is at least q, and the plan that gathers at one variable the costs of what was deleted.
use Rattle.std.specs.Prelude.{◌≡◌, ℕ, ◌*◌, ◌<◌, ◌⊎◌, min, Bool, ◌&&◌, List, [], ◌∷◌, ◌++◌, length, map, reverse, slice_index, sum_by, pos, ◌<ℤ◌, IsTrue, IsFalse, if◌then◌else◌, ◌==◌}
use Rattle.cfn_model.specs.declared.limits.TheConstants.{GREATEST}
use Rattle.cfn_model.specs.declared.step.Step.{Step}
use Rattle.cfn_model.specs.declared.step.Step.TheVariants.{Project, Extend, Lift, CutValue, CutTuple}
use Rattle.cfn_model.specs.declared.step.Event.{Event}
use Rattle.cfn_model.specs.declared.step.Event.TheVariants.{Did}
use Rattle.cfn_model.specs.Network.{Network, Fits, arity, variable_at, dims_at}
use Rattle.cfn_model.specs.Sums.{unary, residual, is_live, is_live_tuple}
use Rattle.cfn_model.specs.Steps.{IsValue, IsPlace, CanProject, CanExtend}
use Rattle.cfn_consistency.specs.declared.deletion.Reason.{Reason}
use Rattle.cfn_consistency.specs.declared.deletion.Reason.TheVariants.{Own, By}
use Rattle.cfn_consistency.specs.declared.deletion.Deletion.{Deletion}
use Rattle.cfn_consistency.specs.declared.deletion.Source.{Source}
use Rattle.cfn_consistency.specs.Openness.{TakesPart}

-- Bans: a value's unary cost that deletes nothing, and a function that may not delete a value at one of its places.
pub record Bans : Type 0 where
  pub own : ℕ → ℕ → Bool
  pub by : ℕ → ℕ → ℕ → Bool

-- The history behind which the values of a list are cut, the first of them first.
abbrev pub without : List Deletion → List Event → List Event
without [] history = history
without (d ∷ deletions) history = without deletions (Did (CutValue d.variable d.value) ∷ history)

-- A reason to delete the value a of x: its unary cost is at least q; or in a function that takes part each live tuple with
-- it has a residual cost of at least q. No ban is against it.
abbrev pub IsReason : Network → List Event → ℕ → Bans → ℕ → ℕ → Reason → Type 0
IsReason P history q bans x a Own = IsFalse (bans.own x a) × CanExtend P history x a q
IsReason P history q bans x a (By f i) =
    IsFalse (bans.by f i a) × TakesPart P history f × IsPlace P f i a × (variable_at P f i ≡ x) × CanProject P history f i a q

-- A live value may be deleted.
pub record IsDeletion (P : Network) (history : List Event) (q : ℕ) (bans : Bans) (d : Deletion) : Type 0 where
  pub value : IsValue P d.variable d.value
  pub live : IsTrue (is_live history d.variable d.value)
  pub reason : IsReason P history q bans d.variable d.value d.reason

-- A derivation: each value of a list may be deleted behind those before it.
abbrev pub IsDerivation : Network → List Event → ℕ → Bans → List Deletion → Type 0
IsDerivation P history q bans [] = Unit {0}
IsDerivation P history q bans (d ∷ deletions) =
    IsDeletion P history q bans d × IsDerivation P (Did (CutValue d.variable d.value) ∷ history) q bans deletions

-- No value of x is live.
abbrev pub IsEmptied : Network → List Event → ℕ → Type 0
IsEmptied P history x = (x < length P.sizes) × ((a : ℕ) → IsValue P x a → IsFalse (is_live history x a))

-- A live tuple of f with the value a at place i has a residual cost below q.
pub record HasCheapTuple (P : Network) (history : List Event) (f i a q : ℕ) : Type 0 where
  pub tuple : List ℕ
  pub fits : Fits (dims_at P f) tuple
  pub at : slice_index tuple i ≡ a
  pub live : IsTrue (is_live_tuple P history f tuple)
  pub cheap : residual P history f tuple <ℤ pos q

-- A closed family: what is live. Each variable has a live value; each live value has a unary cost below q, and in each
-- function that takes part a live tuple of residual cost below q, so far as no ban is for it.
pub record IsClosedFamily (P : Network) (history : List Event) (q : ℕ) (bans : Bans) : Type 0 where
  pub some : (x : ℕ) → x < length P.sizes → (a : ℕ) × IsValue P x a × IsTrue (is_live history x a)
  pub own : (x a : ℕ) → IsValue P x a → IsTrue (is_live history x a) → IsFalse (bans.own x a) → unary P history x a <ℤ pos q
  pub by : (f i a : ℕ) → TakesPart P history f → IsPlace P f i a → IsTrue (is_live history (variable_at P f i) a) → IsFalse (bans.by f i a) → HasCheapTuple P history f i a q

-- A list of deletions has the value b of y.
abbrev pub Deletes : List Deletion → ℕ → ℕ → Type 0
Deletes [] y b = ⊥
Deletes (d ∷ deletions) y b = ((d.variable ≡ y) × (d.value ≡ b)) ⊎ Deletes deletions y b

-- The history behind which the sources of a function are cut, the last of them first.
abbrev pub without_sources : Network → ℕ → List Source → List Event → List Event
without_sources P f [] history = history
without_sources P f (s ∷ sources) history = Did (CutValue (variable_at P f s.place) s.value) ∷ without_sources P f sources history

-- In a list of deletions, the last of them first, the value c of z was deleted before the value b of y.
abbrev pub DeletesBefore : List Deletion → ℕ → ℕ → ℕ → ℕ → Type 0
DeletesBefore [] z c y b = ⊥
DeletesBefore (d ∷ deletions) z c y b = ((d.variable ≡ y) × (d.value ≡ b) × Deletes deletions z c) ⊎ DeletesBefore deletions z c y b

-- A source is needed: a live tuple of f with the value a at place i has its value, and a residual cost below q; and it is the value
-- of that tuple that was deleted first.
pub record IsNeeded (P : Network) (history : List Event) (q f i a : ℕ) (earlier : List Deletion) (s : Source) : Type 0 where
  pub cheap : HasCheapTuple P history f i a q
  pub value : slice_index cheap.tuple s.place ≡ s.value
  pub first : (j : ℕ) → j < arity P f → DeletesBefore earlier (variable_at P f j) (slice_index cheap.tuple j) (variable_at P f s.place) s.value → ⊥

-- Each source is a value at another place of f that was deleted earlier, and needed behind the cuts of the sources that follow it.
abbrev pub AreSourcesOf : Network → List Event → ℕ → ℕ → ℕ → ℕ → List Deletion → List Source → Type 0
AreSourcesOf P history q f i a earlier [] = Unit {0}
AreSourcesOf P history q f i a earlier (s ∷ sources) =
    IsPlace P f s.place s.value × (s.place ≡ i → ⊥) × Deletes earlier (variable_at P f s.place) s.value
    × IsNeeded P (without_sources P f sources history) q f i a earlier s × AreSourcesOf P history q f i a earlier sources

-- Sources of the value a at place i of f: without them each live tuple with it has a residual cost of at least q.
pub record AreSources (P : Network) (history : List Event) (q f i a : ℕ) (earlier : List Deletion) (sources : List Source) : Type 0 where
  pub are : AreSourcesOf P history q f i a earlier sources
  pub enough : CanProject P (without_sources P f sources history) f i a q

-- What a step takes from the unary cost of the value b of y.
abbrev pub takes : Network → Step → ℕ → ℕ → ℕ
takes P (Project f i a m) y b = 0
takes P (Extend f i a m) y b = if (variable_at P f i == y) && (a == b) then m else 0
takes P (Lift x m) y b = if x == y then m else 0
takes P (CutValue x a) y b = 0
takes P (CutTuple f c) y b = 0

-- What later steps ask of the value b of y: what they take from it.
abbrev pub asked : Network → List Step → ℕ → ℕ → ℕ
asked P later y b = min GREATEST (sum_by (λ step. takes P step y b) later)

-- A function gathers an amount from sources, and gives it to the value a at place i.
abbrev pub gathering : ℕ → ℕ → ℕ → ℕ → List Source → List Step
gathering f i a amount sources = map (λ (s : Source). Extend f s.place s.value amount) sources ++ Project f i a amount ∷ []

-- What a deletion puts before later steps, for what they ask of its value: nothing where its reason is its own unary cost, or
-- where they ask nothing; else its function gathers it.
abbrev pub Puts : Network → List Event → ℕ → Deletion → Reason → List Deletion → List Step → List Step → Type 0
Puts P history q d Own earlier later steps = steps ≡ later
Puts P history q d (By f i) earlier later steps =
    ((asked P later d.variable d.value ≡ 0) × (steps ≡ later))
    ⊎ ((0 < asked P later d.variable d.value) × ((sources : List Source) × AreSources P history q f i d.value earlier sources
    × (steps ≡ gathering f i d.value (asked P later d.variable d.value) sources ++ later)))

-- The steps that deletions, the last of them first, put before later steps.
abbrev pub ArePut : Network → List Event → ℕ → List Deletion → List Step → List Step → Type 0
ArePut P history q [] later steps = steps ≡ later
ArePut P history q (d ∷ earlier) later steps =
    (next : List Step) × Puts P history q d d.reason earlier later next × ArePut P history q earlier next steps

-- A plan for a derivation that empties x: the steps that its deletions put before a lift of x by 1.
abbrev pub IsPlan : Network → List Event → ℕ → List Deletion → ℕ → List Step → Type 0
IsPlan P history q deletions x plan = ArePut P history q (reverse deletions) (Lift x 1 ∷ []) plan

-- A step with its amount times a factor.
abbrev pub scaled : ℕ → Step → Step
scaled factor (Project f i a m) = Project f i a (factor * m)
scaled factor (Extend f i a m) = Extend f i a (factor * m)
scaled factor (Lift x m) = Lift x (factor * m)
scaled factor (CutValue x a) = CutValue x a
scaled factor (CutTuple f c) = CutTuple f c
