-- Tasks that are let go, where the newest is last.
use Rattle.std.proofs.Common.{◌≡◌, ℕ, List, [], ◌∷◌, ◌++◌, refl, sym, ap, ◌∙◌, reverse, Bool, true, false, not, if◌then◌else◌, ◌==◌}
use Rattle.std.proofs.lemmas.List.{append-nil, reverse-append}
use Rattle.std.proofs.lemmas.List.Elements.{filter-append}
use Rattle.std.specs.Prelude.{filter}
use Rattle.cfn_machine.specs.Pool.{Task}
use Rattle.cfn_core.specs.Actions.{without}

-- whether a task stays where the tasks of a leaf go
abbrev pub stays : ℕ → Task → Bool
stays n task = not (task.leaf == n)

by_test : (b : Bool) (task : Task) (tasks : List Task) → reverse (if b then task ∷ tasks else tasks) ≡ reverse tasks ++ (if b then task ∷ [] else [])
by_test true task tasks = reverse-append (task ∷ []) tasks
by_test false task tasks = sym (append-nil (reverse tasks))

pub let_go : (n : ℕ) (tasks : List Task) → reverse (filter (stays n) tasks) ≡ without n (reverse tasks)
let_go n [] = refl
let_go n (task ∷ tasks) = by_test (stays n task) task (filter (stays n) tasks) ∙ ap (λ l. l ++ filter (stays n) (task ∷ [])) (let_go n tasks)
    ∙ sym (filter-append (stays n) (reverse tasks) (task ∷ [])) ∙ ap (without n) (sym (reverse-append (task ∷ []) tasks))

-- a task that is taken is the newest
pub newest : (tasks : List Task) (task : Task) → reverse (tasks ++ task ∷ []) ≡ task ∷ reverse tasks
newest tasks task = reverse-append tasks (task ∷ [])
