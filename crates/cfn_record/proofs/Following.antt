-- What is recorded of legal steps can be done to every pool that is alike.
use Rattle.std.proofs.Common.{◌≡◌, ℕ, ◌≤◌, [], ◌∷◌, refl, sym, ap, ◌∙◌, subst, arith}
use Rattle.std.specs.Prelude.{Option, Some, None, MatchOption}
use Rattle.cfn_model.specs.Network.{Network}
use Rattle.cfn_machine.specs.Pool.{Task, Pool, View}
use Rattle.cfn_machine.specs.Steps.{PoolTakes, PoolGives, PoolReturns, PoolStep, Takes, Gives, Returns, Recalls, Sweeps, Meets, Notes, PoolSteps, IsLegal, pool_recalled, pool_swept}
use Rattle.cfn_machine.proofs.CallerLemmas.{by_noted}
use Rattle.cfn_record.specs.Entries.{Entry, Took, Gave, Freed, CalledBack, Swept, Follows, Runs, entry_of, with_entry, entries_of, IsAlike}
use Rattle.cfn_record.specs.Laws.{StepFollows, MovesFollow}

-- a pool with another's rows and view, and what its tree began with
abbrev pub dressed : Pool → Pool → Pool
dressed pool other = record pool { begun = other.begun; rows = other.rows; view = other.view }

is_dressed : (pool other : Pool) → IsAlike pool other → other ≡ dressed pool other
is_dressed pool other a =
    let t = a.tree in let n = a.next in let b = a.budget in let m = a.nodes in
    let e : other ≡ record { tree = other.tree; next = other.next; budget = other.budget; begun = other.begun; nodes = other.nodes; rows = other.rows; view = other.view } = refl in
    cc

takes_dressed : (P : Network) (pool new other : Pool) (worker want : ℕ) (task : Task) → PoolTakes P pool worker want task new → PoolTakes P (dressed pool other) worker want task (dressed new other)
takes_dressed P pool new other worker want task t = record {
  wants = t.wants;
  unspent = t.unspent;
  room = t.room;
  first = record { leaf = t.first.leaf; first = t.first.first };
  handed = t.handed;
  tree = t.tree;
  marked = t.marked;
  left = ap (λ (p : Pool). dressed p other) t.left;
}

-- what another pool has seen behind an entry
abbrev pub seen_after : Entry → View → View
seen_after (Took worker want leaf grant) view = view
seen_after (Gave worker leaf grant threshold seen tree) view = record view { seen = seen }
seen_after (Freed worker leaf grant) view = view
seen_after CalledBack view = view
seen_after (Swept seen) view = record view { seen = seen }

-- the pool that an entry makes of another that is alike
abbrev pub left_by : Entry → Pool → Pool → Pool
left_by entry new other = record new { begun = other.begun; rows = other.rows; view = seen_after entry other.view }

-- an entry that can be done to a pool can be done to each one that is alike
pub follows_too : (P : Network) (pool new other : Pool) (entry : Entry) → Follows P pool entry new → IsAlike pool other → Follows P other entry (left_by entry new other)
follows_too P pool new other (Took worker want leaf grant) step a =
    let made = takes_dressed P pool new other worker want step.0 step.1 in
    (step.0, subst (λ p. PoolTakes P p worker want step.0 (dressed new other)) (sym (is_dressed pool other a)) made, step.2, step.3)
follows_too P pool new other (Gave worker leaf grant threshold seen tree) step a =
    let piece = step.0 in
    let gives = step.1 in
    let left = record (dressed new other) { view = record other.view { seen = seen } } in
    let made : PoolGives (dressed pool other) seen piece left = record { tree = gives.tree; placed = gives.placed; left = ap (λ (p : Pool). record (dressed p other) { view = record other.view { seen = seen } }) gives.left } in
    let low = step.10 in
    let more = a.seen in
    (piece, subst (λ p. PoolGives p seen piece left) (sym (is_dressed pool other a)) made, step.2, step.3, step.4, step.5, step.6, step.7, step.8, step.9, omega (arith, low, more))
follows_too P pool new other (Freed worker leaf grant) step a =
    let back = step.1 in
    let made : PoolReturns (dressed pool other) step.0 (dressed new other) = record { path = back.path; tree = back.tree; freed = back.freed; left = ap (λ (p : Pool). dressed p other) back.left } in
    (step.0, subst (λ p. PoolReturns p step.0 (dressed new other)) (sym (is_dressed pool other a)) made, step.2, step.3, step.4)
follows_too P pool new other CalledBack step a = ap (λ p. dressed p other) step ∙ ap pool_recalled (sym (is_dressed pool other a))
follows_too P pool new other (Swept seen) step a =
    let more = a.seen in
    let low = step.1 in
    (ap (λ (p : Pool). record (dressed p other) { view = record other.view { seen = seen } }) step.0 ∙ ap (λ p. pool_swept P p seen) (sym (is_dressed pool other a)), omega (arith, low, more))

-- what was seen, behind an entry
pub seen_is : (P : Network) (pool new : Pool) (entry : Entry) → Follows P pool entry new → new.view ≡ seen_after entry pool.view
seen_is P pool new (Took worker want leaf grant) step = ap (λ (p : Pool). p.view) step.1.left
seen_is P pool new (Gave worker leaf grant threshold seen tree) step = ap (λ (p : Pool). p.view) step.1.left
seen_is P pool new (Freed worker leaf grant) step = ap (λ (p : Pool). p.view) step.1.left
seen_is P pool new CalledBack step = ap (λ (p : Pool). p.view) step
seen_is P pool new (Swept seen) step = ap (λ (p : Pool). p.view) step.0

stays_low : (entry : Entry) (view other : View) → view.seen ≤ other.seen → (seen_after entry view).seen ≤ (seen_after entry other).seen
stays_low (Took worker want leaf grant) view other le = le
stays_low (Gave worker leaf grant threshold seen tree) view other le = omega arith
stays_low (Freed worker leaf grant) view other le = le
stays_low CalledBack view other le = le
stays_low (Swept seen) view other le = omega arith

pub alike_after : (P : Network) (pool new other : Pool) (entry : Entry) → Follows P pool entry new → IsAlike pool other → IsAlike new (left_by entry new other)
alike_after P pool new other entry step a = record {
  tree = refl;
  next = refl;
  budget = refl;
  nodes = refl;
  seen = (let s = ap (λ (v : View). v.seen) (seen_is P pool new entry step) in let l = stays_low entry pool.view other.view a.seen in omega (arith, s, l));
}

-- a legal step is done as its entry says
abbrev IsDone : Network → Pool → Pool → Option Entry → Type 0
IsDone P pool new o = MatchOption o (Unit {0}) (λ entry. Follows P pool entry new)

done : (P : Network) (pool new : Pool) (word : ℕ) (step : PoolStep) → IsLegal P pool word step → PoolSteps P pool word step new → IsDone P pool new (entry_of word step)
done P pool new word (Takes worker want task) legal step = (task, step, refl, refl)
done P pool new word (Gives piece) legal step = (piece, step, refl, refl, refl, refl, refl, legal.0.some, legal.0.few, legal.1, legal.2)
done P pool new word (Returns task) legal step = (task, step, refl, refl, refl)
done P pool new word Recalls legal step = step
done P pool new word Sweeps legal step = (step, legal)
done P pool new word (Meets view) legal step = tt
done P pool new word Notes legal step = tt

abbrev IsFollowed : Network → Pool → Pool → Option Entry → Type 0
IsFollowed P new other o = MatchOption o (IsAlike new other) (λ entry. (left : Pool) × Follows P other entry left × IsAlike new left)

by_entry : (P : Network) (pool new other : Pool) (entry : Entry) → Follows P pool entry new → IsAlike pool other → (left : Pool) × Follows P other entry left × IsAlike new left
by_entry P pool new other entry step a = (left_by entry new other, follows_too P pool new other entry step a, alike_after P pool new other entry step a)

pub step_follows : StepFollows
step_follows P pool new other word (Takes worker want task) legal step a = by_entry P pool new other (Took worker want task.leaf task.grant) (done P pool new word (Takes worker want task) legal step) a
step_follows P pool new other word (Gives piece) legal step a =
    by_entry P pool new other (Gave piece.task.worker piece.task.leaf piece.task.grant piece.threshold word piece.tree) (done P pool new word (Gives piece) legal step) a
step_follows P pool new other word (Returns task) legal step a = by_entry P pool new other (Freed task.worker task.leaf task.grant) (done P pool new word (Returns task) legal step) a
step_follows P pool new other word Recalls legal step a = by_entry P pool new other CalledBack step a
step_follows P pool new other word Sweeps legal step a = by_entry P pool new other (Swept word) (step, legal) a
step_follows P pool new other word (Meets view) legal step a = record {
  tree = a.tree ∙ sym (ap (λ (p : Pool). p.tree) step);
  next = a.next ∙ sym (ap (λ (p : Pool). p.next) step);
  budget = a.budget ∙ sym (ap (λ (p : Pool). p.budget) step);
  nodes = a.nodes ∙ sym (ap (λ (p : Pool). p.nodes) step);
  seen = (let s = a.seen in let l = ap (λ (p : Pool). p.view.seen) step in omega (arith, s, l));
}
step_follows P pool new other word Notes legal step a =
    subst (λ (p : Pool). IsAlike p other) (sym step) (by_noted P pool (λ p. IsAlike p other) a (record { tree = a.tree; next = a.next; budget = a.budget; nodes = a.nodes; seen = a.seen }))

-- a list of legal steps
pub moves_follow : MovesFollow
moves_follow P pool new other [] run a = (other, refl, subst (λ p. IsAlike p other) (sym run) a)
moves_follow P pool new other (move ∷ moves) run a =
    by_option (entry_of move.word move.step) (step_follows P pool run.0 other move.word move.step run.1 run.2 a) (λ left alike. moves_follow P run.0 new left moves run.3 alike)
  where
    by_option : (o : Option Entry) → IsFollowed P run.0 other o → ((left : Pool) → IsAlike run.0 left → (last : Pool) × Runs P left (entries_of moves) last × IsAlike new last)
        → (last : Pool) × Runs P other (with_entry o (entries_of moves)) last × IsAlike new last
    by_option None alike more = more other alike
    by_option (Some entry) (left, follows, alike) more = let rest = more left alike in (rest.0, (left, follows, rest.1), rest.2)
