use Rattle.std.proofs.Common.{◌≡◌, ◌++◌, [], ◌∷◌, length, ap, arith}
use Rattle.std.proofs.lemmas.List.{length_push}
use Rattle.cfn_rota.proofs.CallerLemmas.{within_length}
use Rattle.cfn_explore.specs.Values.{TaskValue}
use Rattle.cfn_search.specs.Accounts.{WorkerValue}
use Rattle.cfn_search.proofs.worker.Worker.give_left.Goals as goal

-- a worker that has taken one task more
abbrev with_taken : WorkerValue → TaskValue → WorkerValue
with_taken w task = record w { ends = record w.ends { lane = record w.ends.lane { taken = w.ends.lane.taken ++ task ∷ [] } } }

taken_more : (old new : WorkerValue) (task : TaskValue) → new ≡ with_taken old task → new.ends.lane.taken ≡ old.ends.lane.taken ++ task ∷ []
taken_more old new task is = ap (λ (w : WorkerValue). w.ends.lane.taken) is

pushed_same : (old new : WorkerValue) (task : TaskValue) → new ≡ with_taken old task → new.ends.lane.pushed ≡ old.ends.lane.pushed
pushed_same old new task is = ap (λ (w : WorkerValue). w.ends.lane.pushed) is

pub loop-task-smaller : goal.loop-task-smaller
loop-task-smaller g c =
    let old = c.loop-task.self.ends.lane in
    let new = c.take_left.new.self.ends.lane in
    let taken = taken_more c.loop-task.self c.take_left.new.self c.in-Some.task c.in-Some.ensures.0 in
    let pushed = pushed_same c.loop-task.self c.take_left.new.self c.in-Some.task c.in-Some.ensures.0 in
    let within = within_length new.taken old.pushed (c.in-Some.ensures.2 c.loop-task.invariant.whole) in
    let more = length_push old.taken c.in-Some.task in
    let n = ap length taken in
    let m = ap length pushed in
    omega (arith, within, more, n, m)
