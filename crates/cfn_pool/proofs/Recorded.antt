-- What is recorded of a pool makes one that is alike, and so behind each step.
use Rattle.std.proofs.Common.{◌≡◌, ℕ, ◌≤◌, List, [], ◌∷◌, ◌++◌, refl, sym, ap, ◌∙◌, subst, arith, Option, Some, None, IfSome}
use Rattle.std.specs.Prelude.{MatchOption, map}
use Rattle.cfn_model.specs.Network.{Network}
use Rattle.cfn_proof.specs.Nodes.{tree_of}
use Rattle.cfn_machine.specs.Pool.{Pool, opening_pool}
use Rattle.cfn_machine.specs.Steps.{PoolStep, PoolSteps, PoolSweeps, IsLegal, Takes, Gives, Returns, Recalls, Sweeps, Meets, Notes}
use Rattle.cfn_machine.proofs.CallerLemmas.{by_noted}
use Rattle.cfn_record.specs.Entries.{Entry, Gave, Swept, Follows, Runs, IsAlike, entry_of}
use Rattle.cfn_record.specs.Replaying.{opening}
use Rattle.cfn_record.proofs.CallerLemmas.{step_follows}
use Rattle.cfn_record.specs.Histories.{HistoryValue, entry_of as entry_in}
use Rattle.cfn_model.specs.declared.limits.TheConstants.{GREATEST}
use Rattle.cfn_explore.specs.Values.{PieceValue}
use Rattle.cfn_pool.specs.declared.recording.PieceCopy.{PieceCopy}
use Rattle.cfn_pool.specs.Recorded.{RecordingValue, IsRecordOf, IsExactRecordOf, HasMore, IsCopied, entries_in, Adds, gave, out_after, outs, told_by}
use Rattle.cfn_pool.specs.Views.{IsRecorded}
use Rattle.cfn_pool.proofs.Counting.{counted_after, counts_by_step}

-- a step's entry is recorded, where it has one and a record is kept
abbrev pub Tells : Option Entry → Option RecordingValue → Option RecordingValue → Type 0
Tells None old new = new ≡ old
Tells (Some entry) old new = Adds old entry new

-- one more entry behind others
runs_more : (P : Network) (pool between new : Pool) (entries : List Entry) (entry : Entry) → Runs P pool entries between → Follows P between entry new → Runs P pool (entries ++ entry ∷ []) new
runs_more P pool between new [] entry run follows = (new, subst (λ p. Follows P p entry new) run follows, refl)
runs_more P pool between new (first ∷ entries) entry run follows = (run.0, run.1, runs_more P run.0 between new entries entry run.2 follows)

-- no step changes the budget
budget_stays : (P : Network) (pool new : Pool) (word : ℕ) (step : PoolStep) → PoolSteps P pool word step new → new.budget ≡ pool.budget
budget_stays P pool new word (Takes worker want task) step = ap (λ (p : Pool). p.budget) step.left
budget_stays P pool new word (Gives piece) step = ap (λ (p : Pool). p.budget) step.left
budget_stays P pool new word (Returns task) step = ap (λ (p : Pool). p.budget) step.left
budget_stays P pool new word Recalls step = ap (λ (p : Pool). p.budget) step
budget_stays P pool new word Sweeps step = ap (λ (p : Pool). p.budget) step
budget_stays P pool new word (Meets view) step = ap (λ (p : Pool). p.budget) step
budget_stays P pool new word Notes step = subst (λ (p : Pool). p.budget ≡ pool.budget) (sym step) (by_noted P pool (λ p. p.budget ≡ pool.budget) refl refl)

-- no legal step raises what the pool has seen
seen_falls : (P : Network) (pool new : Pool) (word : ℕ) (step : PoolStep) → IsLegal P pool word step → PoolSteps P pool word step new → new.view.seen ≤ pool.view.seen
seen_falls P pool new word (Takes worker want task) legal step = let e = ap (λ (p : Pool). p.view.seen) step.left in omega (arith, e)
seen_falls P pool new word (Gives piece) legal step = let e = ap (λ (p : Pool). p.view.seen) step.left in let low = legal.2 in omega (arith, e, low)
seen_falls P pool new word (Returns task) legal step = let e = ap (λ (p : Pool). p.view.seen) step.left in omega (arith, e)
seen_falls P pool new word Recalls legal step = let e = ap (λ (p : Pool). p.view.seen) step in omega (arith, e)
seen_falls P pool new word Sweeps legal step = let e = ap (λ (p : Pool). p.view.seen) step in omega (arith, e, legal)
seen_falls P pool new word (Meets view) legal step = let e = ap (λ (p : Pool). p.view.seen) step in omega (arith, e)
seen_falls P pool new word Notes legal step = subst (λ (p : Pool). p.view.seen ≤ pool.view.seen) (sym step) (by_noted P pool (λ p. p.view.seen ≤ pool.view.seen) (omega arith) (omega arith))

-- what a step makes of an alike pool
abbrev IsFollowed : Network → Pool → Pool → Option Entry → Type 0
IsFollowed P new other o = MatchOption o (IsAlike new other) (λ entry. (left : Pool) × Follows P other entry left × IsAlike new left)

-- the entries with one more
run_more : (P : Network) (old left : Pool) (entry : Entry) (r more : RecordingValue) (is : IsRecordOf P old r.told) → HasMore r entry more → Follows P is.left entry left → Runs P (opening P more.told.budget) (entries_in more.told) left
run_more P old left entry r more is m follows =
    subst (λ b. Runs P (opening P b) (entries_in more.told) left) (sym m.budget_is)
    (subst (λ es. Runs P (opening P r.told.budget) es left) (sym m.entries_are) (runs_more P (opening P r.told.budget) is.left left (entries_in r.told) entry is.run follows))

by_entry : (P : Network) (old new : Pool) (o : Option Entry) (r : RecordingValue) (s : Option RecordingValue) → new.budget ≡ old.budget → new.view.seen ≤ old.view.seen → outs new.tree ≡ counted_after o (outs old.tree) →
    (is : IsRecorded P old r) → IsFollowed P new is.is.left o → Tells o (Some r) s → IfSome s (IsRecorded P new)
by_entry P old new None r s same falls counts is alike tells = subst (λ t. IfSome t (IsRecorded P new)) (sym tells) (record {
  is = record { budget_is = is.is.budget_is ∙ sym same; left = is.is.left; run = is.is.run; alike = alike };
  counted = is.counted ∙ sym counts;
  budget = let few = is.budget in omega (arith, few, same);
  seen = let low = is.seen in omega (arith, low, falls);
})
by_entry P old new (Some entry) r None same falls counts is followed tells = absurd tells
by_entry P old new (Some entry) r (Some more) same falls counts is followed m = record {
  is = record { budget_is = m.budget_is ∙ is.is.budget_is ∙ sym same; left = followed.0; run = run_more P old followed.0 entry r more is.is m followed.1; alike = followed.2 };
  counted = m.out_is ∙ ap (out_after entry) is.counted ∙ sym counts;
  budget = let few = is.budget in omega (arith, few, same);
  seen = let low = is.seen in omega (arith, low, falls);
}

none_more : (P : Network) (new : Pool) (o : Option Entry) (s : Option RecordingValue) → Tells o None s → IfSome s (IsRecorded P new)
none_more P new None s tells = subst (λ t. IfSome t (IsRecorded P new)) (sym tells) tt
none_more P new (Some entry) None tells = tt
none_more P new (Some entry) (Some more) tells = absurd tells

-- behind a legal step, where its entry is recorded
pub recorded_by_step : (P : Network) (old new : Pool) (word : ℕ) (step : PoolStep) (r s : Option RecordingValue) → IsLegal P old word step → PoolSteps P old word step new → IfSome r (IsRecorded P old) → Tells (entry_of word step) r s → IfSome s (IsRecorded P new)
recorded_by_step P old new word step None s legal steps is tells = none_more P new (entry_of word step) s tells
recorded_by_step P old new word step (Some r) s legal steps is tells =
    by_entry P old new (entry_of word step) r s (budget_stays P old new word step steps) (seen_falls P old new word step legal steps) (counts_by_step P old new word step steps) is (step_follows P old new is.is.left word step legal steps is.is.alike) tells

-- the entry of a copy is its piece's
pub adds_copy : (old new : Option RecordingValue) (c : PieceCopy) (piece : PieceValue) (seen : ℕ) → IsCopied old piece (Some c) → Adds old (Gave c.worker c.leaf c.grant c.threshold seen (tree_of c.tree)) new → Adds old (gave piece seen) new
adds_copy None new c piece seen is adds = absurd (let no : Some c ≡ None = is in cc)
adds_copy (Some r) new c piece seen is adds =
    subst (λ w. Adds (Some r) (Gave w piece.task.leaf piece.task.grant piece.threshold seen (tree_of piece.nodes)) new) is.worker
    (subst (λ l. Adds (Some r) (Gave c.worker l piece.task.grant piece.threshold seen (tree_of piece.nodes)) new) is.leaf
    (subst (λ g. Adds (Some r) (Gave c.worker c.leaf g piece.threshold seen (tree_of piece.nodes)) new) is.grant
    (subst (λ t. Adds (Some r) (Gave c.worker c.leaf c.grant t seen (tree_of piece.nodes)) new) is.threshold
    (subst (λ ns. Adds (Some r) (Gave c.worker c.leaf c.grant c.threshold seen (tree_of ns)) new) is.tree adds))))

-- without a copy nothing is recorded
pub adds_none : (old : Option RecordingValue) (piece : PieceValue) (seen : ℕ) → IsCopied old piece None → Adds old (gave piece seen) old
adds_none None piece seen is = tt
adds_none (Some r) piece seen is = absurd is

-- at the opening, before anything is done
pub first_told : (P : Network) (shares : ℕ) (history : HistoryValue) (now : Pool) (spare : ℕ) → now ≡ opening_pool P shares history.budget → history.happened ≡ [] → history.budget ≤ GREATEST → P.upper ≤ GREATEST →
    IsRecorded P now (record { told = told_by history; out = 0; spare = spare })
first_told P shares history now spare is none few top = subst (λ p. IsRecorded P p (record { told = told_by history; out = 0; spare = spare })) (sym is) (record {
  is = record {
    budget_is = refl;
    left = opening P history.budget;
    run = subst (λ happened. Runs P (opening P history.budget) (map entry_in happened) (opening P history.budget)) (sym none) refl;
    alike = record { tree = refl; next = refl; budget = refl; nodes = refl; seen = omega arith };
  };
  counted = refl;
  budget = few;
  seen = top;
})

-- behind a sweep, what is recorded makes a pool that has seen the same
pub swept_exactly : (P : Network) (old new : Pool) (word : ℕ) (r s : Option RecordingValue) → word ≤ old.view.seen → PoolSweeps P old word new → IfSome r (IsRecorded P old) → Adds r (Swept word) s → IfSome s (λ v. IsExactRecordOf P new v.told)
swept_exactly P old new word None None low steps is adds = tt
swept_exactly P old new word None (Some more) low steps is adds = absurd adds
swept_exactly P old new word (Some r) None low steps is adds = absurd adds
swept_exactly P old new word (Some r) (Some more) low steps is m =
    let followed = step_follows P old new is.is.left word Sweeps low steps is.is.alike in
    record {
      is = record {
        budget_is = m.budget_is ∙ is.is.budget_is ∙ sym (budget_stays P old new word Sweeps steps);
        left = followed.0;
        run = run_more P old followed.0 (Swept word) r more is.is m followed.1;
        alike = followed.2;
      };
      seen = ap (λ (p : Pool). p.view.seen) followed.1.0 ∙ sym (ap (λ (p : Pool). p.view.seen) steps);
    }
