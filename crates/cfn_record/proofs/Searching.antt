-- The record of a search is good, and comes to the search's own tree.
use Rattle.std.proofs.Common.{◌≡◌, List, [], ◌∷◌, ◌++◌, refl, sym, ap, ◌∙◌, subst, arith}
use Rattle.std.specs.Prelude.{Option, Some, None}
use Rattle.cfn_model.specs.Network.{Network}
use Rattle.cfn_model.specs.Tree.{Valid}
use Rattle.cfn_model.specs.Certificate.{threshold_of}
use Rattle.cfn_machine.specs.Pool.{Pool, View, tree_of, opening_pool}
use Rattle.cfn_machine.specs.Steps.{PoolSteps, Move, PoolRuns}
use Rattle.cfn_machine.proofs.CallerLemmas.{holds, opens}
use Rattle.cfn_record.specs.Entries.{Entry, Swept, Follows, Runs, entry_of, with_entry, entries_of}
use Rattle.cfn_record.specs.Replaying.{opening, sweep_at}
use Rattle.cfn_record.specs.Laws.{SearchIsRecorded}
use Rattle.cfn_record.proofs.Following.{moves_follow, seen_is}

-- what the last of some steps, and of some entries, leaves
last_step : (P : Network) (pool new : Pool) (moves : List Move) (move : Move) → PoolRuns P pool (moves ++ move ∷ []) new → (between : Pool) × PoolSteps P between move.word move.step new
last_step P pool new [] move run = (pool, subst (λ p. PoolSteps P pool move.word move.step p) (sym run.3) run.2)
last_step P pool new (first ∷ moves) move run = last_step P run.0 new moves move run.3

last_entry : (P : Network) (pool new : Pool) (entries : List Entry) (entry : Entry) → Runs P pool (entries ++ entry ∷ []) new → (between : Pool) × Follows P between entry new
last_entry P pool new [] entry run = (pool, subst (λ p. Follows P pool entry p) (sym run.2) run.1)
last_entry P pool new (first ∷ entries) entry run = last_entry P run.0 new entries entry run.2

with_append : (o : Option Entry) (a b : List Entry) → with_entry o (a ++ b) ≡ with_entry o a ++ b
with_append None a b = refl
with_append (Some entry) a b = refl

entries_of_append : (a b : List Move) → entries_of (a ++ b) ≡ entries_of a ++ entries_of b
entries_of_append [] b = refl
entries_of_append (move ∷ a) b = ap (with_entry (entry_of move.word move.step)) (entries_of_append a b) ∙ with_append (entry_of move.word move.step) (entries_of a) (entries_of b)

pub search_is_recorded : SearchIsRecorded
search_is_recorded P shares budget moves best new network fits run =
    let k = threshold_of P.upper best in
    let all = moves ++ sweep_at P best ∷ [] in
    let followed = moves_follow P (opening_pool P shares budget) new (opening P budget) all run (record { tree = refl; next = refl; budget = refl; nodes = refl; seen = omega arith }) in
    let left = followed.0 in
    let swept = last_entry P (opening P budget) left (entries_of moves) (Swept k) (subst (λ x. Runs P (opening P budget) x left) (entries_of_append moves (sweep_at P best ∷ [])) followed.1) in
    let low : left.view.seen ≡ k = ap (λ (v : View). v.seen) (seen_is P swept.0 left (Swept k) swept.1) in
    let last = last_step P (opening_pool P shares budget) new moves (sweep_at P best) run in
    let seen : new.view.seen ≡ k = ap (λ (p : Pool). p.view.seen) last.1 in
    let sound = holds P (opening_pool P shares budget) new all (opens P shares budget network) run in
    let valid : Valid P [] (tree_of left.tree) k = subst (λ t. Valid P [] (tree_of t) k) (sym followed.2.tree) (subst (λ x. Valid P [] (tree_of new.tree) x) seen sound.sound.valid) in (
      record {
        variables = refl;
        functions = refl;
        upper = refl;
        pool = left;
        run = followed.1;
        seen = low;
        good = record { variables = refl; functions = refl; upper = refl; best = fits; valid = valid; lower = omega arith };
      },
      followed.2.tree,
    )
