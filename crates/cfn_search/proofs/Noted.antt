-- A row that is noted, or is not, leaves the search as it was.
use Rattle.std.proofs.Common.{◌≡◌, List, [], ◌∷◌, ◌++◌, length, refl, sym, ap, ◌∙◌, subst, inl, inr, Bool, true, false, nat_lt, if◌then◌else◌, le_refl}
use Rattle.cfn_model.specs.declared.report.Row.{Row}
use Rattle.cfn_model.specs.Network.{Network}
use Rattle.cfn_machine.specs.Pool.{Pool, row_of, tree_of}
use Rattle.cfn_machine.specs.Steps.{is_last}
use Rattle.cfn_low.specs.Outcome.{Start}
use Rattle.cfn_pool.specs.Answers.{NotesOrWaits}
use Rattle.cfn_search.specs.Searching.{IsSearch, GoesOn}

goes_by : (start : Start) (pool : Pool) (a b : Bool) (row : Row) → IsSearch start pool → GoesOn start pool (if a then (if b then pool else record pool { rows = pool.rows ++ row ∷ [] }) else pool)
goes_by start pool true true row search = record { search = search; budget_is = refl; shares_are = refl; falls = le_refl pool.view.seen }
goes_by start pool true false row search = record {
  search = record { begun_is = search.begun_is; others = search.others ++ row ∷ []; begin = ap (λ (rows : List Row). rows ++ row ∷ []) search.begin; aside = search.aside };
  budget_is = refl;
  shares_are = refl;
  falls = le_refl pool.view.seen;
}
goes_by start pool false b row search = record { search = search; budget_is = refl; shares_are = refl; falls = le_refl pool.view.seen }

pub noted : (P : Network) (start : Start) (pool new : Pool) → NotesOrWaits P pool new → IsSearch start pool → GoesOn start pool new
noted P start pool new (inl is) search =
    let row = row_of P (tree_of pool.tree) pool.view.seen in
    subst (GoesOn start pool) (sym is) (goes_by start pool (nat_lt (length pool.rows) 256) (is_last row pool.rows) row search)
noted P start pool new (inr waits) search = subst (GoesOn start pool) (sym waits.0) (record { search = search; budget_is = refl; shares_are = refl; falls = le_refl pool.view.seen })

same_by : (pool : Pool) (a b : Bool) (row : Row) → (if a then (if b then pool else record pool { rows = pool.rows ++ row ∷ [] }) else pool).nodes ≡ pool.nodes
same_by pool true true row = refl
same_by pool true false row = refl
same_by pool false b row = refl

pub noted_nodes : (P : Network) (pool new : Pool) → NotesOrWaits P pool new → new.nodes ≡ pool.nodes
noted_nodes P pool new (inl is) =
    let row = row_of P (tree_of pool.tree) pool.view.seen in
    ap (λ (p : Pool). p.nodes) is ∙ same_by pool (nat_lt (length pool.rows) 256) (is_last row pool.rows) row
noted_nodes P pool new (inr waits) = ap (λ (p : Pool). p.nodes) waits.0
