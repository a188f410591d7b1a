-- Each step keeps the pool sound.
use Rattle.std.proofs.Common.{◌≡◌, ℕ, ◌+◌, ◌<◌, ◌≤◌, inl, inr, min, List, [], ◌∷◌, refl, sym, ap, subst, arith, Option, ◌^◌, ltb-true, ltb-false}
use Rattle.std.proofs.Common.{Some, None}
use Rattle.std.proofs.lemmas.Int.{ints}
use Rattle.std.specs.Prelude.{Bool, true, false, if◌then◌else◌, pos, ◌<ℤ◌, nat_lt}
use Rattle.cfn_model.specs.declared.step.Step.{Step}
use Rattle.cfn_model.specs.declared.step.Event.{Event}
use Rattle.cfn_model.specs.declared.step.Event.TheVariants.{Did, Took, Refused}
use Rattle.cfn_model.specs.Network.{Network, IsNetwork, arity, entry_at, cell, dims, function_at}
use Rattle.cfn_model.specs.Sums.{when}
use Rattle.cfn_model.specs.Steps.{after}
use Rattle.cfn_model.specs.Tree.{Open, count, splits, Valid, Strict}
use Rattle.cfn_model.proofs.CallerLemmas.{valid_lower}
use Rattle.cfn_model.specs.Paths.{HasSmallCosts, TameBlock, Tame}
use Rattle.cfn_machine.specs.Pool.{Mark, Free, Out, PoolTree, Leaf, Shut, Fork, tree_of, Replaced, grant_of, granted, numbered, Task, Piece, IsPiece, View, Pool, IsSound, price, cheaper, KeepsFitting}
use Rattle.cfn_machine.specs.Steps.{PoolTakes, PoolGives, PoolReturns, PoolStep, Takes, Gives, Returns, Recalls, Sweeps, Meets, PoolSteps, IsLegal, pool_recalled, pool_swept, joined}
use Rattle.cfn_machine.specs.Steps.{Notes, is_last}
use Rattle.cfn_machine.specs.Pool.{IsLeaf, IsRow, row_of, swept, recalled}
use Rattle.std.proofs.Common.{◌++◌, ◌⊎◌, length, IfSome}
use Rattle.std.specs.List.{AllByRecursion}
use Rattle.cfn_model.specs.declared.report.Row.{Row}
use Rattle.cfn_model.specs.Sums.{floor}
use Rattle.cfn_machine.proofs.Rows.{replaced_from, recalled_from, swept_from, each_more, new_row}
use Rattle.cfn_machine.specs.Laws.{KeepsRows, IsPool, Opens, OpensWith, KeepsSound, Keeps, Holds, Joins}
use Rattle.cfn_machine.proofs.Placing.{replaced_valid, replaced_strict, replaced_tame, replaced_count, replaced_splits, replaced_granted, numbered_is, numbered_granted, recalled_is, recalled_granted, swept_valid, swept_strict, swept_tame, swept_granted, swept_count, swept_splits, splits_count}
use Rattle.cfn_machine.proofs.Numbering.{by_noted, keeps_numbered, opens_numbered}

-- a leaf of a tame tree has small costs
block_end : (P : Network) (block : List Step) (history : List Event) → TameBlock P history block → HasSmallCosts P (after block history)
block_end P [] history tame = tame
block_end P (step ∷ block) history tame = block_end P block (Did step ∷ history) tame.1

replaced_small : (P : Network) (n : ℕ) (mark : Mark) (path : List Event) (place tree : PoolTree) (history : List Event) (new : PoolTree) →
    Replaced tree history n mark path place new → Tame P history (tree_of tree) → HasSmallCosts P path
replaced_small P n mark path place (Leaf number m block) history new at tame = subst (HasSmallCosts P) (sym at.2) (block_end P block history tame)
replaced_small P n mark path place (Shut block) history new at tame = absurd at
replaced_small P n mark path place (Fork block d first second) history new (inl at) tame =
    replaced_small P n mark path place first (Took d ∷ after block history) at.0 at.1 tame.1
replaced_small P n mark path place (Fork block d first second) history new (inr at) tame =
    replaced_small P n mark path place second (Refused d ∷ after block history) at.0 at.1 tame.2

-- each row keeps what rows keep, where leaves lie behind leaves and less was seen
pub rows_kept : (P : Network) (tree new : PoolTree) (seen word : ℕ) (rows : List Row) → word ≤ seen →
    ((n : ℕ) (mark : Mark) (path : List Event) → IsLeaf new [] n mark path → (m : ℕ) × (other : Mark) × (before : List Event) × IsLeaf tree [] m other before × (floor P before ≤ floor P path)) →
    AllByRecursion (IsRow P tree seen) rows → AllByRecursion (IsRow P new word) rows
rows_kept P tree new seen word [] low from all = tt
rows_kept P tree new seen word (row ∷ rows) low from all = (
  record {
    costs = all.0.costs;
    floors = λ n mark path at. (let f = from n mark path at in omega (arith, all.0.floors f.0 f.1 f.2 f.3, f.4));
    upper = upper_kept row.upper all.0.upper;
  },
  rows_kept P tree new seen word rows low from all.1,
)
  where
    upper_kept : (o : Option ℕ) → IfSome o (λ u. (u < P.upper) × (seen ≤ u)) → IfSome o (λ u. (u < P.upper) × (word ≤ u))
    upper_kept None h = tt
    upper_kept (Some u) h = (h.0, omega (arith, low, h.1))

same_rows : (P : Network) (tree : PoolTree) (seen word : ℕ) (rows : List Row) → word ≤ seen → AllByRecursion (IsRow P tree seen) rows → AllByRecursion (IsRow P tree word) rows
same_rows P tree seen word rows low all = rows_kept P tree tree seen word rows low (λ n mark path at. (n, mark, path, at, omega arith)) all

module _ (P : Network) (pool : Pool) (sound : IsSound P pool) where
  -- the pool's tree stays valid at a smaller threshold
  seen_kept : (view : View) → view.seen ≤ pool.view.seen → IsSound P (record pool { view = view })
  seen_kept view low = record {
    seen = omega (arith, sound.seen);
    valid = valid_lower P [] (tree_of pool.tree) pool.view.seen view.seen low sound.valid;
    strict = sound.strict;
    tame = sound.tame;
    expanded = sound.expanded;
    counted = sound.counted;
    within = sound.within;
    rows = same_rows P pool.tree pool.view.seen view.seen pool.rows low sound.rows;
  }

  -- a leaf gets another mark
  mark_kept : (n : ℕ) (mark other : Mark) (path : List Event) (tree : PoolTree) → Replaced pool.tree [] n mark path (Leaf n other []) tree →
      pool.nodes + granted pool.tree + grant_of other ≤ pool.budget + grant_of mark → IsSound P (record pool { tree = tree })
  mark_kept n mark other path tree at room = record {
    seen = sound.seen;
    valid = replaced_valid n mark path (Leaf n other []) P pool.view.seen pool.tree [] tree at tt sound.valid;
    strict = replaced_strict n mark path (Leaf n other []) P pool.tree [] tree at tt sound.strict;
    tame = replaced_tame n mark path (Leaf n other []) P pool.tree [] tree at (replaced_small P n mark path (Leaf n other []) pool.tree [] tree at sound.tame) sound.tame;
    expanded = omega (arith, sound.expanded, replaced_splits n mark path (Leaf n other []) pool.tree [] tree at);
    counted = omega (arith, sound.counted, replaced_count n mark path (Leaf n other []) pool.tree [] tree at);
    within = omega (arith, sound.within, room, replaced_granted n mark path (Leaf n other []) pool.tree [] tree at);
    rows = rows_kept P pool.tree tree pool.view.seen pool.view.seen pool.rows (omega arith) (replaced_from P n mark path (Leaf n other []) pool.tree [] tree at) sound.rows;
  }

  take_kept : (worker want : ℕ) (task : Task) (new : Pool) → PoolTakes P pool worker want task new → IsSound P new
  take_kept worker want task new takes =
      let g = ap (λ (t : Task). t.grant) takes.handed in
      subst (IsSound P) (sym takes.left) (mark_kept task.leaf Free (Out worker task.grant) task.path takes.tree takes.marked (omega (arith, g, sound.within)))

  return_kept : (task : Task) (new : Pool) → PoolReturns pool task new → IsSound P new
  return_kept task new returns =
      subst (IsSound P) (sym returns.left) (mark_kept task.leaf (Out task.worker task.grant) Free returns.path returns.tree returns.freed (omega (arith, sound.within)))

  give_kept : (word : ℕ) (piece : Piece) (new : Pool) → IsLegal P pool word (Gives piece) → PoolGives pool word piece new → IsSound P new
  give_kept word piece new legal gives =
      let is : IsPiece P piece = legal.0 in
      let mark = Out piece.task.worker piece.task.grant in
      let path = piece.task.path in
      let place = numbered pool.next piece.tree in
      let same : tree_of place ≡ piece.tree = numbered_is piece.tree pool.next in
      let piece_valid : Valid P path (tree_of place) word = subst (λ t. Valid P path t word) (sym same) (valid_lower P path piece.tree piece.threshold word legal.1 is.valid) in
      subst (IsSound P) (sym gives.left) (record {
        seen = omega (arith, legal.2, sound.seen);
        valid = replaced_valid piece.task.leaf mark path place P word pool.tree [] gives.tree gives.placed piece_valid (valid_lower P [] (tree_of pool.tree) pool.view.seen word legal.2 sound.valid);
        strict = replaced_strict piece.task.leaf mark path place P pool.tree [] gives.tree gives.placed (subst (Strict P path) (sym same) is.strict) sound.strict;
        tame = replaced_tame piece.task.leaf mark path place P pool.tree [] gives.tree gives.placed (subst (Tame P path) (sym same) is.tame) sound.tame;
        expanded = (let c = replaced_splits piece.task.leaf mark path place pool.tree [] gives.tree gives.placed in let d : splits (tree_of place) ≡ splits piece.tree = ap splits same in omega (arith, sound.expanded, c, d, splits_count piece.tree));
        counted = (let c = replaced_count piece.task.leaf mark path place pool.tree [] gives.tree gives.placed in let d : count (tree_of place) ≡ count piece.tree = ap count same in omega (arith, sound.counted, c, d));
        within = omega (arith, sound.within, is.few, replaced_granted piece.task.leaf mark path place pool.tree [] gives.tree gives.placed, numbered_granted piece.tree pool.next);
        rows = rows_kept P pool.tree gives.tree pool.view.seen word pool.rows legal.2 (replaced_from P piece.task.leaf mark path place pool.tree [] gives.tree gives.placed) sound.rows;
      })

  recall_kept : IsSound P (pool_recalled pool)
  recall_kept = record {
    seen = sound.seen;
    valid = subst (λ t. Valid P [] t pool.view.seen) (sym (recalled_is pool.tree)) sound.valid;
    strict = subst (Strict P []) (sym (recalled_is pool.tree)) sound.strict;
    tame = subst (Tame P []) (sym (recalled_is pool.tree)) sound.tame;
    expanded = (let c = ap splits (recalled_is pool.tree) in omega (arith, sound.expanded, c));
    counted = (let c = ap count (recalled_is pool.tree) in omega (arith, sound.counted, c));
    within = omega (arith, sound.within, recalled_granted pool.tree);
    rows = rows_kept P pool.tree (recalled pool.tree) pool.view.seen pool.view.seen pool.rows (omega arith) (recalled_from P pool.tree []) sound.rows;
  }

  sweep_kept : (word : ℕ) → word ≤ pool.view.seen → IsSound P (pool_swept P pool word)
  sweep_kept word low = record {
    seen = omega (arith, low, sound.seen);
    valid = swept_valid P word pool.tree [] (valid_lower P [] (tree_of pool.tree) pool.view.seen word low sound.valid);
    strict = swept_strict P word pool.tree [] sound.strict;
    tame = swept_tame P word pool.tree [] sound.tame;
    expanded = omega (arith, sound.expanded, swept_splits P word pool.tree []);
    counted = omega (arith, sound.counted, swept_count P word pool.tree []);
    within = omega (arith, sound.within, swept_granted P word pool.tree []);
    rows = rows_kept P pool.tree (swept P word pool.tree []) pool.view.seen word pool.rows low (swept_from P word pool.tree []) sound.rows;
  }

  note_kept : IsNetwork P → IsSound P (record pool { rows = pool.rows ++ row_of P (tree_of pool.tree) pool.view.seen ∷ [] })
  note_kept network = record {
    seen = sound.seen;
    valid = sound.valid;
    strict = sound.strict;
    tame = sound.tame;
    expanded = sound.expanded;
    counted = sound.counted;
    within = sound.within;
    rows = each_more (IsRow P pool.tree pool.view.seen) pool.rows _ sound.rows (new_row P pool.tree pool.view.seen network sound.seen sound.valid);
  }

pub keeps_sound : KeepsSound
keeps_sound P pool new word (Takes worker want task) legal sound step = take_kept P pool sound worker want task new step
keeps_sound P pool new word (Gives piece) legal sound step = give_kept P pool sound word piece new legal step
keeps_sound P pool new word (Returns task) legal sound step = return_kept P pool sound task new step
keeps_sound P pool new word Recalls legal sound step = subst (IsSound P) (sym step) (recall_kept P pool sound)
keeps_sound P pool new word Sweeps legal sound step = subst (IsSound P) (sym step) (sweep_kept P pool sound word legal)
keeps_sound P pool new word Notes legal sound step = subst (IsSound P) (sym step) (by_noted P pool (IsSound P) sound (note_kept P pool sound legal))
keeps_sound P pool new word (Meets view) legal sound step = subst (IsSound P) (sym step) (seen_kept P pool sound (joined P pool.view view) (omega arith))

-- what is kept where a view is joined in
module _ (P : Network) where
  cheaper_by : (b : Bool) (best other : Option (List ℕ)) → nat_lt (price P other) (price P best) ≡ b → price P (if b then other else best) ≡ min (price P best) (price P other)
  cheaper_by true best other h = omega (arith, ltb-true _ _ h)
  cheaper_by false best other h = omega (arith, ltb-false _ _ h)

  pub cheaper_price : (best other : Option (List ℕ)) → price P (cheaper P best other) ≡ min (price P best) (price P other)
  cheaper_price best other = cheaper_by (nat_lt (price P other) (price P best)) best other refl

  keeps_by : (b : Bool) (best other : Option (List ℕ)) → KeepsFitting P best → KeepsFitting P other → KeepsFitting P (if b then other else best)
  keeps_by true best other h k = k
  keeps_by false best other h k = h

  pub cheaper_keeps : (best other : Option (List ℕ)) → KeepsFitting P best → KeepsFitting P other → KeepsFitting P (cheaper P best other)
  cheaper_keeps best other = keeps_by (nat_lt (price P other) (price P best)) best other

pub joins : Joins
joins P view other = record { price = cheaper_price P view.best other.best; seen = refl; shares = refl; keeps = cheaper_keeps P view.best other.best }

best_kept : (P : Network) (pool new : Pool) (word : ℕ) (step : PoolStep) → IsLegal P pool word step → KeepsFitting P pool.view.best → PoolSteps P pool word step new → KeepsFitting P new.view.best
best_kept P pool new word (Takes worker want task) legal keeps step = subst (λ (p : Pool). KeepsFitting P p.view.best) (sym step.left) keeps
best_kept P pool new word (Gives piece) legal keeps step = subst (λ (p : Pool). KeepsFitting P p.view.best) (sym step.left) keeps
best_kept P pool new word (Returns task) legal keeps step = subst (λ (p : Pool). KeepsFitting P p.view.best) (sym step.left) keeps
best_kept P pool new word Recalls legal keeps step = subst (λ (p : Pool). KeepsFitting P p.view.best) (sym step) keeps
best_kept P pool new word Sweeps legal keeps step = subst (λ (p : Pool). KeepsFitting P p.view.best) (sym step) keeps
best_kept P pool new word Notes legal keeps step = subst (λ (p : Pool). KeepsFitting P p.view.best) (sym step) (by_noted P pool (λ p. KeepsFitting P p.view.best) keeps keeps)
best_kept P pool new word (Meets view) legal keeps step = subst (λ (p : Pool). KeepsFitting P p.view.best) (sym step) (cheaper_keeps P pool.view.best view.best keeps legal)

pub keeps_rows : KeepsRows
keeps_rows P pool new word (Takes worker want task) step = inl (ap (λ (p : Pool). p.rows) step.left)
keeps_rows P pool new word (Gives piece) step = inl (ap (λ (p : Pool). p.rows) step.left)
keeps_rows P pool new word (Returns task) step = inl (ap (λ (p : Pool). p.rows) step.left)
keeps_rows P pool new word Recalls step = inl (ap (λ (p : Pool). p.rows) step)
keeps_rows P pool new word Sweeps step = inl (ap (λ (p : Pool). p.rows) step)
keeps_rows P pool new word (Meets view) step = inl (ap (λ (p : Pool). p.rows) step)
keeps_rows P pool new word Notes step =
    let row = row_of P (tree_of pool.tree) pool.view.seen in
    subst (λ (p : Pool). (p.rows ≡ pool.rows) ⊎ ((Notes ≡ Notes) × (length pool.rows < 256) × (p.rows ≡ pool.rows ++ row ∷ []))) (sym step)
    (by_room P pool (nat_lt (length pool.rows) 256) (is_last row pool.rows) row refl)
  where
    by_room : (P : Network) (pool : Pool) (a b : Bool) (row : Row) → nat_lt (length pool.rows) 256 ≡ a →
        (let p : Pool = if a then (if b then pool else record pool { rows = pool.rows ++ row ∷ [] }) else pool in (p.rows ≡ pool.rows) ⊎ ((Notes ≡ Notes) × (length pool.rows < 256) × (p.rows ≡ pool.rows ++ row ∷ [])))
    by_room P pool true true row room = inl refl
    by_room P pool true false row room = inr (refl, ltb-true _ _ room, refl)
    by_room P pool false b row room = inl refl

pub keeps : Keeps
keeps P pool new word step legal is steps = record {
  sound = keeps_sound P pool new word step legal is.sound steps;
  numbered = keeps_numbered P pool new word step is.numbered steps;
  keeps = best_kept P pool new word step legal is.keeps steps;
}

pub holds : Holds
holds P pool new [] is runs = subst (IsPool P) (sym runs) is
holds P pool new (move ∷ moves) is runs = holds P runs.0 new moves (keeps P pool runs.0 move.word move.step runs.1 is runs.2) runs.3

-- the opening
pub opening_small : (P : Network) → IsNetwork P → HasSmallCosts P []
opening_small P network = record {
  unary = λ x a is live. omega (arith, ints);
  residual = λ f tuple there fits live. small (nat_lt 0 (arity P f)) (entry_at P f tuple) (omega (arith, network.upper, (network.functions f there).capped (cell (dims P.sizes (function_at P f).scope) tuple)));
}
  where
    small : (b : Bool) (n : ℕ) → n < 2 ^ 64 → when b (pos n) <ℤ pos (2 ^ 64)
    small true n h = omega (arith, ints)
    small false n h = omega (arith, ints)

price_low : (P : Network) (best : Option (List ℕ)) → price P best ≤ P.upper
price_low P None = omega arith
price_low P (Some values) = omega arith

pub opens_with : OpensWith
opens_with P shares budget tree best network kept =
    let same : tree_of (numbered 0 tree) ≡ tree = numbered_is tree 0 in
    let counts = ap count same in
    let parts = ap splits same in
    record {
      sound = record {
        seen = price_low P best;
        valid = subst (λ t. Valid P [] t (price P best)) (sym same) kept.valid;
        strict = subst (Strict P []) (sym same) kept.strict;
        tame = subst (Tame P []) (sym same) kept.tame;
        expanded = omega (arith, parts, splits_count tree);
        counted = omega (arith, counts);
        within = omega (arith, numbered_granted tree 0);
        rows = (subst (λ t. IsRow P (numbered 0 tree) (price P best) (row_of P t (price P best))) same (new_row P (numbered 0 tree) (price P best) network (price_low P best) (subst (λ t. Valid P [] t (price P best)) (sym same) kept.valid)), tt);
      };
      numbered = opens_numbered P shares budget tree best;
      keeps = kept.fits;
    }

pub opens : Opens
opens P shares budget network = opens_with P shares budget (Open []) None network (record { valid = tt; strict = tt; tame = opening_small P network; fits = tt })
