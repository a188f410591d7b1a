-- The world around the pool: the word, which is the least price that was found, what each worker has seen of it, notes
-- of what was seen, and the tasks in hand.
use Rattle.std.specs.Prelude.{◌≡◌, ℕ, ◌+◌, ◌-◌, ◌<◌, ◌≤◌, min, List, [], ◌∷◌, ◌++◌, map, replicate, slice_index_or, Option, Some, None}
use Rattle.cfn_model.specs.Network.{Network}
use Rattle.cfn_machine.specs.declared.sight.Sight.{Sight}
use Rattle.cfn_machine.specs.Pool.{Task, View, Pool, price, KeepsFitting, new_view, opening_pool}

pub record World : Type 0 where
  pub pool : Pool
  pub word : ℕ
  pub views : List (Option View)
  pub notes : List (Option ℕ)
  pub hands : List Task

-- The view of a worker, where it has one that is not met yet, and the threshold of a note that is not heeded yet.
abbrev pub view_at : List (Option View) → ℕ → Option View
view_at views i = slice_index_or views i None

abbrev pub note_at : List (Option ℕ) → ℕ → Option ℕ
note_at notes i = slice_index_or notes i None

-- The least price that the views keep, and how many shares they have.
abbrev pub price_of : Network → Option View → ℕ
price_of P None = P.upper
price_of P (Some view) = price P view.best

abbrev pub least_price : Network → List (Option View) → ℕ
least_price P [] = P.upper
least_price P (view ∷ views) = min (price_of P view) (least_price P views)

abbrev pub share_of : Option View → ℕ
share_of None = 0
share_of (Some view) = view.shares

abbrev pub shares_of : List (Option View) → ℕ
shares_of [] = 0
shares_of (view ∷ views) = share_of view + shares_of views

-- A view has seen no less than the word and no more than the upper bound, and what it keeps is an assignment.
pub record IsView (P : Network) (word : ℕ) (view : View) : Type 0 where
  pub from : word ≤ view.seen
  pub upto : view.seen ≤ P.upper
  pub keeps : KeepsFitting P view.best

-- The rule of the word: it is the least of the upper bound and the prices of all that is kept; it is at most all that
-- was seen; there are 128 shares, of which each view of a worker has one, and the pool's has some.
pub record HasWordRule (P : Network) (w : World) : Type 0 where
  pub least : w.word ≡ min (price P w.pool.view.best) (least_price P w.views)
  pub pool : IsView P w.word w.pool.view
  pub views : (i : ℕ) (view : View) → view_at w.views i ≡ Some view → IsView P w.word view
  pub notes : (i seen : ℕ) → note_at w.notes i ≡ Some seen → (w.word ≤ seen) × (seen ≤ P.upper)
  pub one : (i : ℕ) (view : View) → view_at w.views i ≡ Some view → view.shares ≡ 1
  pub some : 0 < w.pool.view.shares
  pub all : w.pool.view.shares + shares_of w.views ≡ 128

-- The word as all see it who have a part of it: the pool, the workers, and notes. A view that was met and a note have no
-- share, and keep nothing.
abbrev pub idle_sight : ℕ → ℕ → Sight
idle_sight top seen = record { best = top; seen = seen; shares = 0 }

abbrev pub sight_of : Network → View → Sight
sight_of P view = record { best = price P view.best; seen = view.seen; shares = view.shares }

abbrev pub view_sight : Network → Option View → Sight
view_sight P None = idle_sight P.upper P.upper
view_sight P (Some view) = sight_of P view

abbrev pub note_sight : Network → Option ℕ → Sight
note_sight P None = idle_sight P.upper P.upper
note_sight P (Some seen) = idle_sight P.upper seen

abbrev pub sights_of : Network → World → List Sight
sights_of P w = sight_of P w.pool.view ∷ map (view_sight P) w.views ++ map (note_sight P) w.notes

-- The opening for workers 0 to workers - 1, and the main thread as one more: the pool's, and nothing found.
abbrev pub opening : Network → ℕ → ℕ → World
opening P workers budget = record {
  pool = opening_pool P (127 - workers) budget;
  word = P.upper;
  views = replicate (workers + 1) (Some (new_view P 1));
  notes = [];
  hands = [];
}
