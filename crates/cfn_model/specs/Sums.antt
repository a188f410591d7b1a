-- What a list of events, the newest first, makes of a network's costs and values (Cooper et al. 2010).
use Rattle.std.specs.Prelude.{ℕ, ◌+◌, Bool, true, false, not, ◌&&◌, ◌||◌, List, [], ◌∷◌, slice_index, sum_by, ℤ, pos, ◌+ℤ◌, neg_ℤ, if◌then◌else◌, ◌==◌, nat_lt}
use Rattle.cfn_model.specs.declared.step.Step.TheVariants.{Project, Extend, Lift, CutValue, CutTuple}
use Rattle.cfn_model.specs.declared.step.Event.{Event}
use Rattle.cfn_model.specs.declared.step.Event.TheVariants.{Did, Took, Refused}
use Rattle.cfn_model.specs.Decisions.{variable_of, keeps}
use Rattle.cfn_model.specs.Network.{Function, Network, entry_at, arity, scope_at, variable_at, dims_at, cell}

-- An amount where a test holds, and else nothing.
abbrev pub when : Bool → ℤ → ℤ
when test amount = if test then amount else pos 0

-- What a step adds to the floor.
abbrev pub lifted : Event → ℕ
lifted (Did (Project f i a m)) = 0
lifted (Did (Extend f i a m)) = 0
lifted (Did (Lift x m)) = m
lifted (Did (CutValue x a)) = 0
lifted (Did (CutTuple f c)) = 0
lifted (Took d) = 0
lifted (Refused d) = 0

-- The constant that a function of arity 0 is.
abbrev pub constant_of : List ℕ → List ℕ → ℕ
constant_of [] entries = slice_index entries 0
constant_of (x ∷ scope) entries = 0

abbrev pub constant : Function → ℕ
constant f = constant_of f.scope f.entries

-- The floor: the constants, and what was lifted.
abbrev pub floor : Network → List Event → ℕ
floor P [] = sum_by constant P.functions
floor P (event ∷ history) = lifted event + floor P history

-- What an event adds to the unary cost of the value a of x.
abbrev pub unary_by : Network → Event → ℕ → ℕ → ℤ
unary_by P (Did (Project f i b m)) x a = when ((variable_at P f i == x) && (b == a)) (pos m)
unary_by P (Did (Extend f i b m)) x a = when ((variable_at P f i == x) && (b == a)) (neg_ℤ (pos m))
unary_by P (Did (Lift y m)) x a = when (y == x) (neg_ℤ (pos m))
unary_by P (Did (CutValue y b)) x a = pos 0
unary_by P (Did (CutTuple f c)) x a = pos 0
unary_by P (Took d) x a = pos 0
unary_by P (Refused d) x a = pos 0

-- The unary cost of the value a of x: what was projected to it, less what was extended from it or lifted.
abbrev pub unary : Network → List Event → ℕ → ℕ → ℤ
unary P [] x a = pos 0
unary P (event ∷ history) x a = unary_by P event x a +ℤ unary P history x a

-- What an event adds to the residual cost of a tuple of f.
abbrev pub residual_by : Event → ℕ → List ℕ → ℤ
residual_by (Did (Project g i a m)) f tuple = when ((g == f) && (slice_index tuple i == a)) (neg_ℤ (pos m))
residual_by (Did (Extend g i a m)) f tuple = when ((g == f) && (slice_index tuple i == a)) (pos m)
residual_by (Did (Lift x m)) f tuple = pos 0
residual_by (Did (CutValue x a)) f tuple = pos 0
residual_by (Did (CutTuple g c)) f tuple = pos 0
residual_by (Took d) f tuple = pos 0
residual_by (Refused d) f tuple = pos 0

-- The residual cost of a tuple of f: its entry, less what was projected from it, and what was extended to it.
-- The entry of a function of arity 0 is in the floor.
abbrev pub residual : Network → List Event → ℕ → List ℕ → ℤ
residual P [] f tuple = when (nat_lt 0 (arity P f)) (pos (entry_at P f tuple))
residual P (event ∷ history) f tuple = residual_by event f tuple +ℤ residual P history f tuple

-- Whether an event takes the value a from x: it cuts it, or is the other side of a split.
abbrev pub removes : Event → ℕ → ℕ → Bool
removes (Did (Project f i b m)) x a = false
removes (Did (Extend f i b m)) x a = false
removes (Did (Lift y m)) x a = false
removes (Did (CutValue y b)) x a = (y == x) && (b == a)
removes (Did (CutTuple f c)) x a = false
removes (Took d) x a = (variable_of d == x) && not (keeps d a)
removes (Refused d) x a = (variable_of d == x) && keeps d a

-- Whether the value a of x is live: no event has taken it.
abbrev pub is_live : List Event → ℕ → ℕ → Bool
is_live [] x a = true
is_live (event ∷ history) x a = not (removes event x a) && is_live history x a

-- Whether an event cuts the tuple of f with the number c.
abbrev pub cuts : Event → ℕ → ℕ → Bool
cuts (Did (Project g i a m)) f c = false
cuts (Did (Extend g i a m)) f c = false
cuts (Did (Lift x m)) f c = false
cuts (Did (CutValue x a)) f c = false
cuts (Did (CutTuple g d)) f c = (g == f) && (d == c)
cuts (Took d) f c = false
cuts (Refused d) f c = false

abbrev pub is_cut : List Event → ℕ → ℕ → Bool
is_cut [] f c = false
is_cut (event ∷ history) f c = cuts event f c || is_cut history f c

-- Whether each of these variables' values is live.
abbrev pub all_live : List Event → List ℕ → List ℕ → Bool
all_live history [] tuple = true
all_live history (x ∷ scope) [] = true
all_live history (x ∷ scope) (a ∷ tuple) = is_live history x a && all_live history scope tuple

-- Whether a tuple of f is live: its values are live, its entry is below the upper bound, and it is not cut.
abbrev pub is_live_tuple : Network → List Event → ℕ → List ℕ → Bool
is_live_tuple P history f tuple =
    all_live history (scope_at P f) tuple && nat_lt (entry_at P f tuple) P.upper && not (is_cut history f (cell (dims_at P f) tuple))
