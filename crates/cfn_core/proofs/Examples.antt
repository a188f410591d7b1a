-- The two lists of actions have these answers.
use Rattle.std.proofs.Common.{◌≡◌, ℕ, zero, suc, ◌<◌, ◌≤◌, inr, [], ◌∷◌, refl, ap, arith}
use Rattle.std.specs.Prelude.{slice_index}
use Rattle.cfn_model.specs.declared.step.Decision.TheVariants.{Is}
use Rattle.cfn_model.specs.Network.{Network}
use Rattle.cfn_model.specs.Sums.{floor}
use Rattle.cfn_machine.specs.Pool.{Free, Out, Leaf, Fork, IsPiece, new_view}
use Rattle.cfn_machine.specs.Steps.{IsFirst, AllSpent}
use Rattle.cfn_core.specs.World.{World, opening}
use Rattle.cfn_core.specs.Actions.{Answers, Reply, taken, noted, given, all_back, take_task, take_none, give_done, give_gone}
use Rattle.cfn_core.specs.Examples.{IsSplittable, one_variable, root_task, root_split, SplitSpends, RecallRefuses}
use Rattle.cfn_model.proofs.CallerLemmas.{small_took, small_refused}
use Rattle.cfn_machine.proofs.CallerLemmas.{opening_small}

just : {due : Reply} {left : World} → Answers due left due left
just = record { reply = refl; world = refl }

-- the root is the first of the free leaves where it is the one leaf
root_first : (P : Network) → IsFirst P (Leaf 0 Free []) 0 []
root_first P = record { leaf = (refl, refl, refl); first = λ m other at. inr (ap (floor P) (same at.2), omega arith) }
  where
    same : {X : Type 0} {x y : X} → x ≡ y → y ≡ x
    same h = cc

-- the split root is a piece
split_piece : (P : Network) → IsSplittable P → IsPiece P (root_split P)
split_piece P is =
    let small = opening_small P is.network in
    record {
      valid = (tt, record { variable = is.network.some; value = omega (arith, is.values) }, tt, tt);
      strict = (record { first = (0, omega (arith, is.values), refl, refl); second = (1, is.values, refl, refl) }, tt, tt);
      tame = (small, small_took P [] (Is 0 0) small, small_refused P [] (Is 0 0) small);
      some = omega arith;
      few = omega arith;
    }

-- a network of the kind
pub is_splittable : IsSplittable one_variable
is_splittable = record {
  network = record {
    name = refl;
    some = omega arith;
    few = omega arith;
    sizes = two_values;
    upper = omega arith;
    functions = λ f there. absurd (omega (arith, there));
    few_functions = omega arith;
    few_cells = omega arith;
  };
  low = omega arith;
  values = omega arith;
}
  where
    two_values : (x : ℕ) → x < 1 → (0 < slice_index (2 ∷ []) x) × (slice_index (2 ∷ []) x ≤ 4096)
    two_values zero there = (omega arith, omega arith)
    two_values (suc x) there = absurd (omega (arith, there))

pub split_spends : SplitSpends
split_spends P is = (
  (tt, (tt, (split_piece P is, (tt, tt)))),
  let w1 : World = taken (opening P 1 1) (root_task P) (record (opening P 1 1).pool { tree = Leaf 0 (Out 0 1) [] }) in
      let w2 : World = noted w1 (new_view P 1) in
      let w3 : World = given w2 (root_split P) 0 (record w2.pool { tree = Fork [] (Is 0 0) (Leaf 1 Free []) (Leaf 2 Free []); next = 3; nodes = 1; view = record w2.pool.view { seen = w2.word } }) in (
        w3,
        (
          w1,
          take_task (root_task P) w1.pool (omega arith, omega arith) (record { wants = omega arith; unspent = λ e. omega (arith, e); room = λ e. omega (arith, e); first = root_first P; handed = refl; tree = Leaf 0 (Out 0 1) []; marked = (refl, refl, refl, refl); left = refl }) just,
          (
            w2,
            just,
            (
              w3,
              give_done w3.pool (omega arith, is.low) (record { tree = Fork [] (Is 0 0) (Leaf 1 Free []) (Leaf 2 Free []); placed = (refl, refl, refl, refl); left = refl }) just,
              (w3, take_none AllSpent (omega arith, omega arith) (omega arith, refl) just, refl),
            ),
          ),
        ),
        refl,
      ),
)

pub recall_refuses : RecallRefuses
recall_refuses P is = (
  (tt, (tt, (tt, (split_piece P is, tt)))),
  let w1 : World = taken (opening P 1 2) (root_task P) (record (opening P 1 2).pool { tree = Leaf 0 (Out 0 1) [] }) in
      let w2 : World = noted w1 (new_view P 1) in
      let w3 : World = all_back w2 in
      let w4 : World = taken w3 (root_task P) (record w3.pool { tree = Leaf 0 (Out 0 1) [] }) in (
        w3,
        w4,
        (
          w1,
          take_task (root_task P) w1.pool (omega arith, omega arith) (record { wants = omega arith; unspent = λ e. omega (arith, e); room = λ e. omega (arith, e); first = root_first P; handed = refl; tree = Leaf 0 (Out 0 1) []; marked = (refl, refl, refl, refl); left = refl }) just,
          (
            w2,
            just,
            (
              w3,
              just,
              (w3, give_gone (omega arith, is.low) (λ at. (let e = at.1 in cc)) just, refl),
            ),
          ),
        ),
        refl,
        (w4, take_task (root_task P) w4.pool (omega arith, omega arith) (record { wants = omega arith; unspent = λ e. omega (arith, e); room = λ e. omega (arith, e); first = root_first P; handed = refl; tree = Leaf 0 (Out 0 1) []; marked = (refl, refl, refl, refl); left = refl }) just, refl),
      ),
)
