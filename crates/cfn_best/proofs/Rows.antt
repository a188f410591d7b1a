-- Worked examples: a list of tiny's two cheapest assignments, and lists that are not good.
use Rattle.std.proofs.Common.{◌≡◌, ℕ, zero, suc, ◌<◌, ◌≤◌, true, false, List, [], ◌∷◌, length, refl, arith, lit<, lit≤}
use Rattle.std.specs.Fmt.{digits}
use Rattle.std.specs.Prelude.{codes, slice_index, IsTrue}
use Rattle.cfn_model.specs.declared.step.Decision.TheVariants.{Is}
use Rattle.cfn_model.specs.declared.step.Event.{Event}
use Rattle.cfn_model.specs.declared.step.Event.TheVariants.{Took, Refused}
use Rattle.cfn_model.specs.Sums.{is_live}
use Rattle.cfn_model.specs.Certificate.{Solution}
use Rattle.cfn_model.proofs.CallerLemmas.{tiny}
use Rattle.cfn_best.specs.Tree.{Open, Listed, Split, IsLeafOf}
use Rattle.cfn_best.specs.List.{ListCertificate, IsOrdered, GoodList}
use Rattle.cfn_best.specs.Lines.{text_of, lines_of}

abbrev solution : ℕ → ℕ → Solution
solution c a = record { cost = c; values = a ∷ [] }

abbrev tiny_list : ℕ → ℕ → ListCertificate
tiny_list zeros ones = record {
  variables = 1;
  functions = 1;
  upper = 10;
  count = 2;
  lower = 3;
  list = solution 1 1 ∷ solution 3 0 ∷ [];
  tree = Split [] (Is 0 0) (Listed [] zeros) (Listed [] ones);
}

pub tiny_text : text_of (lines_of (tiny_list 1 0)) ≡ codes "wcspbest 1\nnetwork 1 1 10\ncount 2\nlower 3\nbest 2\nvalues 1 1\nvalues 3 0\ntree\nsplit 0 0\nlisted 1\nlisted 0\nend\n"
unfolding digits
tiny_text = refl

zero_is_live_alone : (a : ℕ) → a < 2 → is_live (Took (Is 0 0) ∷ []) 0 a ≡ true → a ≡ 0
zero_is_live_alone zero lt live = refl
zero_is_live_alone (suc zero) lt live = let h : false ≡ true = live in absurd cc
zero_is_live_alone (suc (suc a)) lt live = absurd (omega arith)

one_is_live_alone : (a : ℕ) → a < 2 → is_live (Refused (Is 0 0) ∷ []) 0 a ≡ true → a ≡ 1
one_is_live_alone zero lt live = let h : false ≡ true = live in absurd cc
one_is_live_alone (suc zero) lt live = refl
one_is_live_alone (suc (suc a)) lt live = absurd (omega arith)

first_leaf : IsLeafOf tiny (solution 1 1 ∷ solution 3 0 ∷ []) (Took (Is 0 0) ∷ []) 1
first_leaf = record { number = lit< tt; only = by_variable }
  where
    by_variable : (x a : ℕ) → x < 1 → a < slice_index tiny.sizes x → IsTrue (is_live (Took (Is 0 0) ∷ []) x a) → a ≡ slice_index (0 ∷ []) x
    by_variable zero a lt below live = zero_is_live_alone a below live
    by_variable (suc x) a lt below live = absurd (omega arith)

second_leaf : IsLeafOf tiny (solution 1 1 ∷ solution 3 0 ∷ []) (Refused (Is 0 0) ∷ []) 0
second_leaf = record { number = lit< tt; only = by_variable }
  where
    by_variable : (x a : ℕ) → x < 1 → a < slice_index tiny.sizes x → IsTrue (is_live (Refused (Is 0 0) ∷ []) x a) → a ≡ slice_index (1 ∷ []) x
    by_variable zero a lt below live = one_is_live_alone a below live
    by_variable (suc x) a lt below live = absurd (omega arith)

pub tiny_list_is_good : GoodList tiny (tiny_list 1 0)
tiny_list_is_good = record {
  variables = refl;
  functions = refl;
  upper = refl;
  few = lit≤ tt;
  solutions = (record { below = lit< tt; fits = (lit< tt, tt); cost = refl }, (record { below = lit< tt; fits = (lit< tt, tt); cost = refl }, tt));
  ordered = (refl, tt);
  valid = (tt, record { variable = lit< tt; value = lit< tt }, (tt, first_leaf), (tt, second_leaf));
  lower = lit≤ tt;
}

-- with the two listed leaves exchanged it is not good, nor with one assignment twice, nor in another order, nor with an
-- open leaf's floor below its lower bound
pub leaves_exchanged : GoodList tiny (tiny_list 0 1) → ⊥
leaves_exchanged good = let h : 0 ≡ 1 = good.valid.2.1.only 0 0 (lit< tt) (lit< tt) refl in absurd (omega (arith, h))

pub one_twice : IsOrdered (solution 1 1 ∷ solution 1 1 ∷ []) → ⊥
one_twice ordered = absurd (let h = ordered.0 in cc)

pub not_sorted : IsOrdered (solution 3 0 ∷ solution 1 1 ∷ []) → ⊥
not_sorted ordered = absurd (let h = ordered.0 in cc)

pub open_below_lower : GoodList tiny (record { variables = 1; functions = 1; upper = 10; count = 1; lower = 1; list = solution 1 1 ∷ []; tree = Open [] }) → ⊥
open_below_lower good = let h : 1 ≤ 0 = good.lower in absurd (omega arith)
