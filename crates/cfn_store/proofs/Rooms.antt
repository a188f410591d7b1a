-- The least of the live unary costs is the room of a lift.
use Rattle.std.proofs.Common.{◌≡◌, ℕ, ◌+◌, ◌<◌, ◌≤◌, List, length, min, subst, inl, inr, arith}
use Rattle.std.proofs.lemmas.Bool.{cases_eq}
use Rattle.std.proofs.lemmas.Int.{ints}
use Rattle.std.specs.Prelude.{pos, ◌≤ℤ◌, slice_index}
use Rattle.cfn_model.specs.declared.limits.TheConstants.{GREATEST}
use Rattle.cfn_model.specs.Sums.{unary}
use Rattle.cfn_rows.specs.Sets.{AreLive}
use Rattle.cfn_store.specs.Standing.{Standing, history}
use Rattle.cfn_store.specs.Rooms.{sets_of, IsLiftRoom}

-- the least of the unary costs of the values before one in a list
pub record LeastBefore (s : Standing) (x : ℕ) (values : List ℕ) (n room : ℕ) : Type 0 where
  pub spelled : room ≤ GREATEST
  pub below : (i : ℕ) → i < n → pos room ≤ℤ unary s.network (history s) x (slice_index values i)
  pub most : (m : ℕ) → m ≤ GREATEST → ((i : ℕ) → i < n → pos m ≤ℤ unary s.network (history s) x (slice_index values i)) → m ≤ room

pub none_before : (s : Standing) (x : ℕ) (values : List ℕ) → LeastBefore s x values 0 GREATEST
none_before s x values = record {
  spelled = omega arith;
  below = λ i l. absurd (omega (arith, l));
  most = λ m l below. l;
}

pub one_more : (s : Standing) (x : ℕ) (values : List ℕ) (n room cost : ℕ) → pos cost ≡ unary s.network (history s) x (slice_index values n) → LeastBefore s x values n room → LeastBefore s x values (n + 1) (min room cost)
one_more s x values n room cost is old = record {
  spelled = let l = old.spelled in omega (arith, l);
  below = λ i l. elim (cases_eq n i) [
    | inl e ↦ subst (λ j. pos (min room cost) ≤ℤ unary s.network (history s) x (slice_index values j)) e (omega (arith, ints, is))
    | inr e ↦ (let b = old.below i (omega (arith, l, e)) in omega (arith, ints, b))
  ];
  most = λ m l below. (let h = old.most m l (λ i k. below i (omega (arith, k))) in let k = below n (omega arith) in omega (arith, ints, h, k, is));
}

pub whole : (s : Standing) (x : ℕ) (values : List ℕ) (n room : ℕ) → x < length s.network.sizes → AreLive (sets_of s) x values → length values ≤ n → n ≤ length values → LeastBefore s x values n room → IsLiftRoom s x room
whole s x values n room there are l k least = record {
  spelled = least.spelled;
  enough = λ a within live. (let at = are.all a (record { variable = there; value = within }) live in
      subst (λ b. pos room ≤ℤ unary s.network (history s) x b) at.2 (least.below at.0 (omega (arith, at.1, l))));
  most = λ m small can. least.most m small (λ i h. (let v = are.live i (omega (arith, h, k)) in can (slice_index values i) v.0.value v.1));
}
