-- The cheapest of a variable's live values.
use Rattle.std.proofs.Common.{◌≡◌, ℕ, ◌<◌, ◌≤◌, List, length, sym, ap, ◌∙◌, subst, arith}
use Rattle.std.specs.Prelude.{slice_index, pos, ◌≤ℤ◌, IsTrue}
use Rattle.cfn_model.specs.Sums.{unary, is_live}
use Rattle.cfn_model.specs.Steps.{IsValue}
use Rattle.cfn_rows.specs.Sets.{AreLive}
use Rattle.cfn_store.specs.Standing.{Standing, history}
use Rattle.cfn_store.specs.Rooms.{sets_of}
use Rattle.cfn_branch.specs.Choosing.{IsCheapest}

-- of the first n of these values, this one is the cheapest
pub record CheapestYet (s : Standing) (x : ℕ) (values : List ℕ) (n best least : ℕ) : Type 0 where
  pub value : IsValue s.network x best
  pub live : IsTrue (is_live (history s) x best)
  pub cost : pos least ≡ unary s.network (history s) x best
  pub before : (j : ℕ) → j < n → (pos least ≤ℤ unary s.network (history s) x (slice_index values j)) × (unary s.network (history s) x (slice_index values j) ≡ pos least → best ≤ slice_index values j)

-- all values are these
pub whole : (s : Standing) (x : ℕ) (values : List ℕ) (n best least : ℕ) → AreLive (sets_of s) x values → length values ≤ n → CheapestYet s x values n best least → IsCheapest s x best
whole s x values n best least are all yet = record {
  value = yet.value;
  live = yet.live;
  least = λ b value live. (let a = are.all b (record { variable = value.variable; value = value.value }) live in
      let h = yet.before a.0 (omega (arith, a.1)) in
      subst (λ z. z ≤ℤ unary s.network (history s) x b) yet.cost (subst (λ v. pos least ≤ℤ unary s.network (history s) x v) a.2 h.0));
  first = λ b value live same. (let a = are.all b (record { variable = value.variable; value = value.value }) live in
      let h = yet.before a.0 (omega (arith, a.1)) in
      subst (λ v. best ≤ v) a.2 (h.1 (ap (unary s.network (history s) x) a.2 ∙ same ∙ sym yet.cost)));
}
