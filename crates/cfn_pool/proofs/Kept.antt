-- What the leaves and a part of the word keep where they make a step of the pool.
use Rattle.std.proofs.Common.{◌≡◌, ℕ, List, [], ◌∷◌, ◌++◌, refl, sym, subst, inl, inr, arith, ltb-true, Option, Some, None, nat_lt, IfSome, Bool, true, false, if◌then◌else◌}
use Rattle.cfn_model.specs.declared.report.Row.{Row}
use Rattle.cfn_model.specs.Network.{Network}
use Rattle.cfn_model.specs.Certificate.{Solution, threshold_of}
use Rattle.cfn_net.specs.Scoring.{IsPriced}
use Rattle.cfn_machine.specs.Pool.{price, cheaper, KeepsFitting, row_of, tree_of}
use Rattle.cfn_machine.specs.Steps.{PoolStep, PoolSteps, IsLegal}
use Rattle.cfn_machine.proofs.CallerLemmas.{keeps, keeps_rows}
use Rattle.cfn_low.specs.Steps.{IsCost, IsReached}
use Rattle.cfn_low.specs.Holding.{Holding as Part, kept}
use Rattle.cfn_leaves.specs.Value.{Holding as Leaves}
use Rattle.cfn_record.specs.Entries.{entry_of}
use Rattle.cfn_pool.specs.declared.recording.Recording.{Recording}
use Rattle.cfn_pool.specs.Recorded.{value_of}
use Rattle.cfn_pool.specs.Views.{values_of, AreReached, Held, pool, IsHeld}
use Rattle.cfn_pool.proofs.Recorded.{Tells, recorded_by_step}

-- what is held has the price of its assignment
pub price_is : (P : Network) (held : Option Solution) → IsPriced P held → price P (values_of held) ≡ threshold_of P.upper held
price_is P None priced = refl
price_is P (Some best) priced = priced.1

pub fits_is : (P : Network) (held : Option Solution) → IsPriced P held → KeepsFitting P (values_of held)
fits_is P None priced = tt
fits_is P (Some best) priced = priced.0

kept_by : (b : Bool) (one other : Option Solution) → values_of (if b then other else one) ≡ (if b then values_of other else values_of one)
kept_by true one other = refl
kept_by false one other = refl

-- the cheaper of two, by the prices that are held and by the costs of their assignments
pub cheaper_is : (P : Network) (one other : Option Solution) → IsPriced P one → IsPriced P other → values_of (kept P one other) ≡ cheaper P (values_of one) (values_of other)
cheaper_is P one other first second =
    subst (λ a. values_of (kept P one other) ≡ (if nat_lt a (price P (values_of one)) then values_of other else values_of one)) (sym (price_is P other second))
    (subst (λ b. values_of (kept P one other) ≡ (if nat_lt (threshold_of P.upper other) b then values_of other else values_of one)) (sym (price_is P one first))
    (kept_by (nat_lt (threshold_of P.upper other) (threshold_of P.upper one)) one other))

rows_more : (P : Network) (rows : List Row) (row : Row) → AreReached P rows → IfSome row.upper (IsCost P) → AreReached P (rows ++ row ∷ [])
rows_more P [] row rows_are is = (is, tt)
rows_more P (first ∷ rows) row rows_are is = (rows_are.0, rows_more P rows row rows_are.1 is)

-- the upper number of a row of now is the threshold that was seen, which was reached
pub upper_reached : (P : Network) (seen : ℕ) (b : Bool) → nat_lt seen P.upper ≡ b → IsReached P seen → IfSome (if b then Some seen else None) (IsCost P)
upper_reached P seen true below (inl top) = absurd (true_below seen P.upper below top)
  where
    true_below : (seen upper : ℕ) → nat_lt seen upper ≡ true → seen ≡ upper → ⊥
    true_below seen upper below top = omega (arith, ltb-true _ _ below, top)
upper_reached P seen true below (inr reached) = reached
upper_reached P seen false below reached = tt

abbrev pub held : Leaves → Part → Recording → Held
held leaves part recording = record { leaves = leaves; part = part; recorded = value_of recording }

-- a step that is legal keeps all, where its entry is recorded
pub kept_by_step : (P : Network) (old new : Held) (word : ℕ) (step : PoolStep) → IsReached P old.part.seen → new.leaves.network ≡ P → IsHeld P old → IsLegal P (pool old) word step → PoolSteps P (pool old) word step (pool new) → Tells (entry_of word step) old.recorded new.recorded → IsHeld P new
kept_by_step P old new word step reached own is legal steps tells = record {
  own = own;
  pool_is = keeps P (pool old) (pool new) word step legal is.pool_is steps;
  rows = elim (keeps_rows P (pool old) (pool new) word step steps) [
    | inl same ↦ subst (AreReached P) (sym same) is.rows
    | inr more ↦ subst (AreReached P) (sym more.2) (rows_more P old.leaves.rows (row_of P (tree_of (pool old).tree) old.part.seen) is.rows (upper_reached P old.part.seen (nat_lt old.part.seen P.upper) refl reached))
  ];
  recorded = recorded_by_step P (pool old) (pool new) word step old.recorded new.recorded legal steps is.recorded tells;
}
