-- What was recorded of a search that ended is a good record.
use Rattle.std.proofs.Common.{◌≡◌, ℕ, [], length, refl, sym, ap, ◌∙◌, subst, arith}
use Rattle.std.specs.Prelude.{Option, Some, None, IfSome, is_some}
use Rattle.cfn_model.specs.Network.{Network}
use Rattle.cfn_model.specs.Tree.{Valid}
use Rattle.cfn_model.specs.Certificate.{Certificate, IsBest, threshold_of}
use Rattle.cfn_machine.specs.Pool.{Pool, tree_of}
use Rattle.cfn_machine.specs.Laws.{IsPool}
use Rattle.cfn_record.specs.Histories.{HistoryValue}
use Rattle.cfn_pool.specs.Recorded.{RecordingValue, IsExactRecordOf, told_by, told_in, record_of}
use Rattle.cfn_search.specs.Recording.{IsRecorded}

exact_told : (P : Network) (pool : Pool) (recorded : Option RecordingValue) → IfSome recorded (λ r. IsExactRecordOf P pool r.told) → IfSome (told_in recorded) (IsExactRecordOf P pool)
exact_told P pool None exact = tt
exact_told P pool (Some r) exact = exact

-- a history is handed out where a record was kept
pub kept_by : (recorded : Option RecordingValue) (history : Option HistoryValue) → record_of history ≡ told_in recorded → is_some history ≡ is_some recorded
kept_by None None same = refl
kept_by None (Some h) same = absurd (let no : Some (told_by h) ≡ None = same in cc)
kept_by (Some r) None same = absurd (let no : None ≡ Some r.told = same in cc)
kept_by (Some r) (Some h) same = refl

pub good_record : (P : Network) (pool : Pool) (recorded : Option RecordingValue) (history : Option HistoryValue) (c : Certificate) → record_of history ≡ told_in recorded → IfSome recorded (λ r. IsExactRecordOf P pool r.told) → IsPool P pool → c.variables ≡ length P.sizes → c.functions ≡ length P.functions → c.upper ≡ P.upper
    → IsBest P c.best → threshold_of P.upper c.best ≡ pool.view.seen → c.tree ≡ tree_of pool.tree → IfSome history (IsRecorded P pool.budget c)
good_record P pool recorded None c same exact is variables functions upper best price tree = tt
good_record P pool recorded (Some h) c same exact is variables functions upper best price tree =
    let e : IsExactRecordOf P pool (told_by h) = subst (λ r. IfSome r (IsExactRecordOf P pool)) (sym same) (exact_told P pool recorded exact) in
    let k = threshold_of P.upper c.best in
    record {
      budget_is = e.is.budget_is;
      good = record {
        variables = variables;
        functions = functions;
        upper = upper;
        pool = e.is.left;
        run = e.is.run;
        seen = e.seen ∙ sym price;
        good = record {
          variables = refl;
          functions = refl;
          upper = refl;
          best = best;
          valid = subst (λ t. Valid P [] (tree_of t) k) (sym e.is.alike.tree) (subst (λ x. Valid P [] (tree_of pool.tree) x) (sym price) is.sound.valid);
          lower = omega arith;
        };
      };
      tree = ap tree_of e.is.alike.tree ∙ sym tree;
    }
