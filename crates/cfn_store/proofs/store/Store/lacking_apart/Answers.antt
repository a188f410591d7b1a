use Rattle.std.proofs.Common.{ap, ◌∙◌, sym, arith}
use Rattle.std.proofs.lemmas.Bool.{false≢true}
use Rattle.std.specs.Prelude.{slice_index}
use Rattle.cfn_model.specs.Network.{variable_at}
use Rattle.cfn_model.specs.Sums.{is_live}
use Rattle.cfn_store.specs.Standing.{history}
use Rattle.cfn_store.proofs.Doubting.{free_of, passed_value}
use Rattle.cfn_store.proofs.store.Store.lacking_apart.Goals as goal
use Rattle.cfn_store.proofs.store.Store.lacking_apart.Goals.{then-is_live+in-Some, else-is_live}

pub loop-value-preserved : goal.loop-value-preserved
loop-value-preserved c =
    let s = c.args.self.now in
    let x = ap (λ l. slice_index l c.args.place) c.scope.ensures ∙ ap (λ P. variable_at P c.args.f c.args.place) c.network-network.ensures in
    record {
      behind = let k = c.loop-value.invariant.behind in omega (arith, k);
      passed = passed_value s.network (history s) c.args.f c.args.place c.args.from c.loop-value.value c.loop-value.invariant.passed
          (elim c.if-is_live.branch [
            | then-is_live+in-Some w ↦ λ place live. free_of s.network (history s) c.args.f c.args.place c.loop-value.value w.in-Some.extreme w.in-Some.ensures w.if-extreme-eq0.true
            | else-is_live w ↦ λ place live. absurd (false≢true (sym w.if-is_live.false ∙ c.is_live.ensures ∙ ap (λ y. is_live (history s) y c.loop-value.value) x ∙ live))
          ]);
    }
