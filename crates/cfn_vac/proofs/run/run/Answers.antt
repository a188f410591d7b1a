use Rattle.std.specs.Result.{is_err}
use Rattle.std.proofs.Common.{false, ◌≡◌, sym, ap, ◌∙◌, subst}
use Rattle.std.specs.Prelude.{Result, Ok, Err, OnErr}
use Rattle.cfn_vac.specs.declared.run.Refusal.{Refusal}
use Rattle.cfn_vac.proofs.run.run.Goals.{then-is_err, else-is_err}
use Rattle.cfn_store.specs.Marking.{IsBehind, back_at}
use Rattle.cfn_vac.proofs.Running.{grown_behind, grown_back}
use Rattle.cfn_vac.proofs.run.run.Goals as goal

pub undo-requires : goal.undo-requires
undo-requires c = subst (λ m. IsBehind m c.make_all-result.new.store) (sym c.mark-mark.ensures) (grown_behind c.args.store.now c.make_all-result.new.store c.make_all-result.ensures.grown)

back : {A : Type 0} (r : Result (Unit {0}) Refusal) → A → OnErr r A
back (Ok done) a = tt
back (Err refusal) a = a

none : (A : Type 0) (r : Result (Unit {0}) Refusal) → false ≡ is_err r → OnErr r A
none A (Ok done) e = tt
none A (Err refusal) e = absurd cc

pub returns-clause-unchanged : goal.returns-clause-unchanged
returns-clause-unchanged c =
    elim c.if-is_err.branch [
      | then-is_err w ↦
          back c.make_all-result.result (w.store-is ∙ w.undo.ensures ∙ ap (λ m. back_at m c.make_all-result.new.store) c.mark-mark.ensures ∙ grown_back c.args.store.now c.make_all-result.new.store c.make_all-result.ensures.grown)
      | else-is_err w ↦ none _ c.make_all-result.result (sym w.if-is_err.false ∙ c.is_err.ensures.value)
    ]
