use Rattle.std.proofs.Common.{reverse, sym, ap, ◌∙◌, subst}
use Rattle.std.specs.Prelude.{Result, Ok, Err, OnOk}
use Rattle.cfn_store.specs.Marking.{IsBehind, back_at}
use Rattle.cfn_vac.proofs.Running.{grown_behind, grown_back}
use Rattle.cfn_vac.proofs.Gathering.{gathers}
use Rattle.cfn_vac.proofs.sources.gather.Goals as goal

pub undo-requires : goal.undo-requires
undo-requires c = subst (λ m. IsBehind m c.gather_all-result.new.store) (sym c.mark-mark.ensures) (grown_behind c.args.store.now c.gather_all-result.new.store c.gather_all-result.ensures.grown)

pub returns-clause-same : goal.returns-clause-same
returns-clause-same c =
    c.undo.ensures ∙ ap (λ m. back_at m c.gather_all-result.new.store) c.mark-mark.ensures ∙ grown_back c.args.store.now c.gather_all-result.new.store c.gather_all-result.ensures.grown

on_both : {E A B C : Type 0} (r : Result (Unit {0}) E) → (A → B → C) → OnOk r A → OnOk r B → OnOk r C
on_both (Ok done) f a b = f a b
on_both (Err e) f a b = tt

pub returns-clause-gathers : goal.returns-clause-gathers
returns-clause-gathers c =
    let t = c.args.target in
    on_both c.gather_all-result.result (λ is enough. gathers c.args.plan.now.network c.args.store.now c.gather_all-result.new.store c.args.q t.function t.place t.value t.amount (reverse c.args.earlier.now) c.args.plan.now.steps c.gather_all-result.new.plan.steps is enough) c.gather_all-result.ensures.gathered c.gather_all-result.ensures.enough
