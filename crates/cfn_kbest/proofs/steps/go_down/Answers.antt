use Rattle.std.proofs.Common.{refl, sym, ap, ◌∙◌, subst}
use Rattle.std.specs.Prelude.{IfSome}
use Rattle.cfn_model.specs.declared.step.Event.TheVariants.{Took}
use Rattle.cfn_store.specs.Standing.{Standing, history}
use Rattle.cfn_edac.specs.Settling.{IsBehindSettled}
use Rattle.cfn_dive.proofs.CallerLemmas.{since_split, settled_moved}
use Rattle.cfn_kbest.proofs.steps.go_down.Goals as goal

pub returns-clause-at : goal.returns-clause-at
returns-clause-at c =
    let P = c.args.network.now in
    let old = c.args.parts.now.store in
    let now = c.take.new.self in
    let child = c.requires.child in
    let network = ap (λ (s : Standing). s.network) c.take.ensures ∙ c.requires.of.network in
    record {
      waits = child.waits;
      only = λ path before. child.only path before ∙ sym (ap (λ (s : Standing). s.base) c.take.ensures);
      block = ap (λ (s : Standing). s.block) c.take.ensures;
      since = subst (λ o. IfSome o (IsBehindSettled now)) (sym c.since.ensures)
          (since_split c.args.child.settled (Took c.args.child.decision) now (history old) (ap history c.take.ensures)
          (λ is. settled_moved P now.network (history old) (history old) (sym network) refl (child.settled is)));
    }
