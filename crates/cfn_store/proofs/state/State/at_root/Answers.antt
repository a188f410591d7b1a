use Rattle.std.proofs.Common.{◌≡◌, [], reverse, replicate, sym, ap, subst, ◌∙◌}
use Rattle.cfn_rows.specs.Sets.{Sets}
use Rattle.cfn_scan.specs.Exact.{IsExactAlong, LiftsFit}
use Rattle.cfn_store.specs.Peaks.{ArePeaks, unknown}
use Rattle.cfn_store.specs.State.{Keeps}
use Rattle.cfn_store.specs.declared.state.State.{State}
use Rattle.cfn_store.proofs.Debts.{exact_at_root}
use Rattle.cfn_store.proofs.Peaking.{none_known}
use Rattle.cfn_store.proofs.States.{none_kept}
use Rattle.cfn_store.proofs.state.State.at_root.Goals as goal

pub returns-clause-state : goal.returns-clause-state
returns-clause-state c =
    let none : [] ≡ reverse c.new.result.items = sym (ap reverse c.new.ensures.items) in
    let state : State = record { sums = c.in_ok-at_root.field-0; live = c.in_ok-make.field-0; cuts = c.in_ok-at_root-2.field-0; peaks = c.in_ok-vec.field-0; trail = c.new.result } in
    record {
      keeps = subst (λ h. Keeps c.args.network.now h state) none (none_kept c.args.network.now state c.in_ok-at_root.ensures c.in_ok-at_root-2.ensures (ap (λ (s : Sets). s.sizes) c.in_ok-make.ensures ∙ c.sizes.ensures) (ap (λ (s : Sets). s.history) c.in_ok-make.ensures));
      exact = subst (IsExactAlong c.args.network.now) none (exact_at_root c.args.network.now c.law_limits.ensures);
      lifts = subst LiftsFit none (tt {0});
      peaks = subst (λ h. ArePeaks c.args.network.now h state.peaks.items) none (none_known c.args.network.now [] state.peaks.items (c.in_ok-vec.ensures.items_if_clones_equal (λ y e. e) ∙ ap (λ n. replicate n unknown) c.variables.ensures));
    }
