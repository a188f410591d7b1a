use Rattle.std.proofs.Common.{◌≡◌, [], sym, ap, ◌∙◌, subst}
use Rattle.cfn_model.specs.Paths.{TameAlong}
use Rattle.cfn_model.specs.Sums.{floor}
use Rattle.cfn_dive.specs.Stack.{Stack}
use Rattle.cfn_dive.specs.Growing.{IsGrown}
use Rattle.cfn_dive.specs.Diving.{places, AreWaiting}
use Rattle.cfn_dive.proofs.States.{still_of}
use Rattle.cfn_dive.proofs.Makings.{root_grown, root_stack}
use Rattle.cfn_dive.proofs.parts.Parts.begin.Goals as goal

pub returns-clause-diving : goal.returns-clause-diving
returns-clause-diving c =
    let p = c.args.self.now in
    let P = p.store.network in
    let path = c.args.task.now.task.path in
    let k = c.args.threshold in
    let n = c.args.backtracks in
    let m = c.in_ok-tree.tree in
    let now = c.replay.new.self in
    let tame = subst (λ Q. TameAlong Q path) c.requires.task c.law_kept.ensures.tame in
    let begun : c.of.result.value ≡ path = c.of.ensures ∙ c.path-3.ensures in
    let stands : now.base ≡ path = c.in_ok-replay.ensures.ok.0 ∙ c.path.ensures in
    record {
      kept = record {
        of = still_of P p now c.clear.new.self c.replay.ensures.network c.requires.of;
        grown = subst (λ h. IsGrown P h k n m 0 n) (sym begun) (subst (λ l. IsGrown P path k n l 0 n) (sym c.in_ok-tree.ensures) (root_grown P path k n tame));
        waiting = subst (AreWaiting P) (sym c.clear.ensures.items) tt;
      };
      at = record {
        stack = subst (λ ws. Stack m 0 c.of.result.value (record { leaf = 0; path = now.base }) (places ws)) (sym c.clear.ensures.items)
            (subst (λ l. Stack l 0 c.of.result.value (record { leaf = 0; path = now.base }) []) (sym c.in_ok-tree.ensures) (root_stack now.base c.of.result.value (stands ∙ sym begun)));
        block = c.in_ok-replay.ensures.ok.1;
        floor = c.floor.ensures ∙ c.law_kept.ensures.floor ∙ ap (λ Q. floor Q path) c.requires.task ∙ ap (floor P) (sym stands);
        since = tt;
        root = λ e. stands ∙ sym c.path-2.ensures ∙ c.is_empty.ensures.0 e;
      };
    }
