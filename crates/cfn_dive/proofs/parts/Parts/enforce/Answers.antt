use Rattle.std.proofs.Common.{sym, ap, ◌∙◌, subst}
use Rattle.std.specs.Prelude.{IfOk}
use Rattle.cfn_dive.specs.Limit.{step_limit}
use Rattle.cfn_dive.specs.Enforcing.{IsSpent}
use Rattle.cfn_dive.proofs.Onwards.{current_at, groups_made}
use Rattle.cfn_dive.proofs.parts.Parts.enforce.Goals as goal

pub returns-clause-spent : goal.returns-clause-spent
returns-clause-spent g c = subst (λ n. IfOk c.enforce.result (IsSpent n c.enforce.new.store)) (c.requires.diving.kept.of.steps ∙ ap step_limit (sym c.requires.network)) c.enforce.ensures.spent

pub returns-clause-groups : goal.returns-clause-groups
returns-clause-groups g c =
    let before = c.args.self.now.store in
    let at = current_at before.network c.args.self.now c.args.growth.now c.args.leaf c.requires.diving c.requires.current in
    groups_made c.args.leaf.is_root before c.enforce.new.store c.enforce.result at.root c.enforce.ensures.goes.network c.enforce.ensures.goes.base at.block c.enforce.ensures.gains c.enforce.ensures.rooted
