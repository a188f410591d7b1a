use Rattle.std.proofs.Common.{rules, ap, ◌∙◌, reverse}
use Rattle.std.proofs.lemmas.Fn.{filter_same}
use Rattle.cfn_core.proofs.Letting.{stays, let_go}
use Rattle.cfn_core.proofs.hands.let_go.Goals as goal

pub returns : goal.returns
returns c = ap reverse (filter_same _ (stays c.args.leaf) _ (λ x b f' k. search rules) _ _ c.retain.ensures.filtered) ∙ let_go c.args.leaf c.args.hands.now.items
