use Rattle.std.proofs.Common.{sym, ◌∙◌}
use Rattle.cfn_fault.proofs.CallerLemmas.{words_some}
use Rattle.cfn_certtext.proofs.fields.Fields.end.Goals as goal

pub returns-else-self-clause-none : goal.returns-else-self-clause-none
returns-else-self-clause-none c =
    let view = rw c.if-self.false at c.self.view_is in
    λ none. let some = words_some c.self.inside.bytes.now in let both = sym some.2 ∙ view ∙ none in absurd (cc)
