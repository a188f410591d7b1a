use Rattle.std.proofs.Common.{◌+◌, ap, refl, ◌∙◌, sym}
use Rattle.std.specs.Prelude.{unwrap_or, length}
use Rattle.cfn_words.proofs.Splits.{takes_slice, nothing_in_slice, rest_of, Taken}
use Rattle.cfn_words.proofs.splitting.Words.next.Goals as goal

taken : (c : goal.After-self-2-1) → Taken c.self.inside.text.now c.self.inside.at (c.self.inside.at + c.in_ok-start.field-0) (c.self.inside.at + c.in_ok-start.field-0 + c.unwrap_or.result)
taken c = takes_slice c.self.inside.text.now c.self.inside.at c.in_ok-start.field-0 c.unwrap_or.result c.self.invariant.1 c.in_ok-start.ensures
    (c.unwrap_or.ensures ∙ ap (λ o. unwrap_or o (length (rest_of c.self.inside.text.now (c.self.inside.at + c.in_ok-start.field-0)))) c.word_end.ensures)

pub returns-in_err-start-clause-none : goal.returns-in_err-start-clause-none
returns-in_err-start-clause-none c = rw (c.from_residual.ensures, ← c.self.view_is) (λ _. nothing_in_slice c.self.inside.text.now c.self.inside.at c.in_err-start.ensures, λ _. refl)

pub returns-clause-none : goal.returns-clause-none
returns-clause-none c = rw (← c.self.view_is) ((λ e. absurd cc), (λ e. let h = (taken c).first in absurd (let k = sym e ∙ h in cc)))

pub returns-clause-first : goal.returns-clause-first
returns-clause-first c = rw (← c.self.view_is) (taken c).first

pub returns-clause-word : goal.returns-clause-word
returns-clause-word c = rw (← c.self.view_is) (taken c).one

pub returns-clause-from : goal.returns-clause-from
returns-clause-from c = rw (← c.self.view_is) (taken c).from

pub returns-clause-within : goal.returns-clause-within
returns-clause-within c = rw (← c.self.view_is) (let t = taken c in (t.some, t.within))
