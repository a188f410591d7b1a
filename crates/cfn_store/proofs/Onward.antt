-- The events of a path, of which one is taken out after the other.
use Rattle.std.proofs.Common.{◌≡◌, ℕ, ◌+◌, ◌<◌, List, [], ◌∷◌, ◌++◌, length, get_or, take, sym, ap, ◌∙◌, append_assoc, Option, Some, None, MatchOption}
use Rattle.std.proofs.lemmas.List.{take_more}
use Rattle.cfn_model.specs.declared.step.Event.{Event}
use Rattle.cfn_store.specs.Events.{with_first}

pub taken_out : (before left : List Event) (next : Option Event) → MatchOption next ((before ≡ []) × (left ≡ [])) (λ event. before ≡ event ∷ left) → with_first next left ≡ before
taken_out before left None h = sym h.0
taken_out before left (Some event) h = sym h

-- one event more is made, and one event more is that of a trail
pub one_made : (made new left all : List Event) (event : Event) (next : Option Event) (rest : List Event) → new ≡ made ++ event ∷ [] → with_first next rest ≡ left → made ++ event ∷ left ≡ all → new ++ with_first next rest ≡ all
one_made made new left all event next rest is goes whole =
    ap (λ l. l ++ with_first next rest) is ∙ append_assoc made (event ∷ []) (with_first next rest) ∙ ap (λ l. made ++ event ∷ l) goes ∙ whole

pub one_in_common : (trail path left : List Event) (common : ℕ) (event other : Event) (next : Option Event) (rest : List Event) → common < length trail → get_or trail common other ≡ event → path ≡ take common trail ++ event ∷ left → with_first next rest ≡ left → path ≡ take (common + 1) trail ++ with_first next rest
one_in_common trail path left common event other next rest there same is goes =
    is
    ∙ ap (λ e. take common trail ++ e ∷ left) (sym same)
    ∙ sym (append_assoc (take common trail) (get_or trail common other ∷ []) left)
    ∙ ap (λ l. l ++ left) (sym (take_more trail common other there))
    ∙ ap (λ l. take (common + 1) trail ++ l) (sym goes)
