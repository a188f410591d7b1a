-- A store that goes on stays behind where it stood, and so does one that goes back no further than there.
use Rattle.std.proofs.Common.{◌≡◌, List, [], ◌∷◌, ◌++◌, append_assoc, refl, sym, ap, ◌∙◌, subst}
use Rattle.cfn_model.specs.declared.step.Step.{Step}
use Rattle.cfn_model.specs.declared.step.Event.{Event}
use Rattle.cfn_model.specs.declared.step.Event.TheVariants.{Did}
use Rattle.cfn_model.specs.Steps.{after}
use Rattle.cfn_store.specs.Marking.{IsBehind, back_at}
use Rattle.cfn_store.specs.Standing.{Standing, history, with_step, with_side}

after_last : (steps : List Step) (step : Step) (before : List Event) → after (steps ++ step ∷ []) before ≡ Did step ∷ after steps before
after_last [] step before = refl
after_last (first ∷ steps) step before = after_last steps step (Did first ∷ before)

pub behind_here : (s : Standing) → IsBehind s s
behind_here s = record { network = refl; later = []; path = refl }

pub behind_step : (s next : Standing) (step : Step) → next ≡ with_step s step → IsBehind s next
behind_step s next step is = subst (IsBehind s) (sym is) (record { network = refl; later = Did step ∷ []; path = after_last s.block step s.base })

pub behind_side : (s next : Standing) (side : Event) → next ≡ with_side s side → IsBehind s next
behind_side s next side is = subst (IsBehind s) (sym is) (record { network = refl; later = side ∷ []; path = refl })

pub behind_more : (first second third : Standing) → IsBehind first second → IsBehind second third → IsBehind first third
behind_more first second third one two = record {
  network = one.network ∙ two.network;
  later = two.later ++ one.later;
  path = two.path ∙ ap (λ events. two.later ++ events) one.path ∙ sym (append_assoc two.later one.later (history first));
}

-- where only the room is another
pub behind_room : (s next : Standing) → next.network ≡ s.network → next.base ≡ s.base → next.block ≡ s.block → IsBehind s next
behind_room s next network base block = record { network = sym network; later = []; path = ap (λ steps. after steps next.base) block ∙ ap (after s.block) base }

-- back at a mark
pub behind_back : (s mark later next : Standing) → mark ≡ s → IsBehind s later → next ≡ back_at mark later → IsBehind s next
behind_back s mark later next at behind is = subst (IsBehind s) (sym is) (record { network = behind.network; later = []; path = ap history at })
