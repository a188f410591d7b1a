-- Steps that gain at nodes are groups, and steps behind steps lead on.
use Rattle.std.proofs.Common.{inl, inr, List, [], ◌∷◌, ◌++◌, refl, sym, subst}
use Rattle.cfn_model.specs.declared.step.Step.{Step}
use Rattle.cfn_model.specs.declared.step.Step.TheVariants.{Project, Extend, Lift, CutValue, CutTuple}
use Rattle.cfn_model.specs.declared.step.Event.{Event}
use Rattle.cfn_model.specs.declared.step.Event.TheVariants.{Did}
use Rattle.cfn_model.specs.Network.{Network}
use Rattle.cfn_model.specs.Steps.{after}
use Rattle.cfn_consistency.specs.Groups.{IsShift, IsNew, Closes, Group, begun, with_shift, LeadTo, IsBegun, MayBeOpen, GainsAtNode}
use Rattle.cfn_consistency.specs.Laws.{NodesGroup, GroupsJoin, OpenGroupsJoin}

closes : (P : Network) (history : List Event) (step : Step) → GainsAtNode history step → Closes P history history step
closes P history (Project f i a m) gains = absurd gains
closes P history (Extend f i a m) gains = absurd gains
closes P history (Lift x m) gains = tt
closes P history (CutValue x a) gains = gains
closes P history (CutTuple f c) gains = absurd gains

pub nodes_group : NodesGroup
nodes_group P history [] gain = refl
nodes_group P history (step ∷ steps) gain = (tt, inr (closes P history step gain.0, nodes_group P (Did step ∷ history) steps gain.1))

-- where steps lead, others lead on
pub lead_on : (P : Network) (One Other : List Event → Group → Type 0) (group : Group) (history : List Event) (steps more : List Step)
    → LeadTo P One group history steps → ((last : Group) → One (after steps history) last → LeadTo P Other last (after steps history) more) → LeadTo P Other group history (steps ++ more)
lead_on P One Other group history [] more lead on = on group lead
lead_on P One Other group history (step ∷ steps) more (fresh, inl shift) on = (fresh, inl (shift.0, lead_on P One Other (with_shift group step) (Did step ∷ history) steps more shift.1 on))
lead_on P One Other group history (step ∷ steps) more (fresh, inr closed) on =
    (fresh, inr (closed.0, lead_on P One Other (begun (Did step ∷ history)) (Did step ∷ history) steps more closed.1 on))

-- groups lead on to what follows them
pub groups_lead_on : (P : Network) (Fact : List Event → Group → Type 0) (history : List Event) (steps more : List Step)
    → LeadTo P IsBegun (begun history) history steps → LeadTo P Fact (begun (after steps history)) (after steps history) more → LeadTo P Fact (begun history) history (steps ++ more)
groups_lead_on P Fact history steps more groups rest =
    lead_on P IsBegun Fact (begun history) history steps more groups (λ last is. subst (λ g. LeadTo P Fact g (after steps history) more) (sym is) rest)

-- a step more: it does not close the group, or it does
pub one_shift : (P : Network) (One Other : List Event → Group → Type 0) (group : Group) (history : List Event) (steps : List Step) (step : Step)
    → LeadTo P One group history steps → IsShift step → ((last : Group) → One (after steps history) last → IsNew last.steps step × Other (Did step ∷ after steps history) (with_shift last step)) → LeadTo P Other group history (steps ++ step ∷ [])
one_shift P One Other group history steps step lead shift on = lead_on P One Other group history steps (step ∷ []) lead (λ last is. ((on last is).0, inl (shift, (on last is).1)))

pub one_close : (P : Network) (One : List Event → Group → Type 0) (group : Group) (history : List Event) (steps : List Step) (step : Step)
    → LeadTo P One group history steps → ((last : Group) → One (after steps history) last → IsNew last.steps step × Closes P last.start (after steps history) step) → LeadTo P IsBegun group history (steps ++ step ∷ [])
one_close P One group history steps step lead on = lead_on P One IsBegun group history steps (step ∷ []) lead (λ last is. ((on last is).0, inr ((on last is).1, refl)))

-- a fact that follows from another
pub lead_weaker : (P : Network) (One Other : List Event → Group → Type 0) (group : Group) (history : List Event) (steps : List Step)
    → LeadTo P One group history steps → ((last : Group) → One (after steps history) last → Other (after steps history) last) → LeadTo P Other group history steps
lead_weaker P One Other group history [] lead on = on group lead
lead_weaker P One Other group history (step ∷ steps) (fresh, inl shift) on = (fresh, inl (shift.0, lead_weaker P One Other (with_shift group step) (Did step ∷ history) steps shift.1 on))
lead_weaker P One Other group history (step ∷ steps) (fresh, inr closed) on =
    (fresh, inr (closed.0, lead_weaker P One Other (begun (Did step ∷ history)) (Did step ∷ history) steps closed.1 on))

pub groups_join : GroupsJoin
groups_join P history steps more groups rest = groups_lead_on P IsBegun history steps more groups rest

pub open_groups_join : OpenGroupsJoin
open_groups_join P history steps more groups rest = groups_lead_on P MayBeOpen history steps more groups rest
