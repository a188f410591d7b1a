-- Groups behind groups, and why a step is due.
use Rattle.std.proofs.Common.{◌≡◌, ℕ, ◌<◌, List, length, [], ◌∷◌, ◌++◌, append_assoc, refl, sym, ap, ◌∙◌, subst, arith}
use Rattle.std.proofs.lemmas.Int.{ints}
use Rattle.std.specs.Prelude.{ℤ, pos, ◌≤ℤ◌, ◌+ℤ◌, ◌<ℤ◌, IsTrue, Result, Ok, Err, IsErrAnd}
use Rattle.cfn_model.specs.declared.step.Step.{Step}
use Rattle.cfn_model.specs.declared.step.Step.TheVariants.{Lift, CutValue, CutTuple}
use Rattle.cfn_model.specs.declared.step.Event.{Event}
use Rattle.cfn_model.specs.declared.step.Event.TheVariants.{Did}
use Rattle.cfn_model.specs.Network.{variable_at}
use Rattle.cfn_model.specs.Sums.{floor, unary, is_live}
use Rattle.cfn_model.specs.Steps.{after, IsValue, IsPlace, CanCutValue}
use Rattle.cfn_consistency.specs.Openness.{TakesPart}
use Rattle.cfn_consistency.specs.Consistency.{HasSupport}
use Rattle.cfn_consistency.specs.Groups.{Group, begun, with_shift, IsShift, IsNew, Closes, LeadTo, IsBegun, MayBeOpen}
use Rattle.cfn_consistency.proofs.CallerLemmas.{groups_lead_on, one_shift, one_close, lead_weaker, part_after}
use Rattle.cfn_gain.specs.Passes.{IsLeast}
use Rattle.cfn_gain.proofs.Stepping.{after_append, append_none}
use Rattle.cfn_store.specs.Standing.{Standing, history, with_step}
use Rattle.cfn_gain.specs.declared.limits.Limits.{Limits}
use Rattle.cfn_gain.specs.declared.limits.Halt.{Halt}
use Rattle.cfn_gain.specs.declared.limits.Halt.TheVariants.{Dead, Spent}
use Rattle.cfn_gain.specs.Gains.{Leads, Gained, IsOpen, IsDue, Gains}

pub led : (before now : Standing) (Fact : List Event → Group → Type 0) (l : Leads before now Fact) → history now ≡ after l.steps (history before)
led before now Fact l = ap (λ b. after b now.base) l.block ∙ ap (after (before.block ++ l.steps)) l.base ∙ after_append before.block l.steps before.base

pub gained_none : (s : Standing) → Gained s s
gained_none s = record { network = refl; base = refl; steps = []; block = append_none s.block; lead = refl }

pub gained_same : (s t : Standing) → t ≡ s → Gained s t
gained_same s t is = subst (λ u. Gained s u) (sym is) (gained_none s)

pub leads_weaker : (before now : Standing) (One Other : List Event → Group → Type 0) → Leads before now One → ((g : Group) → One (history now) g → Other (history now) g) → Leads before now Other
leads_weaker before now One Other l on = record {
  network = l.network;
  base = l.base;
  steps = l.steps;
  block = l.block;
  lead = lead_weaker before.network One Other (begun (history before)) (history before) l.steps l.lead (λ g. subst (λ h. One h g → Other h g) (led before now One l) (on g));
}

pub opened : (before now : Standing) (Fact : List Event → Group → Type 0) → Leads before now Fact → IsOpen before now
opened before now Fact l = leads_weaker before now Fact MayBeOpen l (λ g is. tt)

pub leads_then : (before mid now : Standing) (Fact : List Event → Group → Type 0) → Gained before mid → Leads mid now Fact → Leads before now Fact
leads_then before mid now Fact first second = record {
  network = second.network ∙ first.network;
  base = second.base ∙ first.base;
  steps = first.steps ++ second.steps;
  block = second.block ∙ ap (λ b. b ++ second.steps) first.block ∙ append_assoc before.block first.steps second.steps;
  lead = groups_lead_on before.network Fact (history before) first.steps second.steps first.lead
      (subst (λ h. LeadTo before.network Fact (begun h) h second.steps) (led before mid IsBegun first)
      (subst (λ P. LeadTo P Fact (begun (history mid)) (history mid) second.steps) first.network second.lead));
}

-- one step more, which does not close its group, or does
pub leads_shift : (before now next : Standing) (One Other : List Event → Group → Type 0) (step : Step) → Leads before now One → next ≡ with_step now step → IsShift step
    → ((g : Group) → One (history now) g → IsNew g.steps step × Other (Did step ∷ history now) (with_shift g step)) → Leads before next Other
leads_shift before now next One Other step l made shift on = subst (λ t. Leads before t Other) (sym made) (record {
  network = l.network;
  base = l.base;
  steps = l.steps ++ step ∷ [];
  block = ap (λ b. b ++ step ∷ []) l.block ∙ append_assoc before.block l.steps (step ∷ []);
  lead = one_shift before.network One Other (begun (history before)) (history before) l.steps step l.lead shift
      (λ g. subst (λ h. One h g → IsNew g.steps step × Other (Did step ∷ h) (with_shift g step)) (led before now One l) (on g));
})

pub leads_close : (before now next : Standing) (One : List Event → Group → Type 0) (step : Step) → Leads before now One → next ≡ with_step now step
    → ((g : Group) → One (history now) g → IsNew g.steps step × Closes now.network g.start (history now) step) → Gained before next
leads_close before now next One step l made on = subst (λ t. Gained before t) (sym made) (record {
  network = l.network;
  base = l.base;
  steps = l.steps ++ step ∷ [];
  block = ap (λ b. b ++ step ∷ []) l.block ∙ append_assoc before.block l.steps (step ∷ []);
  lead = one_close before.network One (begun (history before)) (history before) l.steps step l.lead
      (λ g. subst (λ h. One h g → IsNew g.steps step × Closes before.network g.start h step) (led before now One l)
      (subst (λ P. One (history now) g → IsNew g.steps step × Closes P g.start (history now) step) l.network (on g)));
})

-- a lift and a cut repeat nothing
pub new_lift : (steps : List Step) (x m : ℕ) → IsNew steps (Lift x m)
new_lift [] x m = tt
new_lift (step ∷ steps) x m = ((λ same. same), new_lift steps x m)

pub new_cut : (steps : List Step) (x a : ℕ) → IsNew steps (CutValue x a)
new_cut [] x a = tt
new_cut (step ∷ steps) x a = ((λ same. same), new_cut steps x a)

pub new_cut_tuple : (steps : List Step) (f c : ℕ) → IsNew steps (CutTuple f c)
new_cut_tuple [] f c = tt
new_cut_tuple (step ∷ steps) f c = ((λ same. same), new_cut_tuple steps f c)

pub lift_closes : (before now next : Standing) (x m : ℕ) → IsOpen before now → next ≡ with_step now (Lift x m) → Gained before next
lift_closes before now next x m l made = leads_close before now next MayBeOpen (Lift x m) l made (λ g is. (new_lift g.steps x m, tt))

pub cut_closes : (before now next : Standing) (x a : ℕ) → IsOpen before now → IsTrue (is_live (history now) x a) → next ≡ with_step now (CutValue x a) → Gained before next
cut_closes before now next x a l live made = leads_close before now next MayBeOpen (CutValue x a) l made (λ g is. (new_cut g.steps x a, live))

-- calls behind calls
pub gains_then : (before mid now : Standing) (limits : Limits) (result : Result (Unit {0}) Halt) → Gained before mid → Gains mid now limits result → Gains before now limits result
gains_then before mid now limits (Ok done) first second = leads_then before mid now IsBegun first second
gains_then before mid now limits (Err Dead) first second = leads_then before mid now IsBegun first second
gains_then before mid now limits (Err Spent) first second = (leads_then before mid now MayBeOpen first second.0, second.1)

pub gains_halt : (before next : Standing) (limits : Limits) (halt : Halt) (result : Result (Unit {0}) Halt) → Gains before next limits (Err halt) → IsErrAnd result (λ h. h ≡ halt) → Gains before next limits result
gains_halt before next limits halt (Ok done) gains is = absurd is
gains_halt before next limits halt (Err h) gains is = subst (λ e. Gains before next limits (Err e)) (sym is) gains

-- a call behind others halts the one that made it
pub gains_halts : (before now next : Standing) (limits : Limits) (halt : Halt) (result : Result (Unit {0}) Halt) → Gained before now → Gains now next limits (Err halt) → IsErrAnd result (λ h. h ≡ halt) → Gains before next limits result
gains_halts before now next limits halt result first gains is = gains_halt before next limits halt result (gains_then before now next limits (Err halt) first gains) is

-- a step is refused, and due
abbrev pub IsNotDead : Result (Unit {0}) Halt → Type 0
IsNotDead result = result ≡ Err Dead → ⊥

pub gains_spent : (before now : Standing) (limits : Limits) (halt : Halt) → IsNotDead (Err halt) → IsOpen before now → IsDue now limits → Gains before now limits (Err halt)
gains_spent before now limits Dead not l due = absurd (not refl)
gains_spent before now limits Spent not l due = (l, due)

pub gains_refused : (before now next : Standing) (limits : Limits) (result : Result (Unit {0}) Halt) (halt : Halt) → IsOpen before now → IsDue now limits → next ≡ now → IsNotDead (Err halt) → IsErrAnd result (λ h. h ≡ halt) → Gains before next limits result
gains_refused before now next limits result halt l due same not is =
    subst (λ t. Gains before t limits result) (sym same) (gains_halt before now limits halt result (gains_spent before now limits halt not l due) is)

-- why a step is due
no_free : (u : ℤ) (least : ℕ) → 0 < least → pos least ≤ℤ u → u ≡ pos 0 → ⊥
no_free u least some le none = absurd (omega (arith, ints, some, le, none))

pub due_lift : (s : Standing) (limits : Limits) (x least : ℕ) → x < length s.network.sizes → IsLeast s.network (history s) x least → 0 < least → IsDue s limits
due_lift s limits x least there is some full =
    let free = full.arc.nodes.free x there in
    no_free (unary s.network (history s) x free.0) least some (is.most free.0 free.1.value free.1.live) free.1.free

not_below : (k : ℕ) (z : ℤ) → pos k ≤ℤ z → z <ℤ pos k → ⊥
not_below k z le less = absurd (omega (arith, ints, le, less))

pub due_cut : (s : Standing) (limits : Limits) (x a : ℕ) → IsValue s.network x a → IsTrue (is_live (history s) x a) → CanCutValue s.network (history s) limits.threshold x a → IsDue s limits
due_cut s limits x a value live reaches full = not_below limits.threshold (pos (floor s.network (history s)) +ℤ unary s.network (history s) x a) reaches (full.arc.nodes.below x a value live)

pub due_support : (s : Standing) (limits : Limits) (f i a : ℕ) → TakesPart s.network (history s) f → IsPlace s.network f i a → IsTrue (is_live (history s) (variable_at s.network f i) a) → (HasSupport s.network (history s) f i a → ⊥) → IsDue s limits
due_support s limits f i a part place live none full = none (full.arc.functions f part i a place live)

-- a function goes on taking part
pub part_led : (before now : Standing) (Fact : List Event → Group → Type 0) (f : ℕ) → Leads before now Fact → TakesPart before.network (history before) f → TakesPart now.network (history now) f
part_led before now Fact f l part =
    subst (λ P. TakesPart P (history now) f) (sym l.network) (subst (λ h. TakesPart before.network h f) (sym (led before now Fact l)) (part_after before.network (history before) l.steps f part))

-- groups of steps for a function that takes part
abbrev pub GainedFor : Standing → Standing → ℕ → Type 0
GainedFor before now f = TakesPart before.network (history before) f → Gained before now

pub for_more : (before now next : Standing) (f : ℕ) → GainedFor before now f → GainedFor now next f → GainedFor before next f
for_more before now next f first second part =
    let one = first part in leads_then before now next IsBegun one (second (part_led before now IsBegun f one part))

pub for_halts : (before now next : Standing) (limits : Limits) (f : ℕ) (halt : Halt) (result : Result (Unit {0}) Halt) → GainedFor before now f → (TakesPart now.network (history now) f → Gains now next limits (Err halt)) → IsErrAnd result (λ h. h ≡ halt)
    → TakesPart before.network (history before) f → Gains before next limits result
for_halts before now next limits f halt result first second is part =
    let one = first part in gains_halts before now next limits halt result one (second (part_led before now IsBegun f one part)) is
