-- The count of failed calls, and the file that is being written, at a run's end.
use Rattle.std.proofs.Common.{◌≡◌, ◌⊎◌, inl, inr, ℕ, suc, ◌<◌, ◌≤◌, List, refl, sym, ap, ◌∙◌, subst, arith}
use Rattle.cfn_model.specs.Text.{memory_fault_text}
use Rattle.cfn_desk.specs.Outside.{Outside, Call, IsIdle, faults, says, written}
use Rattle.cfn_desk.proofs.CallerLemmas.{faults-says, faults-puts, written-says}
use Rattle.cfn_line.specs.Appending.{IsCut}
use Rattle.cfn_line.specs.declared.channel.Channel.TheVariants.{File, Screen}
use Rattle.cfn_app.specs.declared.status.Status.{Status}
use Rattle.cfn_app.specs.declared.status.Status.TheVariants.{Done, Nothing, LimitSpent, Usage, Refused, Fault, NoMemory, Disproved}
use Rattle.cfn_app.specs.Endings.{Ending, Ends, IsHindered, said, cut}
use Rattle.cfn_app.specs.Saying.{Counts}

-- what holds of the status that is due and of a fault holds of the status
pub by : (F : Status → Type 0) (due : Ending) (now : List Call) (status : Status) → Ends due now status → (now ≡ says due.text due.calls → F due.status) → F Fault → F status
by F due now status (said calls is) whole fault = subst F (sym is) (whole calls)
by F due now status (cut part is) whole fault = subst F (sym is) fault

-- what is due where memory is refused before the words are understood
abbrev pub unheard : Outside → Ending
unheard old = record { calls = old.calls; text = memory_fault_text; status = NoMemory }

-- a run that ended so was hindered
pub hindered : (old new : Outside) (status : Status) → Ends (unheard old) new.calls status → IsHindered status
hindered old new status ends = by IsHindered _ new.calls status ends (λ calls. inr refl) (inl refl)

pub by_due : (wanted : Status) (due : Ending) (now : List Call) (status : Status) → Ends due now status → (due.status ≡ wanted) ⊎ IsHindered due.status → (status ≡ wanted) ⊎ IsHindered status
by_due wanted due now status ends is = by (λ s. (s ≡ wanted) ⊎ IsHindered s) due now status ends (λ calls. is) (inr (inl refl))

pub one_more : (before : List Call) → faults before < suc (faults before)
one_more before = omega arith

same_count : (before middle now : List Call) (status : Status) → faults now ≡ faults middle → Counts before middle status → Counts before now status
same_count before middle now Done same counts = same ∙ counts
same_count before middle now Nothing same counts = same ∙ counts
same_count before middle now LimitSpent same counts = same ∙ counts
same_count before middle now Usage same counts = same ∙ counts
same_count before middle now Refused same counts = same ∙ counts
same_count before middle now Fault same counts = subst (λ n. faults before < n) (sym same) counts
same_count before middle now NoMemory same counts = same ∙ counts
same_count before middle now Disproved same counts = same ∙ counts

no_fewer : (before now : List Call) (status : Status) → Counts before now status → faults before ≤ faults now
no_fewer before now Done counts = omega (arith, counts)
no_fewer before now Nothing counts = omega (arith, counts)
no_fewer before now LimitSpent counts = omega (arith, counts)
no_fewer before now Usage counts = omega (arith, counts)
no_fewer before now Refused counts = omega (arith, counts)
no_fewer before now Fault counts = omega (arith, counts)
no_fewer before now NoMemory counts = omega (arith, counts)
no_fewer before now Disproved counts = omega (arith, counts)

cut_count : (calls : List Call) (text : List ℕ) (now : List Call) → IsCut Screen calls text now → faults now ≡ suc (faults calls)
cut_count calls text now part = ap faults part.calls ∙ ap suc (faults-says part.front calls)

-- a piece that could not be put is one more failed call
pub put_count : (calls : List Call) (text : List ℕ) (now : List Call) → IsCut File calls text now → faults now ≡ suc (faults calls)
put_count calls text now part = ap faults part.calls ∙ ap suc (faults-puts part.front calls)

-- the count at an end, by the count after the calls that it is due behind
pub counted : (before : List Call) (due : Ending) (now : List Call) (status : Status) → Ends due now status → Counts before due.calls due.status → Counts before now status
counted before due now status (said calls is) counts =
    subst (Counts before now) (sym is) (same_count before due.calls now due.status (ap faults calls ∙ faults-says due.text due.calls) counts)
counted before due now status (cut part is) counts =
    let fewer = no_fewer before due.calls due.status counts in
    let more = cut_count due.calls due.text now part in
    subst (Counts before now) (sym is) (omega (arith, fewer, more))

-- no file is being written at an end that is due where none is
pub ends_idle : (due : Ending) (now : List Call) (status : Status) → Ends due now status → IsIdle due.calls → IsIdle now
ends_idle due now status (said calls is) idle = ap written calls ∙ written-says due.text due.calls ∙ idle
ends_idle due now status (cut part is) idle = ap written part.calls ∙ written-says part.front due.calls ∙ idle
