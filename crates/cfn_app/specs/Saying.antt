-- What a run said and wrote, in the terms that the statuses of all commands share.
use Rattle.std.specs.Prelude.{◌≡◌, ℕ, ◌<◌, List}
use Rattle.cfn_wcnf.specs.declared.fault.Unread.{Unread as FirstUnread}
use Rattle.cfn_model.specs.Network.{Network}
use Rattle.cfn_model.specs.Text.{memory_fault_text}
use Rattle.cfn_fault.specs.declared.kind.FaultKind.{FaultKind}
use Rattle.cfn_report.specs.Texts.{refused_text}
use Rattle.cfn_desk.specs.Outside.{Outside, Call, HasFile, faults, says}
use Rattle.cfn_cli.specs.declared.format.Format.{Format}
use Rattle.cfn_app.specs.declared.status.Status.{Status}
use Rattle.cfn_app.specs.declared.status.Status.TheVariants.{Done, Nothing, LimitSpent, Usage, Refused, Fault, NoMemory, Disproved}
use Rattle.cfn_app.specs.Loading.{RefusesAs, Paired, loaded, unread_text}
use Rattle.cfn_fault.specs.Fault as faulty

-- The count of failed calls: it rose with the status of a fault, and with no other.
abbrev pub Counts : List Call → List Call → Status → Type 0
Counts before now Done = faults now ≡ faults before
Counts before now Nothing = faults now ≡ faults before
Counts before now LimitSpent = faults now ≡ faults before
Counts before now Usage = faults now ≡ faults before
Counts before now Refused = faults now ≡ faults before
Counts before now Fault = faults before < faults now
Counts before now NoMemory = faults now ≡ faults before
Counts before now Disproved = faults now ≡ faults before

-- After these calls a text was said, and no file was written.
abbrev pub Says : Outside → List Call → List ℕ → Outside → Type 0
Says old calls text new = (new.calls ≡ says text calls) × (new.files ≡ old.files)

-- Want of memory was said, and no file was written.
abbrev pub SaysNoMemory : Outside → Outside → Type 0
SaysNoMemory old new = (calls : List Call) × Says old calls memory_fault_text new

-- The bytes of the file are refused, and what is wrong with their first word that fails was said, after these calls.
abbrev pub FileRefused : Format → (List ℕ → List Call) → List ℕ → Outside → Outside → Type 0
FileRefused format calls file old new = (bytes : List ℕ) × (refusal : FirstUnread) × HasFile old file bytes × RefusesAs format bytes refusal × Says old (calls bytes) (unread_text refusal) new

-- A line of a certificate fails, no earlier one does, and how it fails was said.
abbrev pub Refuted : Format → List ℕ → List ℕ → Outside → Outside → Type 0
Refuted format file certificate old new =
    (P : Network) × (text : List ℕ) × (l : ℕ) × (kind : FaultKind) × (middle : Outside) × Paired format file certificate old P text middle × faulty.Fault P text l kind
    × Says old middle.calls (refused_text kind l) new

-- The file was refused, after the certificate was loaded too.
abbrev pub PairRefused : Format → List ℕ → List ℕ → Outside → Outside → Type 0
PairRefused format file certificate old new =
    (text : List ℕ) × HasFile old certificate text × FileRefused format (λ bytes. loaded certificate text (loaded file bytes old.calls)) file old new
