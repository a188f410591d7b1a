-- How a run ends: with a text that is due after its calls, and a status.
use Rattle.std.specs.Prelude.{◌≡◌, ◌⊎◌, ℕ, true, false, List, ◌∷◌}
use Rattle.cfn_model.specs.Text.{write_fault_text}
use Rattle.cfn_desk.specs.Outside.{Outside, Call, Close, Discard, Stored, StoredOrSame, puts, written, says}
use Rattle.cfn_line.specs.Appending.{IsCut}
use Rattle.cfn_line.specs.declared.channel.Channel.TheVariants.{File, Screen}
use Rattle.cfn_app.specs.declared.status.Status.{Status}
use Rattle.cfn_app.specs.declared.status.Status.TheVariants.{Done, Nothing, LimitSpent, Usage, Refused, Fault, NoMemory, Disproved}

-- The number of a status.
abbrev pub code : Status → ℕ
code Done = 0
code Nothing = 1
code LimitSpent = 2
code Usage = 3
code Refused = 4
code Fault = 5
code NoMemory = 6
code Disproved = 7

-- What is due at an end: after which calls, the newest first, which text is said, and with which status.
pub record Ending : Type 0 where
  pub calls : List Call
  pub text : List ℕ
  pub status : Status

-- The text that is due was said, and nothing else behind the calls, and the status is the one that is due. Or a call that
-- said a piece of it failed, and the status is that of a fault.
pub data Ends (due : Ending) (now : List Call) (status : Status) : Type 0 where
  said : now ≡ says due.text due.calls → status ≡ due.status → Ends due now status
  cut : IsCut Screen due.calls due.text now → status ≡ Fault → Ends due now status

-- A call of the desk failed, or memory was refused.
abbrev pub IsHindered : Status → Type 0
IsHindered status = (status ≡ Fault) ⊎ (status ≡ NoMemory)

-- A text was written into the file that was opened, and the file closed: its name has the text.
pub record Wrote (text : List ℕ) (old new : Outside) : Type 0 where
  pub calls : new.calls ≡ Close true ∷ puts text old.calls
  pub stored : Stored old.files (written (puts text old.calls)) new.files

-- A text was not written: a piece of it failed, and the file was dropped; or the closing failed.
pub data NotWritten (text : List ℕ) (old new : Outside) : Type 0 where
  dropped : (cut : List Call) → IsCut File old.calls text cut → new ≡ record { calls = Discard ∷ cut; files = old.files } → NotWritten text old new
  unclosed : new.calls ≡ Close false ∷ puts text old.calls → StoredOrSame old.files (written (puts text old.calls)) new.files → NotWritten text old new

-- How a run ends that writes a certificate into the file that was opened, and then says its report: the certificate stands
-- before a byte of the report is said, and where it does not stand that is said.
pub data Outputs (certificate report : List ℕ) (due : Status) (old new : Outside) (status : Status) : Type 0 where
  unwritten : (middle : Outside) → NotWritten certificate old middle → new.files ≡ middle.files → Ends (record { calls = middle.calls; text = write_fault_text; status = Fault }) new.calls status → Outputs certificate report due old new status
  wrote : (middle : Outside) → Wrote certificate old middle → new.files ≡ middle.files → Ends (record { calls = middle.calls; text = report; status = due }) new.calls status → Outputs certificate report due old new status
