-- From the name of a file to a network.
use Rattle.std.specs.Prelude.{◌≡◌, List, ◌∷◌, Some, IsSomeAnd, ℕ, Result}
use Rattle.cfn_wcnf.specs.declared.fault.Unread.{Unread as FirstUnread}
use Rattle.cfn_wcnf.specs.declared.fault.Unread.TheVariants.{Header, Word}
use Rattle.cfn_model.specs.Network.{Network}
use Rattle.cfn_model.specs.Reading.{Reads, Refuses, reading}
use Rattle.cfn_model.specs.Text.{refusal_text, read_fault_text, memory_fault_text}
use Rattle.cfn_desk.specs.Outside.{Outside, Call, Load, Bytes, Unreadable, NoMemory, HasFile}
use Rattle.cfn_report.specs.Texts.{header_text}
use Rattle.cfn_wcnf.specs.Reading as wcnf
use Rattle.cfn_wcnf.specs.declared.fault.ReadFault.{ReadFault}
use Rattle.cfn_wcnf.specs.declared.fault.ReadFault.TheVariants as faults
use Rattle.cfn_cli.specs.declared.format.Format.{Format}
use Rattle.cfn_cli.specs.declared.format.Format.TheVariants.{Wcsp, Wcnf}
use Rattle.cfn_app.specs.declared.status.Status.{Status}
use Rattle.cfn_app.specs.declared.status.Status.TheVariants as statuses
use Rattle.cfn_app.specs.Endings.{Ends}

-- The bytes are that network in the format, or are refused so. A wcsp file has no header.
abbrev pub ReadsAs : Format → List ℕ → Network → Type 0
ReadsAs Wcsp bytes P = Reads bytes P
ReadsAs Wcnf bytes P = wcnf.Reads bytes P

abbrev pub RefusesAs : Format → List ℕ → FirstUnread → Type 0
RefusesAs Wcsp bytes (Header ordinal) = ⊥
RefusesAs Wcsp bytes (Word refusal) = Refuses bytes refusal
RefusesAs Wcnf bytes first = wcnf.Refuses bytes first

-- What the bytes read as in the format.
abbrev pub read_as : Format → List ℕ → Result Network FirstUnread
read_as Wcsp bytes = wcnf.in_words (reading bytes)
read_as Wcnf bytes = wcnf.reading bytes

-- What is said of a file that is refused so.
abbrev pub unread_text : FirstUnread → List ℕ
unread_text (Header ordinal) = header_text ordinal
unread_text (Word refusal) = refusal_text refusal

-- The calls after the file of that name was loaded, and had these bytes.
abbrev pub loaded : List ℕ → List ℕ → List Call → List Call
loaded name bytes calls = Load name (Bytes bytes) ∷ calls

-- How a run ends, after these calls, that could not load the file of that name.
pub data Unloaded (name : List ℕ) (calls now : List Call) (status : Status) : Type 0 where
  unread : Ends (record { calls = Load name Unreadable ∷ calls; text = read_fault_text; status = statuses.Fault }) now status → Unloaded name calls now status
  no_memory : Ends (record { calls = Load name NoMemory ∷ calls; text = memory_fault_text; status = statuses.NoMemory }) now status → Unloaded name calls now status

-- How a run ends, after these calls, whose bytes were not read as a network.
pub data Unread (format : Format) (bytes : List ℕ) (calls now : List Call) (status : Status) : Type 0 where
  refused : (refusal : FirstUnread) → RefusesAs format bytes refusal → Ends (record { calls = calls; text = unread_text refusal; status = statuses.Refused }) now status → Unread format bytes calls now status
  no_memory : Ends (record { calls = calls; text = memory_fault_text; status = statuses.NoMemory }) now status → Unread format bytes calls now status

-- A file and a certificate were loaded, and the file read as a network.
pub record Paired (format : Format) (file certificate : List ℕ) (old : Outside) (P : Network) (text : List ℕ) (new : Outside) : Type 0 where
  pub bytes : List ℕ
  pub has : HasFile old file bytes
  pub certified : HasFile old certificate text
  pub reads : ReadsAs format bytes P
  pub calls : new.calls ≡ loaded certificate text (loaded file bytes old.calls)
  pub files : new.files ≡ old.files

-- How a run ends where they were not: the file is not loaded, or the certificate is not, or the file is not read.
pub data Unpaired (format : Format) (file certificate : List ℕ) (old : Outside) (now : List Call) (status : Status) : Type 0 where
  unloaded : Unloaded file old.calls now status → Unpaired format file certificate old now status
  uncertified : (bytes : List ℕ) → HasFile old file bytes → Unloaded certificate (loaded file bytes old.calls) now status → Unpaired format file certificate old now status
  illegible : (bytes text : List ℕ) → HasFile old file bytes → HasFile old certificate text → Unread format bytes (loaded certificate text (loaded file bytes old.calls)) now status → Unpaired format file certificate old now status

-- What is said of bytes that the reader does not take.
abbrev pub SaysUnread : ReadFault → List Call → List Call → Status → Type 0
SaysUnread (faults.Unread first) calls now status = Ends (record { calls = calls; text = unread_text first; status = statuses.Refused }) now status
SaysUnread faults.Memory calls now status = Ends (record { calls = calls; text = memory_fault_text; status = statuses.NoMemory }) now status

-- The desk tells its files, and that the file of this name has these bytes.
abbrev pub Tells : Outside → List ℕ → List ℕ → Type 0
Tells old name bytes = IsSomeAnd old.files (λ files. files name ≡ Some bytes)
