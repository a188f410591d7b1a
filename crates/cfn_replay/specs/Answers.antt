-- What is answered of a record's text.
use Rattle.std.specs.Prelude.{ℕ, List}
use Rattle.cfn_model.specs.Network.{Network}
use Rattle.cfn_record.specs.Fault.{Fault}
use Rattle.cfn_replay.specs.declared.answer.Replay.{Replay}
use Rattle.cfn_replay.specs.declared.answer.Replay.TheVariants.{Certificate, Refused, Memory}
use Rattle.cfn_replay.specs.Replayed.{IsReplayed}

-- These are the bytes of the certificate that a good record comes to; or the text fails at that line in that way. Want of memory is the one free answer.
abbrev pub IsAnswer : Network → List ℕ → Replay → Type 0
IsAnswer P text (Certificate bytes) = IsReplayed P text bytes.items
IsAnswer P text (Refused kind line) = Fault P text line kind
IsAnswer P text Memory = Unit {0}
