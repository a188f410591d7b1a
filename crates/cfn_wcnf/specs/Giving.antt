-- What a function of the reader gives, against what reading defines.
use Rattle.std.specs.Prelude.{◌≡◌, Result, Ok, Err}
use Rattle.cfn_wcsp.specs.declared.fault.ReadFault.{ReadFault as WordFault}
use Rattle.cfn_wcsp.specs.declared.fault.ReadFault.TheVariants as words
use Rattle.cfn_wcnf.specs.declared.fault.Unread.{Unread as FirstUnread}
use Rattle.cfn_wcnf.specs.declared.fault.Unread.TheVariants.{Word}
use Rattle.cfn_wcnf.specs.declared.fault.ReadFault.{ReadFault}
use Rattle.cfn_wcnf.specs.declared.fault.ReadFault.TheVariants.{Unread, Memory}

-- The fault that a function returned is what reading gives, unless memory was refused.
abbrev pub Fails : {Y : Type 0} → ReadFault → Result Y FirstUnread → Type 0
Fails (Unread unread) read = read ≡ Err unread
Fails Memory read = Unit {0}

-- What a function returned, seen by view, is what reading gives, unless memory was refused.
abbrev pub Gives : {X Y : Type 0} → (X → Y) → Result X ReadFault → Result Y FirstUnread → Type 0
Gives view (Ok x) read = read ≡ Ok (view x)
Gives view (Err e) read = Fails e read

-- A fault of a word, as one of the file.
abbrev pub of_words : WordFault → ReadFault
of_words (words.Refused refusal) = Unread (Word refusal)
of_words words.Memory = Memory
