-- What a function of the reader gives, against what reading defines.
use Rattle.std.specs.Prelude.{◌≡◌, ◌+◌, Result, Ok, Err}
use Rattle.cfn_model.specs.declared.reading.Refusal.{Refusal}
use Rattle.cfn_model.specs.Reading.{At}
use Rattle.cfn_words.specs.Splitting.{Place, left}
use Rattle.cfn_wcsp.specs.declared.fault.ReadFault.{ReadFault}
use Rattle.cfn_wcsp.specs.declared.fault.ReadFault.TheVariants.{Refused, Memory}

-- The words that are left of a text, and the ordinal of the next one.
abbrev pub state : Place → At
state w = record { words = left w; next = w.count + 1 }

-- The fault that a function returned is the refusal that reading gives, unless memory was refused.
abbrev pub Fails : {Y : Type 0} → ReadFault → Result Y Refusal → Type 0
Fails (Refused refusal) read = read ≡ Err refusal
Fails Memory read = Unit {0}

-- What a function returned, seen by view, is what reading gives, unless memory was refused.
abbrev pub Gives : {X Y : Type 0} → (X → Y) → Result X ReadFault → Result Y Refusal → Type 0
Gives view (Ok x) read = read ≡ Ok (view x)
Gives view (Err e) read = Fails e read
