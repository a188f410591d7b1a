-- The calls that a desk keeps, for contracts alone.
use Rattle.std.specs.Prelude.{ℕ, true, false, List, ◌∷◌}
use Rattle.cfn_desk.specs.Outside.{Call, Load, Open, FailedPut, Close, Discard, FailedSay, Bytes, Unreadable, NoMemory, puts, says}
use Rattle.cfn_desk.specs.declared.trace.Kind.{Kind}
use Rattle.cfn_desk.specs.declared.trace.Kind.TheVariants as kind

-- the calls after one more of that kind, with its name and its bytes
abbrev pub noted : Kind → List ℕ → List ℕ → List Call → List Call
noted kind.Loaded name bytes calls = Load name (Bytes bytes) ∷ calls
noted kind.Unreadable name bytes calls = Load name Unreadable ∷ calls
noted kind.NoMemory name bytes calls = Load name NoMemory ∷ calls
noted kind.Opened name bytes calls = Open name true ∷ calls
noted kind.NotOpened name bytes calls = Open name false ∷ calls
noted kind.Put name bytes calls = puts bytes calls
noted kind.NotPut name bytes calls = FailedPut bytes ∷ calls
noted kind.Closed name bytes calls = Close true ∷ calls
noted kind.NotClosed name bytes calls = Close false ∷ calls
noted kind.Discarded name bytes calls = Discard ∷ calls
noted kind.Said name bytes calls = says bytes calls
noted kind.NotSaid name bytes calls = FailedSay bytes ∷ calls
