-- A piece comes behind the bytes of the file being written, in the storage and in what the calls tell.
use Rattle.std.proofs.Common.{◌≡◌, ℕ, List, Option, None, Some, Result, Ok, Err, OnOk, IsSome, refl, sym, subst, rules}
use Rattle.cfn_desk.specs.FileDesk.{Agrees}
use Rattle.cfn_desk.specs.Outside.{Call, Files, Written, Idle, Writing, Spoiled, IsWritten, after_put, puts, written}
use Rattle.cfn_desk.specs.Storage.{Told, grown}
use Rattle.cfn_desk.proofs.CallerLemmas.{written-puts}
use Rattle.cfn_desk.proofs.file_desk.FileDeskDesk.put.Goals as goal

-- a whole piece
agrees_whole : (was : Written) (piece : List ℕ) (calls : List Call) (files : Option Files) (file now : Told) → written calls ≡ was → IsWritten was → Agrees was files file → now ≡ grown piece file → Agrees (written (puts piece calls)) files now
agrees_whole Idle piece calls files file now w is a e = absurd is
agrees_whole (Writing name bytes) piece calls None file now w is a e = rw (written-puts piece calls name bytes w) tt
agrees_whole (Writing name bytes) piece calls (Some told) file now w is a e =
    rw (written-puts piece calls name bytes w, e, a) refl
agrees_whole Spoiled piece calls files file now w is a e = absurd is

-- a piece that failed
agrees_cut : (was : Written) (files : Option Files) (file now : Told) → IsWritten was → Agrees was files file → (IsSome file → IsSome now) → Agrees Spoiled files now
agrees_cut Idle files file now is a still = absurd is
agrees_cut (Writing name bytes) None file now is a still = tt
agrees_cut (Writing name bytes) (Some told) file now is a still = still (subst IsSome (sym a) refl)
agrees_cut Spoiled files file now is a still = absurd is

-- either of them
agrees_put : {T E : Type 0} (answer : Result T E) (piece : List ℕ) (calls : List Call) (files : Option Files) (file now : Told) → IsWritten (written calls) → Agrees (written calls) files file → OnOk answer (now ≡ grown piece file) → (IsSome file → IsSome now) → Agrees (written (after_put piece answer calls)) files now
agrees_put (Ok x) piece calls files file now is a e still = agrees_whole (written calls) piece calls files file now refl is a e
agrees_put (Err x) piece calls files file now is a e still = agrees_cut (written calls) files file now is a still

pub invariant_of-self : goal.invariant_of-self
invariant_of-self g c =
    let is : IsWritten (written c.self.inside.trace.calls) = search rules in
    rw (c.put.ensures, c.put-answer.ensures.same_files) (agrees_put c.put-answer.result c.args.bytes.now c.self.inside.trace.calls _ _ _ is c.self.invariant c.put-answer.ensures.put c.put-answer.ensures.still)
