-- What a piece that was put or said adds to what the calls tell.
use Rattle.std.proofs.Common.{◌≡◌, ℕ, List, [], ◌∷◌, ◌++◌, refl, sym, ◌∙◌, ap, append_assoc}
use Rattle.std.proofs.lemmas.List.{append-nil}
use Rattle.cfn_desk.specs.Outside.{Call, Put, Say, Idle, Writing, Spoiled, Written, IsWritten, IsWriting, written, with_byte, said, faults, puts, says}

-- a piece comes behind the bytes of the file being written
pub written-puts : (bytes : List ℕ) (calls : List Call) (name front : List ℕ) → written calls ≡ Writing name front → written (puts bytes calls) ≡ Writing name (front ++ bytes)
written-puts [] calls name front h = h ∙ ap (Writing name) (sym (append-nil front))
written-puts (byte ∷ bytes) calls name front h =
    written-puts bytes (Put byte ∷ calls) name (front ++ (byte ∷ [])) (ap (with_byte byte) h) ∙ ap (Writing name) (append_assoc front (byte ∷ []) bytes)

pub said-puts : (bytes : List ℕ) (calls : List Call) → said (puts bytes calls) ≡ said calls
said-puts [] calls = refl
said-puts (byte ∷ bytes) calls = said-puts bytes (Put byte ∷ calls)

pub faults-puts : (bytes : List ℕ) (calls : List Call) → faults (puts bytes calls) ≡ faults calls
faults-puts [] calls = refl
faults-puts (byte ∷ bytes) calls = faults-puts bytes (Put byte ∷ calls)

-- two pieces put are their bytes in a row
pub puts-append : (front back : List ℕ) (calls : List Call) → puts (front ++ back) calls ≡ puts back (puts front calls)
puts-append [] back calls = refl
puts-append (byte ∷ front) back calls = puts-append front back (Put byte ∷ calls)

pub written-says : (bytes : List ℕ) (calls : List Call) → written (says bytes calls) ≡ written calls
written-says [] calls = refl
written-says (byte ∷ bytes) calls = written-says bytes (Say byte ∷ calls)

-- a piece comes behind the bytes said
pub said-says : (bytes : List ℕ) (calls : List Call) → said (says bytes calls) ≡ said calls ++ bytes
said-says [] calls = sym (append-nil (said calls))
said-says (byte ∷ bytes) calls =
    said-says bytes (Say byte ∷ calls) ∙ append_assoc (said calls) (byte ∷ []) bytes

pub faults-says : (bytes : List ℕ) (calls : List Call) → faults (says bytes calls) ≡ faults calls
faults-says [] calls = refl
faults-says (byte ∷ bytes) calls = faults-says bytes (Say byte ∷ calls)

pub says-append : (front back : List ℕ) (calls : List Call) → says (front ++ back) calls ≡ says back (says front calls)
says-append [] back calls = refl
says-append (byte ∷ front) back calls = says-append front back (Say byte ∷ calls)

-- after a piece was put the file is still being written
IsWritten-with_byte : (byte : ℕ) (file : Written) → IsWritten file → IsWritten (with_byte byte file)
IsWritten-with_byte byte Idle h = h
IsWritten-with_byte byte (Writing name bytes) h = tt
IsWritten-with_byte byte Spoiled h = h

pub IsWriting-puts : (bytes : List ℕ) (calls : List Call) → IsWriting calls → IsWriting (puts bytes calls)
IsWriting-puts [] calls h = h
IsWriting-puts (byte ∷ bytes) calls h =
    IsWriting-puts bytes (Put byte ∷ calls) (IsWritten-with_byte byte (written calls) h)
