-- The verdict on the text of a certificate is one on the certificate.
use Rattle.std.proofs.Common.{◌≡◌, ◌↔◌, ℕ, List, [], ◌∷◌, ◌++◌, refl, sym, ap, ◌∙◌, subst, append_assoc, append-nil, true, false}
use Rattle.std.specs.Prelude.{IsTrue, Bool, Result, Ok, Err, is_ok, is_err, OnOk}
use Rattle.cfn_model.specs.Network.{Network}
use Rattle.cfn_model.specs.Certificate.{Certificate, Good}
use Rattle.cfn_model.specs.Text.{IsSpelled, spelling}
use Rattle.cfn_fault.proofs.CallerLemmas.{one_certificate}
use Rattle.cfn_check.specs.Checking.{IsChecked, IsExact, cost_of}
use Rattle.cfn_check.specs.declared.answer.Check.{Check}
use Rattle.cfn_check.specs.declared.answer.Check.TheVariants.{Verified, Refused}
use Rattle.cfn_desk.specs.Outside.{Call, Open, Put, puts, written, Writing, with_byte}
use Rattle.cfn_desk.specs.MemoryDesk.{bytes_of}
use Rattle.cfn_replay.specs.Judging.{is_verified}

pub verdict : (P : Network) (c : Certificate) (bytes : List ℕ) (answer : Check) → IsSpelled c → bytes ≡ spelling c → IsChecked P bytes answer → IsExact P bytes answer → IsTrue (is_verified answer) ↔ Good P c
verdict P c bytes (Verified lower best) spelled is checked exact =
    (λ yes. subst (Good P) (one_certificate bytes checked.certificate c checked.spells (record { spelled = spelled; exact = is })) checked.good, λ good. refl)
verdict P c bytes (Refused kind line) spelled is checked exact =
    (λ yes. absurd (let no : false ≡ true = yes in cc), λ good. absurd (let e : Refused kind line ≡ Verified c.lower (cost_of c.best) = exact.good c (record { spelled = spelled; exact = is }) good in cc))

-- the bytes that were put into a file
put_on : (text : List ℕ) (calls : List Call) (name bytes : List ℕ) → written calls ≡ Writing name bytes → written (puts text calls) ≡ Writing name (bytes ++ text)
put_on [] calls name bytes is = is ∙ ap (λ b. Writing name b) (sym (append-nil bytes))
put_on (byte ∷ text) calls name bytes is = put_on text (Put byte ∷ calls) name (bytes ++ byte ∷ []) (ap (with_byte byte) is) ∙ ap (λ b. Writing name b) (append_assoc bytes (byte ∷ []) text)

pub all_put : (text : List ℕ) (calls now : List Call) (name : List ℕ) → written calls ≡ Writing name [] → now ≡ puts text calls → bytes_of (written now) ≡ text
all_put text calls now name is put = ap (λ c. bytes_of (written c)) put ∙ ap bytes_of (put_on text calls name [] is)

-- a call that is no error
pub ok_of : {T E : Type 0} (r : Result T E) → is_err r ≡ false → is_ok r ≡ true
ok_of (Ok x) e = refl
ok_of (Err x) e = absurd cc

pub on_ok : {T E : Type 0} (r : Result T E) (X : Type 0) → is_err r ≡ false → OnOk r X → X
on_ok (Ok x) X e is = is
on_ok (Err x) X e is = absurd cc

pub file_text : (text name : List ℕ) (old calls now : List Call) (b : Bool) → calls ≡ Open name b ∷ old → b ≡ true → now ≡ puts text calls → bytes_of (written now) ≡ text
file_text text name old calls now b opened well put = all_put text calls now name (ap written opened ∙ ap (λ x. written (Open name x ∷ old)) well) put
