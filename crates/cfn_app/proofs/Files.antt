-- What a file holds is one, and so is what it reads as.
use Rattle.std.proofs.Common.{◌≡◌, ℕ, zero, suc, ◌<◌, List, [], ◌∷◌, refl, sym, ap, ◌∙◌, arith}
use Rattle.std.specs.Prelude.{Option, Some, None, IfSome, IsSomeAnd, Result, Ok, Err, length, slice_index}
use Rattle.cfn_wcnf.specs.declared.fault.Unread.{Unread as FirstUnread}
use Rattle.cfn_wcnf.specs.declared.fault.Unread.TheVariants.{Header, Word}
use Rattle.cfn_wcnf.specs.Reading as wcnf
use Rattle.cfn_cli.specs.declared.format.Format.{Format}
use Rattle.cfn_cli.specs.declared.format.Format.TheVariants.{Wcsp, Wcnf}
use Rattle.cfn_model.specs.Network.{Network, Fits}
use Rattle.cfn_model.specs.Reading.{reading}
use Rattle.cfn_net.specs.Fitting.{IsFirstMisfit}
use Rattle.cfn_desk.specs.Outside.{Files, Outside, HasFile}
use Rattle.cfn_app.specs.Loading.{ReadsAs, RefusesAs, Tells}

same_some : (bytes other : List ℕ) → Some bytes ≡ Some other → bytes ≡ other
same_some bytes other e = cc

told_same : (files : Option Files) (name bytes other : List ℕ) → IsSomeAnd files (λ f. f name ≡ Some other) → IfSome files (λ f. f name ≡ Some bytes) → bytes ≡ other
told_same None name bytes other told has = absurd told
told_same (Some f) name bytes other told has = same_some bytes other (sym has ∙ told)

-- a desk that tells a file tells what it is loaded as
pub same_bytes : (old : Outside) (name bytes other : List ℕ) → Tells old name other → HasFile old name bytes → bytes ≡ other
same_bytes old name bytes other told has = told_same old.files name bytes other told has

ok_or_err : {A E : Type 0} (r : Result A E) (x : A) (e : E) → r ≡ Ok x → r ≡ Err e → ⊥
ok_or_err r x e ok err = cc

ok_one : {A E : Type 0} (r : Result A E) (x y : A) → r ≡ Ok x → r ≡ Ok y → x ≡ y
ok_one r x y p q = cc

-- bytes that read as a network are not refused, and read as no other one
pub read_refused : (format : Format) (bytes other : List ℕ) (P : Network) (refusal : FirstUnread) → bytes ≡ other → ReadsAs format bytes P → RefusesAs format other refusal → ⊥
read_refused Wcsp bytes other P (Header ordinal) same ok err = err
read_refused Wcsp bytes other P (Word refusal) same ok err = ok_or_err (reading bytes) P refusal ok (ap reading same ∙ err)
read_refused Wcnf bytes other P refusal same ok err = ok_or_err (wcnf.reading bytes) P refusal ok (ap wcnf.reading same ∙ err)

pub read_one : (format : Format) (bytes other : List ℕ) (P Q : Network) → bytes ≡ other → ReadsAs format bytes P → ReadsAs format other Q → P ≡ Q
read_one Wcsp bytes other P Q same p q = ok_one (reading bytes) P Q p (ap reading same ∙ q)
read_one Wcnf bytes other P Q same p q = ok_one (wcnf.reading bytes) P Q p (ap wcnf.reading same ∙ q)

pub fits_length : (sizes values : List ℕ) → Fits sizes values → length values ≡ length sizes
fits_length [] [] h = refl
fits_length [] (v ∷ vs) h = absurd h
fits_length (s ∷ ss) [] h = absurd h
fits_length (s ∷ ss) (v ∷ vs) h = ap suc (fits_length ss vs h.1)

fits_at : (sizes values : List ℕ) (i : ℕ) → Fits sizes values → i < length sizes → slice_index values i < slice_index sizes i
fits_at [] values i h l = absurd (omega (arith, l))
fits_at (s ∷ ss) [] i h l = absurd h
fits_at (s ∷ ss) (v ∷ vs) zero h l = h.0
fits_at (s ∷ ss) (v ∷ vs) (suc i) h l = fits_at ss vs i h.1 (omega (arith, l))

pub misfit_fits : (sizes values : List ℕ) (x : ℕ) → IsFirstMisfit sizes values x → Fits sizes values → ⊥
misfit_fits sizes values x misfit fits = let below = fits_at sizes values x fits misfit.variable in omega (arith, below, misfit.out)
