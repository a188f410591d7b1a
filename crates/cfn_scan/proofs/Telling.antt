-- What is told of the tuple with a number, place by place.
use Rattle.std.proofs.Common.{◌≡◌, ℕ, suc, ◌+◌, ◌*◌, ◌/◌, ◌%◌, ◌<◌, true, false, ◌&&◌, List, [], ◌∷◌, length, sym, ap, subst, ◌∙◌, arith}
use Rattle.std.proofs.lemmas.Bool.{and_parts, and_from}
use Rattle.std.proofs.lemmas.Nat.{div-mul-add, mod_below}
use Rattle.std.specs.Prelude.{Option, Some, None, slice_index, drop, IsTrue}
use Rattle.cfn_model.specs.Network.{Fits, cells, dims}
use Rattle.cfn_model.specs.Sums.{is_live}
use Rattle.cfn_net.proofs.CallerLemmas.{cells-drop-pos, Inhabited-dims}
use Rattle.cfn_scan.specs.declared.scan.Scan.{Scan}
use Rattle.cfn_scan.specs.declared.scan.Spot.{Spot}
use Rattle.cfn_scan.specs.declared.scan.Extreme.{Extreme}
use Rattle.cfn_scan.specs.Scanning.{IsSpot, IsInner, IsMet, HasDigits, AsksNone, IsAt, may_stand, agrees, gone_on}
use Rattle.cfn_scan.proofs.Scans.{met_of, met_behind, spot_behind}
use Rattle.cfn_scan.proofs.Readings.{agrees_unasked}

module _ (scan : Scan) (x : ℕ) (scope : List ℕ) (spot : Spot) (number value : ℕ) where
  -- the value is the first digit of the tuple's number
  abbrev pub IsDigit : Type 0
  IsDigit = (number / cells (dims scan.sizes.now scope)) % slice_index scan.sizes.now x ≡ value

  first_is : (v : ℕ) (rest : List ℕ) → IsDigit → HasDigits (dims scan.sizes.now (x ∷ scope)) number (v ∷ rest) → value ≡ v
  first_is v rest digit digits = sym digit ∙ digits 0 (omega arith)

  behind_is : (v : ℕ) (rest : List ℕ) → HasDigits (dims scan.sizes.now (x ∷ scope)) number (v ∷ rest) → HasDigits (dims scan.sizes.now scope) number rest
  behind_is v rest digits p l = digits (suc p) (omega (arith, l))

  -- a tuple whose first value is dead is not met
  pub dead : IsDigit → is_live scan.live.now.history x value ≡ false → (rest : List ℕ) → Fits (dims scan.sizes.now (x ∷ scope)) rest → HasDigits (dims scan.sizes.now (x ∷ scope)) number rest → IsMet scan (x ∷ scope) spot rest → ⊥
  dead digit gone [] fits digits met = absurd fits
  dead digit gone (v ∷ rest) fits digits met =
      let stands = (met_behind scan x scope spot v rest met).1 in
      let alive = (and_parts (is_live scan.live.now.history x v) (agrees scan.one spot.place v && agrees scan.two spot.place v) stands).0 in
      let same = ap (is_live scan.live.now.history x) (first_is v rest digit digits) in
      absurd (differ (sym gone ∙ same ∙ alive))
    where
      differ : false ≡ true → ⊥
      differ e = cc

  at_here : (v : ℕ) (rest : List ℕ) (told : Option Extreme) → v < slice_index scan.sizes.now x → IsTrue (may_stand scan spot.place x v) → IsAt scan scope (gone_on scan spot (slice_index scan.sizes.now x) v) rest told → IsAt scan (x ∷ scope) spot (v ∷ rest) told
  at_here v rest None small stands none = λ met. none (met_behind scan x scope spot v rest met).2
  at_here v rest (Some found) small stands is = (met_of scan x scope spot v rest small stands is.0, is.1)

  -- what is told behind a live value is told before it
  pub told_here : (told : Option Extreme) → IsDigit → is_live scan.live.now.history x value ≡ true → AsksNone scan (x ∷ scope) spot → ((rest : List ℕ) → Fits (dims scan.sizes.now scope) rest → HasDigits (dims scan.sizes.now scope) number rest → IsAt scan scope (gone_on scan spot (slice_index scan.sizes.now x) value) rest told) →
      (rest : List ℕ) → Fits (dims scan.sizes.now (x ∷ scope)) rest → HasDigits (dims scan.sizes.now (x ∷ scope)) number rest → IsAt scan (x ∷ scope) spot rest told
  told_here told digit alive asks later [] fits digits = absurd fits
  told_here told digit alive asks later (v ∷ rest) fits digits =
      let same = first_is v rest digit digits in
      let none = asks 0 (omega arith) in
      let here : spot.place ≡ spot.place + 0 = omega arith in
      let one = agrees_unasked scan.one spot.place value (λ e. none.0 (sym here ∙ e)) in
      let two = agrees_unasked scan.two spot.place value (λ e. none.1 (sym here ∙ e)) in
      let stands = and_from (is_live scan.live.now.history x value) (agrees scan.one spot.place value && agrees scan.two spot.place value) alive (and_from (agrees scan.one spot.place value) (agrees scan.two spot.place value) one two) in
      subst (λ a. IsAt scan (x ∷ scope) spot (a ∷ rest) told) same
      (at_here value rest told (subst (λ a. a < slice_index scan.sizes.now x) (sym same) fits.0) stands (later rest fits.1 (behind_is v rest digits)))

-- how many tuples there are behind the first place
tuples_behind : (size rest tuples : ℕ) → 0 < size → tuples ≡ size * rest → tuples / size ≡ rest
tuples_behind size rest tuples some e =
    let turned : tuples ≡ rest * size + 0 = grind (arith, e) in
    ap (λ n. n / size) turned ∙ div-mul-add rest size 0 some

sized : (scan : Scan) (x : ℕ) (scope : List ℕ) (spot : Spot) → IsSpot scan (x ∷ scope) spot → 0 < slice_index scan.sizes.now x
sized scan x scope spot is = is.inhabited x (is.variables 0 (omega arith))

pub behind_tuples : (scan : Scan) (scope : List ℕ) (spot : Spot) (tuples : ℕ) → 0 < length scope → IsSpot scan scope spot → tuples ≡ cells (dims scan.sizes.now scope) → tuples / slice_index scan.sizes.now (slice_index scope 0) ≡ cells (dims scan.sizes.now (drop 1 scope))
behind_tuples scan [] spot tuples some is e = absurd (omega (arith, some))
behind_tuples scan (x ∷ scope) spot tuples some is e = tuples_behind (slice_index scan.sizes.now x) (cells (dims scan.sizes.now scope)) tuples (sized scan x scope spot is) e

pub some_behind : (scan : Scan) (scope : List ℕ) (spot : Spot) (tuples : ℕ) → 0 < length scope → IsSpot scan scope spot → tuples ≡ cells (dims scan.sizes.now scope) → 0 < tuples / slice_index scan.sizes.now (slice_index scope 0)
some_behind scan [] spot tuples some is e = absurd (omega (arith, some))
some_behind scan (x ∷ scope) spot tuples some is e =
    let rest : 0 < cells (dims scan.sizes.now scope) = cells-drop-pos (dims scan.sizes.now scope) 0 (Inhabited-dims scan.sizes.now scope is.inhabited (λ p l. is.variables (suc p) (omega (arith, l)))) in
    let same = behind_tuples scan (x ∷ scope) spot tuples some is e in omega (arith, rest, same)

-- the value that is looked at
abbrev pub digit_here : Scan → List ℕ → ℕ → ℕ → ℕ
digit_here scan scope tuples number = (number / (tuples / slice_index scan.sizes.now (slice_index scope 0))) % slice_index scan.sizes.now (slice_index scope 0)

-- where a scan stands behind it
abbrev pub spot_here : Scan → List ℕ → Spot → ℕ → ℕ → Spot
spot_here scan scope spot tuples number = gone_on scan spot (slice_index scan.sizes.now (slice_index scope 0)) (digit_here scan scope tuples number)

-- what a scope of some variables asks of its first one
pub inner_at : (scan : Scan) (scope : List ℕ) (spot : Spot) (tuples number : ℕ) → 0 < length scope → IsSpot scan scope spot → IsInner scan (slice_index scope 0) (digit_here scan scope tuples number) spot
inner_at scan [] spot tuples number some is = absurd (omega (arith, some))
inner_at scan (x ∷ scope) spot tuples number some is = record {
  scope = scope;
  spot_is = is;
  value_is = mod_below (number / (tuples / slice_index scan.sizes.now x)) (slice_index scan.sizes.now x) (sized scan x scope spot is);
}

pub spot_at : (scan : Scan) (scope : List ℕ) (spot : Spot) (tuples number : ℕ) → 0 < length scope → IsSpot scan scope spot → IsSpot scan (drop 1 scope) (spot_here scan scope spot tuples number)
spot_at scan [] spot tuples number some is = absurd (omega (arith, some))
spot_at scan (x ∷ scope) spot tuples number some is = spot_behind scan x scope spot _ is (inner_at scan (x ∷ scope) spot tuples number some is).value_is

pub asks_behind : (scan : Scan) (scope : List ℕ) (spot : Spot) (tuples number : ℕ) → 0 < length scope → AsksNone scan scope spot → AsksNone scan (drop 1 scope) (spot_here scan scope spot tuples number)
asks_behind scan [] spot tuples number some asks p l = absurd (omega (arith, some))
asks_behind scan (x ∷ scope) spot tuples number some asks p l =
    let none = asks (suc p) (omega (arith, l)) in
    let next : spot.place + suc p ≡ spot.place + 1 + p = omega arith in
    (λ e. none.0 (next ∙ e), λ e. none.1 (next ∙ e))

pub dead_at : (scan : Scan) (scope : List ℕ) (spot : Spot) (tuples number : ℕ) → 0 < length scope → IsSpot scan scope spot → tuples ≡ cells (dims scan.sizes.now scope) → is_live scan.live.now.history (slice_index scope 0) (digit_here scan scope tuples number) ≡ false →
    (rest : List ℕ) → Fits (dims scan.sizes.now scope) rest → HasDigits (dims scan.sizes.now scope) number rest → IsMet scan scope spot rest → ⊥
dead_at scan [] spot tuples number some is e gone = absurd (omega (arith, some))
dead_at scan (x ∷ scope) spot tuples number some is e gone =
    dead scan x scope spot number (digit_here scan (x ∷ scope) tuples number) (ap (λ n. (number / n) % slice_index scan.sizes.now x) (sym (behind_tuples scan (x ∷ scope) spot tuples some is e))) gone

pub told_at : (scan : Scan) (scope : List ℕ) (spot : Spot) (tuples number : ℕ) (told : Option Extreme) → 0 < length scope → IsSpot scan scope spot → tuples ≡ cells (dims scan.sizes.now scope) → AsksNone scan scope spot → is_live scan.live.now.history (slice_index scope 0) (digit_here scan scope tuples number) ≡ true →
    ((rest : List ℕ) → Fits (dims scan.sizes.now (drop 1 scope)) rest → HasDigits (dims scan.sizes.now (drop 1 scope)) number rest → IsAt scan (drop 1 scope) (spot_here scan scope spot tuples number) rest told) →
    (rest : List ℕ) → Fits (dims scan.sizes.now scope) rest → HasDigits (dims scan.sizes.now scope) number rest → IsAt scan scope spot rest told
told_at scan [] spot tuples number told some is e asks alive later = absurd (omega (arith, some))
told_at scan (x ∷ scope) spot tuples number told some is e asks alive later =
    told_here scan x scope spot number (digit_here scan (x ∷ scope) tuples number) told (ap (λ n. (number / n) % slice_index scan.sizes.now x) (sym (behind_tuples scan (x ∷ scope) spot tuples some is e))) alive asks later
