-- A walk over the places of a tuple from the last to the first, with the number of what stands before the place.
use Rattle.std.proofs.Common.{◌≡◌, ℕ, zero, suc, ◌+◌, ◌-◌, ◌*◌, ◌/◌, ◌%◌, ◌<◌, ◌≤◌, ◌^◌, List, [], ◌∷◌, length, get_or, take, drop, refl, sym, subst, ap, ◌∙◌, arith}
use Rattle.std.proofs.lemmas.Int.{ints}
use Rattle.std.proofs.lemmas.Nat.{div-mul-add, mod-mul-add, mod_below}
use Rattle.std.proofs.lemmas.List.{take_all, drop_all, drop_more}
use Rattle.std.specs.Prelude.{ℤ, pos, neg_ℤ, ◌+ℤ◌, ◌≤ℤ◌}
use Rattle.cfn_model.specs.Network.{Fits, cell, cell_from, dims}
use Rattle.cfn_net.proofs.CallerLemmas.{Fits-length, Fits-at, length-dims}
use Rattle.cfn_tables.specs.Slots.{slots}
use Rattle.cfn_check.specs.Along.{along}
use Rattle.cfn_check.specs.Along.{IsSlight}
use Rattle.cfn_tables.proofs.CallerLemmas.{slots-take_more, slot_below}

cell_from-take_more : (n : ℕ) (sizes values : List ℕ) (p : ℕ) → p < length sizes → length values ≡ length sizes → cell_from n (take (suc p) sizes) (take (suc p) values) ≡ cell_from n (take p sizes) (take p values) * get_or sizes p 0 + get_or values p 0
cell_from-take_more n [] values p l same = absurd (omega arith)
cell_from-take_more n (s ∷ sizes) [] p l same = absurd (omega arith)
cell_from-take_more n (s ∷ sizes) (v ∷ values) zero l same = refl
cell_from-take_more n (s ∷ sizes) (v ∷ values) (suc p) l same = cell_from-take_more (n * s + v) sizes values p (omega arith) (omega arith)

-- the places before p have the number and the slots, and what was shifted along the places from p on is taken off
pub record TakenOff (s : ℕ → ℤ) (sizes scope : List ℕ) (first : ℤ) (c front slot p : ℕ) (rest : ℤ) : Type 0 where
  pub place : p ≤ length scope
  pub number : (tuple : List ℕ) → Fits (dims sizes scope) tuple → cell (dims sizes scope) tuple ≡ c → front ≡ cell (take p (dims sizes scope)) (take p tuple)
  pub before : slot ≡ slots (take p (dims sizes scope))
  pub taken : (tuple : List ℕ) → Fits (dims sizes scope) tuple → cell (dims sizes scope) tuple ≡ c → rest ≡ (first +ℤ neg_ℤ (along s slot (drop p (dims sizes scope)) (drop p tuple)))
  pub low : neg_ℤ (pos (2 ^ 104 * (length scope - p))) ≤ℤ rest
  pub high : rest ≤ℤ pos (2 ^ 63 + 2 ^ 104 * (length scope - p))

pub nothing_off : (s : ℕ → ℤ) (sizes scope : List ℕ) (first : ℤ) (c slot p : ℕ) → p ≡ length scope → slot ≡ slots (dims sizes scope) → pos 0 ≤ℤ first → first ≤ℤ pos (2 ^ 63) → TakenOff s sizes scope first c c slot p first
nothing_off s sizes scope first c slot p all is low high = record {
  place = omega (arith, all);
  number = λ tuple fits e. sym e ∙ sym (ap (λ xs. cell xs tuple) (take_all p (dims sizes scope) (omega (arith, length-dims sizes scope)))) ∙ ap (cell (take p (dims sizes scope))) (sym (take_all p tuple (omega (arith, length-dims sizes scope, Fits-length (dims sizes scope) tuple fits))));
  before = is ∙ ap slots (sym (take_all p (dims sizes scope) (omega (arith, length-dims sizes scope))));
  taken = λ tuple fits e. (let none = ap (λ xs. along s slot xs (drop p tuple)) (drop_all p (dims sizes scope) (omega (arith, length-dims sizes scope))) in omega (arith, ints, none));
  low = omega (arith, ints, low);
  high = omega (arith, ints, high);
}

-- the value at the place before p, and the number of what stands before that
pub record Digit (sizes scope tuple : List ℕ) (front p : ℕ) : Type 0 where
  pub value : front % get_or (dims sizes scope) p 0 ≡ get_or tuple p 0
  pub rest : front / get_or (dims sizes scope) p 0 ≡ cell (take p (dims sizes scope)) (take p tuple)

digit : (sizes scope tuple : List ℕ) (front p : ℕ) → p < length scope → Fits (dims sizes scope) tuple → front ≡ cell (take (suc p) (dims sizes scope)) (take (suc p) tuple) → Digit sizes scope tuple front p
digit sizes scope tuple front p l fits number =
    let ds = dims sizes scope in
    let m : p < length ds = omega (arith, length-dims sizes scope) in
    let e = number ∙ cell_from-take_more 0 ds tuple p m (Fits-length ds tuple fits) in
    let below = Fits-at ds tuple p fits m in
    record {
      value = ap (λ n. n % get_or ds p 0) e ∙ mod-mul-add (cell (take p ds) (take p tuple)) (get_or ds p 0) (get_or tuple p 0) below;
      rest = ap (λ n. n / get_or ds p 0) e ∙ div-mul-add (cell (take p ds) (take p tuple)) (get_or ds p 0) (get_or tuple p 0) below;
    }

-- the slot of a value at the place before p
pub record SlotBefore (sizes scope : List ℕ) (front slot size : ℕ) : Type 0 where
  pub fits_in : size ≤ slot
  pub below : slot - size + front % size < slots (dims sizes scope)

pub slot_before : (s : ℕ → ℤ) (sizes scope : List ℕ) (first : ℤ) (c front slot p size : ℕ) (rest : ℤ) → p < length scope → size ≡ get_or (dims sizes scope) p 0 → 0 < size → TakenOff s sizes scope first c front slot (suc p) rest → SlotBefore sizes scope front slot size
slot_before s sizes scope first c front slot p size rest l is some t =
    let ds = dims sizes scope in
    let m : p < length ds = omega (arith, length-dims sizes scope) in
    let more = slots-take_more ds p m in
    let digit = mod_below front size some in
    let below = slot_below ds p (front % size) m (omega (arith, digit, is)) in
    record { fits_in = omega (arith, more, t.before, is); below = omega (arith, more, t.before, is, below) }

-- one place more is taken off
pub one_off : (s : ℕ → ℤ) (sizes scope : List ℕ) (first : ℤ) (c front slot p size : ℕ) (rest rest' : ℤ) → p < length scope → size ≡ get_or (dims sizes scope) p 0 → size ≤ slot → IsSlight (s (slot - size + front % size)) → rest' ≡ (rest +ℤ neg_ℤ (s (slot - size + front % size))) → TakenOff s sizes scope first c front slot (suc p) rest → TakenOff s sizes scope first c (front / size) (slot - size) p rest'
one_off s sizes scope first c front slot p size rest rest' l is fits_in slight e t =
    let ds = dims sizes scope in
    let m : p < length ds = omega (arith, length-dims sizes scope) in
    record {
      place = omega arith;
      number = λ tuple fits same. ap (λ n. front / n) is ∙ (digit sizes scope tuple front p l fits (t.number tuple fits same)).rest;
      before = omega (arith, slots-take_more ds p m, t.before, is);
      taken = λ tuple fits same.
          (let d = digit sizes scope tuple front p l fits (t.number tuple fits same) in
          let k : p < length tuple = omega (arith, length-dims sizes scope, Fits-length ds tuple fits) in
          let value : front % size ≡ get_or tuple p 0 = ap (λ n. front % n) is ∙ d.value in
          let old : rest ≡ (first +ℤ neg_ℤ (along s slot (drop (p + 1) ds) (drop (p + 1) tuple))) = (let n : suc p ≡ p + 1 = omega arith in subst (λ j. rest ≡ (first +ℤ neg_ℤ (along s slot (drop j ds) (drop j tuple)))) n (t.taken tuple fits same)) in
          let whole = ap (λ xs. along s (slot - size) xs (drop p tuple)) (drop_more ds p 0 m) ∙ ap (along s (slot - size) (get_or ds p 0 ∷ drop (p + 1) ds)) (drop_more tuple p 0 k) in
          let here = ap (λ v. s (slot - size + v)) value in
          let next : slot - size + get_or ds p 0 ≡ slot = omega (arith, is) in
          let tail = ap (λ n. along s n (drop (p + 1) ds) (drop (p + 1) tuple)) next in
          omega (arith, ints, e, old, whole, here, tail));
      low = omega (arith, ints, e, t.low, slight.low, slight.high);
      high = omega (arith, ints, e, t.high, slight.low, slight.high);
    }
