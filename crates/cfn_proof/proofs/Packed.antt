-- Numbers and steps are read as they were packed.
use Rattle.std.proofs.Common.{◌≡◌, ℕ, ◌+◌, ◌-◌, ◌*◌, ◌/◌, ◌%◌, ◌<◌, ◌≤◌, inl, inr, List, [], ◌∷◌, ◌++◌, length, take, refl, sym, ap, ◌∙◌, subst, arith, append_assoc}
use Rattle.std.proofs.lemmas.Bool.{cases_lt}
use Rattle.std.proofs.lemmas.Nat.{div-add-mod', mod_below, mod-mul-add, div-mul-add}
use Rattle.std.proofs.lemmas.List.{append-nil}
use Rattle.std.proofs.Math.Seq.{take-append_seam}
use Rattle.std.specs.Prelude.{true, false, nat_lt, Result, Ok, Err, OnOk, OnErr, is_err}
use Rattle.std.specs.List.{AllByRecursion}
use Rattle.cfn_model.specs.Text.{IsSpelledStep}
use Rattle.cfn_model.specs.declared.step.Step.{Step}
use Rattle.cfn_model.specs.declared.step.Step.TheVariants.{Project, Extend, Lift, CutValue, CutTuple}
use Rattle.cfn_proof.specs.Packing.{continued, numbers_in, first_of, IsWhole, Says, Adds, GoesOn, numbers_of, numbers_of_all, four_as_step, two_as_step, steps_of, unpacked, IsSmallStep, IsPacked}

-- the tests that the definitions make
is_below : {m n : ℕ} → m < n → nat_lt m n ≡ true
is_below h = grind arith

not_below : {m n : ℕ} → n ≤ m → nat_lt m n ≡ false
not_below h = grind arith

-- a byte that ends a number, and one that does not
pub ends : (byte : ℕ) (bytes : List ℕ) → byte < 128 → numbers_in (byte ∷ bytes) ≡ byte ∷ numbers_in bytes
ends byte bytes h = let e : nat_lt byte 128 ≡ true = is_below h in rw e refl

pub continues : (byte : ℕ) (bytes : List ℕ) → 128 ≤ byte → numbers_in (byte ∷ bytes) ≡ continued (byte - 128) (numbers_in bytes)
continues byte bytes h = let e : nat_lt byte 128 ≡ false = not_below h in rw e refl

-- the numbers behind the first
pub behind_first : List ℕ → List ℕ
behind_first [] = []
behind_first (n ∷ numbers) = numbers

pub as_first : (numbers : List ℕ) → 0 < length numbers → numbers ≡ first_of numbers ∷ behind_first numbers
unfolding behind_first
as_first [] h = absurd (omega arith)
as_first (n ∷ numbers) h = refl

some_of_first : (numbers : List ℕ) → 0 < first_of numbers → 0 < length numbers
some_of_first [] h = absurd (omega arith)
some_of_first (n ∷ numbers) h = omega arith

continued_first : (low : ℕ) (numbers : List ℕ) → 0 < length numbers → continued low numbers ≡ (low + 128 * first_of numbers) ∷ behind_first numbers
unfolding behind_first
continued_first low [] h = absurd (omega arith)
continued_first low (n ∷ numbers) h = refl

-- bytes that are there say some number
pub some_number : (bytes : List ℕ) → IsWhole bytes → 0 < length bytes → 0 < length (numbers_in bytes)
some_number [] whole h = absurd (omega arith)
some_number (byte ∷ bytes) whole h = elim (cases_lt byte 128) [
  | inl last ↦ subst (λ ns. 0 < length ns) (sym (ends byte bytes last)) (omega arith)
  | inr more ↦ subst (λ ns. 0 < length ns) (sym (continues byte bytes more ∙ continued_first (byte - 128) (numbers_in bytes) (some_of_first _ (whole.0 more)))) (omega arith)
]

-- reading a number: what is read so far and what is left
pub record Reading (bytes left : List ℕ) (number scale : ℕ) : Type 0 where
  pub whole : IsWhole left
  pub some : 0 < length (numbers_in left)
  pub first : first_of (numbers_in bytes) ≡ number + scale * first_of (numbers_in left)
  pub behind : behind_first (numbers_in bytes) ≡ behind_first (numbers_in left)
  pub shorter : length left ≤ length bytes

pub begins : (bytes : List ℕ) → IsWhole bytes → 0 < length (numbers_in bytes) → Reading bytes bytes 0 1
begins bytes whole some = record { whole = whole; some = some; first = omega arith; behind = refl; shorter = omega arith }

-- some byte is left
pub not_read : (bytes left : List ℕ) (number scale : ℕ) → Reading bytes left number scale → 0 < length left
not_read bytes [] number scale reading = absurd (let h = reading.some in omega (arith, h))
not_read bytes (byte ∷ left) number scale reading = omega arith

-- the last byte of a number
module _ (bytes left : List ℕ) (number scale byte : ℕ) (reading : Reading bytes (byte ∷ left) number scale) where
  pub last_whole : IsWhole left
  last_whole = reading.whole.1

  pub last_shorter : 0 < length (numbers_in bytes) → length left < length bytes
  last_shorter some = let h = reading.shorter in omega (arith, h)

  last_first : byte < 128 → first_of (numbers_in bytes) ≡ number + byte * scale
  last_first small = grind (arith, reading.first, ap first_of (ends byte left small))

  pub last_is : 0 < length (numbers_in bytes) → byte < 128 → numbers_in bytes ≡ (number + byte * scale) ∷ numbers_in left
  unfolding behind_first
  last_is some small =
      as_first (numbers_in bytes) some
      ∙ ap (λ n. n ∷ behind_first (numbers_in bytes)) (last_first small)
      ∙ ap (λ ns. (number + byte * scale) ∷ ns) (reading.behind ∙ ap behind_first (ends byte left small))

  pub last_fits : byte < 128 → number + byte * scale ≡ first_of (numbers_in bytes)
  last_fits small = sym (last_first small)

  -- a byte behind which a number goes on
  left_first : 128 ≤ byte → 0 < first_of (numbers_in left)
  left_first more = reading.whole.0 more

  left_is : 128 ≤ byte → numbers_in (byte ∷ left) ≡ ((byte - 128) + 128 * first_of (numbers_in left)) ∷ behind_first (numbers_in left)
  left_is more = continues byte left more ∙ continued_first (byte - 128) (numbers_in left) (some_of_first _ (left_first more))

  more_first : 128 ≤ byte → first_of (numbers_in bytes) ≡ (number + (byte - 128) * scale) + scale * 128 * first_of (numbers_in left)
  more_first more = spread number scale (byte - 128) (first_of (numbers_in left)) (first_of (numbers_in bytes)) (reading.first ∙ ap (λ ns. number + scale * first_of ns) (left_is more))
    where
      spread : (n s low f total : ℕ) → total ≡ n + s * (low + 128 * f) → total ≡ (n + low * s) + s * 128 * f
      spread n s low f total e = grind arith

  pub more_is : 128 ≤ byte → Reading bytes left (number + (byte - 128) * scale) (scale * 128)
  unfolding behind_first
  more_is more = record {
    whole = reading.whole.1;
    some = some_of_first _ (left_first more);
    first = more_first more;
    behind = reading.behind ∙ ap behind_first (left_is more);
    shorter = (let h = reading.shorter in omega (arith, h));
  }

  pub more_fits : 128 ≤ byte → number + (byte - 128) * scale ≤ first_of (numbers_in bytes)
  more_fits more = omega (arith, more_first more)

  pub scale_fits : 128 ≤ byte → scale * 128 ≤ first_of (numbers_in bytes)
  scale_fits more = below (number + (byte - 128) * scale) (scale * 128) (first_of (numbers_in left)) (first_of (numbers_in bytes)) (left_first more) (more_first more)
    where
      below : (n s f total : ℕ) → 0 < f → total ≡ n + s * f → s ≤ total
      below n s f total h e = grind arith

-- bytes one behind the other
pub numbers_append : (front back : List ℕ) → IsWhole front → numbers_in (front ++ back) ≡ numbers_in front ++ numbers_in back
numbers_append [] back whole = refl
numbers_append (byte ∷ front) back whole = elim (cases_lt byte 128) [
  | inl last ↦ ends byte (front ++ back) last ∙ ap (λ ns. byte ∷ ns) (numbers_append front back whole.1) ∙ ap (λ ns. ns ++ numbers_in back) (sym (ends byte front last))
  | inr more ↦
      continues byte (front ++ back) more
      ∙ ap (continued (byte - 128)) (numbers_append front back whole.1)
      ∙ through (byte - 128) (numbers_in front) (numbers_in back) (some_of_first _ (whole.0 more))
      ∙ ap (λ ns. ns ++ numbers_in back) (sym (continues byte front more))
]
  where
    through : (low : ℕ) (ms ns : List ℕ) → 0 < length ms → continued low (ms ++ ns) ≡ continued low ms ++ ns
    through low [] ns h = absurd (omega arith)
    through low (m ∷ ms) ns h = refl

pub whole_append : (front back : List ℕ) → IsWhole front → IsWhole back → IsWhole (front ++ back)
whole_append [] back whole other = other
whole_append (byte ∷ front) back whole other =
    (λ more. subst (λ ns. 0 < first_of ns) (sym (numbers_append front back whole.1)) (kept (numbers_in front) (numbers_in back) (whole.0 more)), whole_append front back whole.1 other)
  where
    kept : (ms ns : List ℕ) → 0 < first_of ms → 0 < first_of (ms ++ ns)
    kept [] ns h = absurd (omega arith)
    kept (m ∷ ms) ns h = h

pub says_append : (front back ms ns : List ℕ) → Says front ms → Says back ns → Says (front ++ back) (ms ++ ns)
says_append front back ms ns says other = record {
  whole = whole_append front back says.whole other.whole;
  numbers_are = numbers_append front back says.whole ∙ ap (λ l. l ++ numbers_in back) says.numbers_are ∙ ap (λ l. ms ++ l) other.numbers_are;
}

pub adds_both : (old mid new ms ns : List ℕ) → Adds old mid ms → Adds mid new ns → Adds old new (ms ++ ns)
adds_both old mid new ms ns first second = record {
  added = first.added ++ second.added;
  is = second.is ∙ ap (λ l. l ++ second.added) first.is ∙ append_assoc old first.added second.added;
  says = says_append first.added second.added ms ns first.says second.says;
}

pub on_behind : (old mid new ms : List ℕ) → Adds old mid ms → GoesOn mid new → GoesOn old new
on_behind old mid new ms first second = (first.added ++ second.0, second.1 ∙ ap (λ l. l ++ second.0) first.is ∙ append_assoc old first.added second.0)

-- writing a number: the bytes so far, before those of what is left
pub Writing : List ℕ → List ℕ → ℕ → ℕ → Type 0
Writing old now number left = (front : List ℕ) × (now ≡ old ++ front) × ((tail : List ℕ) → Says tail (left ∷ []) → Says (front ++ tail) (number ∷ []))

pub writing_begins : (old : List ℕ) (number : ℕ) → Writing old old number number
unfolding Writing
writing_begins old number = ([], sym (append-nil old), λ tail says. says)

pub writing_goes_on : (old now new : List ℕ) (number left : ℕ) → Writing old now number left → 128 ≤ left → new ≡ now ++ (left % 128 + 128) ∷ [] → Writing old new number (left / 128)
unfolding Writing
writing_goes_on old now new number left writing more is = (
  writing.0 ++ (left % 128 + 128) ∷ [],
  is ∙ ap (λ l. l ++ (left % 128 + 128) ∷ []) writing.1 ∙ append_assoc old writing.0 ((left % 128 + 128) ∷ []),
  λ tail says. subst (λ l. Says l (number ∷ [])) (sym (append_assoc writing.0 ((left % 128 + 128) ∷ []) tail)) (writing.2 ((left % 128 + 128) ∷ tail) (raised tail says)),
)
  where
    parts : left ≡ left % 128 + 128 * (left / 128)
    parts = let e = div-add-mod' left 128 in omega (arith, e)

    raised : (tail : List ℕ) → Says tail (left / 128 ∷ []) → Says ((left % 128 + 128) ∷ tail) (left ∷ [])
    raised tail says = record {
      whole = ((λ h. subst (λ ns. 0 < first_of ns) (sym says.numbers_are) (let m = mod_below left 128 (omega arith) in omega (arith, parts, m))), says.whole);
      numbers_are =
          (let e : left % 128 + 128 - 128 ≡ left % 128 = omega arith in
          continues (left % 128 + 128) tail (omega arith) ∙ ap (continued (left % 128 + 128 - 128)) says.numbers_are ∙ ap (λ low. (low + 128 * (left / 128)) ∷ []) e ∙ ap (λ n. n ∷ []) (sym parts));
    }

pub writing_ends : (old now new : List ℕ) (number left : ℕ) → Writing old now number left → left < 128 → new ≡ now ++ left ∷ [] → Adds old new (number ∷ [])
unfolding Writing
writing_ends old now new number left writing small is = record {
  added = writing.0 ++ left ∷ [];
  is = is ∙ ap (λ l. l ++ left ∷ []) writing.1 ∙ append_assoc old writing.0 (left ∷ []);
  says = writing.2 (left ∷ []) (record { whole = (λ h. absurd (omega arith), tt); numbers_are = ends left [] small });
}

pub writing_stops : (old now : List ℕ) (number left : ℕ) → Writing old now number left → GoesOn old now
unfolding Writing
writing_stops old now number left writing = (writing.0, writing.1)

pub then_adds : (old mid new ms ns : List ℕ) {T E : Type 0} (r : Result T E) → Adds old mid ms → OnOk r (Adds mid new ns) → OnOk r (Adds old new (ms ++ ns))
then_adds old mid new ms ns (Ok x) first second = adds_both old mid new ms ns first second
then_adds old mid new ms ns (Err e) first second = tt

pub on_err : {T E : Type 0} (r : Result T E) (P : Type 0) → P → OnErr r P
on_err (Ok x) P holds = tt
on_err (Err e) P holds = holds

-- the steps that numbers begin with
steps_of_two : (a b : ℕ) (numbers : List ℕ) → 2 ≤ a % 5 → steps_of (a ∷ b ∷ numbers) ≡ two_as_step a b ∷ steps_of numbers
steps_of_two a b [] h = let e : nat_lt (a % 5) 2 ≡ false = not_below h in rw e refl
steps_of_two a b (c ∷ []) h = let e : nat_lt (a % 5) 2 ≡ false = not_below h in rw e refl
steps_of_two a b (c ∷ d ∷ numbers) h = let e : nat_lt (a % 5) 2 ≡ false = not_below h in rw e refl

steps_of_four : (a b c d : ℕ) (numbers : List ℕ) → a % 5 < 2 → steps_of (a ∷ b ∷ c ∷ d ∷ numbers) ≡ four_as_step a b c d ∷ steps_of numbers
steps_of_four a b c d numbers h = let e : nat_lt (a % 5) 2 ≡ true = is_below h in rw e refl

-- a step's numbers say the step
kind : (f k : ℕ) → k < 5 → (f * 5 + k) % 5 ≡ k
kind f k h = mod-mul-add f 5 k h

kind_of : (f k : ℕ) → k < 5 → (f * 5 + k) / 5 ≡ f
kind_of f k h = div-mul-add f 5 k h

pub steps_of_numbers : (step : Step) (numbers : List ℕ) → steps_of (numbers_of step ++ numbers) ≡ step ∷ steps_of numbers
steps_of_numbers (Project f i a m) numbers =
    let z : f * 5 ≡ f * 5 + 0 = omega arith in
    let k : f * 5 % 5 ≡ 0 = ap (λ n. n % 5) z ∙ kind f 0 (omega arith) in
    let o : f * 5 / 5 ≡ f = ap (λ n. n / 5) z ∙ kind_of f 0 (omega arith) in
    steps_of_four (f * 5) i a m numbers (omega (arith, k)) ∙ rw k (rw o refl)
steps_of_numbers (Extend f i a m) numbers =
    let k = kind f 1 (omega arith) in
    let o = kind_of f 1 (omega arith) in
    steps_of_four (f * 5 + 1) i a m numbers (omega (arith, k)) ∙ rw k (rw o refl)
steps_of_numbers (Lift x m) numbers =
    let k = kind x 2 (omega arith) in
    let o = kind_of x 2 (omega arith) in
    steps_of_two (x * 5 + 2) m numbers (omega (arith, k)) ∙ rw k (rw o refl)
steps_of_numbers (CutValue x a) numbers =
    let k = kind x 3 (omega arith) in
    let o = kind_of x 3 (omega arith) in
    steps_of_two (x * 5 + 3) a numbers (omega (arith, k)) ∙ rw k (rw o refl)
steps_of_numbers (CutTuple f c) numbers =
    let k = kind f 4 (omega arith) in
    let o = kind_of f 4 (omega arith) in
    steps_of_two (f * 5 + 4) c numbers (omega (arith, k)) ∙ rw k (rw o refl)

pub steps_of_all : (steps : List Step) (numbers : List ℕ) → steps_of (numbers_of_all steps ++ numbers) ≡ steps ++ steps_of numbers
steps_of_all [] numbers = refl
steps_of_all (step ∷ steps) numbers =
    ap steps_of (append_assoc (numbers_of step) (numbers_of_all steps) numbers)
    ∙ steps_of_numbers step (numbers_of_all steps ++ numbers)
    ∙ ap (λ l. step ∷ l) (steps_of_all steps numbers)

numbers_of_snoc : (steps : List Step) (step : Step) → numbers_of_all steps ++ numbers_of step ≡ numbers_of_all (steps ++ step ∷ [])
numbers_of_snoc [] step = sym (append-nil (numbers_of step))
numbers_of_snoc (s ∷ steps) step = append_assoc (numbers_of s) (numbers_of_all steps) (numbers_of step) ∙ ap (λ l. numbers_of s ++ l) (numbers_of_snoc steps step)

all_snoc : (P : Step → Type 0) (steps : List Step) (step : Step) → AllByRecursion P steps → P step → AllByRecursion P (steps ++ step ∷ [])
all_snoc P [] step all one = (one, tt)
all_snoc P (s ∷ steps) step all one = (all.0, all_snoc P steps step all.1 one)

-- a step that is packed behind others is read behind them
module _ (old new : List ℕ) (step : Step) (packed : IsPacked old) (adds : Adds old new (numbers_of step)) where
  numbers_then : numbers_in new ≡ numbers_of_all (unpacked old ++ step ∷ [])
  numbers_then =
      ap numbers_in adds.is
      ∙ numbers_append old adds.added packed.whole
      ∙ ap (λ l. numbers_in old ++ l) adds.says.numbers_are
      ∙ ap (λ l. l ++ numbers_of step) packed.steps.all
      ∙ numbers_of_snoc (unpacked old) step

  pub unpacked_then : unpacked new ≡ unpacked old ++ step ∷ []
  unpacked_then =
      ap steps_of (numbers_then ∙ sym (append-nil (numbers_of_all (unpacked old ++ step ∷ []))))
      ∙ steps_of_all (unpacked old ++ step ∷ []) []
      ∙ append-nil (unpacked old ++ step ∷ [])

  pub packed_then : IsSmallStep step → IsPacked new
  packed_then small = record {
    whole = subst (λ l. IsWhole l) (sym adds.is) (whole_append old adds.added packed.whole adds.says.whole);
    steps = record {
      all = numbers_then ∙ ap numbers_of_all (sym unpacked_then);
      small = subst (λ l. AllByRecursion IsSmallStep l) (sym unpacked_then) (all_snoc IsSmallStep (unpacked old) step packed.steps.small small);
    };
  }

numbers_of_append : (steps more : List Step) → numbers_of_all (steps ++ more) ≡ numbers_of_all steps ++ numbers_of_all more
numbers_of_append [] more = refl
numbers_of_append (s ∷ steps) more = ap (λ l. numbers_of s ++ l) (numbers_of_append steps more) ∙ sym (append_assoc (numbers_of s) (numbers_of_all steps) (numbers_of_all more))

pub all_append : (P : Step → Type 0) (steps more : List Step) → AllByRecursion P steps → AllByRecursion P more → AllByRecursion P (steps ++ more)
all_append P [] more all rest = rest
all_append P (s ∷ steps) more all rest = (all.0, all_append P steps more all.1 rest)

-- packed bytes behind others
module _ (first behind : List ℕ) (packed : IsPacked first) (packed_behind : IsPacked behind) where
  pub unpacked_append : unpacked (first ++ behind) ≡ unpacked first ++ unpacked behind
  unpacked_append =
      ap steps_of (numbers_append first behind packed.whole ∙ ap (λ l. l ++ numbers_in behind) packed.steps.all)
      ∙ steps_of_all (unpacked first) (numbers_in behind)

  pub packed_append : IsPacked (first ++ behind)
  packed_append = record {
    whole = whole_append first behind packed.whole packed_behind.whole;
    steps = record {
      all =
          numbers_append first behind packed.whole
          ∙ ap (λ l. l ++ numbers_in behind) packed.steps.all
          ∙ ap (λ l. numbers_of_all (unpacked first) ++ l) packed_behind.steps.all
          ∙ sym (numbers_of_append (unpacked first) (unpacked behind))
          ∙ ap numbers_of_all (sym unpacked_append);
      small = subst (λ l. AllByRecursion IsSmallStep l) (sym unpacked_append) (all_append IsSmallStep (unpacked first) (unpacked behind) packed.steps.small packed_behind.steps.small);
    };
  }

-- steps that are none have no byte
pub none_bytes : (bytes : List ℕ) → IsPacked bytes → unpacked bytes ≡ [] → length bytes ≡ 0
none_bytes [] packed none = refl
none_bytes (byte ∷ bytes) packed none =
    absurd (let some = some_number (byte ∷ bytes) packed.whole (omega arith) in let same = ap length (packed.steps.all ∙ ap numbers_of_all none) in omega (arith, some, same))

pub none_packed : IsPacked []
none_packed = record { whole = tt; steps = record { all = refl; small = tt } }

-- small steps have a spelling
spelled_of_small : (step : Step) → IsSmallStep step → IsSpelledStep step
spelled_of_small (Project f i a m) h = (omega (arith, h.0), omega (arith, h.1), omega (arith, h.2), h.3, h.4)
spelled_of_small (Extend f i a m) h = (omega (arith, h.0), omega (arith, h.1), omega (arith, h.2), h.3, h.4)
spelled_of_small (Lift x m) h = (omega (arith, h.0), h.1, h.2)
spelled_of_small (CutValue x a) h = (omega (arith, h.0), omega (arith, h.1))
spelled_of_small (CutTuple f c) h = (omega (arith, h.0), omega (arith, h.1))

pub all_spelled : (steps : List Step) → AllByRecursion IsSmallStep steps → AllByRecursion IsSpelledStep steps
all_spelled [] small = tt
all_spelled (step ∷ steps) small = (spelled_of_small step small.0, all_spelled steps small.1)

-- bytes that were cut back to what they were
pub cut_back : (old new now : List ℕ) → GoesOn old new → now ≡ take (length old) new → now ≡ old
cut_back old new now on is = is ∙ ap (take (length old)) on.1 ∙ take-append_seam old on.0

pub of_err : {T E : Type 0} (r : Result T E) (P : Type 0) → is_err r ≡ true → OnErr r P → P
of_err (Ok x) P h holds = cc
of_err (Err e) P h holds = holds

pub of_ok : {T E : Type 0} (r : Result T E) (P : Type 0) → is_err r ≡ false → OnOk r P → P
of_ok (Ok x) P h holds = holds
of_ok (Err e) P h holds = cc

pub on_ok : {T E : Type 0} (r : Result T E) (P : Type 0) → P → OnOk r P
on_ok (Ok x) P holds = holds
on_ok (Err e) P holds = tt
