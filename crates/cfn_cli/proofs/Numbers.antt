-- When a text is a number within bounds.
use Rattle.std.proofs.Common.{◌≡◌, ◌≤◌, ◌<◌, ℕ, Bool, List, true, false, refl, ap, arith, ◌^◌, Some, None}
use Rattle.std.specs.Str.Parse.{IsNumeral, digits_value, without_leading_plus}
use Rattle.clap.specs.Values.{IsUnsignedIn}
use Rattle.clap.specs.ValueTests.{is_unsigned_in}
use Rattle.clap.specs.declared.builder.value_parser.ValueParser.TheVariants as vp
use Rattle.clap.proofs.ValueTestLemmas.{Accepts-accepts, accepts-Accepts}
use Rattle.cfn_cli.specs.Arguments.{number_in}

-- What `parse::<u64>` takes.
abbrev pub IsU64 : List ℕ → Type 0
IsU64 text = IsNumeral 10 (without_leading_plus text) × (digits_value 10 (without_leading_plus text) < 2 ^ 64)

pub number_taken : (text : List ℕ) (least most n : ℕ) → IsU64 text × (n ≡ digits_value 10 (without_leading_plus text)) → least ≤ n → n ≤ most
    → Some n ≡ number_in least most text
unfolding number_in
number_taken text least most n h low high =
    let value = digits_value 10 (without_leading_plus text) in
    let is : n ≡ value = h.1 in
    let above : least ≤ value = omega arith in
    let below : value ≤ most = omega arith in
    let passes : is_unsigned_in least most text ≡ true = Accepts-accepts false (vp.Unsigned least most) text (h.0.0, h.0.1, above, below) in
    rw passes (ap (λ (m : ℕ). Some m) is)

pub number_refused : (text : List ℕ) (least most : ℕ) → (IsUnsignedIn least most text → ⊥) → None ≡ number_in least most text
unfolding number_in
number_refused text least most h = go (is_unsigned_in least most text) refl
  where
    go : (b : Bool) → is_unsigned_in least most text ≡ b → None ≡ number_in least most text
    go false e = rw e refl
    go true e = absurd (h (accepts-Accepts false (vp.Unsigned least most) text e))

pub text_refused : (text : List ℕ) (least most : ℕ) → (IsU64 text → ⊥) → None ≡ number_in least most text
text_refused text least most h = number_refused text least most (λ u. h (u.0, u.1))

pub bound_refused : (text : List ℕ) (least most n : ℕ) → IsU64 text × (n ≡ digits_value 10 (without_leading_plus text)) → (least ≤ n → n ≤ most → ⊥)
    → None ≡ number_in least most text
bound_refused text least most n h outside = number_refused text least most (λ u.
    let is : n ≡ digits_value 10 (without_leading_plus text) = h.1 in
    let low : least ≤ digits_value 10 (without_leading_plus text) = u.2 in
    let high : digits_value 10 (without_leading_plus text) ≤ most = u.3 in
    outside (omega arith) (omega arith))
