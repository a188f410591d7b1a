-- The words of a text, and the numbers that words are (toulbar2 user manual, wcsp format).
use Rattle.std.specs.Prelude.{◌≡◌, ℕ, ◌+◌, ◌-◌, ◌*◌, Bool, true, false, not, ◌&&◌, ◌||◌, List, [], ◌∷◌, ℤ, pos, neg_ℤ, Result, Ok, Err, if◌then◌else◌, ◌==◌, nat_le, nat_lt}
use Rattle.std.specs.List.{list_all}
use Rattle.cfn_model.specs.declared.limits.TheConstants.{GREATEST}
use Rattle.cfn_model.specs.declared.reading.NumberFault.{NumberFault}
use Rattle.cfn_model.specs.declared.reading.NumberFault.TheVariants.{NotNumber, TooLarge}

-- White space: a space, or a byte from tab to CR (tab, LF, VT, FF, CR).
abbrev pub is_space : ℕ → Bool
is_space b = (b == 32) || (nat_le 9 b && nat_le b 13)

-- Whether a word begins with the first byte.
abbrev pub begins_word : List ℕ → Bool
begins_word [] = false
begins_word (b ∷ bytes) = not (is_space b)

-- The words with a byte before the first of them.
abbrev pub with_first : ℕ → List (List ℕ) → List (List ℕ)
with_first b [] = (b ∷ []) ∷ []
with_first b (word ∷ words) = (b ∷ word) ∷ words

-- The words of a text: its longest runs of bytes that are no white space.
abbrev pub words : List ℕ → List (List ℕ)
words [] = []
words (b ∷ bytes) =
    if is_space b then words bytes else (if begins_word bytes then with_first b (words bytes) else (b ∷ []) ∷ words bytes)

-- One word and nothing else.
abbrev pub IsWord : List ℕ → Type 0
IsWord bytes = words bytes ≡ bytes ∷ []

abbrev pub is_digit : ℕ → Bool
is_digit b = nat_le 48 b && nat_le b 57

abbrev pub has_minus : List ℕ → Bool
has_minus [] = false
has_minus (b ∷ bytes) = b == 45

-- A word without the minus in front.
abbrev pub magnitude_of : List ℕ → List ℕ
magnitude_of [] = []
magnitude_of (b ∷ bytes) = if b == 45 then bytes else b ∷ bytes

abbrev pub is_empty : List ℕ → Bool
is_empty [] = true
is_empty (b ∷ bytes) = false

-- The number that decimal digits are, behind a number that stands before them.
abbrev pub digits_behind : ℕ → List ℕ → ℕ
digits_behind n [] = n
digits_behind n (b ∷ bytes) = digits_behind (10 * n + (b - 48)) bytes

-- The greatest number that is read.
abbrev pub greatest : ℕ
greatest = GREATEST

-- An optional minus and one or more digits.
abbrev pub is_number : List ℕ → Bool
is_number word = not (is_empty (magnitude_of word)) && list_all is_digit (magnitude_of word)

abbrev pub magnitude : List ℕ → ℕ
magnitude word = digits_behind 0 (magnitude_of word)

-- The number that a word is, or why it is none.
abbrev pub number_of : List ℕ → Result ℤ NumberFault
number_of word =
    if not (is_number word) then Err NotNumber
    else (if nat_lt greatest (magnitude word) then Err TooLarge
    else Ok (if has_minus word then neg_ℤ (pos (magnitude word)) else pos (magnitude word)))
