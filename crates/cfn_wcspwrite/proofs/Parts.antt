-- The parts of a network's text, from the front on.
use Rattle.std.proofs.Common.{◌≡◌, ℕ, zero, suc, ◌+◌, ◌-◌, ◌*◌, ◌/◌, ◌%◌, ◌<◌, ◌≤◌, Bool, true, false, List, [], ◌∷◌, ◌++◌, length, map, drop, take, get_or, refl, sym, ap, length-append, ◌∙◌, subst, append_assoc, arith}
use Rattle.std.specs.Prelude.{Result, cond, decimal, filter, flat_map, not, slice_index, ◌==◌}
use Rattle.std.proofs.lemmas.Bool.{ne_eqb}
use Rattle.std.proofs.lemmas.Bool.Decides.{nat_tests}
use Rattle.std.proofs.Math.Nat.{mul-div_cancel_left}
use Rattle.cfn_desk.specs.Outside.{Outside}
use Rattle.cfn_line.specs.Appending.{Adds}
use Rattle.std.specs.List.{range_with_len}
use Rattle.std.proofs.lemmas.List.{drop_more, append-nil, map-append}
use Rattle.cfn_model.specs.Network.{Function, Network, IsNetwork, cells, dims, function_at}
use Rattle.cfn_model.specs.Text.{line, text}
use Rattle.cfn_line.proofs.CallerLemmas.{text-append}
use Rattle.cfn_net.proofs.CallerLemmas.{Inhabited-dims, cells-drop-pos, get_or-dims, length-dims}
use Rattle.cfn_wcspwrite.specs.Canonical.{canonical, cell_lines, cell_words, differs, function_lines, head_words, listed, spaced, tuple_of}

-- the next number of some that are left
pub spaced-drop : (numbers : List ℕ) (i : ℕ) → i < length numbers → spaced (drop i numbers) ≡ (decimal (get_or numbers i 0) ++ 32 ∷ []) ++ spaced (drop (i + 1) numbers)
spaced-drop numbers i there = ap spaced (drop_more numbers i 0 there)

line-first : (n : ℕ) (numbers : List ℕ) (word : List ℕ) (words : List (List ℕ)) → line (decimal n ∷ (map decimal numbers ++ word ∷ words)) ≡ decimal n ++ 32 ∷ line (map decimal numbers ++ word ∷ words)
line-first n [] word words = refl
line-first n (m ∷ numbers) word words = refl

-- a line that begins with numbers
pub line-numbers : (numbers : List ℕ) (word : List ℕ) (words : List (List ℕ)) → line (map decimal numbers ++ word ∷ words) ≡ spaced numbers ++ line (word ∷ words)
line-numbers [] word words = refl
line-numbers (n ∷ numbers) word words =
    line-first n numbers word words
    ∙ ap (λ t. decimal n ++ 32 ∷ t) (line-numbers numbers word words)
    ∙ sym (append_assoc (decimal n) (32 ∷ []) (spaced numbers ++ line (word ∷ words)))
    ∙ sym (append_assoc (decimal n ++ 32 ∷ []) (spaced numbers) (line (word ∷ words)))

-- the first line of a network: its name, three numbers and the upper bound
pub head-parts : (name : List ℕ) (n d e u : ℕ) → line (name ∷ decimal n ∷ decimal d ∷ decimal e ∷ decimal u ∷ []) ≡ (name ++ 32 ∷ []) ++ (spaced (n ∷ d ∷ e ∷ []) ++ (decimal u ++ 10 ∷ []))
head-parts name n d e u =
    ap (λ t. name ++ 32 ∷ t) (line-numbers (n ∷ d ∷ e ∷ []) (decimal u) [])
    ∙ sym (append_assoc name (32 ∷ []) (spaced (n ∷ d ∷ e ∷ []) ++ (decimal u ++ 10 ∷ [])))

front_and_last : (n : ℕ) (xs : List ℕ) → length xs ≡ suc n → take n xs ++ get_or xs n 0 ∷ [] ≡ xs
front_and_last n [] e = absurd (omega arith)
front_and_last zero (x ∷ []) e = refl
front_and_last zero (x ∷ y ∷ xs) e = absurd (omega arith)
front_and_last (suc n) (x ∷ xs) e = ap (λ ys. x ∷ ys) (front_and_last n xs (omega arith))

-- the line of the domain sizes
pub sizes-parts : (sizes : List ℕ) (n : ℕ) → length sizes ≡ suc n → line (map decimal sizes) ≡ spaced (take n sizes) ++ (decimal (get_or sizes n 0) ++ 10 ∷ [])
sizes-parts sizes n e =
    ap (λ (xs : List ℕ). line (map decimal xs)) (sym (front_and_last n sizes e))
    ∙ ap line (map-append decimal (take n sizes) (get_or sizes n 0 ∷ []))
    ∙ line-numbers (take n sizes) (decimal (get_or sizes n 0)) []

-- the first line of a function
pub first-parts : (a : ℕ) (scope : List ℕ) (d n : ℕ) → line (decimal a ∷ (map decimal scope ++ decimal d ∷ decimal n ∷ [])) ≡ (decimal a ++ 32 ∷ []) ++ (spaced scope ++ ((decimal d ++ 32 ∷ []) ++ (decimal n ++ 10 ∷ [])))
first-parts a scope d n =
    line-first a scope (decimal d) (decimal n ∷ [])
    ∙ ap (λ t. decimal a ++ 32 ∷ t) (line-numbers scope (decimal d) (decimal n ∷ []))
    ∙ sym (append_assoc (decimal a) (32 ∷ []) (spaced scope ++ (decimal d ++ 32 ∷ (decimal n ++ 10 ∷ []))))
    ∙ ap (λ t. (decimal a ++ 32 ∷ []) ++ (spaced scope ++ t)) (sym (append_assoc (decimal d) (32 ∷ []) (decimal n ++ 10 ∷ [])))

-- the next function of some that are left
pub functions-drop : (sizes : List ℕ) (fs : List Function) (i : ℕ) (d : Function) → i < length fs → text (flat_map (function_lines sizes) (drop i fs)) ≡ text (function_lines sizes (get_or fs i d)) ++ text (flat_map (function_lines sizes) (drop (i + 1) fs))
functions-drop sizes fs i d there =
    ap (λ gs. text (flat_map (function_lines sizes) gs)) (drop_more fs i d there)
    ∙ text-append (function_lines sizes (get_or fs i d)) (flat_map (function_lines sizes) (drop (i + 1) fs))

-- the cells that are left, from one on
pub cells-left : (i n : ℕ) → i < n → range_with_len i (n - i) ≡ i ∷ range_with_len (i + 1) (n - (i + 1))
cells-left i n l = let e : n - i ≡ suc (n - (i + 1)) = omega arith in ap (range_with_len i) e

pub filter-cons : (p : ℕ → Bool) (c : ℕ) (cs : List ℕ) → filter p (c ∷ cs) ≡ cond (p c) (c ∷ []) [] ++ filter p cs
filter-cons p c cs = go (p c)
  where
    go : (b : Bool) → cond b (c ∷ filter p cs) (filter p cs) ≡ cond b (c ∷ []) [] ++ filter p cs
    go true = refl
    go false = refl

cond-lines : (sizes : List ℕ) (f : Function) (c : ℕ) (b : Bool) → map (cell_words sizes f) (cond b (c ∷ []) []) ≡ cond b (cell_words sizes f c ∷ []) []
cond-lines sizes f c true = refl
cond-lines sizes f c false = refl

-- the next cell's line, where it has one
pub lines-left : (sizes : List ℕ) (f : Function) (i n : ℕ) → i < n →
    text (map (cell_words sizes f) (filter (differs f) (range_with_len i (n - i)))) ≡ text (cell_lines sizes f i) ++ text (map (cell_words sizes f) (filter (differs f) (range_with_len (i + 1) (n - (i + 1)))))
lines-left sizes f i n l =
    ap (λ cs. text (map (cell_words sizes f) cs)) (ap (filter (differs f)) (cells-left i n l) ∙ filter-cons (differs f) i (range_with_len (i + 1) (n - (i + 1))))
    ∙ ap text (map-append (cell_words sizes f) (cond (differs f i) (i ∷ []) []) (filter (differs f) (range_with_len (i + 1) (n - (i + 1)))) ∙ ap (λ t. t ++ map (cell_words sizes f) (filter (differs f) (range_with_len (i + 1) (n - (i + 1))))) (cond-lines sizes f i (differs f i)))
    ∙ text-append (cell_lines sizes f i) (map (cell_words sizes f) (filter (differs f) (range_with_len (i + 1) (n - (i + 1)))))

-- no cell is left
pub none-left : (i n : ℕ) → n ≤ i → range_with_len i (n - i) ≡ []
none-left i n l = let e : n - i ≡ 0 = omega arith in ap (range_with_len i) e

-- the next value of a tuple
pub tuple-drop : (sizes scope : List ℕ) (i rest : ℕ) → i < length scope →
    spaced (tuple_of (drop i (dims sizes scope)) rest) ≡ (decimal (rest / cells (drop (i + 1) (dims sizes scope))) ++ 32 ∷ []) ++ spaced (tuple_of (drop (i + 1) (dims sizes scope)) (rest % cells (drop (i + 1) (dims sizes scope))))
tuple-drop sizes scope i rest l =
    ap (λ ds. spaced (tuple_of ds rest)) (drop_more (dims sizes scope) i 0 (omega (arith, length-dims sizes scope)))

-- the cell's line, and no line
cond-true : (b : Bool) (words : List (List ℕ)) → b ≡ false → text (cond (not b) (words ∷ []) []) ≡ line words
cond-true b words e = rw e (append-nil (line words))

cond-false : (b : Bool) (words : List (List ℕ)) → b ≡ true → text (cond (not b) (words ∷ []) []) ≡ []
cond-false b words e = rw e refl

pub cell-line : (sizes : List ℕ) (f : Function) (c : ℕ) → (slice_index f.entries c ≡ f.default → ⊥) → text (cell_lines sizes f c) ≡ spaced (tuple_of (dims sizes f.scope) c) ++ (decimal (slice_index f.entries c) ++ 10 ∷ [])
cell-line sizes f c other =
    cond-true (slice_index f.entries c == f.default) (cell_words sizes f c) (ne_eqb (slice_index f.entries c) f.default other)
    ∙ line-numbers (tuple_of (dims sizes f.scope) c) (decimal (slice_index f.entries c)) []

pub cell-no-line : (sizes : List ℕ) (f : Function) (c : ℕ) → slice_index f.entries c ≡ f.default → text (cell_lines sizes f c) ≡ []
cell-no-line sizes f c same = cond-false (slice_index f.entries c == f.default) (cell_words sizes f c) (grind (arith, nat_tests))

-- the cells behind the next place
pub behind-next : (sizes scope : List ℕ) (i n s : ℕ) → i < length scope → s ≡ get_or sizes (get_or scope i 0) 0 → 0 < s → n ≡ cells (drop i (dims sizes scope)) → n / s ≡ cells (drop (i + 1) (dims sizes scope))
behind-next sizes scope i n s l is some e =
    ap (λ m. m / s) (e ∙ ap cells (drop_more (dims sizes scope) i 0 (omega (arith, length-dims sizes scope))) ∙ ap (λ t. t * cells (drop (i + 1) (dims sizes scope))) (get_or-dims sizes scope i l ∙ sym is))
    ∙ mul-div_cancel_left (cells (drop (i + 1) (dims sizes scope))) some

-- the same text in another spelling, and nothing
pub add_respell : {T E : Type 0} {before now : Outside} {waiting text waits : List ℕ} {r : Result T E} {other : List ℕ} → other ≡ text → Adds before waiting text r now waits → Adds before waiting other r now waits
add_respell {before = before} {now = now} {waiting = waiting} {waits = waits} {r = r} same one = subst (λ (t : List ℕ). Adds before waiting t r now waits) (sym same) one

-- the text of a network
pub network-parts : (P : Network) → canonical P ≡ line (head_words P) ++ (line (map decimal P.sizes) ++ text (flat_map (function_lines P.sizes) P.functions))
network-parts P = refl

-- the cells behind the next place of a network's scope, of which there are some
module _ (P : Network) (net : IsNetwork P) (scope : List ℕ) (variables : (place : ℕ) → place < length scope → get_or scope place 0 < length P.sizes) where
  pub behind-is : (i n s : ℕ) → i < length scope → s ≡ get_or P.sizes (get_or scope i 0) 0 → n ≡ cells (drop i (dims P.sizes scope)) → n / s ≡ cells (drop (i + 1) (dims P.sizes scope))
  behind-is i n s l is e = behind-next P.sizes scope i n s l is (subst (λ m. 0 < m) (sym is) (net.sizes (get_or scope i 0) (variables i l)).0) e

  pub behind-some : (i m : ℕ) → m ≡ cells (drop (i + 1) (dims P.sizes scope)) → 0 < m
  behind-some i m e = subst (λ k. 0 < k) (sym e) (cells-drop-pos (dims P.sizes scope) (i + 1) (Inhabited-dims P.sizes scope (λ x l. (net.sizes x l).0) variables))

  -- the next value of a tuple, behind which so many cells lie
  pub tuple-next : (i rest m : ℕ) → i < length scope → m ≡ cells (drop (i + 1) (dims P.sizes scope)) →
      spaced (tuple_of (drop i (dims P.sizes scope)) rest) ≡ (decimal (rest / m) ++ 32 ∷ []) ++ spaced (tuple_of (drop (i + 1) (dims P.sizes scope)) (rest % m))
  tuple-next i rest m l e =
      tuple-drop P.sizes scope i rest l
      ∙ ap (λ k. (decimal (rest / k) ++ 32 ∷ []) ++ spaced (tuple_of (drop (i + 1) (dims P.sizes scope)) (rest % k))) (sym e)

-- the listed cells, by how many cells there are
pub listed-to : (sizes : List ℕ) (f : Function) (n : ℕ) → n ≡ length f.entries → text (map (cell_words sizes f) (listed f)) ≡ text (map (cell_words sizes f) (filter (differs f) (range_with_len 0 n)))
listed-to sizes f n e = ap (λ m. text (map (cell_words sizes f) (filter (differs f) (range_with_len 0 m)))) (sym e)

pub cells-are : (P : Network) (net : IsNetwork P) (f n : ℕ) → f < length P.functions → n ≡ cells (dims P.sizes (function_at P f).scope) → n ≡ length (function_at P f).entries
cells-are P net f n l e = e ∙ sym (net.functions f l).table

-- one more cell is counted, and one is not
count-step : (p : ℕ → Bool) (b : Bool) (i n had : ℕ) → i < n → p i ≡ b → had + length (filter p (range_with_len i (n - i))) ≡ (had + length (cond b (i ∷ []) [])) + length (filter p (range_with_len (i + 1) (n - (i + 1))))
count-step p b i n had l is =
    let rest = filter p (range_with_len (i + 1) (n - (i + 1))) in
    let parts : length (filter p (range_with_len i (n - i))) ≡ length (cond b (i ∷ []) []) + length rest =
    ap length (ap (filter p) (cells-left i n l) ∙ filter-cons p i (range_with_len (i + 1) (n - (i + 1))) ∙ ap (λ c. cond c (i ∷ []) [] ++ rest) is)
    ∙ length-append (cond b (i ∷ []) []) rest in
    omega (arith, parts)

pub count-more : (f : Function) (i n had now total : ℕ) → i < n → now ≡ had + 1 → (slice_index f.entries i ≡ f.default → ⊥) → had + length (filter (differs f) (range_with_len i (n - i))) ≡ total → now + length (filter (differs f) (range_with_len (i + 1) (n - (i + 1)))) ≡ total
count-more f i n had now total l is other e =
    let step = count-step (differs f) true i n had l (ap not (ne_eqb (slice_index f.entries i) f.default other)) in
    omega (arith, step, e, is)

pub count-same : (f : Function) (i n had now total : ℕ) → i < n → now ≡ had → slice_index f.entries i ≡ f.default → had + length (filter (differs f) (range_with_len i (n - i))) ≡ total → now + length (filter (differs f) (range_with_len (i + 1) (n - (i + 1)))) ≡ total
count-same f i n had now total l is same e =
    let no : differs f i ≡ false = ap not (equal (slice_index f.entries i) f.default same) in
    let step = count-step (differs f) false i n had l no in
    omega (arith, step, e, is)
  where
    equal : (a b : ℕ) → a ≡ b → (a == b) ≡ true
    equal a b same = grind (arith, nat_tests)

pub listed-length : (f : Function) (n : ℕ) → n ≡ length f.entries → length (filter (differs f) (range_with_len 0 n)) ≡ length (listed f)
listed-length f n e = ap (λ m. length (filter (differs f) (range_with_len 0 m))) e
