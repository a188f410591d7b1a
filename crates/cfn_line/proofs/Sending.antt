-- What texts sent in a row send together.
use Rattle.std.proofs.Common.{◌≡◌, ℕ, ◌+◌, ◌<◌, ◌≤◌, List, [], ◌∷◌, ◌++◌, Result, Ok, Err, refl, sym, ap, ◌∙◌, subst, append_assoc, map, drop, get_or, length, arith}
use Rattle.std.specs.Prelude.{IsErr}
use Rattle.std.proofs.lemmas.Bool.{false≢true}
use Rattle.std.proofs.lemmas.List.{append-nil, drop_more}
use Rattle.std.proofs.Math.ListN.{drop_of_length-le}
use Rattle.std.proofs.lemmas.List.Concat.{flat_map-append}
use Rattle.cfn_model.specs.Text.{line, text}
use Rattle.cfn_desk.specs.Outside.{Outside, Call, IsWriting, after_put, after_say}
use Rattle.cfn_desk.proofs.CallerLemmas.{IsWriting-puts, puts-append, says-append}
use Rattle.cfn_line.specs.declared.channel.Channel.{Channel}
use Rattle.cfn_line.specs.declared.channel.Channel.TheVariants.{File, Screen}
use Rattle.cfn_line.specs.Appending.{Appends, IsCut, IsOpen, Midway, sent, failed, done}

sent-append : (channel : Channel) (first rest : List ℕ) (calls : List Call) → sent channel (first ++ rest) calls ≡ sent channel rest (sent channel first calls)
sent-append File first rest calls = puts-append first rest calls
sent-append Screen first rest calls = says-append first rest calls

cut_behind : (channel : Channel) (before mid now : List Call) (first rest : List ℕ) → mid ≡ sent channel first before → IsCut channel mid rest now → IsCut channel before (first ++ rest) now
cut_behind channel before mid now first rest one two = record {
  front = first ++ two.front;
  piece = two.piece;
  rest = two.rest;
  split = append_assoc first two.front (two.piece ++ two.rest) ∙ ap (λ t. first ++ t) two.split;
  calls = two.calls ∙ ap (λ cs. failed channel two.piece ∷ cs) (ap (λ cs. sent channel two.front cs) one ∙ sym (sent-append channel first two.front before));
}

cut_more : (channel : Channel) (before now : List Call) (first rest : List ℕ) → IsCut channel before first now → IsCut channel before (first ++ rest) now
cut_more channel before now first rest one = record {
  front = one.front;
  piece = one.piece;
  rest = one.rest ++ rest;
  split =
      ap (λ t. one.front ++ t) (sym (append_assoc one.piece one.rest rest))
      ∙ sym (append_assoc one.front (one.piece ++ one.rest) rest)
      ∙ ap (λ t. t ++ rest) one.split;
  calls = one.calls;
}

-- results of any type
abbrev pub ok : (T E : Type 0) → T → Result T E
ok T E x = Ok x

abbrev pub err : (T E : Type 0) → E → Result T E
err T E e = Err e

cut_at_once : (channel : Channel) (before : List Call) (piece : List ℕ) → IsCut channel before piece (failed channel piece ∷ before)
cut_at_once File before piece = record {
  front = [];
  piece = piece;
  rest = [];
  split = append-nil piece;
  calls = refl;
}
cut_at_once Screen before piece = record {
  front = [];
  piece = piece;
  rest = [];
  split = append-nil piece;
  calls = refl;
}

-- one call that puts, and one that says
pub put_once : {T E : Type 0} (before now : Outside) (bytes : List ℕ) (r : Result T E) → IsWriting before.calls → now ≡ record before { calls = after_put bytes r before.calls } → Appends File before bytes r now
put_once before now bytes (Ok x) is_writing called = record {
  sends = ap (λ o. o.calls) called;
  cut = tt;
  files = ap (λ o. o.files) called;
  still = subst (λ (cs : List Call). IsWriting cs) (sym (ap (λ o. o.calls) called)) (IsWriting-puts bytes before.calls is_writing);
}
put_once before now bytes (Err e) is_writing called = record {
  sends = tt;
  cut = subst (λ (cs : List Call). IsCut File before.calls bytes cs) (sym (ap (λ o. o.calls) called)) (cut_at_once File before.calls bytes);
  files = ap (λ o. o.files) called;
  still = tt;
}

pub say_once : {T E : Type 0} (before now : Outside) (bytes : List ℕ) (r : Result T E) → now ≡ record before { calls = after_say bytes r before.calls } → Appends Screen before bytes r now
say_once before now bytes (Ok x) called = record {
  sends = ap (λ o. o.calls) called;
  cut = tt;
  files = ap (λ o. o.files) called;
  still = tt;
}
say_once before now bytes (Err e) called = record {
  sends = tt;
  cut = subst (λ (cs : List Call). IsCut Screen before.calls bytes cs) (sym (ap (λ o. o.calls) called)) (cut_at_once Screen before.calls bytes);
  files = ap (λ o. o.files) called;
  still = tt;
}

-- one text behind another
pub then : {T E V F : Type 0} {channel : Channel} {before mid now : Outside} {first rest : List ℕ} {x : T} {r : Result V F} → Appends channel before first (ok T E x) mid → Appends channel mid rest r now → Appends channel before (first ++ rest) r now
then {channel = channel} {before = before} {mid = mid} {now = now} {first = first} {rest = rest} {r = Ok v} one two = record {
  sends = two.sends ∙ ap (λ cs. sent channel rest cs) one.sends ∙ sym (sent-append channel first rest before.calls);
  cut = tt;
  files = two.files ∙ one.files;
  still = two.still;
}
then {channel = channel} {before = before} {mid = mid} {now = now} {first = first} {rest = rest} {r = Err e} one two = record {
  sends = tt;
  cut = cut_behind channel before.calls mid.calls now.calls first rest one.sends two.cut;
  files = two.files ∙ one.files;
  still = tt;
}

cut_short : {T U E F : Type 0} {channel : Channel} {before now : Outside} {first : List ℕ} {e : E} (rest : List ℕ) (f : F) → Appends channel before first (err T E e) now → Appends channel before (first ++ rest) (err U F f) now
cut_short {channel = channel} {before = before} {now = now} {first = first} rest f one = record {
  sends = tt;
  cut = cut_more channel before.calls now.calls first rest one.cut;
  files = one.files;
  still = tt;
}

-- where a text failed, nothing came behind it
pub stop : {T U E F : Type 0} {channel : Channel} {before now : Outside} {first : List ℕ} {e : E} (r : Result U F) → IsErr r → (rest : List ℕ) → Appends channel before first (err T E e) now → Appends channel before (first ++ rest) r now
stop (Ok x) failed rest one = absurd (false≢true failed)
stop (Err f) failed rest one = cut_short rest f one

-- the same text in another spelling
pub respell : {U F : Type 0} {channel : Channel} {before now : Outside} {text : List ℕ} {r : Result U F} (other : List ℕ) → other ≡ text → Appends channel before text r now → Appends channel before other r now
respell {channel = channel} {before = before} {now = now} {r = r} other same one = subst (λ (t : List ℕ). Appends channel before t r now) (sym same) one

-- nothing is sent
pub nothing : {V F : Type 0} (channel : Channel) (before : Outside) (v : V) → IsOpen channel before.calls → Appends channel before [] (ok V F v) before
nothing File before v is_open = record {
  sends = refl;
  cut = tt;
  files = refl;
  still = is_open;
}
nothing Screen before v is_open = record {
  sends = refl;
  cut = tt;
  files = refl;
  still = is_open;
}

pub at_done : {T E : Type 0} {channel : Channel} {before now : Outside} {text : List ℕ} {x : T} → Appends channel before text (ok T E x) now → Appends channel before text done now
at_done one = record {
  sends = one.sends;
  cut = tt;
  files = one.files;
  still = one.still;
}

-- nothing is sent yet
pub begin : (channel : Channel) (before : Outside) (whole : List ℕ) → IsOpen channel before.calls → Midway channel before whole whole before
begin channel before whole is_open = record {
  front = [];
  split = refl;
  appends = nothing channel before tt is_open;
}

-- the next piece is sent
pub go_on : {T E : Type 0} {channel : Channel} {before mid now : Outside} {whole had first : List ℕ} {x : T} (rest : List ℕ) → had ≡ first ++ rest → Midway channel before whole had mid → Appends channel mid first (ok T E x) now → Midway channel before whole rest now
go_on {first = first} rest parts midway one = record {
  front = midway.front ++ first;
  split = append_assoc midway.front first rest ∙ ap (λ t. midway.front ++ t) (sym parts) ∙ midway.split;
  appends = then midway.appends (at_done one);
}

-- the last piece ends the whole
pub finish : {V F : Type 0} {channel : Channel} {before mid now : Outside} {whole rest : List ℕ} {r : Result V F} → Midway channel before whole rest mid → Appends channel mid rest r now → Appends channel before whole r now
finish {channel = channel} {before = before} {now = now} {r = r} midway last =
    subst (λ (t : List ℕ). Appends channel before t r now) midway.split (then midway.appends last)

-- a piece that failed ends the whole
pub halt : {T U E F : Type 0} {channel : Channel} {before mid now : Outside} {whole had first : List ℕ} {e : E} (r : Result U F) → IsErr r → (rest : List ℕ) → had ≡ first ++ rest → Midway channel before whole had mid → Appends channel mid first (err T E e) now → Appends channel before whole r now
halt {channel = channel} {before = before} {mid = mid} {now = now} {whole = whole} r failed rest parts midway one =
    finish midway (subst (λ (t : List ℕ). Appends channel mid t r now) (sym parts) (stop r failed rest one))

line_first : {X : Type 0} (f : X → List ℕ) (x : X) (front : List X) (last : List ℕ) → line (map f (x ∷ front) ++ last ∷ []) ≡ f x ++ 32 ∷ line (map f front ++ last ∷ [])
line_first f x [] last = refl
line_first f x (y ∷ front) last = refl

-- the next word of a front, and the word behind the whole front
pub line-drop : {X : Type 0} (f : X → List ℕ) (front : List X) (last : List ℕ) (i : ℕ) (d : X) → i < length front → line (map f (drop i front) ++ last ∷ []) ≡ (f (get_or front i d) ++ 32 ∷ []) ++ line (map f (drop (i + 1) front) ++ last ∷ [])
line-drop f front last i d there =
    ap (λ xs. line (map f xs ++ last ∷ [])) (drop_more front i d there)
    ∙ line_first f (get_or front i d) (drop (i + 1) front) last
    ∙ sym (append_assoc (f (get_or front i d)) (32 ∷ []) _)

-- the same of an item that is known to stand there
pub line-item : {X : Type 0} (f : X → List ℕ) (front : List X) (last : List ℕ) (i : ℕ) (item : X) → item ≡ get_or front i item → i < length front → line (map f (drop i front) ++ last ∷ []) ≡ (f item ++ 32 ∷ []) ++ line (map f (drop (i + 1) front) ++ last ∷ [])
line-item f front last i item is there =
    line-drop f front last i item there ∙ ap (λ x. (f x ++ 32 ∷ []) ++ line (map f (drop (i + 1) front) ++ last ∷ [])) (sym is)

pub line-dropped : {X : Type 0} (f : X → List ℕ) (front : List X) (last : List ℕ) (i : ℕ) → length front ≤ i → line (map f (drop i front) ++ last ∷ []) ≡ last ++ 10 ∷ []
line-dropped f front last i past = ap (λ xs. line (map f xs ++ last ∷ [])) (drop_of_length-le front past)

-- the next word before others, where there are some
line_before : {X : Type 0} (f : X → List ℕ) (x : X) (words : List X) (rest : List (List ℕ)) → 0 < length rest → line (map f (x ∷ words) ++ rest) ≡ f x ++ 32 ∷ line (map f words ++ rest)
line_before f x [] [] some = absurd (omega arith)
line_before f x [] (word ∷ rest) some = refl
line_before f x (y ∷ words) rest some = refl

pub line-before : {X : Type 0} (f : X → List ℕ) (words : List X) (rest : List (List ℕ)) (i : ℕ) (d : X) → 0 < length rest → i < length words → line (map f (drop i words) ++ rest) ≡ (f (get_or words i d) ++ 32 ∷ []) ++ line (map f (drop (i + 1) words) ++ rest)
line-before f words rest i d some there =
    ap (λ xs. line (map f xs ++ rest)) (drop_more words i d there)
    ∙ line_before f (get_or words i d) (drop (i + 1) words) rest some
    ∙ sym (append_assoc (f (get_or words i d)) (32 ∷ []) _)

pub line-behind : {X : Type 0} (f : X → List ℕ) (words : List X) (rest : List (List ℕ)) (i : ℕ) → length words ≤ i → line (map f (drop i words) ++ rest) ≡ line rest
line-behind f words rest i past = ap (λ xs. line (map f xs ++ rest)) (drop_of_length-le words past)

pub some_words : {X : Type 0} (f : X → List ℕ) (front : List X) (last : List ℕ) → 0 < length (map f front ++ last ∷ [])
some_words f [] last = omega arith
some_words f (x ∷ front) last = omega arith

-- the next piece of a text
pub text-drop : {X : Type 0} (f : X → List (List ℕ)) (xs : List X) (i : ℕ) (d : X) → i < length xs → text (map f (drop i xs)) ≡ line (f (get_or xs i d)) ++ text (map f (drop (i + 1) xs))
text-drop f xs i d there = ap (λ ys. text (map f ys)) (drop_more xs i d there)

-- lines before others
pub text-append : (first rest : List (List (List ℕ))) → text (first ++ rest) ≡ text first ++ text rest
text-append first rest = flat_map-append line first rest
