-- What a line that waits for the screen adds up to.
use Rattle.std.proofs.Common.{◌≡◌, ℕ, List, [], ◌++◌, Result, Ok, Err, refl, sym, ap, ◌∙◌, subst, append_assoc}
use Rattle.std.specs.Prelude.{IsErr}
use Rattle.std.proofs.lemmas.Bool.{false≢true}
use Rattle.std.proofs.lemmas.List.{append-nil}
use Rattle.cfn_desk.specs.Outside.{Outside}
use Rattle.cfn_line.specs.declared.channel.Channel.TheVariants.{Screen}
use Rattle.cfn_line.specs.Appending.{Appends, Midway, Adds}
use Rattle.cfn_line.proofs.Sending.{ok, err, then, stop, respell, begin, finish, halt, at_done}

-- a text is added while a whole is being sent, of which it stands before the rest
pub add_on : {T E : Type 0} {before mid now : Outside} {whole had waiting text waits : List ℕ} {x : T} (rest : List ℕ) → had ≡ waiting ++ (text ++ rest) → Midway Screen before whole had mid → Adds mid waiting text (ok T E x) now waits → Midway Screen before whole (waits ++ rest) now
add_on {waiting = waiting} {text = text} {waits = waits} rest parts midway one = record {
  front = midway.front ++ one.ok.front;
  split =
      append_assoc midway.front one.ok.front (waits ++ rest)
      ∙ ap (λ t. midway.front ++ t) (sym (append_assoc one.ok.front waits rest) ∙ ap (λ t. t ++ rest) one.ok.split ∙ append_assoc waiting text rest ∙ sym parts)
      ∙ midway.split;
  appends = then midway.appends one.ok.appends;
}

-- a text that could not be added ends the whole
pub add_halt : {T U E F : Type 0} {before mid now : Outside} {whole had waiting text waits : List ℕ} {e : E} (r : Result U F) → IsErr r → (rest : List ℕ) → had ≡ waiting ++ (text ++ rest) → Midway Screen before whole had mid → Adds mid waiting text (err T E e) now waits → Appends Screen before whole r now
add_halt {waiting = waiting} {text = text} r failed rest parts midway one = halt r failed rest (parts ∙ sym (append_assoc waiting text rest)) midway one.err

midway_same : {before now : Outside} {whole rest : List ℕ} (other : List ℕ) → rest ≡ other → Midway Screen before whole rest now → Midway Screen before whole other now
midway_same {before = before} {now = now} {whole = whole} other same midway = subst (λ (t : List ℕ). Midway Screen before whole t now) same midway

-- the last addition ends the whole
pub add_finish : {V F : Type 0} {before mid now : Outside} {waiting text waited last waits : List ℕ} {r : Result V F} → Midway Screen before (waiting ++ text) (waited ++ last) mid → Adds mid waited last r now waits → Adds before waiting text r now waits
add_finish {waited = waited} {last = last} {waits = waits} {r = Ok v} midway one = record {
  ok = midway_same waits (append-nil waits) (add_on [] (ap (λ t. waited ++ t) (sym (append-nil last))) midway one);
  err = tt;
}
add_finish {r = Err e} midway one = record {
  ok = tt;
  err = finish midway one.err;
}

-- an addition that failed ends the whole
pub add_break : {T U E F : Type 0} {before mid now : Outside} {waiting text had waited piece waits other : List ℕ} {e : E} (r : Result U F) → IsErr r → (rest : List ℕ) → had ≡ waited ++ (piece ++ rest) → Midway Screen before (waiting ++ text) had mid → Adds mid waited piece (err T E e) now waits → Adds before waiting text r now other
add_break (Ok x) failed rest parts midway one = absurd (false≢true failed)
add_break (Err f) failed rest parts midway one = record {
  ok = tt;
  err = add_halt (Err f) failed rest parts midway one;
}

-- one addition behind another
pub add_then : {T E V F : Type 0} {before mid now : Outside} {waiting first rest waited waits : List ℕ} {x : T} {r : Result V F} → Adds before waiting first (ok T E x) mid waited → Adds mid waited rest r now waits → Adds before waiting (first ++ rest) r now waits
add_then {before = before} {waiting = waiting} {first = first} {rest = rest} one two =
    add_finish (add_on {had = waiting ++ (first ++ rest)} rest refl (begin Screen before (waiting ++ (first ++ rest)) tt) one) two

-- where an addition failed, nothing came behind it
pub add_stop : {T U E F : Type 0} {before now : Outside} {waiting first waits other : List ℕ} {e : E} (r : Result U F) → IsErr r → (rest : List ℕ) → Adds before waiting first (err T E e) now waits → Adds before waiting (first ++ rest) r now other
add_stop {before = before} {waiting = waiting} {first = first} r failed rest one =
    add_break {had = waiting ++ (first ++ rest)} r failed rest refl (begin Screen before (waiting ++ (first ++ rest)) tt) one

-- what waited could not be sent
pub add_failed : {T U E F : Type 0} {before now : Outside} {waiting waits : List ℕ} {e : E} (r : Result U F) → IsErr r → (rest : List ℕ) → Appends Screen before waiting (err T E e) now → Adds before waiting rest r now waits
add_failed (Ok x) failed rest one = absurd (false≢true failed)
add_failed (Err f) failed rest one = record {
  ok = tt;
  err = stop (Err f) failed rest one;
}

-- a text that is sent behind what waited
pub add_through : {T E V F : Type 0} {before mid now : Outside} {waiting text waits : List ℕ} {x : T} {r : Result V F} → Appends Screen before waiting (ok T E x) mid → Appends Screen mid text r now → waits ≡ [] → Adds before waiting text r now waits
add_through {waiting = waiting} {text = text} {r = Ok v} one two empty = record {
  ok = record {
    front = waiting ++ text;
    split = ap (λ t. (waiting ++ text) ++ t) empty ∙ append-nil (waiting ++ text);
    appends = at_done (then one two);
  };
  err = tt;
}
add_through {r = Err e} one two empty = record {
  ok = tt;
  err = then one two;
}

-- a line that is sent in the end, and one that could not be added
pub add_say : {T E V F : Type 0} {before mid now : Outside} {text waits : List ℕ} {x : T} {r : Result V F} → Adds before [] text (ok T E x) mid waits → Appends Screen mid waits r now → Appends Screen before text r now
add_say one two = finish one.ok two

pub add_fail : {T U E F : Type 0} {before now : Outside} {text waits : List ℕ} {e : E} (r : Result U F) → IsErr r → Adds before [] text (err T E e) now waits → Appends Screen before text r now
add_fail {text = text} r failed one = respell text (sym (append-nil text)) (stop r failed [] one.err)
