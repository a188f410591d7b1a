-- What stands behind the old bytes after a read and a cut is what the read gave.
use Rattle.std.proofs.Common.{◌≡◌, ℕ, ◌+◌, ◌≤◌, List, [], ◌++◌, length, take, cond, false, Option, None, Some, Result, Ok, Err, is_ok, is_err, refl, sym, ◌∙◌, arith, rules, append_assoc}
use Rattle.std.proofs.Math.Seq.{take-append-add}
use Rattle.std.proofs.lemmas.List.{take-append-le, take-take, take_all, take_at, append-nil, length-take, length-drop}
use Rattle.std.specs.Io.KnownBytes.{Consumes, Keeps}
use Rattle.cfn_desk.proofs.read.read_chunk.Goals as goal

-- the old bytes are the front of what they grew to
grown_front : {T E : Type 0} (r : Result T E) (old zeros grown xs : List ℕ) (start more : ℕ) → is_err r ≡ false → length old ≡ start → xs ≡ grown → grown ≡ cond (is_ok r) (take (start + more) old ++ zeros) old → take start xs ≡ old
grown_front (Ok x) old zeros grown xs start more h l e f =
    let whole : take (start + more) old ≡ old = take_all (start + more) old (omega arith) in
    rw (e, f, whole) (take_at old zeros start l)
grown_front (Err x) old zeros grown xs start more h l e f = cc

-- a cut behind count bytes of what was read leaves these behind the old bytes
read_behind : (old xs buf post rest now : List ℕ) (start count len : ℕ) → length old ≡ start → take start xs ≡ old → count ≤ length buf → start + count ≤ len → now ≡ take (start + count) (take len ((take start xs ++ (buf ++ post)) ++ rest)) → now ≡ old ++ take count buf
read_behind old xs buf post rest now start count len l front fits within cut =
    cut ∙ take-take (start + count) len _ within ∙ rw (front, append_assoc old (buf ++ post) rest, ← l, take-append-add old ((buf ++ post) ++ rest) count, append_assoc buf post rest, take-append-le count buf (post ++ rest) fits) refl

-- a cut where the old bytes end leaves them alone
read_nothing : (old xs part rest now : List ℕ) (start len : ℕ) → length old ≡ start → take start xs ≡ old → start ≤ len → now ≡ take start (take len ((take start xs ++ part) ++ rest)) → now ≡ old ++ []
read_nothing old xs part rest now start len l front within cut =
    cut ∙ take-take start len _ within ∙ rw (front, append_assoc old part rest, take_at old (part ++ rest) start l, append-nil old) refl

-- bytes that stay are consumed by none
none_consumed : (had has : Option (List ℕ)) → Keeps had has → Consumes had has []
none_consumed None has h = tt
none_consumed (Some xs) None h = h
none_consumed (Some xs) (Some ys) h = sym h

-- a value that was chosen by a result that is no error
chosen_at_ok : {T E : Type 0} (r : Result T E) (n a b : ℕ) → is_err r ≡ false → n ≡ cond (is_ok r) a b → n ≡ a
chosen_at_ok (Ok x) n a b h e = e
chosen_at_ok (Err x) n a b h e = cc

pub returns-else-len-gt-FILE_LIMIT-clause-read : goal.returns-else-len-gt-FILE_LIMIT-clause-read
returns-else-len-gt-FILE_LIMIT-clause-read g c =
    let old = c.args.into.now in
    let l : length old.items ≡ c.len-start.result = omega (arith, old.ok.0) in
    let e : is_err c.resize.result ≡ false = search rules in
    let front : take c.len-start.result c.deref_mut.result.now ≡ old.items = grown_front c.resize.result old.items _ _ _ _ _ e l c.deref_mut.ensures.value c.resize.ensures.items in
    let long : c.resize.new.self.len ≡ c.len-start.result + 65536 = chosen_at_ok c.resize.result _ _ _ e c.resize.ensures.len in
    let room = simp (length-take, length-drop) at c.read.auto.buf in
    record {
      bytes = take c.in-Ok.count c.read.new.buf;
      behind = read_behind old.items _ _ _ _ _ _ _ _ l front c.in-Ok.ensures.bound.0 (omega (arith, room, long, c.deref_mut.ensures.len, c.in-Ok.ensures.bound.0)) c.truncate.ensures.items;
      consumed = c.in-Ok.ensures.bytes.0;
    }

pub returns-then-eq-clause-read : goal.returns-then-eq-clause-read
returns-then-eq-clause-read g c =
    let old = c.args.into.now in
    let l : length old.items ≡ c.len-start.result = omega (arith, old.ok.0) in
    let e : is_err c.resize.result ≡ false = search rules in
    let front : take c.len-start.result c.deref_mut.result.now ≡ old.items = grown_front c.resize.result old.items _ _ _ _ _ e l c.deref_mut.ensures.value c.resize.ensures.items in
    let long : c.resize.new.self.len ≡ c.len-start.result + 65536 = chosen_at_ok c.resize.result _ _ _ e c.resize.ensures.len in
    record {
      bytes = [];
      behind = read_nothing old.items _ _ _ _ _ _ l front (omega (arith, long)) c.truncate-in-Err.ensures.items;
      consumed = none_consumed _ _ c.in-Err.ensures.bytes;
    }
