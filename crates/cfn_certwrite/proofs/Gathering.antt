-- What bytes that are gathered add up to.
use Rattle.std.proofs.Common.{◌≡◌, ℕ, List, [], ◌++◌, Result, Ok, Err, sym, ap, ◌∙◌, subst, append_assoc}
use Rattle.std.specs.Prelude.{IsErr}
use Rattle.std.proofs.lemmas.Bool.{false≢true}
use Rattle.std.proofs.lemmas.List.{append-nil}
use Rattle.cfn_desk.specs.Outside.{Outside, IsWriting}
use Rattle.cfn_line.specs.Appending.{Midway}
use Rattle.cfn_line.specs.declared.channel.Channel.TheVariants.{File}
use Rattle.cfn_line.proofs.CallerLemmas.{ok, err, then, begin, halt}
use Rattle.cfn_certwrite.specs.Batches.{Gathers}

-- some of what waits is put
pub go_on : {T E : Type 0} {before mid now : Outside} {text had waiting waits : List ℕ} {x : T} (rest : List ℕ) → had ≡ waiting ++ rest → Midway File before text had mid → Gathers mid waiting (ok T E x) now waits → Midway File before text (waits ++ rest) now
go_on {waiting = waiting} {waits = waits} rest parts midway one = record {
  front = midway.front ++ one.ok.front;
  split =
      append_assoc midway.front one.ok.front (waits ++ rest)
      ∙ ap (λ t. midway.front ++ t) (sym (append_assoc one.ok.front waits rest) ∙ ap (λ t. t ++ rest) one.ok.split ∙ sym parts)
      ∙ midway.split;
  appends = then midway.appends one.ok.appends;
}

-- what waits could not be put
pub break : {T U E F : Type 0} {before mid now : Outside} {text had waiting waits other : List ℕ} {e : E} (r : Result U F) → IsErr r → (rest : List ℕ) → had ≡ waiting ++ rest → Midway File before text had mid → Gathers mid waiting (err T E e) now waits → Gathers before text r now other
break (Ok x) failed rest parts midway one = absurd (false≢true failed)
break (Err f) failed rest parts midway one = record {
  ok = tt;
  err = halt (Err f) failed rest parts midway one.err;
}

-- nothing waits and nothing is put yet
pub start : (before : Outside) (text rest waits : List ℕ) → IsWriting before.calls → text ≡ rest → waits ≡ [] → Midway File before text (waits ++ rest) before
start before text rest waits is_writing same empty =
    subst (λ (t : List ℕ). Midway File before text t before) (same ∙ ap (λ t. t ++ rest) (sym empty)) (begin File before text is_writing)

-- a text is added to what waits
pub add : {before now : Outside} {text waits : List ℕ} (waiting added rest : List ℕ) → waits ≡ waiting ++ added → Midway File before text (waiting ++ (added ++ rest)) now → Midway File before text (waits ++ rest) now
add {before = before} {now = now} {text = text} waiting added rest is midway =
    subst (λ (t : List ℕ). Midway File before text t now) (sym (append_assoc waiting added rest) ∙ ap (λ t. t ++ rest) (sym is)) midway

-- all is put or waits
pub gathered : {T E : Type 0} {before now : Outside} {text rest waits : List ℕ} {x : T} → waits ≡ rest → Midway File before text rest now → Gathers before text (ok T E x) now waits
gathered {before = before} {now = now} {text = text} is midway = record {
  ok = subst (λ (t : List ℕ). Midway File before text t now) (sym is) midway;
  err = tt;
}

-- nothing is left to be gathered
pub at_end : {before now : Outside} {text waits : List ℕ} → Midway File before text (waits ++ []) now → Midway File before text waits now
at_end {before = before} {now = now} {text = text} {waits = waits} midway =
    subst (λ (t : List ℕ). Midway File before text t now) (append-nil waits) midway
