-- A network with a last function that is open.
use Rattle.std.proofs.Common.{◌≡◌, ℕ, zero, suc, ◌-◌, ◌<◌, min, List, [], ◌++◌, length, take, replicate, Option, Some, None, refl, sym, ap, subst, ◌∙◌, arith}
use Rattle.std.proofs.lemmas.List.FromFn.{length-map-range_with_len}
use Rattle.cfn_model.specs.Network.{Function, Network, IsFunction, IsNetwork, cells, dims, dims_at, function_of, last_listed}
use Rattle.cfn_net.specs.declared.open.Open.{Open}
use Rattle.cfn_net.specs.Building.{CanTake, list_at_end, share_of, with_entry, with_function, with_last}
use Rattle.cfn_net.specs.Drafting.{IsDraft, IsOpen, IsShare, open_function, with_open, written}
use Rattle.cfn_net.proofs.Listings.{IsFunction-function_of, function_at-with_function, with_last-with_function}
use Rattle.cfn_net.proofs.Keeping.{IsFunction-share, IsNetwork-with_function}

pub IsNetwork-with_open : (P : Network) (opened : Option Open) → IsNetwork P → IsDraft P opened → IsNetwork (with_open P opened)
IsNetwork-with_open P None net draft = net
IsNetwork-with_open P (Some opened) net draft = IsNetwork-with_function P (open_function opened) net draft.room draft.limits

sizes-with_open : (P : Network) (opened : Option Open) → P.sizes ≡ (with_open P opened).sizes
sizes-with_open P None = refl
sizes-with_open P (Some opened) = refl

upper-with_open : (P : Network) (opened : Option Open) → P.upper ≡ (with_open P opened).upper
upper-with_open P None = refl
upper-with_open P (Some opened) = refl

-- an entry of the open function, written
pub list_at_end-open : (P Q : Network) (f g : Function) (c amount e : ℕ) → with_function P f ≡ Q → g ≡ written f c e → e ≡ min P.upper amount → with_function P g ≡ list_at_end Q c amount
list_at_end-open P Q f g c amount e view is capped =
    let put : Function → Network = λ h. with_last (with_function P f) (with_entry P.upper c amount h) in
    let there : list_at_end (with_function P f) c amount ≡ with_function P (with_entry P.upper c amount f) = ap put (function_at-with_function P f) ∙ with_last-with_function P f (with_entry P.upper c amount f) in
    let here : g ≡ with_entry P.upper c amount f = is ∙ ap (written f c) capped in
    ap (with_function P) here ∙ sym there ∙ ap (λ (R : Network). list_at_end R c amount) view

-- a network with functions has one that is open
pub some-open : (P Q : Network) (opened : Option Open) → with_open P opened ≡ Q → IsDraft P opened → ((o : Open) → opened ≡ Some o → ⊥) → 0 < length Q.functions → ⊥
some-open P Q None view draft away l =
    omega (arith, ap length draft, ap (λ (R : Network). length R.functions) view)
some-open P Q (Some o) view draft away l = away o refl

-- a list that was filled from nothing
pub filled : (items new : List ℕ) (len n d : ℕ) → items ≡ [] → len ≡ 0 → new ≡ take n items ++ replicate (n - len) d → new ≡ replicate n d
filled items new len n d none empty is =
    is ∙ ap (λ (xs : List ℕ). take n xs ++ replicate (n - len) d) none ∙ ap (λ m. take n [] ++ replicate (n - m) d) empty ∙ nothing n
  where
    nothing : (m : ℕ) → take m [] ++ replicate (m - 0) d ≡ replicate m d
    nothing zero = refl
    nothing (suc m) =
        let e : suc m - 0 ≡ suc m = omega arith in
        ap (λ k. replicate k d) e

-- the function that is begun behind a network and its open function
pub cells-begun : (P Q : Network) (opened : Option Open) (s entries : List ℕ) (default : ℕ) → with_open P opened ≡ Q → entries ≡ (function_of P.sizes P.upper s default []).entries → length entries ≡ cells (dims Q.sizes s)
cells-begun P Q opened s entries default view is =
    let sizes : P.sizes ≡ Q.sizes = sizes-with_open P opened ∙ ap (λ (R : Network). R.sizes) view in
    ap length is ∙ length-map-range_with_len (λ c. min P.upper (last_listed (dims P.sizes s) default [] c)) 0 (cells (dims P.sizes s)) ∙ ap (λ (ss : List ℕ). cells (dims ss s)) sizes

pub IsOpen-begun : (P N Q : Network) (opened : Option Open) (s : List ℕ) (default : ℕ) (next : Open) → N ≡ with_open P opened → with_open P opened ≡ Q → CanTake Q s → open_function next ≡ function_of P.sizes P.upper s default [] → next.shares ≡ None → IsOpen N next
IsOpen-begun P N Q opened s default next is view room begun alone =
    let whole : N ≡ Q = is ∙ view in
    let can : CanTake N s = subst (λ (R : Network). CanTake R s) (sym whole) room in
    let scope : next.scope.items ≡ s = ap (λ (f : Function). f.scope) begun in
    let sizes : N.sizes ≡ P.sizes = ap (λ (R : Network). R.sizes) is ∙ sym (sizes-with_open P opened) in
    let upper : N.upper ≡ P.upper = ap (λ (R : Network). R.upper) is ∙ sym (upper-with_open P opened) in
    let f : open_function next ≡ function_of N.sizes N.upper s default [] = begun ∙ ap (λ (ss : List ℕ). function_of ss P.upper s default []) (sym sizes) ∙ ap (λ u. function_of N.sizes u s default []) (sym upper) in
    record {
      room = subst (CanTake N) (sym scope) can;
      limits = subst (IsFunction N.sizes N.upper) (sym f) (IsFunction-function_of N.sizes N.upper s default [] can.scope);
      share = subst (IsShare N (open_function next)) (sym alone) tt;
    }

pub IsOpen-share : (N Q : Network) (earlier : ℕ) (s : List ℕ) (next : Open) → N ≡ Q → IsNetwork N → CanTake Q s → earlier < length Q.functions → dims Q.sizes s ≡ dims_at Q earlier → open_function next ≡ share_of N earlier s → next.shares ≡ Some earlier → IsOpen N next
IsOpen-share N Q earlier s next whole net room l same is shares =
    let can : CanTake N s = subst (λ (R : Network). CanTake R s) (sym whole) room in
    let m : earlier < length N.functions = subst (λ (R : Network). earlier < length R.functions) (sym whole) l in
    let fits : dims N.sizes s ≡ dims_at N earlier = subst (λ (R : Network). dims R.sizes s ≡ dims_at R earlier) (sym whole) same in
    let scope : next.scope.items ≡ s = ap (λ (f : Function). f.scope) is in
    record {
      room = subst (CanTake N) (sym scope) can;
      limits = subst (IsFunction N.sizes N.upper) (sym is) (IsFunction-share N earlier s net m can.scope fits);
      share = subst (IsShare N (open_function next)) (sym shares) (m, ap (dims N.sizes) scope ∙ fits, is ∙ ap (share_of N earlier) (sym scope));
    }
