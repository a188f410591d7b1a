-- Functions that are made of listings.
use Rattle.std.proofs.Common.{◌≡◌, ◌≢◌, ℕ, ◌+◌, ◌<◌, ◌≤◌, ◌⊎◌, inl, inr, min, Bool, cond, List, [], ◌∷◌, ◌++◌, length, map, get_or, set, take, refl, sym, ap, ◌∙◌, arith}
use Rattle.std.specs.Prelude.{if◌then◌else◌, ◌==◌}
use Rattle.std.specs.Borrow.{Bor}
use Rattle.std.specs.List.{range_with_len}
use Rattle.std.proofs.lemmas.Bool.{cases_lt, cases_eq, eq-eqb, ne_eqb}
use Rattle.std.proofs.lemmas.List.{ext_get_or, get_or_past, get_or-set_same, get_or-set_other, length-set, length_push, set_at, get_or_at, map_more}
use Rattle.std.proofs.lemmas.List.FromFn.{length-map-range_with_len, get_or-map-range_with_len}
use Rattle.cfn_model.specs.Network.{Function, Network, IsFunction, cells, cell, dims, dims_at, last_listed, function_of, function_at, no_function}
use Rattle.cfn_net.specs.Building.{IsScope, ListingLaw, last, list_at_end, listings_of, with_entry, with_function, with_last}

-- a function of listings keeps the limits of functions
pub IsFunction-function_of : (sizes : List ℕ) (upper : ℕ) (scope : List ℕ) (default : ℕ) (listings : List (List ℕ × ℕ)) → IsScope sizes scope → IsFunction sizes upper (function_of sizes upper scope default listings)
IsFunction-function_of sizes upper scope default listings s =
    let entry : ℕ → ℕ = λ c. min upper (last_listed (dims sizes scope) default listings c) in
    let n = cells (dims sizes scope) in
    record {
      variables = s.variables;
      different = s.different;
      few = s.few;
      default = omega arith;
      table = length-map-range_with_len entry 0 n;
      capped = λ c. capped_at upper (last_listed (dims sizes scope) default listings) n c (cases_lt c n);
    }
  where
    capped_at : (upper : ℕ) (cost : ℕ → ℕ) (n c : ℕ) → (c < n) ⊎ (n ≤ c) → get_or (map (λ c. min upper (cost c)) (range_with_len 0 n)) c 0 ≤ upper
    capped_at upper cost n c (inl l) = omega (arith, get_or-map-range_with_len (λ c. min upper (cost c)) 0 n c c 0 l (omega arith))
    capped_at upper cost n c (inr l) = omega (arith, get_or_past (map (λ c. min upper (cost c)) (range_with_len 0 n)) c 0 (omega (arith, length-map-range_with_len (λ c. min upper (cost c)) 0 n)))

-- the last listing decides
pub last_listed-push : (sizes : List ℕ) (default : ℕ) (listings : List (List ℕ × ℕ)) (listing : List ℕ × ℕ) (c : ℕ) → last_listed sizes default (listings ++ listing ∷ []) c ≡ (if cell sizes listing.0 == c then listing.1 else last_listed sizes default listings c)
last_listed-push sizes default [] listing c = refl
last_listed-push sizes default (first ∷ listings) listing c =
    last_listed-push sizes (if cell sizes first.0 == c then first.1 else default) listings listing c

-- a list of values at numbers, with the value at one number written
pub map-range_with_len-set : (f g : ℕ → ℕ) (n k v : ℕ) → (k < n → g k ≡ v) → ((c : ℕ) → c ≢ k → g c ≡ f c) → set (map f (range_with_len 0 n)) k v ≡ map g (range_with_len 0 n)
map-range_with_len-set f g n k v at other =
    let len = length-map-range_with_len f 0 n in
    let len_g = length-map-range_with_len g 0 n in
    let len_set = length-set (map f (range_with_len 0 n)) k v in
    ext_get_or 0 _ _ (omega arith) (λ i l. each i (omega arith) (cases_eq i k))
  where
    each : (i : ℕ) → i < n → (i ≡ k) ⊎ (i ≢ k) → get_or (set (map f (range_with_len 0 n)) k v) i 0 ≡ get_or (map g (range_with_len 0 n)) i 0
    each i l (inl e) =
        let m : k < n = omega arith in
        let len : length (map f (range_with_len 0 n)) ≡ n = length-map-range_with_len f 0 n in
        ap (λ j. get_or (set (map f (range_with_len 0 n)) k v) j 0) e ∙ get_or-set_same (map f (range_with_len 0 n)) k v 0 (omega arith) ∙ sym (at m) ∙ sym (get_or-map-range_with_len g 0 n i k 0 l (omega arith))
    each i l (inr e) =
        get_or-set_other (map f (range_with_len 0 n)) k i v 0 e ∙ get_or-map-range_with_len f 0 n i i 0 l (omega arith) ∙ sym (other i e) ∙ sym (get_or-map-range_with_len g 0 n i i 0 l (omega arith))

pub if_same : (a x y : ℕ) → (if a == a then x else y) ≡ x
if_same a x y = ap (λ (b : Bool). cond b x y) (eq-eqb a a refl)

pub if_other : (a b x y : ℕ) → b ≢ a → (if a == b then x else y) ≡ y
if_other a b x y ne = ap (λ (b : Bool). cond b x y) (ne_eqb a b (λ e. ne (sym e)))

-- a listing's cost, written at its cell
pub with_entry-function_of : (sizes : List ℕ) (upper : ℕ) (scope : List ℕ) (default : ℕ) (listings : List (List ℕ × ℕ)) (listing : List ℕ × ℕ) → with_entry upper (cell (dims sizes scope) listing.0) listing.1 (function_of sizes upper scope default listings) ≡ function_of sizes upper scope default (listings ++ listing ∷ [])
with_entry-function_of sizes upper scope default listings listing =
    let ds = dims sizes scope in
    let k = cell ds listing.0 in
    let before : ℕ → ℕ = λ c. min upper (last_listed ds default listings c) in
    let after : ℕ → ℕ = λ c. min upper (last_listed ds default (listings ++ listing ∷ []) c) in
    let at : after k ≡ min upper listing.1 = ap (λ x. min upper x) (last_listed-push ds default listings listing k ∙ if_same k listing.1 (last_listed ds default listings k)) in
    let other : (c : ℕ) → c ≢ k → after c ≡ before c = (λ c ne. ap (λ x. min upper x) (last_listed-push ds default listings listing c ∙ if_other k c listing.1 (last_listed ds default listings c) ne)) in
    let with_entries : List ℕ → Function = λ es. record { scope = scope; default = min upper default; entries = es } in
    ap with_entries (map-range_with_len-set before after (cells ds) k (min upper listing.1) (λ _. at) other)

-- the last function after one was added
pub last-with_function : (P : Network) (f : Function) → last (with_function P f) ≡ length P.functions
last-with_function P f = omega (arith, length_push P.functions f)

pub with_last-with_function : (P : Network) (f g : Function) → with_last (with_function P f) g ≡ with_function P g
with_last-with_function P f g =
    let with_functions : List Function → Network = λ fs. record P { functions = fs } in
    ap with_functions (set_at P.functions f [] g (last (with_function P f)) (sym (last-with_function P f)))

pub function_at-with_function : (P : Network) (f : Function) → function_at (with_function P f) (last (with_function P f)) ≡ f
function_at-with_function P f = get_or_at P.functions f [] no_function (last (with_function P f)) (sym (last-with_function P f))

pub list_at_end-with_function : (P : Network) (scope : List ℕ) (default : ℕ) (listings : List (List ℕ × ℕ)) (listing : List ℕ × ℕ) → list_at_end (with_function P (function_of P.sizes P.upper scope default listings)) (cell (dims P.sizes scope) listing.0) listing.1 ≡ with_function P (function_of P.sizes P.upper scope default (listings ++ listing ∷ []))
list_at_end-with_function P scope default listings listing =
    let f : Function = function_of P.sizes P.upper scope default listings in
    let k = cell (dims P.sizes scope) listing.0 in
    let put : Function → Network = λ g. with_last (with_function P f) (with_entry P.upper k listing.1 g) in
    ap put (function_at-with_function P f) ∙ with_last-with_function P f (with_entry P.upper k listing.1 f) ∙ ap (λ (g : Function). with_function P g) (with_entry-function_of P.sizes P.upper scope default listings listing)

pub the_listing_law : ListingLaw
the_listing_law = record {
  entry = with_entry-function_of;
  replaced = with_last-with_function;
  at_end = function_at-with_function;
  listed = list_at_end-with_function;
}

-- a loop that lists a tuple has one more listing
pub listed_more : (P S Q N : Network) (scope : List ℕ) (default : ℕ) (listed : List (Bor (List ℕ) × ℕ)) (i : ℕ) (d : Bor (List ℕ) × ℕ) (k place : ℕ) → Q ≡ S → S ≡ with_function P (function_of P.sizes P.upper scope default (listings_of (take i listed))) → i < length listed → place ≡ length P.functions → k ≡ cell (dims_at Q place) (get_or listed i d).0.now → N ≡ list_at_end S k (get_or listed i d).1 → N ≡ with_function P (function_of P.sizes P.upper scope default (listings_of (take (i + 1) listed)))
listed_more P S Q N scope default listed i d k place same built l at is_cell written =
    let x = get_or listed i d in
    let f : Function = function_of P.sizes P.upper scope default (listings_of (take i listed)) in
    let here : function_at (with_function P f) place ≡ f = get_or_at P.functions f [] no_function place (sym at) in
    let key : k ≡ cell (dims P.sizes scope) x.0.now = is_cell ∙ ap (λ (R : Network). cell (dims_at R place) x.0.now) (same ∙ built) ∙ ap (λ (g : Function). cell (dims P.sizes g.scope) x.0.now) here in
    let listings : List (List ℕ × ℕ) → Network = λ ls. with_function P (function_of P.sizes P.upper scope default ls) in
    written ∙ ap (λ (R : Network). list_at_end R k x.1) built ∙ ap (λ n. list_at_end (with_function P f) n x.1) key ∙ list_at_end-with_function P scope default (listings_of (take i listed)) (x.0.now, x.1) ∙ ap listings (sym (map_more (λ (y : Bor (List ℕ) × ℕ). (y.0.now, y.1)) listed i d l))
