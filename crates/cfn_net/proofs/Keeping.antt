-- A network's functions with their tables kept apart, when one more function comes.
use Rattle.std.proofs.Common.{◌≡◌, ℕ, ◌+◌, ◌<◌, ◌≤◌, ◌⊎◌, inl, inr, List, [], ◌∷◌, ◌++◌, length, get_or, All, refl, sym, ap, subst, ◌∙◌, arith}
use Rattle.std.proofs.lemmas.Bool.{cases_lt}
use Rattle.std.proofs.lemmas.List.{get_or_append_left, get_or_at, get_or_default, get_or-map, length_push, length-map, map_push}
use Rattle.std.proofs.lemmas.List.Elements.{All-append, All-cons, All-nil, All-head, All-tail}
use Rattle.std.proofs.lemmas.List.Sums.{sum_by_push}
use Rattle.cfn_model.specs.Network.{Function, Network, IsFunction, IsNetwork, cells, dims, dims_at, function_at, no_function}
use Rattle.cfn_net.specs.declared.kept.Kept.{Kept}
use Rattle.cfn_net.specs.declared.table.Table.{Table}
use Rattle.cfn_net.specs.Building.{CanTake, IsScope, function, share_of, with_function}
use Rattle.cfn_net.specs.Tables.{IsForm, Tabulates, entries_of}
use Rattle.cfn_net.specs.Keeping.{IsHeld, IsKeeping, function_in, functions_of, no_table, table_at}

-- a network that takes a function that it has room for keeps its limits
pub IsNetwork-with_function : (P : Network) (f : Function) → IsNetwork P → CanTake P f.scope → IsFunction P.sizes P.upper f → IsNetwork (with_function P f)
IsNetwork-with_function P f net room limits =
    let longer = length_push P.functions f in
    let more = sum_by_push (λ (g : Function). cells (dims P.sizes g.scope)) P.functions f in
    record {
      name = net.name;
      some = net.some;
      few = net.few;
      sizes = net.sizes;
      upper = net.upper;
      functions = λ g l. each g (omega (arith, l, longer)) (cases_lt g (length P.functions));
      few_functions = omega (arith, room.few_functions, longer);
      few_cells = omega (arith, room.few_cells, more);
    }
  where
    each : (g : ℕ) → g ≤ length P.functions → (g < length P.functions) ⊎ (length P.functions ≤ g) → IsFunction P.sizes P.upper (function_at (with_function P f) g)
    each g l (inl below) =
        subst (IsFunction P.sizes P.upper) (sym (get_or_append_left P.functions (f ∷ []) no_function g below)) (net.functions g below)
    each g l (inr past) =
        subst (IsFunction P.sizes P.upper) (sym (get_or_at P.functions f [] no_function g (omega arith))) limits

-- a function with the default and the entries of an earlier one keeps the limits of functions
pub IsFunction-share : (P : Network) (earlier : ℕ) (s : List ℕ) → IsNetwork P → earlier < length P.functions → IsScope P.sizes s → dims P.sizes s ≡ dims_at P earlier → IsFunction P.sizes P.upper (share_of P earlier s)
IsFunction-share P earlier s net l scope same =
    let limits = net.functions earlier l in
    record {
      variables = scope.variables;
      different = scope.different;
      few = scope.few;
      default = limits.default;
      table = limits.table ∙ sym (ap cells same);
      capped = limits.capped;
    }

table_at-push_below : (tables : List Table) (t : Table) (n : ℕ) → n < length tables → table_at (tables ++ t ∷ []) n ≡ table_at tables n
table_at-push_below tables t n l = get_or_append_left tables (t ∷ []) no_table n l

table_at-push : (tables : List Table) (t : Table) (n : ℕ) → n ≡ length tables → table_at (tables ++ t ∷ []) n ≡ t
table_at-push tables t n e = get_or_at tables t [] no_table n (sym e)

-- one more table is none that a function names
IsHeld-push : (tables : List Table) (t : Table) (kept : Kept) → IsHeld tables kept → IsHeld (tables ++ t ∷ []) kept
IsHeld-push tables t kept h = record {
  number = omega (arith, h.number, length_push tables t);
  form = subst (IsForm kept.default) (sym (table_at-push_below tables t kept.table h.number)) h.form;
}

function_in-push : (tables : List Table) (t : Table) (kept : Kept) → IsHeld tables kept → function_in (tables ++ t ∷ []) kept ≡ function_in tables kept
function_in-push tables t kept h =
    ap (λ (u : Table). function kept.scope.items kept.default (entries_of u)) (table_at-push_below tables t kept.table h.number)

functions_of-push_table : (tables : List Table) (t : Table) (kepts : List Kept) → All (IsHeld tables) kepts → functions_of (tables ++ t ∷ []) kepts ≡ functions_of tables kepts
functions_of-push_table tables t [] h = refl
functions_of-push_table tables t (kept ∷ kepts) h =
    let first = function_in-push tables t kept (All-head (IsHeld tables) kept kepts h) in
    let rest = functions_of-push_table tables t kepts (All-tail (IsHeld tables) kept kepts h) in
    cc

-- the network that parts are
abbrev pub network_of : List ℕ → List ℕ → ℕ → List Table → List Kept → Network
network_of name sizes upper tables kepts = record { name = name; sizes = sizes; upper = upper; functions = functions_of tables kepts }

abbrev pub IsKept : List ℕ → List ℕ → ℕ → List Table → List Kept → Type 0
IsKept name sizes upper tables kepts = IsKeeping tables kepts × IsNetwork (network_of name sizes upper tables kepts)

-- a function of the network
pub function_at-kept : (tables : List Table) (kepts : List Kept) (f : ℕ) (kept : Kept) → f < length kepts → kept ≡ get_or kepts f kept → get_or (functions_of tables kepts) f no_function ≡ function_in tables kept
function_at-kept tables kepts f kept l is = get_or-map (function_in tables) kepts f kept no_function l ∙ ap (function_in tables) (sym is)

IsKept-from : (name sizes : List ℕ) (upper : ℕ) (tables : List Table) (kepts : List Kept) (tables' : List Table) (kepts' : List Kept) (f : Function) → IsKept name sizes upper tables kepts → IsKeeping tables' kepts' → functions_of tables' kepts' ≡ functions_of tables kepts ++ f ∷ [] → CanTake (network_of name sizes upper tables kepts) f.scope → IsFunction sizes upper f → IsKept name sizes upper tables' kepts'
IsKept-from name sizes upper tables kepts tables' kepts' f kept keeping is room limits =
    let with_functions : List Function → Network = λ fs. record { name = name; sizes = sizes; upper = upper; functions = fs } in
    (keeping, subst (λ fs. IsNetwork (with_functions fs)) (sym is) (IsNetwork-with_function (network_of name sizes upper tables kepts) f kept.1 room limits))

IsKeeping-push : (tables tables' : List Table) (kepts : List Kept) (k : Kept) → length tables' ≤ length kepts + 1 → All (IsHeld tables') kepts → IsHeld tables' k → IsKeeping tables' (kepts ++ k ∷ [])
IsKeeping-push tables tables' kepts k few each last = record {
  few = omega (arith, few, length_push kepts k);
  each = All-append (IsHeld tables') kepts (k ∷ []) each (All-cons (IsHeld tables') k [] last (All-nil (IsHeld tables')));
}

-- one more function with one more table
pub pushed_functions : (tables tables' : List Table) (kepts kepts' : List Kept) (t : Table) (k : Kept) (s es : List ℕ) (d : ℕ) → IsKeeping tables kepts → tables' ≡ tables ++ t ∷ [] → kepts' ≡ kepts ++ k ∷ [] → k.scope.items ≡ s → k.default ≡ d → k.table ≡ length tables → Tabulates d es t → functions_of tables' kepts' ≡ functions_of tables kepts ++ function s d es ∷ []
pushed_functions tables tables' kepts kepts' t k s es d keeping more longer scope default number is =
    let all = tables ++ t ∷ [] in
    let here : function_in all k ≡ function s d es = function_is k.scope.items k.default (entries_of (table_at all k.table)) scope default (ap entries_of (table_at-push tables t k.table number) ∙ is.same) in
    let pushed : functions_of all (kepts ++ k ∷ []) ≡ functions_of all kepts ++ function_in all k ∷ [] = map_push (function_in all) kepts k in
    let before : functions_of all kepts ≡ functions_of tables kepts = functions_of-push_table tables t kepts keeping.each in
    ap (λ (ts : List Table). functions_of ts kepts') more ∙ ap (functions_of all) longer ∙ pushed ∙ ap (λ (fs : List Function). fs ++ function_in all k ∷ []) before ∙ ap (λ (f : Function). functions_of tables kepts ++ f ∷ []) here
  where
    function_is : (scope : List ℕ) (default : ℕ) (entries : List ℕ) → scope ≡ s → default ≡ d → entries ≡ es → function scope default entries ≡ function s d es
    function_is scope default entries a b c = cc

pub IsKept-push : (name sizes : List ℕ) (upper : ℕ) (tables tables' : List Table) (kepts kepts' : List Kept) (t : Table) (k : Kept) (s es : List ℕ) (d : ℕ) (Q : Network) → IsKept name sizes upper tables kepts → network_of name sizes upper tables kepts ≡ Q → tables' ≡ tables ++ t ∷ [] → kepts' ≡ kepts ++ k ∷ [] → k.scope.items ≡ s → k.default ≡ d → k.table ≡ length tables → Tabulates d es t → CanTake Q s → IsFunction Q.sizes Q.upper (function s d es) → IsKept name sizes upper tables' kepts'
IsKept-push name sizes upper tables tables' kepts kepts' t k s es d Q kept view more longer scope default number is room limits =
    let P = network_of name sizes upper tables kepts in
    let all = tables ++ t ∷ [] in
    let last : IsHeld all k = record {
      number = omega (arith, number, length_push tables t);
      form = subst (λ n. IsForm n (table_at all k.table)) (sym default) (subst (IsForm d) (sym (table_at-push tables t k.table number)) is.form);
    } in
    let each : All (IsHeld all) kepts = λ i e l. IsHeld-push tables t (get_or kepts i e) (kept.0.each i e l) in
    let keeping : IsKeeping all (kepts ++ k ∷ []) = IsKeeping-push tables all kepts k (omega (arith, kept.0.few, length_push tables t)) each last in
    IsKept-from name sizes upper tables kepts tables' kepts' (function s d es) kept (subst (λ (ts : List Table). IsKeeping ts kepts') (sym more) (subst (IsKeeping all) (sym longer) keeping)) (pushed_functions tables tables' kepts kepts' t k s es d kept.0 more longer scope default number is) (subst (λ (R : Network). CanTake R s) (sym view) room) (subst (λ (R : Network). IsFunction R.sizes R.upper (function s d es)) (sym view) limits)

-- one more function with the table of an earlier one
pub IsKept-share : (name sizes : List ℕ) (upper : ℕ) (tables : List Table) (kepts kepts' : List Kept) (kept k : Kept) (earlier : ℕ) (s : List ℕ) (Q : Network) → IsKept name sizes upper tables kepts → network_of name sizes upper tables kepts ≡ Q → kept ≡ get_or kepts earlier kept → kepts' ≡ kepts ++ k ∷ [] → k.scope.items ≡ s → k.default ≡ kept.default → k.table ≡ kept.table → earlier < length Q.functions → CanTake Q s → dims Q.sizes s ≡ dims_at Q earlier → IsKept name sizes upper tables kepts'
IsKept-share name sizes upper tables kepts kepts' kept k earlier s Q is view at longer scope default number l room same =
    let P = network_of name sizes upper tables kepts in
    let m : earlier < length P.functions = subst (λ (R : Network). earlier < length R.functions) (sym view) l in
    let n : earlier < length kepts = omega (arith, m, length-map kepts (function_in tables)) in
    let held : IsHeld tables kept = subst (IsHeld tables) (sym at) (is.0.each earlier kept n) in
    let last : IsHeld tables k = record {
      number = omega (arith, number, held.number);
      form = subst (λ i. IsForm i (table_at tables k.table)) (sym default) (subst (λ i. IsForm kept.default (table_at tables i)) (sym number) held.form);
    } in
    let old : function_at P earlier ≡ function_in tables kept = function_at-kept tables kepts earlier kept n at in
    let can_k : CanTake P k.scope.items = subst (CanTake P) (sym scope) (subst (λ (R : Network). CanTake R s) (sym view) room) in
    let fits : dims sizes k.scope.items ≡ dims_at P earlier = ap (dims sizes) scope ∙ subst (λ (R : Network). dims R.sizes s ≡ dims_at R earlier) (sym view) same in
    let here : function_in tables k ≡ share_of P earlier k.scope.items = ap (λ n. function k.scope.items n (entries_of (table_at tables k.table))) default ∙ ap (λ n. function k.scope.items kept.default (entries_of (table_at tables n))) number ∙ ap (λ (f : Function). function k.scope.items f.default f.entries) (sym old) in
    let limits = subst (IsFunction sizes upper) (sym here) (IsFunction-share P earlier k.scope.items is.1 m can_k.scope fits) in
    IsKept-from name sizes upper tables kepts tables kepts' (function_in tables k) is (subst (IsKeeping tables) (sym longer) (IsKeeping-push tables tables kepts k (omega (arith, is.0.few)) is.0.each last)) (ap (functions_of tables) longer ∙ map_push (function_in tables) kepts k) can_k limits

-- what is lent of a function is the function, and keeps its limits
pub function_lent : (name sizes : List ℕ) (upper : ℕ) (tables : List Table) (kepts : List Kept) (Q : Network) (f : ℕ) (kept : Kept) (scope : List ℕ) (t : Table) → IsKept name sizes upper tables kepts → network_of name sizes upper tables kepts ≡ Q → f < length Q.functions → kept ≡ get_or kepts f kept → scope ≡ kept.scope.items → t ≡ get_or tables kept.table t → IsFunction Q.sizes Q.upper (function scope kept.default (entries_of t))
function_lent name sizes upper tables kepts Q f kept scope t is view l at same lent =
    let P = network_of name sizes upper tables kepts in
    let m : f < length P.functions = subst (λ (R : Network). f < length R.functions) (sym view) l in
    let n : f < length kepts = omega (arith, m, length-map kepts (function_in tables)) in
    let held : IsHeld tables kept = subst (IsHeld tables) (sym at) (is.0.each f kept n) in
    let limits : IsFunction sizes upper (function_in tables kept) = subst (IsFunction sizes upper) (function_at-kept tables kepts f kept n at) (is.1.functions f m) in
    let table : t ≡ table_at tables kept.table = lent ∙ get_or_default tables kept.table t no_table held.number in
    let here : function scope kept.default (entries_of t) ≡ function_in tables kept = ap (λ (s : List ℕ). function s kept.default (entries_of t)) same ∙ ap (λ (u : Table). function kept.scope.items kept.default (entries_of u)) table in
    subst (λ (R : Network). IsFunction R.sizes R.upper (function scope kept.default (entries_of t))) view (subst (IsFunction sizes upper) (sym here) limits)
