-- The tables that are not dense, written out one by one.
use Rattle.std.proofs.Common.{◌≡◌, ℕ, ◌+◌, ◌<◌, ◌≤◌, ◌⊎◌, inl, inr, List, [], ◌∷◌, ◌++◌, length, get_or, Vec, Global, sym, ap, subst, ◌∙◌, arith}
use Rattle.std.proofs.lemmas.Bool.{cases_lt}
use Rattle.std.proofs.lemmas.List.{get_or_append_left, get_or_at, get_or_default, length_push}
use Rattle.cfn_model.specs.Network.{Function, Network, function_at}
use Rattle.cfn_net.specs.declared.kept.Kept.{Kept}
use Rattle.cfn_net.specs.declared.table.Table.{Table}
use Rattle.cfn_net.specs.Listed.{AreSparse}
use Rattle.cfn_net.specs.Tables.{IsForm, IsSparse, entries_of}
use Rattle.cfn_net.specs.Keeping.{IsHeld, function_in, no_table, table_at}
use Rattle.cfn_net.specs.Expanding.{AreSpread, IsExpanded, StandsAt}
use Rattle.cfn_net.proofs.Keeping.{IsKept, function_at-kept, network_of}

-- what stands at a place stays there when more is written
StandsAt-push : (spread : List (Vec ℕ Global)) (v : Vec ℕ Global) (place : ℕ) (entries : List ℕ) → StandsAt spread place entries → StandsAt (spread ++ v ∷ []) place entries
StandsAt-push spread v place entries s = record {
  in_range = omega (arith, s.in_range, length_push spread v);
  same = λ d. ap (λ (u : Vec ℕ Global). u.items) (get_or_append_left spread (v ∷ []) d place s.in_range) ∙ s.same d;
}

StandsAt-new : (spread : List (Vec ℕ Global)) (v : Vec ℕ Global) (place : ℕ) (entries : List ℕ) → place ≡ length spread → v.items ≡ entries → StandsAt (spread ++ v ∷ []) place entries
StandsAt-new spread v place entries e is = record {
  in_range = omega (arith, e, length_push spread v);
  same = λ d. ap (λ (u : Vec ℕ Global). u.items) (get_or_at spread v [] d place (sym e)) ∙ is;
}

place_below : (places : List ℕ) (p t : ℕ) → t < length places → get_or (places ++ p ∷ []) t 0 ≡ get_or places t 0
place_below places p t l = get_or_append_left places (p ∷ []) 0 t l

place_at : (places : List ℕ) (p t : ℕ) → length places ≡ t → get_or (places ++ p ∷ []) t 0 ≡ p
place_at places p t e = get_or_at places p [] 0 t e

-- a dense table needs nothing
pub AreSpread-dense : (tables : List Table) (i : ℕ) (places : List ℕ) (spread : List (Vec ℕ Global)) (p : ℕ) (table : Table) → AreSpread tables i places spread → length places ≡ i → i < length tables → table ≡ get_or tables i table → ((default : ℕ) → IsForm default table → AreSparse default (entries_of table) → ⊥) → AreSpread tables (i + 1) (places ++ p ∷ []) spread
AreSpread-dense tables i places spread p table are len l at dense = λ t default m form sparse. each t default (omega (arith, m)) form sparse (cases_lt t i)
  where
    here : table ≡ table_at tables i
    here = at ∙ get_or_default tables i table no_table l

    each : (t default : ℕ) → t ≤ i → IsForm default (table_at tables t) → AreSparse default (entries_of (table_at tables t)) → (t < i) ⊎ (i ≤ t) → StandsAt spread (get_or (places ++ p ∷ []) t 0) (entries_of (table_at tables t))
    each t default m form sparse (inl below) =
        subst (λ q. StandsAt spread q (entries_of (table_at tables t))) (sym (place_below places p t (omega arith))) (are t default below form sparse)
    each t default m form sparse (inr past) =
        let e : t ≡ i = omega arith in
        let same : table_at tables t ≡ table = ap (table_at tables) e ∙ sym here in
        absurd (dense default (subst (IsForm default) same form) (subst (λ (u : Table). AreSparse default (entries_of u)) same sparse))

-- another is written
pub AreSpread-more : (tables : List Table) (i : ℕ) (places : List ℕ) (spread : List (Vec ℕ Global)) (table : Table) (v : Vec ℕ Global) (p : ℕ) → AreSpread tables i places spread → length places ≡ i → i < length tables → table ≡ get_or tables i table → v.items ≡ entries_of table → p ≡ length spread → AreSpread tables (i + 1) (places ++ p ∷ []) (spread ++ v ∷ [])
AreSpread-more tables i places spread table v p are len l at is place = λ t default m form sparse. each t default (omega (arith, m)) form sparse (cases_lt t i)
  where
    here : table ≡ table_at tables i
    here = at ∙ get_or_default tables i table no_table l

    each : (t default : ℕ) → t ≤ i → IsForm default (table_at tables t) → AreSparse default (entries_of (table_at tables t)) → (t < i) ⊎ (i ≤ t) → StandsAt (spread ++ v ∷ []) (get_or (places ++ p ∷ []) t 0) (entries_of (table_at tables t))
    each t default m form sparse (inl below) =
        subst (λ q. StandsAt (spread ++ v ∷ []) q (entries_of (table_at tables t))) (sym (place_below places p t (omega arith))) (StandsAt-push spread v (get_or places t 0) (entries_of (table_at tables t)) (are t default below form sparse))
    each t default m form sparse (inr past) =
        let e : t ≡ i = omega arith in
        let same : v.items ≡ entries_of (table_at tables t) = is ∙ ap entries_of (here ∙ ap (table_at tables) (sym e)) in
        subst (λ q. StandsAt (spread ++ v ∷ []) q (entries_of (table_at tables t))) (sym (place_at places p t (omega arith))) (StandsAt-new spread v p (entries_of (table_at tables t)) place same)

-- one more function has the place of its table
pub IsExpanded-more : (name sizes : List ℕ) (upper : ℕ) (tables : List Table) (kepts : List Kept) (P : Network) (i : ℕ) (places known : List ℕ) (spread : List (Vec ℕ Global)) (kept : Kept) (p : ℕ) → IsKept name sizes upper tables kepts → network_of name sizes upper tables kepts ≡ P → i < length kepts → kept ≡ get_or kepts i kept → AreSpread tables (length tables) known spread → p ≡ get_or known kept.table 0 → IsExpanded P i places spread → IsExpanded P (i + 1) (places ++ p ∷ []) spread
IsExpanded-more name sizes upper tables kepts P i places known spread kept p is view l at are place so_far = record {
  lengths = omega (arith, so_far.lengths, length_push places p);
  each = λ f m sparse. each f (omega (arith, m)) sparse (cases_lt f i);
}
  where
    held : IsHeld tables kept
    held = subst (IsHeld tables) (sym at) (is.0.each i kept l)

    here : function_at P i ≡ function_in tables kept
    here = ap (λ (R : Network). function_at R i) (sym view) ∙ function_at-kept tables kepts i kept l at

    each : (f : ℕ) → f ≤ i → IsSparse (function_at P f) → (f < i) ⊎ (i ≤ f) → StandsAt spread (get_or (places ++ p ∷ []) f 0) (function_at P f).entries
    each f m sparse (inl below) =
        subst (λ q. StandsAt spread q (function_at P f).entries) (sym (place_below places p f (omega (arith, so_far.lengths)))) (so_far.each f below sparse)
    each f m sparse (inr past) =
        let e : f ≡ i = omega arith in
        let same : function_at P f ≡ function_in tables kept = ap (function_at P) e ∙ here in
        let there : StandsAt spread (get_or known kept.table 0) (entries_of (table_at tables kept.table)) = are kept.table kept.default held.number held.form (subst IsSparse same sparse) in
        let q : get_or known kept.table 0 ≡ get_or (places ++ p ∷ []) f 0 = sym place ∙ sym (place_at places p f (omega (arith, so_far.lengths))) in
        subst (λ (es : List ℕ). StandsAt spread (get_or (places ++ p ∷ []) f 0) es) (ap (λ (g : Function). g.entries) (sym same)) (subst (λ n. StandsAt spread n (entries_of (table_at tables kept.table))) q there)
