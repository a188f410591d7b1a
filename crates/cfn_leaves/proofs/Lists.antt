-- The open list has the free leaves of the table after a change of one entry.
use Rattle.std.proofs.Common.{◌≡◌, ◌≢◌, ℕ, zero, suc, ◌+◌, ◌<◌, ◌≤◌, inl, inr, List, [], ◌∷◌, ◌++◌, length, set, refl, sym, ap, ◌∙◌, subst, arith, Option, Some, None, All, Contains, IsPermutation, Bool, true, false, if◌then◌else◌, ◌==◌, eq-eqb, eqb-true}
use Rattle.std.proofs.lemmas.Bool.{cases_eq, cases_lt}
use Rattle.std.proofs.lemmas.List.{get_or_past, get_or_push, get_or_append_left, length-append}
use Rattle.std.proofs.lemmas.List.Sums.{sum_by-cons, sum_by-set}
use Rattle.std.proofs.lemmas.List.Sorted.{sum_by-IsPermutation, All-permutation}
use Rattle.std.proofs.lemmas.List.Elements.{All-nil, All-cons, All-head, All-tail, All-contains}
use Rattle.cfn_queue.specs.declared.list.OpenLeaf.{OpenLeaf}
use Rattle.cfn_leaves.specs.declared.entry.Mark.TheVariants as held
use Rattle.cfn_leaves.specs.declared.entry.Entry.{Entry}
use Rattle.cfn_leaves.specs.Standing.{entry_at}
use Rattle.cfn_leaves.specs.Listed.{free_mark, free_entry, out_entry, outs, is_numbered, times, IsFreeIn, IsListed}

-- how often a number is listed
abbrev as_number : Bool → ℕ
as_number b = if b then 1 else 0

by_number : (b : Bool) → b ≡ true → as_number b ≡ 1
by_number true h = refl
by_number false h = absurd (cc)

by_other : (b : Bool) → (b ≡ true → ⊥) → as_number b ≡ 0
by_other true h = absurd (h refl)
by_other false h = refl

pub one_time : (n : ℕ) (leaf : OpenLeaf) → leaf.leaf ≡ n → is_numbered n leaf ≡ 1
one_time n leaf same = by_number (leaf.leaf == n) (eq-eqb _ _ same)

pub no_time : (n : ℕ) (leaf : OpenLeaf) → leaf.leaf ≢ n → is_numbered n leaf ≡ 0
no_time n leaf other = by_other (leaf.leaf == n) (λ h. other (eqb-true _ _ h))

none_listed : (n : ℕ) (leaves : List OpenLeaf) → times n leaves ≡ 0 → All (λ (leaf : OpenLeaf). leaf.leaf ≢ n) leaves
none_listed n [] none = All-nil (λ (leaf : OpenLeaf). leaf.leaf ≢ n)
none_listed n (leaf ∷ leaves) none =
    let sum = sum_by-cons (is_numbered n) leaf leaves in
    All-cons (λ (leaf : OpenLeaf). leaf.leaf ≢ n) leaf leaves (λ same. (let one = one_time n leaf same in omega (arith, sum, none, one))) (none_listed n leaves (omega (arith, sum, none)))

some_listed : (n : ℕ) (leaves : List OpenLeaf) → 1 ≤ times n leaves → (leaf : OpenLeaf) × (Contains leaves leaf) × (leaf.leaf ≡ n)
some_listed n [] some = absurd (omega (arith, some))
some_listed n (leaf ∷ leaves) some =
    let sum = sum_by-cons (is_numbered n) leaf leaves in
    elim (cases_eq leaf.leaf n) [
      | inl same ↦ (leaf, (0, omega arith, refl), same)
      | inr other ↦
          (let rest = some_listed n leaves (let none = no_time n leaf other in omega (arith, sum, some, none)) in
          (rest.0, (suc rest.1.0, omega (arith, rest.1.1), rest.1.2), rest.2))
    ]

both : (Q R S : OpenLeaf → Type 0) → ((leaf : OpenLeaf) → Q leaf → R leaf → S leaf) → (leaves : List OpenLeaf) → All Q leaves → All R leaves → All S leaves
both Q R S each [] q r = All-nil S
both Q R S each (leaf ∷ leaves) q r =
    All-cons S leaf leaves (each leaf (All-head Q leaf leaves q) (All-head R leaf leaves r)) (both Q R S each leaves (All-tail Q leaf leaves q) (All-tail R leaf leaves r))

free_few : (o : Option Entry) → free_entry o ≤ 1
free_few None = omega arith
free_few (Some e) = few e.mark where
  few : (m : _) → free_mark m ≤ 1
  few held.Free = omega arith
  few (held.Out worker grant) = omega arith

same_free : (table more : List (Option Entry)) (n : ℕ) → ((m : ℕ) → m ≢ n → entry_at more m ≡ entry_at table m) → (leaf : OpenLeaf) → IsFreeIn table leaf → leaf.leaf ≢ n → IsFreeIn more leaf
same_free table more n others leaf free other = record { entry = free.entry; is = others leaf.leaf other ∙ free.is; free = free.free; floor = free.floor }

-- a leaf leaves the list
pub listed_less : (table more : List (Option Entry)) (leaves rest : List OpenLeaf) (leaf : OpenLeaf) → IsListed table leaves → IsPermutation leaves (leaf ∷ rest) →
    ((m : ℕ) → m ≢ leaf.leaf → entry_at more m ≡ entry_at table m) → free_entry (entry_at more leaf.leaf) ≡ 0 → IsListed more rest
listed_less table more leaves rest leaf listed permuted others none =
    let n = leaf.leaf in
    let all : All (IsFreeIn table) (leaf ∷ rest) = All-permutation (IsFreeIn table) leaves (leaf ∷ rest) permuted listed.each in
    let count : (m : ℕ) → is_numbered m leaf + times m rest ≡ free_entry (entry_at table m) =
    λ m. sym (sum_by-cons (is_numbered m) leaf rest) ∙ sum_by-IsPermutation (is_numbered m) leaves (leaf ∷ rest) permuted ∙ listed.once m in
    let gone : times n rest ≡ 0 = (let c = count n in let one = one_time n leaf refl in let few = free_few (entry_at table n) in omega (arith, c, one, few)) in
    record {
      each = both (IsFreeIn table) (λ (leaf : OpenLeaf). leaf.leaf ≢ n) (IsFreeIn more) (same_free table more n others) rest (All-tail (IsFreeIn table) leaf rest all) (none_listed n rest gone);
      once = λ m. elim (cases_eq m n) [
        | inl same ↦ subst (λ m. times m rest ≡ free_entry (entry_at more m)) (sym same) (gone ∙ sym none)
        | inr other ↦
            (let c = count m in let zero = no_time m leaf (λ same. other (sym same)) in
            let e : times m rest ≡ free_entry (entry_at table m) = omega (arith, c, zero) in e ∙ ap free_entry (sym (others m other)))
      ];
    }

-- a leaf comes into the list
pub listed_more : (table more : List (Option Entry)) (leaves new : List OpenLeaf) (leaf : OpenLeaf) → IsListed table leaves → IsPermutation (leaf ∷ leaves) new →
    ((m : ℕ) → m ≢ leaf.leaf → entry_at more m ≡ entry_at table m) → free_entry (entry_at table leaf.leaf) ≡ 0 → IsFreeIn more leaf → IsListed more new
listed_more table more leaves new leaf listed permuted others none free =
    let n = leaf.leaf in
    let gone : times n leaves ≡ 0 = listed.once n ∙ none in
    let each : All (IsFreeIn more) leaves = both (IsFreeIn table) (λ (leaf : OpenLeaf). leaf.leaf ≢ n) (IsFreeIn more) (same_free table more n others) leaves listed.each (none_listed n leaves gone) in
    let count : (m : ℕ) → times m new ≡ is_numbered m leaf + times m leaves = λ m. sum_by-IsPermutation (is_numbered m) (leaf ∷ leaves) new permuted ∙ sum_by-cons (is_numbered m) leaf leaves in
    let one : free_entry (entry_at more n) ≡ 1 = ap free_entry free.is ∙ ap free_mark free.free in
    record {
      each = All-permutation (IsFreeIn more) (leaf ∷ leaves) new permuted (All-cons (IsFreeIn more) leaf leaves free each);
      once = λ m. elim (cases_eq m n) [
        | inl same ↦ subst (λ m. times m new ≡ free_entry (entry_at more m)) (sym same) (let c = count n in let own = one_time n leaf refl in omega (arith, c, own, gone, one))
        | inr other ↦
            (let c = count m in let zero = no_time m leaf (λ same. other (sym same)) in
            let e : times m new ≡ times m leaves = omega (arith, c, zero) in e ∙ listed.once m ∙ ap free_entry (sym (others m other)))
      ];
    }

-- the list has a free leaf of the table, and nothing else
pub free_listed : (table : List (Option Entry)) (leaves : List OpenLeaf) (n : ℕ) (e : Entry) → IsListed table leaves → entry_at table n ≡ Some e → e.mark ≡ held.Free →
    (leaf : OpenLeaf) × (Contains leaves leaf) × (leaf.leaf ≡ n) × (leaf.floor ≡ e.floor)
free_listed table leaves n e listed is free =
    let one : free_entry (entry_at table n) ≡ 1 = ap free_entry is ∙ ap free_mark free in
    let some = some_listed n leaves (let c = listed.once n in omega (arith, c, one)) in
    let own = All-contains (IsFreeIn table) leaves some.0 listed.each some.1 in
    let same : own.entry ≡ e = (let k : Some own.entry ≡ Some e = sym own.is ∙ ap (entry_at table) some.2 ∙ is in cc) in
    (some.0, some.1, some.2, sym own.floor ∙ ap (λ (e : Entry). e.floor) same)

-- how many leaves are out
pub outs_set : (table : List (Option Entry)) (n : ℕ) (o : Option Entry) → n < length table → outs (set table n o) + out_entry (entry_at table n) ≡ outs table + out_entry o
outs_set table n o there = sum_by-set out_entry table n o None there

pub out_counts : (table : List (Option Entry)) (n : ℕ) → n < length table → out_entry (entry_at table n) ≤ outs table
out_counts [] n there = absurd (omega (arith, there))
out_counts (o ∷ table) zero there = let sum = sum_by-cons out_entry o table in omega (arith, sum)
out_counts (o ∷ table) (suc n) there = let sum = sum_by-cons out_entry o table in omega (arith, sum, out_counts table n (omega (arith, there)))

-- a free leaf is put behind the table
pub listed_behind : (table : List (Option Entry)) (leaves new : List OpenLeaf) (leaf : OpenLeaf) (e : Entry) → IsListed table leaves → IsPermutation (leaf ∷ leaves) new → leaf.leaf ≡ length table → e.mark ≡ held.Free → e.floor ≡ leaf.floor →
    IsListed (table ++ Some e ∷ []) new
listed_behind table leaves new leaf e listed permuted number free low =
    let past : entry_at table leaf.leaf ≡ None = get_or_past table leaf.leaf None (omega (arith, number)) in
    let own : entry_at (table ++ Some e ∷ []) leaf.leaf ≡ Some e = get_or_push table (Some e) None leaf.leaf (sym number) in
    listed_more table (table ++ Some e ∷ []) leaves new leaf listed permuted
    (λ m other. elim (cases_lt m (length table)) [
      | inl within ↦ get_or_append_left table (Some e ∷ []) None m within
      | inr far ↦
          (let length' = length-append table (Some e ∷ []) in
          get_or_past (table ++ Some e ∷ []) m None (omega (arith, length', far, number, other)) ∙ sym (get_or_past table m None far))
    ])
    (ap free_entry past) (record { entry = e; is = own; free = free; floor = low })

-- an entry that is not free becomes another that is not
pub listed_kept : (table more : List (Option Entry)) (leaves : List OpenLeaf) (n : ℕ) → IsListed table leaves → ((m : ℕ) → m ≢ n → entry_at more m ≡ entry_at table m) → free_entry (entry_at table n) ≡ 0 → free_entry (entry_at more n) ≡ 0 → IsListed more leaves
listed_kept table more leaves n listed others was none = record {
  each = both (IsFreeIn table) (λ (leaf : OpenLeaf). leaf.leaf ≢ n) (IsFreeIn more) (same_free table more n others) leaves listed.each (none_listed n leaves (listed.once n ∙ was));
  once = λ m. elim (cases_eq m n) [
    | inl same ↦ subst (λ m. times m leaves ≡ free_entry (entry_at more m)) (sym same) (listed.once n ∙ was ∙ sym none)
    | inr other ↦ listed.once m ∙ ap free_entry (sym (others m other))
  ];
}
