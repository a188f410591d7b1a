-- Neighbours are gathered one place after another.
use Rattle.std.proofs.Common.{◌≡◌, ◌⊎◌, ℕ, zero, suc, ◌+◌, ◌<◌, ◌≤◌, inl, inr, Bool, true, false, List, [], ◌∷◌, ◌++◌, length, length-append, refl, sym, ap, ◌∙◌, subst, true≢false, arith}
use Rattle.std.proofs.lemmas.Bool.{cases_eq}
use Rattle.std.proofs.lemmas.List.{get_or_append_left, get_or_read, get_or-set_other, get_or-set_same, length-set}
use Rattle.std.proofs.Math.Seq.{get_or-append_seam}
use Rattle.std.specs.Prelude.{IsTrue, slice_set, slice_index_or}
use Rattle.cfn_model.specs.declared.step.Event.{Event}
use Rattle.cfn_model.specs.Network.{Network, IsNetwork, arity, variable_at}
use Rattle.cfn_consistency.specs.Openness.{HasOpenPair, is_open, open_count}
use Rattle.cfn_dac.specs.Opens.{AreTheOpen}
use Rattle.cfn_dac.proofs.CallerLemmas.{some_two, some_three}
use Rattle.cfn_incidence.specs.declared.incidence.Place.{Place}
use Rattle.cfn_incidence.specs.Places.{place_at}
use Rattle.cfn_dac.specs.declared.pair.Pair.{Pair}
use Rattle.cfn_incidence.specs.Places.{StandsAt, ArePlaces}
use Rattle.cfn_incidence.proofs.CallerLemmas.{place_found}
use Rattle.cfn_edac.specs.Neighbours.{IsNeighbour, IsReached, AreNeighbours, pair_at, other_of}
use Rattle.cfn_edac.specs.Gathering.{is_met, AreMarks, AreMarked, AreGathered, HasNoNeighbour, IsNeighbourAt}

pub which : (a b : ℕ) → (a < b) ⊎ (a ≡ b) ⊎ (b < a)
which zero zero = inr (inl refl)
which zero (suc b) = inl (omega arith)
which (suc a) zero = inr (inr (omega arith))
which (suc a) (suc b) = elim (which a b) [
  | inl h ↦ inl (omega (arith, h))
  | inr r ↦ (elim r [
    | inl e ↦ inr (inl (ap suc e))
    | inr h ↦ inr (inr (omega (arith, h)))
  ])
]

-- of a function with an open pair each open variable is one of the two
pub in_pair : (P : Network) (history : List Event) (f i j k : ℕ) → AreTheOpen P history f i j → k < arity P f → IsTrue (is_open P history (variable_at P f k)) → (k ≡ i) ⊎ (k ≡ j)
in_pair P history f i j k the there is_it =
    let few = the.pair.active.few in let one = the.pair.one in let two = the.pair.other in let order = the.order in
    let test : ℕ → Bool = λ p. is_open P history (variable_at P f p) in
    elim (which k i) [
      | inl h ↦ (let three = some_three test (arity P f) k i j h order two.0 is_it one.1 two.1 in absurd (omega (arith, three, few)))
      | inr r ↦ (elim r [
        | inl e ↦ inl e
        | inr h ↦ (elim (which k j) [
          | inl l ↦ (let three = some_three test (arity P f) i k j h l two.0 one.1 is_it two.1 in absurd (omega (arith, three, few)))
          | inr t ↦ (elim t [
            | inl e ↦ inr e
            | inr l ↦ (let three = some_three test (arity P f) i j k order l there one.1 two.1 is_it in absurd (omega (arith, three, few)))
          ])
        ])
      ])
    ]

pub not_few : (P : Network) (history : List Event) (f i j : ℕ) → open_count P history f ≤ 1 → HasOpenPair P history f i j → ⊥
not_few P history f i j few pair =
    let test : ℕ → Bool = λ p. is_open P history (variable_at P f p) in
    elim (which i j) [
      | inl h ↦ (let two = some_two test (arity P f) i j h pair.other.0 pair.one.1 pair.other.1 in absurd (omega (arith, two, few)))
      | inr r ↦ (elim r [
        | inl e ↦ absurd (pair.different e)
        | inr h ↦ (let two = some_two test (arity P f) j i h pair.one.0 pair.other.1 pair.one.1 in absurd (omega (arith, two, few)))
      ])
    ]

pub not_many : (P : Network) (history : List Event) (f i j : ℕ) → 2 < open_count P history f → HasOpenPair P history f i j → ⊥
not_many P history f i j many pair = let few = pair.active.few in absurd (omega (arith, many, few))

pub not_here : (P : Network) (history : List Event) (f i j p q : ℕ) → AreTheOpen P history f i j → (i ≡ p → ⊥) → (j ≡ p → ⊥) → HasOpenPair P history f p q → ⊥
not_here P history f i j p q the one two pair = elim (in_pair P history f i j p the pair.one.0 pair.one.1) [
  | inl e ↦ absurd (one (sym e))
  | inr e ↦ absurd (two (sym e))
]

-- the pair of a place is the one that was found
pub other_is : (P : Network) (history : List Event) (f i j p q : ℕ) → AreTheOpen P history f i j → HasOpenPair P history f p q → (p ≡ i) → q ≡ j
other_is P history f i j p q the pair e = elim (in_pair P history f i j q the pair.other.0 pair.other.1) [
  | inl d ↦ absurd (pair.different (e ∙ sym d))
  | inr d ↦ d
]

-- pairs and one more
abbrev no_pair : Pair
no_pair = record { function = 0; place = 0; other = 0 }

pub old_pair : (pairs : List Pair) (pair : Pair) (k : ℕ) → k < length pairs → pair_at (pairs ++ pair ∷ []) k ≡ pair_at pairs k
old_pair pairs pair k h = get_or_append_left pairs (pair ∷ []) no_pair k h

pub new_pair : (pairs : List Pair) (pair : Pair) → pair_at (pairs ++ pair ∷ []) (length pairs) ≡ pair
new_pair pairs pair = get_or-append_seam pairs pair [] no_pair

pub longer : (pairs : List Pair) (pair : Pair) → length (pairs ++ pair ∷ []) ≡ length pairs + 1
longer pairs pair = length-append pairs (pair ∷ [])

still_reached : (P : Network) (pairs : List Pair) (pair : Pair) (f y : ℕ) → IsReached P pairs f y → IsReached P (pairs ++ pair ∷ []) f y
still_reached P pairs pair f y r =
    let within = r.within in let first = r.first in let same = old_pair pairs pair r.neighbour r.within in let long = longer pairs pair in
    record {
      neighbour = r.neighbour;
      within = omega (arith, within, long);
      first = subst (λ p. p.function ≤ f) (sym same) first;
      other = ap (other_of P) same ∙ r.other;
    }

-- no neighbour at a place
pub gathered_skip : (P : Network) (history : List Event) (x : ℕ) (places : List Place) (pairs : List Pair) (n : ℕ) → AreGathered P history x places pairs n → HasNoNeighbour P history (place_at places n) → AreGathered P history x places pairs (n + 1)
gathered_skip P history x places pairs n g none = record {
  few = (let few = g.few in omega (arith, few));
  each = g.each;
  from = λ k h. (let m = g.from k h in let less = m.1 in (m.0, omega (arith, less), m.2));
  once = g.once;
  reached = λ m j h pair. elim (cases_eq m n) [
    | inl e ↦ absurd (none j (subst (λ i. HasOpenPair P history (place_at places i).function (place_at places i).place j) e pair))
    | inr d ↦ g.reached m j (omega (arith, h, d)) pair
  ];
}

-- what is found at a place is the one pair there
pub other_at : (P : Network) (history : List Event) (p : Place) (pair : Pair) (j : ℕ) → IsNeighbourAt P history p pair → HasOpenPair P history p.function p.place j → j ≡ pair.other
other_at P history p pair j is open_pair =
    let mine : HasOpenPair P history p.function p.place pair.other = subst (λ i. HasOpenPair P history p.function i pair.other) is.place (subst (λ f. HasOpenPair P history f pair.place pair.other) is.function is.both) in
    elim (which p.place pair.other) [
      | inl h ↦ other_is P history p.function p.place pair.other p.place j (record { pair = mine; order = h }) open_pair refl
      | inr r ↦ (elim r [
        | inl e ↦ absurd (mine.different e)
        | inr h ↦ (elim (in_pair P history p.function pair.other p.place j (record { pair = swapped mine; order = h }) open_pair.other.0 open_pair.other.1) [
          | inl e ↦ e
          | inr e ↦ absurd (open_pair.different (sym e))
        ])
      ])
    ]
  where
    swapped : HasOpenPair P history p.function p.place pair.other → HasOpenPair P history p.function pair.other p.place
    swapped mine = record { active = mine.active; one = mine.other; other = mine.one; different = λ e. mine.different (sym e) }

other_of_at : (P : Network) (history : List Event) (p : Place) (pair : Pair) (j : ℕ) → IsNeighbourAt P history p pair → HasOpenPair P history p.function p.place j → other_of P pair ≡ variable_at P p.function j
other_of_at P history p pair j is open_pair = ap (λ f. variable_at P f pair.other) is.function ∙ sym (ap (variable_at P p.function) (other_at P history p pair j is open_pair))

-- a neighbour to a variable that is reached already
pub gathered_met : (P : Network) (history : List Event) (x : ℕ) (places : List Place) (pairs : List Pair) (met : List Bool) (pair : Pair) (n : ℕ) → ArePlaces P x places → n < length places → AreMarks P met pairs 0 → AreGathered P history x places pairs n → IsNeighbourAt P history (place_at places n) pair → is_met met (other_of P pair) ≡ true → AreGathered P history x places pairs (n + 1)
gathered_met P history x places pairs met pair n are within marks g is seen = record {
  few = (let few = g.few in omega (arith, few));
  each = g.each;
  from = λ k h. (let m = g.from k h in let less = m.1 in (m.0, omega (arith, less), m.2));
  once = g.once;
  reached = λ m j h open_pair. elim (cases_eq m n) [
    | inl e ↦ subst (λ i. IsReached P pairs (place_at places i).function (variable_at P (place_at places i).function j)) (sym e)
        (here j (subst (λ i. HasOpenPair P history (place_at places i).function (place_at places i).place j) e open_pair))
    | inr d ↦ g.reached m j (omega (arith, h, d)) open_pair
  ];
}
  where
    here : (j : ℕ) → HasOpenPair P history (place_at places n).function (place_at places n).place j → IsReached P pairs (place_at places n).function (variable_at P (place_at places n).function j)
    here j open_pair =
        let neighbour = marks.each (other_of P pair) seen in
        let place = g.from neighbour.0 neighbour.2 in
        let less = are.ascend place.0 n place.1 within in
        record {
          neighbour = neighbour.0;
          within = neighbour.2;
          first = subst (λ f. f ≤ (place_at places n).function) (sym place.2) (omega (arith, less));
          other = neighbour.3 ∙ other_of_at P history (place_at places n) pair j is open_pair;
        }

-- no pair has the other variable of this one
abbrev pub IsFresh : Network → List Pair → Pair → Type 0
IsFresh P pairs pair = (k : ℕ) → k < length pairs → other_of P (pair_at pairs k) ≡ other_of P pair → ⊥

pub fresh : (P : Network) (met : List Bool) (pairs : List Pair) (pair : Pair) → AreMarked P met pairs → is_met met (other_of P pair) ≡ false → IsFresh P pairs pair
fresh P met pairs pair marked unseen k h same = let seen = marked k h in let e = ap (is_met met) same in cc

-- a neighbour to another variable
pub gathered_more : (P : Network) (history : List Event) (x : ℕ) (places : List Place) (pairs : List Pair) (pair : Pair) (n : ℕ) → StandsAt P x (place_at places n) → AreGathered P history x places pairs n → IsNeighbourAt P history (place_at places n) pair → IsFresh P pairs pair → AreGathered P history x places (pairs ++ pair ∷ []) (n + 1)
gathered_more P history x places pairs pair n stands g is fresh =
    let long = longer pairs pair in
    record {
      few = (let few = g.few in omega (arith, few, long));
      each = λ k h. elim (cases_eq k (length pairs)) [
        | inl e ↦ subst (IsNeighbour P history x) (sym (new_pair pairs pair) ∙ ap (pair_at (pairs ++ pair ∷ [])) (sym e)) neighbour
        | inr d ↦ (let less : k < length pairs = omega (arith, h, long, d) in subst (IsNeighbour P history x) (sym (old_pair pairs pair k less)) (g.each k less))
      ];
      from = λ k h. elim (cases_eq k (length pairs)) [
        | inl e ↦ (n, omega arith, ap (λ p. p.function) (ap (pair_at (pairs ++ pair ∷ [])) e ∙ new_pair pairs pair) ∙ is.function)
        | inr d ↦
            (let less : k < length pairs = omega (arith, h, long, d) in
            let m = g.from k less in let below = m.1 in
            (m.0, omega (arith, below), ap (λ p. p.function) (old_pair pairs pair k less) ∙ m.2))
      ];
      once = λ k m h l same. elim (cases_eq k (length pairs)) [
        | inl e ↦ (elim (cases_eq m (length pairs)) [
          | inl d ↦ e ∙ sym d
          | inr d ↦
              (let less : m < length pairs = omega (arith, l, long, d) in
              absurd (fresh m less (sym (to_old m less) ∙ sym same ∙ to_new k e)))
        ])
        | inr d ↦
            (let less : k < length pairs = omega (arith, h, long, d) in
            elim (cases_eq m (length pairs)) [
              | inl e ↦ absurd (fresh k less (sym (to_old k less) ∙ same ∙ to_new m e))
              | inr n ↦ (let below : m < length pairs = omega (arith, l, long, n) in g.once k m less below (sym (to_old k less) ∙ same ∙ to_old m below))
            ])
      ];
      reached = λ m j h open_pair. elim (cases_eq m n) [
        | inl e ↦ subst (λ i. IsReached P (pairs ++ pair ∷ []) (place_at places i).function (variable_at P (place_at places i).function j)) (sym e)
            (here j (subst (λ i. HasOpenPair P history (place_at places i).function (place_at places i).place j) e open_pair))
        | inr d ↦ still_reached P pairs pair _ _ (g.reached m j (omega (arith, h, d)) open_pair)
      ];
    }
  where
    to_old : (k : ℕ) → k < length pairs → other_of P (pair_at (pairs ++ pair ∷ []) k) ≡ other_of P (pair_at pairs k)
    to_old k h = ap (other_of P) (old_pair pairs pair k h)

    to_new : (k : ℕ) → k ≡ length pairs → other_of P (pair_at (pairs ++ pair ∷ []) k) ≡ other_of P pair
    to_new k e = ap (λ i. other_of P (pair_at (pairs ++ pair ∷ []) i)) e ∙ ap (other_of P) (new_pair pairs pair)

    neighbour : IsNeighbour P history x pair
    neighbour = record { both = is.both; at = ap (λ f. variable_at P f pair.place) is.function ∙ ap (variable_at P (place_at places n).function) is.place ∙ stands.is }

    here : (j : ℕ) → HasOpenPair P history (place_at places n).function (place_at places n).place j → IsReached P (pairs ++ pair ∷ []) (place_at places n).function (variable_at P (place_at places n).function j)
    here j open_pair =
        let long = longer pairs pair in
        record {
          neighbour = length pairs;
          within = omega (arith, long);
          first = subst (λ p. p.function ≤ (place_at places n).function) (sym (new_pair pairs pair)) (subst (λ f. f ≤ (place_at places n).function) (sym is.function) (omega arith));
          other = ap (other_of P) (new_pair pairs pair) ∙ other_of_at P history (place_at places n) pair j is open_pair;
        }

-- and its mark
pub marks_more : (P : Network) (met : List Bool) (pairs : List Pair) (pair : Pair) (y : ℕ) → y ≡ other_of P pair → AreMarks P met pairs 0 → AreMarks P (slice_set met y true) (pairs ++ pair ∷ []) 0
marks_more P met pairs pair y is marks =
    let long = longer pairs pair in
    record {
      size = length-set met y true ∙ marks.size;
      each = λ z seen. elim (cases_eq z y) [
        | inl e ↦ (length pairs, omega arith, omega (arith, long), ap (other_of P) (new_pair pairs pair) ∙ sym is ∙ sym e)
        | inr d ↦
            (let old = marks.each z (sym (get_or-set_other met y z true false d) ∙ seen) in
            let within = old.2 in
            (old.0, omega arith, omega (arith, within, long), ap (other_of P) (old_pair pairs pair old.0 old.2) ∙ old.3))
      ];
    }

-- with it all are marked
pub marked_more : (P : Network) (met : List Bool) (pairs : List Pair) (pair : Pair) (y : ℕ) → y < length met → y ≡ other_of P pair → AreMarked P met pairs → AreMarked P (slice_set met y true) (pairs ++ pair ∷ [])
marked_more P met pairs pair y within is marked k h =
    let long = longer pairs pair in
    elim (cases_eq (other_of P (pair_at (pairs ++ pair ∷ []) k)) y) [
      | inl e ↦ ap (is_met (slice_set met y true)) e ∙ get_or-set_same met y true false within
      | inr d ↦
          (let less : k < length pairs = before k h long d in
          get_or-set_other met y (other_of P (pair_at (pairs ++ pair ∷ []) k)) true false d ∙ ap (λ p. is_met met (other_of P p)) (old_pair pairs pair k less) ∙ marked k less)
    ]
  where
    before : (i : ℕ) → i < length (pairs ++ pair ∷ []) → length (pairs ++ pair ∷ []) ≡ length pairs + 1 → (other_of P (pair_at (pairs ++ pair ∷ []) i) ≡ y → ⊥) → i < length pairs
    before i h long d = elim (cases_eq i (length pairs)) [
      | inl e ↦ absurd (d (ap (λ j. other_of P (pair_at (pairs ++ pair ∷ []) j)) e ∙ ap (other_of P) (new_pair pairs pair) ∙ sym is))
      | inr n ↦ omega (arith, h, long, n)
    ]

-- nothing is gathered yet
pub gathered_none : (P : Network) (history : List Event) (x : ℕ) (places : List Place) → AreGathered P history x places [] 0
gathered_none P history x places = record {
  few = omega arith;
  each = λ k h. absurd (omega (arith, h));
  from = λ k h. absurd (omega (arith, h));
  once = λ k m h. absurd (omega (arith, h));
  reached = λ m j h pair. absurd (omega (arith, h));
}

pub all_gathered : (P : Network) (history : List Event) (x : ℕ) (places : List Place) (pairs : List Pair) (n : ℕ) → ArePlaces P x places → length places ≤ n → AreGathered P history x places pairs n → AreNeighbours P history x pairs
all_gathered P history x places pairs n are h g = record {
  each = g.each;
  once = g.once;
  all = λ f i j open_pair is.
      (let found = place_found P x f i places are open_pair.one.0 is in
      let within = found.1 in
      subst (λ p. IsReached P pairs p.function (variable_at P p.function j)) found.2
      (g.reached found.0 j (omega (arith, h, within)) (subst (λ p. HasOpenPair P history p.function p.place j) (sym found.2) open_pair)));
}

-- a mark that is read
pub has_mark : (P : Network) (history : List Event) (p : Place) (pair : Pair) (met : List Bool) (pairs : List Pair) (y : ℕ) → IsNetwork P → AreMarks P met pairs 0 → IsNeighbourAt P history p pair → y ≡ other_of P pair → y < length met
has_mark P history p pair met pairs y net marks neighbour is =
    let there = (net.functions pair.function neighbour.both.active.function).variables pair.other neighbour.both.other.0 in
    let size = marks.size in
    omega (arith, there, size, is)

pub mark_is : (P : Network) (met : List Bool) (pair : Pair) (y : ℕ) (mark value : Bool) → y < length met → y ≡ other_of P pair → mark ≡ slice_index_or met y mark → mark ≡ value → is_met met (other_of P pair) ≡ value
mark_is P met pair y mark value within is read seen = ap (is_met met) (sym is) ∙ sym (get_or_read met y mark within read false) ∙ seen

-- A variable that is not open has no neighbours.
pub none_of_closed : (P : Network) (history : List Event) (x : ℕ) → is_open P history x ≡ false → AreNeighbours P history x []
none_of_closed P history x closed = record {
  each = (λ k h. absurd (omega (arith, h)));
  all = (λ f i j pair at. absurd (true≢false (sym (subst (λ y. is_open P history y ≡ true) at pair.one.1) ∙ closed)));
  once = (λ k m h. absurd (omega (arith, h)));
}
