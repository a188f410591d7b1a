-- The values that deletions have, one after another.
use Rattle.std.proofs.Common.{◌≡◌, ℕ, zero, suc, ◌+◌, ◌-◌, ◌<◌, ◌≤◌, ◌^◌, ◌⊎◌, inl, inr, List, [], ◌∷◌, ◌++◌, length, length-append, take, reverse, append_assoc, refl, sym, ap, ◌∙◌, subst, arith}
use Rattle.std.proofs.lemmas.List.{take-append-le, append-nil, reverse-append, reverse-reverse}
use Rattle.std.proofs.Math.Seq.{take-append-add}
use Rattle.std.proofs.lemmas.Bool.{cases_eq}
use Rattle.cfn_model.specs.declared.step.Step.TheVariants.{CutValue}
use Rattle.cfn_model.specs.declared.step.Event.{Event}
use Rattle.cfn_model.specs.declared.step.Event.TheVariants.{Did}
use Rattle.cfn_model.specs.Network.{Network}
use Rattle.cfn_model.specs.Steps.{IsValue}
use Rattle.cfn_consistency.specs.declared.deletion.Deletion.{Deletion}
use Rattle.cfn_consistency.specs.Virtual.{Bans, without, Deletes, DeletesBefore, IsDeletion, IsDerivation}
use Rattle.cfn_vac.specs.Tables.{HasShape, item, AreFilled, AreOfDeletions, AreBefore, ArePositions}
use Rattle.cfn_vac.proofs.Numbers.{written, written_here, written_there, written_shape, within}
use Rattle.cfn_vac.proofs.Cuts.{live_is_none}

pub deletes_front : (front more : List Deletion) (y b : ℕ) → Deletes front y b → Deletes (front ++ more) y b
deletes_front [] more y b is = absurd is
deletes_front (d ∷ front) more y b (inl is) = inl is
deletes_front (d ∷ front) more y b (inr is) = inr (deletes_front front more y b is)

pub deletes_last : (front : List Deletion) (d : Deletion) (y b : ℕ) → d.variable ≡ y → d.value ≡ b → Deletes (front ++ d ∷ []) y b
deletes_last [] d y b e f = inl (e, f)
deletes_last (first ∷ front) d y b e f = inr (deletes_last front d y b e f)

pub deletes_either : (front more : List Deletion) (y b : ℕ) → Deletes (front ++ more) y b → Deletes front y b ⊎ Deletes more y b
deletes_either [] more y b is = inr is
deletes_either (d ∷ front) more y b (inl is) = inl (inl is)
deletes_either (d ∷ front) more y b (inr is) = elim (deletes_either front more y b is) [
  | inl h ↦ inl (inr h)
  | inr h ↦ inr h
]

pub deletes_turned : (deletions : List Deletion) (y b : ℕ) → Deletes deletions y b → Deletes (reverse deletions) y b
deletes_turned [] y b is = is
deletes_turned (d ∷ deletions) y b (inl is) = subst (λ l. Deletes l y b) (sym (reverse-append (d ∷ []) deletions)) (deletes_last (reverse deletions) d y b is.0 is.1)
deletes_turned (d ∷ deletions) y b (inr is) = subst (λ l. Deletes l y b) (sym (reverse-append (d ∷ []) deletions)) (deletes_front (reverse deletions) (d ∷ []) y b (deletes_turned deletions y b is))

deletes_back : (deletions : List Deletion) (y b : ℕ) → Deletes (reverse deletions) y b → Deletes deletions y b
deletes_back deletions y b is = subst (λ l. Deletes l y b) (reverse-reverse deletions) (deletes_turned (reverse deletions) y b is)

before_both : (deletions : List Deletion) (z c y b : ℕ) → DeletesBefore deletions z c y b → Deletes deletions z c × Deletes deletions y b
before_both [] z c y b is = absurd is
before_both (d ∷ deletions) z c y b (inl is) = (inr is.2, inl (is.0, is.1))
before_both (d ∷ deletions) z c y b (inr is) = let r = before_both deletions z c y b is in (inr r.0, inr r.1)

-- both of two values of which one was deleted before the other were deleted
pub deleted_both : (deletions : List Deletion) (z c y b : ℕ) → DeletesBefore (reverse deletions) z c y b → Deletes deletions z c × Deletes deletions y b
deleted_both deletions z c y b is = let r = before_both (reverse deletions) z c y b is in (deletes_back deletions z c r.0, deletes_back deletions y b r.1)

pub without_more : (front more : List Deletion) (history : List Event) → without (front ++ more) history ≡ without more (without front history)
without_more [] more history = refl
without_more (d ∷ front) more history = without_more front more (Did (CutValue d.variable d.value) ∷ history)

-- what a derivation says of the deletions behind some
pub derivation_from : (P : Network) (history : List Event) (q : ℕ) (bans : Bans) (front more : List Deletion) → IsDerivation P history q bans (front ++ more) → IsDerivation P (without front history) q bans more
derivation_from P history q bans [] more is = is
derivation_from P history q bans (d ∷ front) more is = derivation_from P (Did (CutValue d.variable d.value) ∷ history) q bans front more is.1

-- values are numbered as far as they were seen
pub record AreNumbered (P : Network) (seen : List Deletion) (rows : List (List ℕ)) : Type 0 where
  pub positions : ArePositions P seen rows
  pub shape : HasShape P rows
  pub number : (x a : ℕ) → IsValue P x a → (item rows x a < length seen) ⊎ (item rows x a ≡ 2 ^ 64 - 1)

pub none_numbered : (P : Network) (rows : List (List ℕ)) → AreFilled P (2 ^ 64 - 1) rows → AreNumbered P [] rows
none_numbered P rows are = record {
  positions = λ n h. (let none : n ≡ 0 = omega (arith, h) in
      subst (λ k. AreBefore P (take k []) rows) (sym none)
      (record { shape = are.shape; said = λ x a value less. absurd (omega (arith, less)); known = λ x a value is. absurd is; order = λ z c y b value is. absurd is }));
  shape = are.shape;
  number = λ x a value. inr (are.all x a value);
}

shorter : (n : ℕ) (deletions : List Deletion) → length (take n deletions) ≤ length deletions
shorter zero deletions = omega arith
shorter (suc n) [] = omega arith
shorter (suc n) (d ∷ deletions) = let r = shorter n deletions in omega (arith, r)

pub deletes_taken : (n : ℕ) (deletions : List Deletion) (y b : ℕ) → Deletes (take n deletions) y b → Deletes deletions y b
deletes_taken zero deletions y b is = absurd is
deletes_taken (suc n) [] y b is = absurd is
deletes_taken (suc n) (d ∷ deletions) y b (inl is) = inl is
deletes_taken (suc n) (d ∷ deletions) y b (inr is) = inr (deletes_taken n deletions y b is)

-- the number of a value behind a deletion: its own, or what it was
number_now : (P : Network) (rows : List (List ℕ)) (d : Deletion) (number x a : ℕ) → HasShape P rows → IsValue P d.variable d.value
    → ((d.variable ≡ x) × (d.value ≡ a) × (item (written rows d.variable d.value number) x a ≡ number)) ⊎ (((d.variable ≡ x) → (d.value ≡ a) → ⊥) × (item (written rows d.variable d.value number) x a ≡ item rows x a))
number_now P rows d number x a shape value =
    let at = within P rows d.variable d.value shape value in
    elim (cases_eq d.variable x) [
      | inl e ↦ (elim (cases_eq d.value a) [
        | inl f ↦ inl (e, f, subst (λ y. item (written rows d.variable d.value number) y a ≡ number) e (subst (λ b. item (written rows d.variable d.value number) d.variable b ≡ number) f (written_here rows d.variable d.value number at.0 at.1)))
        | inr f ↦ inr (λ same other. f other, written_there rows d.variable d.value number x a at.0 (λ same other. f other))
      ])
      | inr e ↦ inr (λ same other. e same, written_there rows d.variable d.value number x a at.0 (λ same other. e same))
    ]

-- the number of a value that was deleted before stays
still : (P : Network) (seen : List Deletion) (rows : List (List ℕ)) (d : Deletion) (number x a : ℕ) → HasShape P rows → IsValue P d.variable d.value → (Deletes seen d.variable d.value → ⊥) → Deletes seen x a
    → item (written rows d.variable d.value number) x a ≡ item rows x a
still P seen rows d number x a shape value new is = elim (number_now P rows d number x a shape value) [
  | inl h ↦ absurd (new (subst (λ y. Deletes seen y d.value) (sym h.0) (subst (λ b. Deletes seen x b) (sym h.1) is)))
  | inr h ↦ h.1
]

before_still : (P : Network) (seen some : List Deletion) (rows : List (List ℕ)) (d : Deletion) → HasShape P rows → IsValue P d.variable d.value → (Deletes seen d.variable d.value → ⊥)
    → length some ≤ length seen → ((y b : ℕ) → Deletes some y b → Deletes seen y b) → AreBefore P some rows → AreBefore P some (written rows d.variable d.value (length seen))
before_still P seen some rows d shape value new few within are = record {
  shape = written_shape P rows d.variable d.value (length seen) shape value.variable;
  said = λ x a v less. elim (number_now P rows d (length seen) x a shape value) [
    | inl h ↦ (let is = h.2 in absurd (omega (arith, is, less, few)))
    | inr h ↦ (let is = h.1 in are.said x a v (omega (arith, is, less)))
  ];
  known = λ x a v is. (let same = still P seen rows d (length seen) x a shape value new (within x a is) in let old = are.known x a v is in omega (arith, same, old));
  order = λ z c y b v is.
      (let both = deleted_both some z c y b is in
      let one = still P seen rows d (length seen) z c shape value new (within z c both.0) in
      let other = still P seen rows d (length seen) y b shape value new (within y b both.1) in
      let old = are.order z c y b v is in omega (arith, one, other, old));
}

before_more : (P : Network) (seen : List Deletion) (rows : List (List ℕ)) (d : Deletion) → AreNumbered P seen rows → IsValue P d.variable d.value → (Deletes seen d.variable d.value → ⊥) → AreBefore P seen rows → length seen < 2 ^ 64 - 1
    → AreBefore P (seen ++ d ∷ []) (written rows d.variable d.value (length seen))
before_more P seen rows d are value new before few =
    let long = length-append seen (d ∷ []) in
    record {
      shape = written_shape P rows d.variable d.value (length seen) are.shape value.variable;
      said = λ x a v less. elim (number_now P rows d (length seen) x a are.shape value) [
        | inl h ↦ deletes_last seen d x a h.0 h.1
        | inr h ↦ (let same = h.1 in elim (are.number x a v) [
          | inl low ↦ deletes_front seen (d ∷ []) x a (before.said x a v low)
          | inr high ↦ absurd (omega (arith, same, less, long, high, few))
        ])
      ];
      known = λ x a v is. elim (number_now P rows d (length seen) x a are.shape value) [
        | inl h ↦ (let same = h.2 in omega (arith, same, long))
        | inr h ↦ (let same = h.1 in elim (deletes_either seen (d ∷ []) x a is) [
          | inl old ↦ (let low = before.known x a v old in omega (arith, low, same, long))
          | inr last ↦ (elim last [
            | inl e ↦ absurd (h.0 e.0 e.1)
            | inr e ↦ absurd e
          ])
        ])
      ];
      order = λ z c y b v is. elim (subst (λ l. DeletesBefore l z c y b) (reverse-append seen (d ∷ [])) is) [
        | inl last ↦
            (let del = deletes_back seen z c last.2 in
            let one = still P seen rows d (length seen) z c are.shape value new del in
            let low = before.known z c v del in
            elim (number_now P rows d (length seen) y b are.shape value) [
              | inl h ↦ (let here = h.2 in omega (arith, one, low, here))
              | inr h ↦ absurd (h.0 last.0 last.1)
            ])
        | inr more ↦
            (let both = deleted_both seen z c y b more in
            let one = still P seen rows d (length seen) z c are.shape value new both.0 in
            let other = still P seen rows d (length seen) y b are.shape value new both.1 in
            let old = before.order z c y b v more in omega (arith, one, other, old))
      ];
    }

all_taken : (seen : List Deletion) → take (length seen) seen ≡ seen
all_taken [] = refl
all_taken (d ∷ seen) = ap (λ l. d ∷ l) (all_taken seen)

pub numbered_more : (P : Network) (seen : List Deletion) (rows : List (List ℕ)) (d : Deletion) → AreNumbered P seen rows → IsValue P d.variable d.value → (Deletes seen d.variable d.value → ⊥) → length seen < 2 ^ 64 - 1
    → AreNumbered P (seen ++ d ∷ []) (written rows d.variable d.value (length seen))
numbered_more P seen rows d are value new few =
    let long = length-append seen (d ∷ []) in let next = written rows d.variable d.value (length seen) in
    record {
      positions = λ n h. elim (cases_eq n (length seen + 1)) [
        | inl e ↦ subst (λ l. AreBefore P l next) (sym (ap (λ k. take k (seen ++ d ∷ [])) e ∙ take-append-add seen (d ∷ []) 1))
            (before_more P seen rows d are value new (subst (λ l. AreBefore P l rows) (all_taken seen) (are.positions (length seen) (omega arith))) few)
        | inr e ↦ (let le : n ≤ length seen = omega (arith, h, e, long) in
            subst (λ l. AreBefore P l next) (sym (take-append-le n seen (d ∷ []) le))
            (before_still P seen (take n seen) rows d are.shape value new (shorter n seen) (λ y b is. deletes_taken n seen y b is) (are.positions n le)))
      ];
      shape = written_shape P rows d.variable d.value (length seen) are.shape value.variable;
      number = λ x a v. elim (number_now P rows d (length seen) x a are.shape value) [
        | inl h ↦ (let same = h.2 in inl (omega (arith, same, long)))
        | inr h ↦ (let same = h.1 in elim (are.number x a v) [
          | inl low ↦ inl (omega (arith, same, long, low))
          | inr high ↦ inr (same ∙ high)
        ])
      ];
    }

-- where numbering is
pub record IsNumbering (P : Network) (deletions left : List Deletion) (rows : List (List ℕ)) : Type 0 where
  pub seen : List Deletion
  pub all : deletions ≡ seen ++ left
  pub numbered : AreNumbered P seen rows

pub numbering_start : (P : Network) (deletions : List Deletion) (rows : List (List ℕ)) → AreFilled P (2 ^ 64 - 1) rows → IsNumbering P deletions deletions rows
numbering_start P deletions rows are = record { seen = []; all = refl; numbered = none_numbered P rows are }

pub next_deletion : (P : Network) (history : List Event) (q : ℕ) (bans : Bans) (deletions left later : List Deletion) (rows : List (List ℕ)) (d : Deletion) → IsDerivation P history q bans deletions
    → (n : IsNumbering P deletions left rows) → left ≡ d ∷ later → IsDeletion P (without n.seen history) q bans d
next_deletion P history q bans deletions left later rows d is n left_is = (derivation_from P history q bans n.seen (d ∷ later) (subst (IsDerivation P history q bans) (n.all ∙ ap (λ l. n.seen ++ l) left_is) is)).0

pub numbering_more : (P : Network) (history : List Event) (q : ℕ) (bans : Bans) (deletions left later : List Deletion) (number : ℕ) (rows : List (List ℕ)) (d : Deletion) → IsDerivation P history q bans deletions
    → IsNumbering P deletions left rows → left ≡ d ∷ later → number + length left ≡ length deletions → length deletions < 2 ^ 64 → IsNumbering P deletions later (written rows d.variable d.value number)
numbering_more P history q bans deletions left later number rows d is n left_is number_is few =
    let deletion = next_deletion P history q bans deletions left later rows d is n left_is in
    let all_is = ap length n.all ∙ length-append n.seen left in
    let left_long = ap length left_is in
    let count : number ≡ length n.seen = omega (arith, number_is, all_is) in
    record {
      seen = n.seen ++ d ∷ [];
      all = n.all ∙ ap (λ l. n.seen ++ l) left_is ∙ sym (append_assoc n.seen (d ∷ []) later);
      numbered = subst (λ k. AreNumbered P (n.seen ++ d ∷ []) (written rows d.variable d.value k)) (sym count)
          (numbered_more P n.seen rows d n.numbered deletion.value (λ is. live_is_none n.seen history d.variable d.value deletion.live is) (omega (arith, few, all_is, left_long)));
    }

none_left : (left : List Deletion) → length left ≡ 0 → left ≡ []
none_left [] h = refl
none_left (d ∷ left) h = absurd (omega (arith, h))

pub all_numbered : (P : Network) (deletions left : List Deletion) (rows : List (List ℕ)) → IsNumbering P deletions left rows → length left ≡ 0 → ArePositions P deletions rows × AreOfDeletions P (2 ^ 64 - 1) deletions rows
all_numbered P deletions left rows n none =
    let e = n.all ∙ ap (λ l. n.seen ++ l) (none_left left none) ∙ append-nil n.seen in (
      subst (λ l. ArePositions P l rows) (sym e) n.numbered.positions,
      subst (λ l. AreOfDeletions P (2 ^ 64 - 1) l rows) (sym e) (record {
        shape = n.numbered.shape;
        none = λ x a v not. elim (n.numbered.number x a v) [
          | inl low ↦ absurd (not (seen_in P n.seen rows x a n.numbered v low))
          | inr high ↦ high
        ];
      }),
    )
  where
    seen_in : (P : Network) (seen : List Deletion) (rows : List (List ℕ)) (x a : ℕ) → AreNumbered P seen rows → IsValue P x a → item rows x a < length seen → Deletes seen x a
    seen_in P seen rows x a are v low = (subst (λ l. AreBefore P l rows) (all_taken seen) (are.positions (length seen) (omega arith))).said x a v low

-- where taking back is: the values that are not among what is left have no number
pub record IsTaking (P : Network) (number : ℕ) (deletions left : List Deletion) (rows : List (List ℕ)) : Type 0 where
  pub done : List Deletion
  pub all : deletions ≡ done ++ left
  pub rest : AreOfDeletions P number left rows

pub taking_start : (P : Network) (number : ℕ) (deletions : List Deletion) (rows : List (List ℕ)) → AreOfDeletions P number deletions rows → IsTaking P number deletions deletions rows
taking_start P number deletions rows are = record { done = []; all = refl; rest = are }

pub taken_value : (P : Network) (history : List Event) (q : ℕ) (bans : Bans) (number : ℕ) (deletions left later : List Deletion) (rows : List (List ℕ)) (d : Deletion) → IsDerivation P history q bans deletions
    → IsTaking P number deletions left rows → left ≡ d ∷ later → IsValue P d.variable d.value
taken_value P history q bans number deletions left later rows d is t left_is =
    (derivation_from P history q bans t.done (d ∷ later) (subst (IsDerivation P history q bans) (t.all ∙ ap (λ l. t.done ++ l) left_is) is)).0.value

pub taking_more : (P : Network) (number : ℕ) (deletions left later : List Deletion) (rows : List (List ℕ)) (d : Deletion) → IsTaking P number deletions left rows → left ≡ d ∷ later → IsValue P d.variable d.value
    → IsTaking P number deletions later (written rows d.variable d.value number)
taking_more P number deletions left later rows d t left_is value = record {
  done = t.done ++ d ∷ [];
  all = t.all ∙ ap (λ l. t.done ++ l) left_is ∙ sym (append_assoc t.done (d ∷ []) later);
  rest = record {
    shape = written_shape P rows d.variable d.value number t.rest.shape value.variable;
    none = λ x a v not. elim (number_now P rows d number x a t.rest.shape value) [
      | inl h ↦ h.2
      | inr h ↦ h.1 ∙ t.rest.none x a v (λ is. elim (subst (λ l. Deletes l x a) left_is is) [
        | inl here ↦ h.0 here.0 here.1
        | inr more ↦ not more
      ])
    ];
  };
}

pub all_taken_back : (P : Network) (number : ℕ) (deletions left : List Deletion) (rows : List (List ℕ)) → IsTaking P number deletions left rows → length left ≡ 0 → AreFilled P number rows
all_taken_back P number deletions left rows t none = record {
  shape = t.rest.shape;
  all = λ x a v. t.rest.none x a v (λ is. subst (λ l. Deletes l x a) (none_left left none) is);
}
