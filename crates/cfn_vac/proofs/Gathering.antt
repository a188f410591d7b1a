-- Sources are found and cut one after another.
use Rattle.std.proofs.Common.{◌≡◌, ◌≢◌, ℕ, ◌+◌, ◌<◌, ◌≤◌, inl, inr, List, [], ◌∷◌, length, true, refl, sym, ap, ◌∙◌, subst, arith}
use Rattle.std.proofs.lemmas.Int.{ints}
use Rattle.std.proofs.lemmas.Grind.{common_steps}
use Rattle.std.proofs.lemmas.Bool.{cases_eq}
use Rattle.std.specs.Prelude.{Option, None, Some, IfSome, MatchOption, reverse, slice_index, slice_index_or, pos, ◌<ℤ◌, IsTrue}
use Rattle.cfn_model.specs.declared.step.Step.{Step}
use Rattle.cfn_model.specs.declared.step.Step.TheVariants.{CutValue, Extend}
use Rattle.cfn_model.specs.declared.step.Event.{Event}
use Rattle.cfn_model.specs.declared.step.Event.TheVariants.{Did}
use Rattle.cfn_model.specs.Network.{Network, IsNetwork, Fits, cell, arity, scope_at, variable_at, dims_at}
use Rattle.cfn_model.specs.Sums.{residual, is_live, is_live_tuple}
use Rattle.cfn_model.specs.Steps.{IsPlace, IsValue, CanProject}
use Rattle.cfn_net.proofs.CallerLemmas.{get_or-dims}
use Rattle.cfn_gain.proofs.CallerLemmas.{history_step}
use Rattle.cfn_store.specs.Standing.{Standing, history, with_step}
use Rattle.cfn_scan.proofs.CallerLemmas.{tuple_at}
use Rattle.cfn_consistency.specs.declared.deletion.Deletion.{Deletion}
use Rattle.cfn_consistency.specs.declared.deletion.Source.{Source}
use Rattle.cfn_consistency.specs.Virtual.{without, without_sources, Deletes, DeletesBefore, IsNeeded}
use Rattle.cfn_vac.specs.Running.{HasGrown}
use Rattle.cfn_vac.specs.Tables.{item, AreBefore}
use Rattle.cfn_vac.specs.Plans.{IsCheap, NoneBefore, IsBefore, IsGathered, Gathers}
use Rattle.cfn_vac.proofs.Running.{grown_none, grown_more}
use Rattle.cfn_vac.proofs.Cuts.{IsLike, like_same, like_cut, like_without, live_before, live_without, live_is_none, tuple_then, live_in, live_most, live_less}
use Rattle.cfn_vac.proofs.Derived.{deletes_turned, deleted_both}

-- a value at a place is one of its variable's
pub value_of : (P : Network) (f i a : ℕ) → IsNetwork P → IsPlace P f i a → IsValue P (variable_at P f i) a
value_of P f i a net place = record {
  variable = (net.functions f place.function).variables i place.place;
  value = let v = place.value in let d = get_or-dims P.sizes (scope_at P f) i place.place in omega (arith, v, d);
}

-- a history in which sources are cut has the same costs, and no source is live in it
pub like_sources : (P : Network) (f : ℕ) (sources : List Source) (history : List Event) → IsLike P (without_sources P f sources history) history
like_sources P f [] history = like_same P history
like_sources P f (s ∷ sources) history = like_cut P (without_sources P f sources history) history (variable_at P f s.place) s.value (like_sources P f sources history)

live_uncut : (P : Network) (f : ℕ) (sources : List Source) (history : List Event) (y b : ℕ) → is_live (without_sources P f sources history) y b ≡ true → is_live history y b ≡ true
live_uncut P f [] history y b live = live
live_uncut P f (s ∷ sources) history y b live = live_uncut P f sources history y b (live_before (without_sources P f sources history) (variable_at P f s.place) s.value y b live)

-- a cheap tuple has a value that was deleted before
pub not_none : (P : Network) (old : List Event) (sources : List Source) (earlier : List Deletion) (rows : List (List ℕ)) (f i a q : ℕ) (tuple : List ℕ) → IsNetwork P → f < length P.functions
    → AreBefore P earlier rows → IsTrue (is_live (without earlier old) (variable_at P f i) a) → CanProject P (without earlier old) f i a q
    → Fits (dims_at P f) tuple → slice_index tuple i ≡ a → IsTrue (is_live_tuple P (without_sources P f sources old) f tuple) → residual P (without_sources P f sources old) f tuple <ℤ pos q
    → NoneBefore P rows f i (length earlier) tuple → ⊥
not_none P old sources earlier rows f i a q tuple net there before live enough fits at alive cheap none =
    let now = without_sources P f sources old in
    let like = like_sources P f sources old in
    let other = like_without P earlier old old (like_same P old) in
    let alike : IsLike P (without earlier old) now = record { costs = λ g t. other.costs g t ∙ sym (like.costs g t); cuts = λ g c. other.cuts g c ∙ sym (like.cuts g c) } in
    let stays = tuple_then P now (without earlier old) f tuple alike alive (λ j h l. elim (cases_eq j i) [
      | inl e ↦ subst (λ p. is_live (without earlier old) (variable_at P f p) (slice_index tuple p) ≡ true) (sym e) (subst (λ b. is_live (without earlier old) (variable_at P f i) b ≡ true) (sym at) live)
      | inr d ↦ (let v = tuple_at P now f j tuple h fits alive in
          let value : IsValue P (variable_at P f j) (slice_index tuple j) = record { variable = (net.functions f there).variables j h; value = v.0 } in
          live_without earlier old (variable_at P f j) (slice_index tuple j) (live_uncut P f sources old (variable_at P f j) (slice_index tuple j) l)
          (λ is. (let low = before.known (variable_at P f j) (slice_index tuple j) value is in let high = none j h d in omega (arith, low, high))))
    ]) in
    let most = enough tuple fits at stays in let same = alike.costs f tuple in omega (arith, ints, most, cheap, same)

-- where gathering is
pub record IsGathering (P : Network) (before now : Standing) (q f i a amount : ℕ) (earlier : List Deletion) (old new : List Step) : Type 0 where
  pub network : now.network ≡ P
  pub gathered : IsGathered P before now q f i a amount (reverse earlier) old new
  pub grown : HasGrown before now
  pub room : live_in earlier (history now) ≤ now.spare

pub gathering_start : (P : Network) (s : Standing) (q f i a amount : ℕ) (earlier : List Deletion) (old : List Step) → s.network ≡ P → length earlier ≤ s.spare → IsGathering P s s q f i a amount earlier old old
gathering_start P s q f i a amount earlier old network room = record {
  network = network;
  gathered = record { sources = []; are = tt; cut = refl; put = refl };
  grown = grown_none s;
  room = (let most = live_most earlier (history s) in omega (arith, most, room));
}

-- what is known of a source that was found
pub record IsFound (P : Network) (now : Standing) (q f i a : ℕ) (earlier : List Deletion) (source : Source) : Type 0 where
  pub place : IsPlace P f source.place source.value
  pub other : source.place ≢ i
  pub deleted : Deletes earlier (variable_at P f source.place) source.value
  pub live : is_live (history now) (variable_at P f source.place) source.value ≡ true
  pub needed : IsNeeded P (history now) q f i a (reverse earlier) source

pub found_room : (P : Network) (before now : Standing) (q f i a amount : ℕ) (earlier : List Deletion) (old new : List Step) (source : Source) → IsGathering P before now q f i a amount earlier old new → IsFound P now q f i a earlier source → 0 < now.spare
found_room P before now q f i a amount earlier old new source g is =
    let less = live_less earlier (history now) (variable_at P f source.place) source.value is.deleted is.live in let room = g.room in omega (arith, less, room)

pub found_nearer : (P : Network) (now next : Standing) (q f i a : ℕ) (earlier : List Deletion) (source : Source) → IsFound P now q f i a earlier source → next ≡ with_step now (CutValue (variable_at P f source.place) source.value) → live_in earlier (history next) < live_in earlier (history now)
found_nearer P now next q f i a earlier source is next_is =
    subst (λ h. live_in earlier h < live_in earlier (history now)) (sym (ap history next_is ∙ history_step now (CutValue (variable_at P f source.place) source.value)))
    (live_less earlier (history now) (variable_at P f source.place) source.value is.deleted is.live)

pub gathering_more : (P : Network) (before now next : Standing) (q f i a amount : ℕ) (earlier : List Deletion) (old new more : List Step) (source : Source)
    → IsGathering P before now q f i a amount earlier old new → IsFound P now q f i a earlier source
    → next ≡ with_step now (CutValue (variable_at P f source.place) source.value) → more ≡ Extend f source.place source.value amount ∷ new
    → IsGathering P before next q f i a amount earlier old more
gathering_more P before now next q f i a amount earlier old new more source g is next_is more_is =
    let v = g.gathered in
    let some = found_room P before now q f i a amount earlier old new source g is in
    let step = CutValue (variable_at P f source.place) source.value in
    record {
      network = ap (λ (t : Standing). t.network) next_is ∙ g.network;
      gathered = record {
        sources = source ∷ v.sources;
        are = (is.place, is.other, deletes_turned earlier (variable_at P f source.place) source.value is.deleted, subst (λ h. IsNeeded P h q f i a (reverse earlier) source) v.cut is.needed, v.are);
        cut = ap history next_is ∙ history_step now step ∙ ap (λ h. Did step ∷ h) v.cut;
        put = more_is ∙ ap (λ l. Extend f source.place source.value amount ∷ l) v.put;
      };
      grown = grown_more before now next step g.grown some next_is;
      room = (let less = found_nearer P now next q f i a earlier source is next_is in let room = g.room in let left = ap (λ (t : Standing). t.spare) next_is in omega (arith, less, room, left));
    }

-- no value of the tuple was deleted before the source: not at the place of the target, whose value stays live, and not at another
none_first : (P : Network) (old now : List Event) (earlier : List Deletion) (rows : List (List ℕ)) (f i a : ℕ) (tuple : List ℕ) (source : Source) → IsNetwork P → AreBefore P earlier rows
    → is_live (without earlier old) (variable_at P f i) a ≡ true → Fits (dims_at P f) tuple → slice_index tuple i ≡ a → is_live_tuple P now f tuple ≡ true → IsBefore P rows f i (length earlier) tuple source
    → (j : ℕ) → j < arity P f → DeletesBefore (reverse earlier) (variable_at P f j) (slice_index tuple j) (variable_at P f source.place) source.value → ⊥
none_first P old now earlier rows f i a tuple source net are live fits at alive is j h before = elim (cases_eq j i) [
  | inl e ↦
      (let deleted = (deleted_both earlier (variable_at P f j) (slice_index tuple j) (variable_at P f source.place) source.value before).0 in
      live_is_none earlier old (variable_at P f i) a live (subst (λ b. Deletes earlier (variable_at P f i) b) at (subst (λ p. Deletes earlier (variable_at P f p) (slice_index tuple p)) e deleted)))
  | inr d ↦
      (let v = tuple_at P now f j tuple h fits alive in
      let value : IsValue P (variable_at P f j) (slice_index tuple j) = record { variable = (net.functions f is.place.function).variables j h; value = v.0 } in
      let low = are.order (variable_at P f j) (slice_index tuple j) (variable_at P f source.place) source.value value before in
      let least = is.least j h d in omega (arith, low, least))
]

-- the source that a cheap tuple has
pub found_in : (P : Network) (before now : Standing) (f i a q number : ℕ) (earlier : List Deletion) (rows : List (List ℕ)) (source : Source) → IsNetwork P → AreBefore P earlier rows
    → IsTrue (is_live (without earlier (history before)) (variable_at P f i) a) → (cheap : IsCheap P (history now) f i a q number) → IsBefore P rows f i (length earlier) cheap.tuple source → IsFound P now q f i a earlier source
found_in P before now f i a q number earlier rows source net are live cheap is =
    let place = is.place in
    let t = cheap.tuple in let fits = cheap.picked.fits in let at = cheap.picked.value in let alive = cheap.picked.live in
    let l = tuple_at P (history now) f source.place t place.place fits alive in
    record {
      place = place;
      other = is.other;
      deleted = are.said (variable_at P f source.place) source.value (value_of P f source.place source.value net place) is.before;
      live = ap (is_live (history now) (variable_at P f source.place)) is.value ∙ l.1;
      needed = record {
        cheap = record { tuple = t; fits = fits; at = at; live = alive; cheap = cheap.cheap };
        value = sym is.value;
        first = none_first P (history before) (history now) earlier rows f i a t source net are live fits at alive is;
      };
    }

pub cheap_has : (P : Network) (before now : Standing) (f i a amount q number : ℕ) (earlier : List Deletion) (old new : List Step) (rows : List (List ℕ)) → IsNetwork P → f < length P.functions → AreBefore P earlier rows
    → IsTrue (is_live (without earlier (history before)) (variable_at P f i) a) → CanProject P (without earlier (history before)) f i a q
    → IsGathering P before now q f i a amount earlier old new → (cheap : IsCheap P (history now) f i a q number) → NoneBefore P rows f i (length earlier) cheap.tuple → ⊥
cheap_has P before now f i a amount q number earlier old new rows net there are live enough g cheap none =
    let v = g.gathered in
    not_none P (history before) v.sources earlier rows f i a q cheap.tuple net there are live enough cheap.picked.fits cheap.picked.value
    (subst (λ h. IsTrue (is_live_tuple P h f cheap.tuple)) v.cut cheap.picked.live)
    (subst (λ h. residual P h f cheap.tuple <ℤ pos q) v.cut cheap.cheap) none

pub gathers : (P : Network) (before now : Standing) (q f i a amount : ℕ) (earlier : List Deletion) (old new : List Step) → IsGathered P before now q f i a amount earlier old new → CanProject P (history now) f i a q → Gathers P (history before) q f i a amount earlier old new
gathers P before now q f i a amount earlier old new is enough = record {
  sources = is.sources;
  are = record { are = is.are; enough = subst (λ h. CanProject P h f i a q) is.cut enough };
  put = is.put;
}

-- a value of a tuple at another place, with its number
pub record IsSeen (P : Network) (rows : List (List ℕ)) (f i end first : ℕ) (tuple : List ℕ) (source : Source) : Type 0 where
  pub place : IsPlace P f source.place source.value
  pub other : source.place ≢ i
  pub value : source.value ≡ slice_index tuple source.place
  pub number : item rows (variable_at P f source.place) source.value ≡ first
  pub before : first < end

-- the numbers of a tuple's values, the first n places
pub record IsEarliest (P : Network) (rows : List (List ℕ)) (f i end n first : ℕ) (tuple : List ℕ) (found : Option Source) : Type 0 where
  pub most : first ≤ end
  pub least : (j : ℕ) → j < n → j ≢ i → first ≤ item rows (variable_at P f j) (slice_index tuple j)
  pub begins : found ≡ None → first ≡ end
  pub some : IfSome found (IsSeen P rows f i end first tuple)

pub earliest_start : (P : Network) (rows : List (List ℕ)) (f i end : ℕ) (tuple : List ℕ) → IsEarliest P rows f i end 0 end tuple None
earliest_start P rows f i end tuple = record { most = omega arith; least = λ j h. absurd (omega (arith, h)); begins = λ e. refl; some = tt }

pub earliest_end : (P : Network) (rows : List (List ℕ)) (f i end n first : ℕ) (tuple : List ℕ) (found : Option Source) → IsEarliest P rows f i end n first tuple found → arity P f ≤ n → MatchOption found (NoneBefore P rows f i end tuple) (IsBefore P rows f i end tuple)
earliest_end P rows f i end n first tuple None e all = λ j h d. (let l = e.least j (omega (arith, h, all)) d in let same = e.begins refl in omega (arith, l, same))
earliest_end P rows f i end n first tuple (Some source) e all =
    let s = e.some in let number = s.number in
    record {
      place = s.place;
      other = s.other;
      value = s.value;
      before = (let b = s.before in omega (arith, b, number));
      least = λ j h d. (let l = e.least j (omega (arith, h, all)) d in omega (arith, l, number));
    }

pub item_is : (row : List ℕ) (a number : ℕ) → a < length row → number ≡ slice_index_or row a number → slice_index row a ≡ number
item_is row a number h e = grind (arith, common_steps)

pub earliest_found : (P : Network) (rows : List (List ℕ)) (f i end n first value position : ℕ) (tuple : List ℕ) (found next : Option Source) → IsEarliest P rows f i end n first tuple found
    → IsPlace P f n value → n ≢ i → value ≡ slice_index tuple n → item rows (variable_at P f n) value ≡ position → position < first → next ≡ Some (record { place = n; value = value }) → IsEarliest P rows f i end (n + 1) position tuple next
earliest_found P rows f i end n first value position tuple found next e place other at is less next_is =
    let most = e.most in
    subst (IsEarliest P rows f i end (n + 1) position tuple) (sym next_is)
    (record {
      most = omega (arith, most, less);
      least = λ j h d. elim (cases_eq j n) [
        | inl same ↦ subst (λ p. position ≤ item rows (variable_at P f p) (slice_index tuple p)) (sym same) (subst (λ b. position ≤ item rows (variable_at P f n) b) at (omega (arith, is)))
        | inr differs ↦ (let l = e.least j (omega (arith, h, differs)) d in omega (arith, l, less))
      ];
      begins = λ same. absurd cc;
      some = record { place = place; other = other; value = at; number = is; before = omega (arith, most, less) };
    })

pub earliest_kept : (P : Network) (rows : List (List ℕ)) (f i end n first : ℕ) (tuple : List ℕ) (found : Option Source) → IsEarliest P rows f i end n first tuple found
    → (n ≢ i → first ≤ item rows (variable_at P f n) (slice_index tuple n)) → IsEarliest P rows f i end (n + 1) first tuple found
earliest_kept P rows f i end n first tuple found e more = record {
  most = e.most;
  least = λ j h d. elim (cases_eq j n) [
    | inl is ↦ subst (λ p. first ≤ item rows (variable_at P f p) (slice_index tuple p)) (sym is) (more (λ s. d (is ∙ s)))
    | inr is ↦ e.least j (omega (arith, h, is)) d
  ];
  begins = e.begins;
  some = e.some;
}

-- the same, of a network that is the store's
pub found_at : (P N : Network) (before now : Standing) (f i a amount q number : ℕ) (earlier : List Deletion) (old new : List Step) (rows : List (List ℕ)) (source : Source) → N ≡ now.network → IsNetwork P → AreBefore P earlier rows → IsTrue (is_live (without earlier (history before)) (variable_at P f i) a)
    → IsGathering P before now q f i a amount earlier old new → IsCheap now.network (history now) f i a q number
    → ((tuple : List ℕ) → Fits (dims_at N f) tuple → cell (dims_at N f) tuple ≡ number → IsBefore N rows f i (length earlier) tuple source) → IsFound P now q f i a earlier source
found_at P N before now f i a amount q number earlier old new rows source same net are live g cheap has =
    let here : IsCheap P (history now) f i a q number = subst (λ M. IsCheap M (history now) f i a q number) g.network cheap in
    let is = subst (λ M. (tuple : List ℕ) → Fits (dims_at M f) tuple → cell (dims_at M f) tuple ≡ number → IsBefore M rows f i (length earlier) tuple source) (same ∙ g.network) has in
    found_in P before now f i a q number earlier rows source net are live here (is here.tuple here.picked.fits here.cell_is)

pub none_at : (P N : Network) (before now : Standing) (f i a amount q number : ℕ) (earlier : List Deletion) (old new : List Step) (rows : List (List ℕ)) → N ≡ now.network → IsNetwork P → f < length P.functions → AreBefore P earlier rows
    → IsTrue (is_live (without earlier (history before)) (variable_at P f i) a) → CanProject P (without earlier (history before)) f i a q
    → IsGathering P before now q f i a amount earlier old new → IsCheap now.network (history now) f i a q number
    → ((tuple : List ℕ) → Fits (dims_at N f) tuple → cell (dims_at N f) tuple ≡ number → NoneBefore N rows f i (length earlier) tuple) → ⊥
none_at P N before now f i a amount q number earlier old new rows same net there are live enough g cheap has =
    let here : IsCheap P (history now) f i a q number = subst (λ M. IsCheap M (history now) f i a q number) g.network cheap in
    let is = subst (λ M. (tuple : List ℕ) → Fits (dims_at M f) tuple → cell (dims_at M f) tuple ≡ number → NoneBefore M rows f i (length earlier) tuple) (same ∙ g.network) has in
    cheap_has P before now f i a amount q number earlier old new rows net there are live enough g here (is here.tuple here.picked.fits here.cell_is)
