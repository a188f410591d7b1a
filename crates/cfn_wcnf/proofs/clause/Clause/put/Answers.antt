use Rattle.std.proofs.Common.{◌≡◌, ℕ, ◌≤◌, true, false, List, length, ap, ◌∙◌, sym, arith}
use Rattle.std.specs.List.{insert}
use Rattle.cfn_wcnf.specs.declared.clause.Polarity.TheVariants.{Positive}
use Rattle.cfn_wcnf.specs.declared.clause.Occurrence.{Occurrence}
use Rattle.cfn_wcnf.specs.declared.clause.TheConstants.{MOST_CLAUSE_VARIABLES}
use Rattle.cfn_wcnf.specs.Clauses.{occurs, with_occurrence}
use Rattle.cfn_wcnf.specs.Partial.{place_of, stands, Partial}
use Rattle.cfn_wcnf.proofs.Occurrences.{new, written, within, keeps_more, has_room, place_within}
use Rattle.cfn_wcnf.proofs.clause.Clause.put.Goals as goal

pub offset_bounds-deref-place : goal.offset_bounds-deref-place
offset_bounds-deref-place c =
    let os = c.self.inside.occurrences.items in
    let same : os ≡ c.args.self.now.occurrences = ap (λ (p : Partial). p.occurrences) c.self.view_is in
    let at : c.place-place.result ≡ place_of c.args.x os = c.place-place.ensures ∙ sym (ap (place_of c.args.x) same) in
    let small = place_within c.args.x os in
    record { fits = omega (arith, at, small, c.self.invariant.few) }

pub bounds-deref-place : goal.bounds-deref-place
bounds-deref-place c =
    let os = c.self.inside.occurrences.items in
    let same : os ≡ c.args.self.now.occurrences = ap (λ (p : Partial). p.occurrences) c.self.view_is in
    let at : c.place-place.result ≡ place_of c.args.x os = c.place-place.ensures ∙ sym (ap (place_of c.args.x) same) in
    let stood : stands c.args.x os ≡ true = ap (stands c.args.x) same ∙ sym c.contains.ensures ∙ c.if-contains.true in
    within c.args.x os c.deref.result.now c.place-place.result stood at c.deref.ensures.0

pub offset_bounds-deref_mut-place : goal.offset_bounds-deref_mut-place
offset_bounds-deref_mut-place c =
    let os = c.self.inside.occurrences.items in
    let same : os ≡ c.args.self.now.occurrences = ap (λ (p : Partial). p.occurrences) c.self.view_is in
    let at : c.place-place.result ≡ place_of c.args.x os = c.place-place.ensures ∙ sym (ap (place_of c.args.x) same) in
    let small = place_within c.args.x os in
    record { fits = omega (arith, at, small, c.self.invariant.few) }

pub bounds-deref_mut-place : goal.bounds-deref_mut-place
bounds-deref_mut-place c =
    let os = c.self.inside.occurrences.items in
    let same : os ≡ c.args.self.now.occurrences = ap (λ (p : Partial). p.occurrences) c.self.view_is in
    let at : c.place-place.result ≡ place_of c.args.x os = c.place-place.ensures ∙ sym (ap (place_of c.args.x) same) in
    let stood : stands c.args.x os ≡ true = ap (stands c.args.x) same ∙ sym c.contains.ensures ∙ c.if-contains.true in
    within c.args.x os c.deref_mut.result.now c.place-place.result stood at c.deref_mut.ensures.value

pub invariant_of-self : goal.invariant_of-self
invariant_of-self c =
    let os = c.self.inside.occurrences.items in
    let same : os ≡ c.args.self.now.occurrences = ap (λ (p : Partial). p.occurrences) c.self.view_is in
    let at : c.place-place.result ≡ place_of c.args.x os = c.place-place.ensures ∙ sym (ap (place_of c.args.x) same) in
    let stood : stands c.args.x os ≡ true = ap (stands c.args.x) same ∙ sym c.contains.ensures ∙ c.if-contains.true in
    let few : length (with_occurrence c.args.x c.args.polarity os) ≤ MOST_CLAUSE_VARIABLES = omega (arith, c.requires.few, ap (λ os. length (with_occurrence c.args.x c.args.polarity os)) same) in
    let n : c.self.inside.variables ≡ c.args.self.now.variables = ap (λ (p : Partial). p.variables) c.self.view_is in
    let put = written c.args.x c.args.polarity c.merge-polarity.result os c.deref_mut.result.now c.deref.result.now c.place-place.result (occurs 0 Positive) stood at c.deref_mut.ensures.value c.deref.ensures.0 c.merge-polarity.ensures in
    rw put (keeps_more c.self.inside.variables c.args.x c.args.polarity os c.self.invariant (omega (arith, n)) few)

pub insert-requires : goal.insert-requires
insert-requires c =
    let os = c.self.inside.occurrences.items in
    let same : os ≡ c.args.self.now.occurrences = ap (λ (p : Partial). p.occurrences) c.self.view_is in
    let at : c.place-place.result ≡ place_of c.args.x os = c.place-place.ensures ∙ sym (ap (place_of c.args.x) same) in
    let missing : stands c.args.x os ≡ false = ap (stands c.args.x) same ∙ sym c.contains.ensures ∙ c.if-contains.false in
    let few : length (with_occurrence c.args.x c.args.polarity os) ≤ MOST_CLAUSE_VARIABLES = omega (arith, c.requires.few, ap (λ os. length (with_occurrence c.args.x c.args.polarity os)) same) in
    let room = has_room c.args.x c.args.polarity os missing few in
    let small = place_within c.args.x os in
    (omega arith, (omega arith, room))

pub invariant_of-self-else-contains : goal.invariant_of-self-else-contains
invariant_of-self-else-contains c =
    let os = c.self.inside.occurrences.items in
    let same : os ≡ c.args.self.now.occurrences = ap (λ (p : Partial). p.occurrences) c.self.view_is in
    let at : c.place-place.result ≡ place_of c.args.x os = c.place-place.ensures ∙ sym (ap (place_of c.args.x) same) in
    let missing : stands c.args.x os ≡ false = ap (stands c.args.x) same ∙ sym c.contains.ensures ∙ c.if-contains.false in
    let few : length (with_occurrence c.args.x c.args.polarity os) ≤ MOST_CLAUSE_VARIABLES = omega (arith, c.requires.few, ap (λ os. length (with_occurrence c.args.x c.args.polarity os)) same) in
    let n : c.self.inside.variables ≡ c.args.self.now.variables = ap (λ (p : Partial). p.variables) c.self.view_is in
    let put : c.insert.new.self.items ≡ with_occurrence c.args.x c.args.polarity os = c.insert.ensures.items ∙ ap (λ k. insert os k (occurs c.args.x c.args.polarity)) at ∙ sym (new c.args.x c.args.polarity os missing) in
    rw put (keeps_more c.self.inside.variables c.args.x c.args.polarity os c.self.invariant (omega (arith, n)) few)

pub returns-then-contains : goal.returns-then-contains
returns-then-contains c =
    let os = c.self.inside.occurrences.items in
    let same : os ≡ c.args.self.now.occurrences = ap (λ (p : Partial). p.occurrences) c.self.view_is in
    let at : c.place-place.result ≡ place_of c.args.x os = c.place-place.ensures ∙ sym (ap (place_of c.args.x) same) in
    let stood : stands c.args.x os ≡ true = ap (stands c.args.x) same ∙ sym c.contains.ensures ∙ c.if-contains.true in
    let n : c.self.inside.variables ≡ c.args.self.now.variables = ap (λ (p : Partial). p.variables) c.self.view_is in
    let put = written c.args.x c.args.polarity c.merge-polarity.result os c.deref_mut.result.now c.deref.result.now c.place-place.result (occurs 0 Positive) stood at c.deref_mut.ensures.value c.deref.ensures.0 c.merge-polarity.ensures in
    ap (λ (ws : List Occurrence). record { variables = c.self.inside.variables; occurrences = ws }) put
    ∙ ap (λ (n : ℕ). record { variables = n; occurrences = with_occurrence c.args.x c.args.polarity os }) n
    ∙ ap (λ (ws : List Occurrence). record { variables = c.args.self.now.variables; occurrences = with_occurrence c.args.x c.args.polarity ws }) same

pub returns-else-contains : goal.returns-else-contains
returns-else-contains c =
    let os = c.self.inside.occurrences.items in
    let same : os ≡ c.args.self.now.occurrences = ap (λ (p : Partial). p.occurrences) c.self.view_is in
    let at : c.place-place.result ≡ place_of c.args.x os = c.place-place.ensures ∙ sym (ap (place_of c.args.x) same) in
    let missing : stands c.args.x os ≡ false = ap (stands c.args.x) same ∙ sym c.contains.ensures ∙ c.if-contains.false in
    let n : c.self.inside.variables ≡ c.args.self.now.variables = ap (λ (p : Partial). p.variables) c.self.view_is in
    let put : c.insert.new.self.items ≡ with_occurrence c.args.x c.args.polarity os = c.insert.ensures.items ∙ ap (λ k. insert os k (occurs c.args.x c.args.polarity)) at ∙ sym (new c.args.x c.args.polarity os missing) in
    ap (λ (ws : List Occurrence). record { variables = c.self.inside.variables; occurrences = ws }) put
    ∙ ap (λ (n : ℕ). record { variables = n; occurrences = with_occurrence c.args.x c.args.polarity os }) n
    ∙ ap (λ (ws : List Occurrence). record { variables = c.args.self.now.variables; occurrences = with_occurrence c.args.x c.args.polarity ws }) same
