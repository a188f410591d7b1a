use Rattle.std.proofs.Common.{◌≡◌, ◌<◌, ◌≤◌, length, get_or, ap, ◌∙◌, sym, arith}
use Rattle.std.specs.Prelude.{◌==◌}
use Rattle.std.proofs.lemmas.Bool.{le-ltb}
use Rattle.cfn_wcnf.specs.declared.clause.Occurrence.{Occurrence}
use Rattle.cfn_wcnf.specs.Partial.{place_of, stands}
use Rattle.cfn_wcnf.proofs.Occurrences.{stands_at, stands_past}
use Rattle.cfn_wcnf.proofs.clause.Clause.contains.Goals as goal

pub returns-then-place-len : goal.returns-then-place-len
returns-then-place-len c =
    let x = c.args.x in
    let os = c.self.inside.occurrences.items in
    let same : os ≡ c.args.self.now.occurrences = ap (λ p. p.occurrences) c.self.view_is in
    let place : c.place-place.result ≡ place_of x os = c.place-place.ensures ∙ sym (ap (place_of x) same) in
    let lt : place_of x os < length os = omega (arith, place, c.len.ensures.value, c.if-place-len.true) in
    ap (λ ws. (get_or {A = Occurrence} ws c.place-place.result _).variable == x) c.deref.ensures.0 ∙ ap (λ n. (get_or {A = Occurrence} os n _).variable == x) place ∙ stands_at x os _ lt ∙ ap (stands x) same

pub returns-else-place-len : goal.returns-else-place-len
returns-else-place-len c =
    let x = c.args.x in
    let os = c.self.inside.occurrences.items in
    let same : os ≡ c.args.self.now.occurrences = ap (λ p. p.occurrences) c.self.view_is in
    let place : c.place-place.result ≡ place_of x os = c.place-place.ensures ∙ sym (ap (place_of x) same) in
    let le : length os ≤ place_of x os = omega (arith, place, c.len.ensures.value, c.if-place-len.false) in
    le-ltb c.place-place.result c.len.result c.if-place-len.false ∙ sym (stands_past x os le) ∙ ap (stands x) same
