use Rattle.std.proofs.Common.{rules, ◌≡◌, ◌-◌, ◌≤◌, true, false, length, ap, ◌∙◌, sym, arith}
use Rattle.std.specs.Prelude.{unsigned_abs}
use Rattle.std.proofs.lemmas.Int.{ints, to_z-of_z}
use Rattle.std.proofs.lemmas.Bool.{eqb-true, eqb-false}
use Rattle.cfn_wcnf.specs.declared.clause.TheConstants.{MOST_CLAUSE_VARIABLES}
use Rattle.cfn_wcnf.specs.Clauses.{variable_of}
use Rattle.cfn_wcnf.specs.Partial.{stands}
use Rattle.cfn_wcnf.proofs.Checks.{wide, known, room}
use Rattle.cfn_wcnf.proofs.clause.Clause.check_literal.Goals as goal
use Rattle.cfn_wcnf.proofs.clause.Clause.check_literal.Goals.{else-is_full-via-then-is_full+else-not-contains, else-is_full-via-else-is_full}

pub returns-then-not-contains : goal.returns-then-not-contains
returns-then-not-contains c =
    let z = c.args.number in
    let magnitude : c.magnitude-magnitude.result ≡ unsigned_abs z = search (rules, ints, to_z-of_z) in
    let n : c.self.inside.variables ≡ c.args.self.now.variables = ap (λ p. p.variables) c.self.view_is in
    let os : c.self.inside.occurrences.items ≡ c.args.self.now.occurrences = ap (λ p. p.occurrences) c.self.view_is in
    let le : unsigned_abs z ≤ c.args.self.now.variables = omega arith in
    let full : length c.self.inside.occurrences.items ≡ MOST_CLAUSE_VARIABLES = eqb-true _ _ (sym c.is_full.ensures.value ∙ c.if-is_full.true) in
    let there : stands (variable_of z) c.args.self.now.occurrences ≡ false = ap (λ n. stands (n - 1) c.args.self.now.occurrences) (sym magnitude) ∙ sym c.contains.ensures ∙ c.if-not-contains.true in
    wide c.args.self.now.variables c.args.self.now.occurrences z le (omega (arith, ap length os)) there

pub returns : goal.returns
returns c =
    let z = c.args.number in
    let magnitude : c.magnitude-magnitude.result ≡ unsigned_abs z = search (rules, ints, to_z-of_z) in
    let n : c.self.inside.variables ≡ c.args.self.now.variables = ap (λ p. p.variables) c.self.view_is in
    let os : c.self.inside.occurrences.items ≡ c.args.self.now.occurrences = ap (λ p. p.occurrences) c.self.view_is in
    let le : unsigned_abs z ≤ c.args.self.now.variables = omega arith in
    let few : length c.args.self.now.occurrences ≤ MOST_CLAUSE_VARIABLES = omega (arith, c.self.invariant.few, ap length os) in
    elim c.else-is_full.branch [
      | else-is_full-via-then-is_full+else-not-contains w ↦
          let there : stands (variable_of z) c.args.self.now.occurrences ≡ true = ap (λ n. stands (n - 1) c.args.self.now.occurrences) (sym magnitude) ∙ sym w.contains.ensures ∙ w.if-not-contains.false in
          known c.args.self.now.variables c.args.self.now.occurrences z le few there
      | else-is_full-via-else-is_full w ↦
          let other = eqb-false _ _ (sym c.is_full.ensures.value ∙ w.if-is_full.false) in
          room c.args.self.now.variables c.args.self.now.occurrences z le (omega (arith, other, c.self.invariant.few, ap length os))
    ]
