use Rattle.std.proofs.Common.{rules, ◌≡◌, ap, arith}
use Rattle.std.specs.Prelude.{unsigned_abs}
use Rattle.std.proofs.lemmas.Int.{ints, to_z-of_z}
use Rattle.cfn_wcnf.specs.Partial.{Partial}
use Rattle.cfn_wcnf.proofs.Checks.{passes}
use Rattle.cfn_wcnf.proofs.clause.Clause.add.Goals as goal

pub overflow_cast-x : goal.overflow_cast-x
overflow_cast-x c =
    let magnitude : c.magnitude.result ≡ unsigned_abs c.args.number = search (rules, ints, to_z-of_z) in
    let p = passes c.args.self.now.variables c.args.self.now.occurrences c.args.number c.requires.passed in let n : c.self.inside.variables ≡ c.args.self.now.variables = ap (λ (p : Partial). p.variables) c.self.view_is in let r = c.self.ranges.0.1 in omega (arith, p.range)
