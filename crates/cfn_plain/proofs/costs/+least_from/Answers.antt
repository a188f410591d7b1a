use Rattle.std.proofs.Common.{get_or, inl, inr, ap, sym, ◌∙◌, arith}
use Rattle.std.proofs.lemmas.Bool.{cases_eq}
use Rattle.std.proofs.lemmas.List.{take-set}
use Rattle.cfn_model.specs.Network.{cost}
use Rattle.cfn_net.proofs.CallerLemmas.{Fits-length, Fits-at}
use Rattle.cfn_plain.proofs.Assignments.{Fits-set, agree_less, agree_more, agree_all}
use Rattle.cfn_plain.proofs.costs.+least_from.Goals as goal

pub returns-then-x-variables-clause-bound : goal.returns-then-x-variables-clause-bound
returns-then-x-variables-clause-bound t c = λ other fits same.
    let is = agree_all c.args.network.now.sizes c.args.values.now other c.args.x (omega arith) c.requires.fits fits same in
    omega (arith, ap (cost c.args.network.now) is)

pub bounds-values-x : goal.bounds-values-x
bounds-values-x t c = omega (arith, Fits-length c.args.network.now.sizes c.loop-value.values c.loop-value.invariant.fits)

pub least_from-least-requires : goal.least_from-least-requires
least_from-least-requires t c =
    (omega arith, (omega arith, Fits-set c.args.network.now.sizes c.loop-value.values c.args.x c.loop-value.value c.loop-value.invariant.fits (omega arith)))

pub loop-value-preserved : goal.loop-value-preserved
loop-value-preserved t c =
    let sizes = c.args.network.now.sizes in
    let x = c.args.x in
    let values = c.loop-value.values in
    let known = c.loop-value.invariant in
    let found = c.least_from-least.ensures in
    record {
      fits = found.fits;
      before = agree_less _ _ x found.before ∙ take-set values x c.loop-value.value ∙ known.before;
      below = omega arith;
      bound = λ other fits same small. elim (cases_eq (get_or other x 0) c.loop-value.value) [
        | inl at ↦ found.bound other fits (agree_more sizes values c.args.values.now other x c.loop-value.value (omega arith) known.fits fits known.before same at)
        | inr differs ↦ omega (arith, known.bound other fits same (omega arith))
      ];
      reached = elim found.reached [
        | inl same ↦ elim known.reached [
          | inl start ↦ inl (same ∙ start)
          | inr reached ↦ inr (reached.0, reached.1, reached.2 ∙ sym same)
        ]
        | inr reached ↦ inr reached
      ];
    }

pub returns-clause-bound : goal.returns-clause-bound
returns-clause-bound t c = λ other fits same.
    c.loop-value.invariant.bound other fits same (omega (arith, Fits-at c.args.network.now.sizes other c.args.x fits (omega arith)))
