use Rattle.std.proofs.Common.{ℕ, List, length, get_or, inl, inr, refl, ap, sym, subst, ◌∙◌, arith}
use Rattle.std.proofs.lemmas.Bool.{cases_eq, false≢true}
use Rattle.std.proofs.lemmas.List.{take-set}
use Rattle.cfn_model.specs.Network.{dims_at, scope_at}
use Rattle.cfn_net.proofs.CallerLemmas.{Fits-length, Fits-at, get_or-dims, length-dims}
use Rattle.cfn_plain.specs.Tuples.{function_in, TupleAllows}
use Rattle.cfn_plain.proofs.Assignments.{Fits-set, agree_less, agree_more, agree_all}
use Rattle.cfn_plain.proofs.tuples.+tuples_allow.Goals as goal

pub returns-then-place-variables-clause-answer : goal.returns-then-place-variables-clause-answer
returns-then-place-variables-clause-answer t c =
    let P = c.args.network.now in
    let f = function_in c.args.step in
    let dims = dims_at P f in
    let variables = ap length (c.scope-variables.ensures ∙ ap (scope_at P) c.function_in.ensures) in (
      λ yes other fits same.
          let is = agree_all dims c.args.tuple.now other c.args.place (omega (arith, length-dims P.sizes (scope_at P f))) c.requires.fits fits same in
          subst (λ x. TupleAllows P c.args.history.now c.args.k c.args.step x) (sym is) (c.tuple_allows.ensures.0 yes),
      λ all. c.tuple_allows.ensures.1 (all c.args.tuple.now c.requires.fits refl),
    )

pub bounds-tuple-place : goal.bounds-tuple-place
bounds-tuple-place t c =
    let P = c.args.network.now in
    let f = function_in c.args.step in
    let variables = ap length (c.scope-variables.ensures ∙ ap (scope_at P) c.function_in.ensures) in
    omega (arith, length-dims P.sizes (scope_at P f), Fits-length (dims_at P f) c.loop-value.tuple c.loop-value.invariant.fits)

pub tuples_allow-requires : goal.tuples_allow-requires
tuples_allow-requires t c =
    let P = c.args.network.now in
    let f = function_in c.args.step in
    let is = c.scope-variables.ensures ∙ ap (scope_at P) c.function_in.ensures in
    let variables = ap length is in
    let size = get_or-dims P.sizes (scope_at P f) c.args.place (omega arith) in
    let read = ap (λ (xs : List ℕ). get_or P.sizes (get_or xs c.args.place 0) 0) is in
    (omega arith, (c.requires.function, (omega arith, Fits-set (dims_at P f) c.loop-value.tuple c.args.place c.loop-value.value c.loop-value.invariant.fits (omega arith))))

pub returns-then-not-tuples_allow-clause-answer : goal.returns-then-not-tuples_allow-clause-answer
returns-then-not-tuples_allow-clause-answer t c =
    let x = c.args.place in (
      λ no. absurd (false≢true no),
      λ all. sym c.if-not-tuples_allow.true ∙ c.tuples_allow.ensures.answer.1 (λ other fits same.
          all other fits (agree_less other _ x same ∙ take-set c.loop-value.tuple x c.loop-value.value ∙ c.loop-value.invariant.before)),
    )

pub loop-value-preserved : goal.loop-value-preserved
loop-value-preserved t c =
    let P = c.args.network.now in
    let f = function_in c.args.step in
    let x = c.args.place in
    let known = c.loop-value.invariant in
    let found = c.tuples_allow.ensures in
    let variables = ap length (c.scope-variables.ensures ∙ ap (scope_at P) c.function_in.ensures) in
    record {
      fits = found.fits;
      before = agree_less _ _ x found.before ∙ take-set c.loop-value.tuple x c.loop-value.value ∙ known.before;
      allow = λ other fits same small. elim (cases_eq (get_or other x 0) c.loop-value.value) [
        | inl at ↦ found.answer.0 c.if-not-tuples_allow.false other fits (agree_more (dims_at P f) c.loop-value.tuple c.args.tuple.now other x c.loop-value.value (omega (arith, length-dims P.sizes (scope_at P f))) known.fits fits known.before same at)
        | inr differs ↦ known.allow other fits same (omega arith)
      ];
    }

pub returns-clause-answer : goal.returns-clause-answer
returns-clause-answer t c =
    let P = c.args.network.now in
    let f = function_in c.args.step in
    let is = c.scope-variables.ensures ∙ ap (scope_at P) c.function_in.ensures in
    let variables = ap length is in
    let size = get_or-dims P.sizes (scope_at P f) c.args.place (omega arith) in
    let read = ap (λ (xs : List ℕ). get_or P.sizes (get_or xs c.args.place 0) 0) is in (
      λ yes other fits same. c.loop-value.invariant.allow other fits same (omega (arith, Fits-at (dims_at P f) other c.args.place fits (omega (arith, length-dims P.sizes (scope_at P f))))),
      λ all. refl,
    )
