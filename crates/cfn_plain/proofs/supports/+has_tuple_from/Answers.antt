use Rattle.std.proofs.Common.{ℕ, List, length, get_or, inl, inr, ap, sym, subst, ◌∙◌, arith}
use Rattle.std.proofs.lemmas.Bool.{cases_eq, false≢true}
use Rattle.std.proofs.lemmas.List.{take-set}
use Rattle.cfn_model.specs.Network.{dims_at, scope_at}
use Rattle.cfn_net.proofs.CallerLemmas.{Fits-length, Fits-at, get_or-dims, length-dims}
use Rattle.cfn_plain.specs.Supports.{IsSought}
use Rattle.cfn_plain.proofs.Assignments.{Fits-set, agree_less, agree_more, agree_all}
use Rattle.cfn_plain.proofs.supports.+has_tuple_from.Goals as goal

pub returns-then-place-variables-clause-yes : goal.returns-then-place-variables-clause-yes
returns-then-place-variables-clause-yes t c = λ yes. record { tuple = c.args.tuple.now; fits = c.requires.fits; is = c.is_sought.ensures.0 yes }

pub returns-then-place-variables-clause-no : goal.returns-then-place-variables-clause-no
returns-then-place-variables-clause-no t c = λ no other fits same its.
    (let P = c.args.network.now in
    let f = c.args.sought.function in
    let variables = ap length c.scope-variables.ensures in
    let is = agree_all (dims_at P f) c.args.tuple.now other c.args.place (omega (arith, length-dims P.sizes (scope_at P f))) c.requires.fits fits same in
    let yes = c.is_sought.ensures.1 (subst (IsSought P c.args.history.now c.args.sought) is its) in
    false≢true (sym no ∙ yes))

pub bounds-tuple-place : goal.bounds-tuple-place
bounds-tuple-place t c =
    let P = c.args.network.now in
    let f = c.args.sought.function in
    let variables = ap length c.scope-variables.ensures in
    omega (arith, length-dims P.sizes (scope_at P f), Fits-length (dims_at P f) c.loop-value.tuple c.loop-value.invariant.fits)

pub has_tuple_from-requires : goal.has_tuple_from-requires
has_tuple_from-requires t c =
    let P = c.args.network.now in
    let f = c.args.sought.function in
    let is = c.scope-variables.ensures in
    let variables = ap length is in
    let size = get_or-dims P.sizes (scope_at P f) c.args.place (omega arith) in
    let read = ap (λ (xs : List ℕ). get_or P.sizes (get_or xs c.args.place 0) 0) is in
    (omega arith, (omega arith, Fits-set (dims_at P f) c.loop-value.tuple c.args.place c.loop-value.value c.loop-value.invariant.fits (omega arith)))

pub loop-value-preserved : goal.loop-value-preserved
loop-value-preserved t c =
    let P = c.args.network.now in
    let f = c.args.sought.function in
    let x = c.args.place in
    let known = c.loop-value.invariant in
    let found = c.has_tuple_from.ensures in
    let variables = ap length c.scope-variables.ensures in
    record {
      fits = found.fits;
      before = agree_less _ _ x found.before ∙ take-set c.loop-value.tuple x c.loop-value.value ∙ known.before;
      none = λ other fits same small. elim (cases_eq (get_or other x 0) c.loop-value.value) [
        | inl at ↦ found.no c.if-has_tuple_from.false other fits (agree_more (dims_at P f) c.loop-value.tuple c.args.tuple.now other x c.loop-value.value (omega (arith, length-dims P.sizes (scope_at P f))) known.fits fits known.before same at)
        | inr differs ↦ known.none other fits same (omega arith)
      ];
    }

pub returns-clause-no : goal.returns-clause-no
returns-clause-no t c = λ no other fits same.
    (let P = c.args.network.now in
    let f = c.args.sought.function in
    let is = c.scope-variables.ensures in
    let variables = ap length is in
    let size = get_or-dims P.sizes (scope_at P f) c.args.place (omega arith) in
    let read = ap (λ (xs : List ℕ). get_or P.sizes (get_or xs c.args.place 0) 0) is in
    c.loop-value.invariant.none other fits same (omega (arith, Fits-at (dims_at P f) other c.args.place fits (omega (arith, length-dims P.sizes (scope_at P f))))))

pub returns-then-has_tuple_from-clause-before : goal.returns-then-has_tuple_from-clause-before
returns-then-has_tuple_from-clause-before t c = agree_less _ _ c.args.place c.has_tuple_from.ensures.before ∙ take-set c.loop-value.tuple c.args.place c.loop-value.value ∙ c.loop-value.invariant.before
