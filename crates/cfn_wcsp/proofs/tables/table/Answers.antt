use Rattle.std.proofs.Common.{rules, ◌≡◌, ◌-◌, true, false, Ok, [], ap, ◌∙◌, arith, refl}
use Rattle.std.proofs.lemmas.Int.{ints, to_z-of_z}
use Rattle.std.proofs.lemmas.Result.{err_from_is_err_and}
use Rattle.std.specs.Prelude.{pos, int_lt, unsigned_abs, slice_index}
use Rattle.cfn_model.specs.Network.{dims, function_at, function_of}
use Rattle.cfn_net.specs.Building.{with_function}
use Rattle.cfn_wcsp.specs.Giving.{Fails, state}
use Rattle.cfn_wcsp.specs.Tables.{count_at, listings_into, table_onto, tables_of}
use Rattle.cfn_wcsp.proofs.Steps.{gives_same}
use Rattle.cfn_wcsp.proofs.SharedTables.{counted, has_own_table, has_shared_table, no_table, shares}
use Rattle.cfn_wcsp.proofs.tables.table.Goals as goal

pub returns-in_err-count : goal.returns-in_err-count
returns-in_err-count c =
    let P = c.args.builder.now in
    let tables = tables_of P c.args.shared.now in
    let variables = c.args.scope.now.variables in
    let p = err_from_is_err_and c.from_residual.result c.from_residual.ensures.1 in
    let failed : Fails c.in_err-count.field-0.0 (count_at P.sizes tables c.args.arity variables (state c.args.words.now)) = search (rules, ints, to_z-of_z) in
    rw (p.1, p.2) (no_table c.in_err-count.field-0.0 P tables c.args.arity variables c.args.default (state c.args.words.now) failed)

pub bounds-shared-number : goal.bounds-shared-number
bounds-shared-number c =
    let P = c.args.builder.now in
    let numbers = c.args.shared.now in
    let variables = c.args.scope.now.variables in
    let count = c.in_ok-count.count in
    let minus : int_lt count (pos 0) ≡ true = search (rules, ints, to_z-of_z) in
    let j : c.unsigned_abs-number.result ≡ unsigned_abs count = search (rules, ints, to_z-of_z) in
    let read : count_at P.sizes (tables_of P numbers) c.args.arity variables (state c.args.words.now) ≡ Ok (count, state c.count.new.words) = search (rules, ints, to_z-of_z) in
    let table = shares P numbers c.args.arity variables count minus (counted P.sizes (tables_of P numbers) c.args.arity variables (state c.args.words.now) count (state c.count.new.words) read).passes in
    rw j table.there

pub offset_bounds-shared-number : goal.offset_bounds-shared-number
offset_bounds-shared-number c =
    let P = c.args.builder.now in
    let numbers = c.args.shared.now in
    let variables = c.args.scope.now.variables in
    let count = c.in_ok-count.count in
    let minus : int_lt count (pos 0) ≡ true = search (rules, ints, to_z-of_z) in
    let j : c.unsigned_abs-number.result ≡ unsigned_abs count = search (rules, ints, to_z-of_z) in
    let read : count_at P.sizes (tables_of P numbers) c.args.arity variables (state c.args.words.now) ≡ Ok (count, state c.count.new.words) = search (rules, ints, to_z-of_z) in
    let table = shares P numbers c.args.arity variables count minus (counted P.sizes (tables_of P numbers) c.args.arity variables (state c.args.words.now) count (state c.count.new.words) read).passes in
    omega (arith, j, table.there)

pub shared-requires-clause-earlier : goal.shared-requires-clause-earlier
shared-requires-clause-earlier c =
    let P = c.args.builder.now in
    let numbers = c.args.shared.now in
    let variables = c.args.scope.now.variables in
    let count = c.in_ok-count.count in
    let minus : int_lt count (pos 0) ≡ true = search (rules, ints, to_z-of_z) in
    let j : c.unsigned_abs-number.result ≡ unsigned_abs count = search (rules, ints, to_z-of_z) in
    let read : count_at P.sizes (tables_of P numbers) c.args.arity variables (state c.args.words.now) ≡ Ok (count, state c.count.new.words) = search (rules, ints, to_z-of_z) in
    let table = shares P numbers c.args.arity variables count minus (counted P.sizes (tables_of P numbers) c.args.arity variables (state c.args.words.now) count (state c.count.new.words) read).passes in
    rw j (c.requires.shared (unsigned_abs count - 1) table.there)

pub shared-requires-clause-dims : goal.shared-requires-clause-dims
shared-requires-clause-dims c =
    let P = c.args.builder.now in
    let numbers = c.args.shared.now in
    let variables = c.args.scope.now.variables in
    let count = c.in_ok-count.count in
    let minus : int_lt count (pos 0) ≡ true = search (rules, ints, to_z-of_z) in
    let j : c.unsigned_abs-number.result ≡ unsigned_abs count = search (rules, ints, to_z-of_z) in
    let read : count_at P.sizes (tables_of P numbers) c.args.arity variables (state c.args.words.now) ≡ Ok (count, state c.count.new.words) = search (rules, ints, to_z-of_z) in
    let table = shares P numbers c.args.arity variables count minus (counted P.sizes (tables_of P numbers) c.args.arity variables (state c.args.words.now) count (state c.count.new.words) read).passes in
    rw (j, c.variables.ensures.value) table.same

pub returns-then-count-lt0 : goal.returns-then-count-lt0
returns-then-count-lt0 c =
    let P = c.args.builder.now in
    let numbers = c.args.shared.now in
    let variables = c.args.scope.now.variables in
    let count = c.in_ok-count.count in
    let minus : int_lt count (pos 0) ≡ true = search (rules, ints, to_z-of_z) in
    let j : c.unsigned_abs-number.result ≡ unsigned_abs count = search (rules, ints, to_z-of_z) in
    let read : count_at P.sizes (tables_of P numbers) c.args.arity variables (state c.args.words.now) ≡ Ok (count, state c.count.new.words) = search (rules, ints, to_z-of_z) in
    let made : c.shared.new.self ≡ with_function P (record (function_at P (slice_index numbers (unsigned_abs count - 1))) { scope = variables }) = c.in_ok-shared.ensures.ok ∙ rw (j, c.variables.ensures.value) refl in
    rw made (has_shared_table P numbers c.args.arity variables c.args.default (state c.args.words.now) count (state c.count.new.words) minus read)

pub returns : goal.returns
returns c =
    let P = c.args.builder.now in
    let numbers = c.args.shared.now in
    let variables = c.args.scope.now.variables in
    let count = c.in_ok-count.count in
    let plus : int_lt count (pos 0) ≡ false = search (rules, ints, to_z-of_z) in
    let read : count_at P.sizes (tables_of P numbers) c.args.arity variables (state c.args.words.now) ≡ Ok (count, state c.count.new.words) = search (rules, ints, to_z-of_z) in
    let begun : c.begin.new.self ≡ with_function P (function_of P.sizes P.upper variables c.args.default []) = c.in_ok-begin.ensures.ok ∙ ap (λ v. with_function P (function_of P.sizes P.upper v c.args.default [])) c.variables-2.ensures.value in
    let same = has_own_table c.law_listing.ensures P (tables_of P numbers) c.args.arity variables c.args.default (state c.args.words.now) count (state c.count.new.words) plus read in
    let number : c.unsigned_abs-number.result ≡ unsigned_abs count = search (rules, ints, to_z-of_z) in
    let all : listings_into c.begin.new.self (dims c.args.scope.now.sizes variables) c.unsigned_abs-number.result (state c.count.new.words) ≡ table_onto P (tables_of P numbers) c.args.arity variables c.args.default (state c.args.words.now) =
    rw (begun, number, c.requires.sizes) same in
    gives_same (λ _. (c.listings.new.builder, state c.listings.new.words)) c.listings.result all c.listings.ensures
