use Rattle.std.proofs.Common.{rules, ◌≡◌, ◌+◌, ◌-◌, [], length, true, false, Ok, ap, ◌∙◌, arith}
use Rattle.std.proofs.lemmas.Int.{ints, to_z-of_z}
use Rattle.std.proofs.lemmas.Result.{err_from_is_err_and}
use Rattle.std.specs.Prelude.{pos, int_lt, unsigned_abs}
use Rattle.cfn_model.specs.Network.{cells, dims}
use Rattle.cfn_model.specs.Reading.{number_at, scope_from}
use Rattle.cfn_net.specs.Building.{all_cells}
use Rattle.cfn_wcsp.specs.Giving.{Fails, state}
use Rattle.cfn_wcsp.specs.Tables.{table_onto, tables_of}
use Rattle.cfn_wcsp.proofs.SharedTables.{function_read, no_default, no_function_table, tables_grown, tables_kept}
use Rattle.cfn_wcsp.proofs.tables.function.Goals as goal

pub returns-in_err-default-clause-gives : goal.returns-in_err-default-clause-gives
returns-in_err-default-clause-gives c =
    let P = c.args.builder.now in
    let T = tables_of P c.args.shared.now.items in
    let s = state c.args.words.now in
    let s1 = state c.integer.new.words in
    let s2 = state c.variables.new.words in
    let s3 = state c.natural.new.words in
    let arity = c.in_ok-arity.field-0.0 in
    let variables = c.variables.new.scope.variables in
    let number : number_at s ≡ Ok (arity, s1) = search (rules, ints, to_z-of_z) in
    let r : c.unsigned_abs.result ≡ unsigned_abs arity = search (rules, ints, to_z-of_z) in
    let scope = rw c.clear.ensures at c.in_ok-variables.ensures.gives in
    let scope = rw c.requires.sizes at scope in
    let scope : scope_from P.sizes [] (unsigned_abs arity) s1 ≡ Ok (variables, s2) = rw r at scope in
    let sizes : c.variables.new.scope.sizes ≡ P.sizes = c.in_ok-variables.ensures.sizes ∙ ap (λ s. s.sizes) c.clear.ensures ∙ c.requires.sizes in
    let all : c.cells_so_far.result + c.from.result ≡ all_cells P + cells (dims P.sizes variables) = omega (arith, c.cells_so_far.ensures, c.from.ensures, c.cells.ensures, ap (λ s. cells (dims s variables)) sizes) in
    let p = err_from_is_err_and c.from_residual-in_err-default.result c.from_residual-in_err-default.ensures.1 in
    rw (p.1, p.2) (no_default c.in_err-default.field-0.0 P T s s1 s2 arity variables (c.cells_so_far.result + c.from.result) number scope all c.in_err-default.ensures.gives)

pub returns-in_err-table-clause-gives : goal.returns-in_err-table-clause-gives
returns-in_err-table-clause-gives c =
    let P = c.args.builder.now in
    let T = tables_of P c.args.shared.now.items in
    let s = state c.args.words.now in
    let s1 = state c.integer.new.words in
    let s2 = state c.variables.new.words in
    let s3 = state c.natural.new.words in
    let arity = c.in_ok-arity.field-0.0 in
    let variables = c.variables.new.scope.variables in
    let number : number_at s ≡ Ok (arity, s1) = search (rules, ints, to_z-of_z) in
    let r : c.unsigned_abs.result ≡ unsigned_abs arity = search (rules, ints, to_z-of_z) in
    let scope = rw c.clear.ensures at c.in_ok-variables.ensures.gives in
    let scope = rw c.requires.sizes at scope in
    let scope : scope_from P.sizes [] (unsigned_abs arity) s1 ≡ Ok (variables, s2) = rw r at scope in
    let sizes : c.variables.new.scope.sizes ≡ P.sizes = c.in_ok-variables.ensures.sizes ∙ ap (λ s. s.sizes) c.clear.ensures ∙ c.requires.sizes in
    let all : c.cells_so_far.result + c.from.result ≡ all_cells P + cells (dims P.sizes variables) = omega (arith, c.cells_so_far.ensures, c.from.ensures, c.cells.ensures, ap (λ s. cells (dims s variables)) sizes) in
    let p = err_from_is_err_and c.from_residual-in_err-table.result c.from_residual-in_err-table.ensures.1 in
    let failed : Fails c.in_err-table.field-0.0 (table_onto P T arity variables c.in_ok-default.default s3) = search (rules, ints, to_z-of_z) in
    rw (p.1, p.2) (no_function_table c.in_err-table.field-0.0 P T s s1 s2 s3 arity variables (c.cells_so_far.result + c.from.result) c.in_ok-default.default number scope all c.in_ok-default.ensures.gives failed)

pub returns-in_ok-push-clause-gives : goal.returns-in_ok-push-clause-gives
returns-in_ok-push-clause-gives c =
    let P = c.args.builder.now in
    let T = tables_of P c.args.shared.now.items in
    let s = state c.args.words.now in
    let s1 = state c.integer.new.words in
    let s2 = state c.variables.new.words in
    let s3 = state c.natural.new.words in
    let arity = c.in_ok-arity.field-0.0 in
    let variables = c.variables.new.scope.variables in
    let number : number_at s ≡ Ok (arity, s1) = search (rules, ints, to_z-of_z) in
    let r : c.unsigned_abs.result ≡ unsigned_abs arity = search (rules, ints, to_z-of_z) in
    let scope = rw c.clear.ensures at c.in_ok-variables.ensures.gives in
    let scope = rw c.requires.sizes at scope in
    let scope : scope_from P.sizes [] (unsigned_abs arity) s1 ≡ Ok (variables, s2) = rw r at scope in
    let sizes : c.variables.new.scope.sizes ≡ P.sizes = c.in_ok-variables.ensures.sizes ∙ ap (λ s. s.sizes) c.clear.ensures ∙ c.requires.sizes in
    let all : c.cells_so_far.result + c.from.result ≡ all_cells P + cells (dims P.sizes variables) = omega (arith, c.cells_so_far.ensures, c.from.ensures, c.cells.ensures, ap (λ s. cells (dims s variables)) sizes) in
    let Q = c.table.new.builder in
    let after = state c.table.new.words in
    let table : table_onto P T arity variables c.in_ok-default.default s3 ≡ Ok (Q, after) = search (rules, ints, to_z-of_z) in
    let read = function_read P T s s1 s2 s3 arity variables (c.cells_so_far.result + c.from.result) c.in_ok-default.default Q after number scope all c.in_ok-default.ensures.gives table in
    let minus : int_lt arity (pos 0) ≡ true = search (rules, ints, to_z-of_z) in
    let last : c.functions.result - 1 + 1 ≡ length Q.functions = omega (arith, c.functions.ensures, read.long) in
    tables_grown P c.args.shared.now.items arity s Q after c.push.new.self.items (c.functions.result - 1) c.requires.shared read minus c.in_ok-push.ensures.items last

pub returns-else-arity-lt0-clause-gives : goal.returns-else-arity-lt0-clause-gives
returns-else-arity-lt0-clause-gives c =
    let P = c.args.builder.now in
    let T = tables_of P c.args.shared.now.items in
    let s = state c.args.words.now in
    let s1 = state c.integer.new.words in
    let s2 = state c.variables.new.words in
    let s3 = state c.natural.new.words in
    let arity = c.in_ok-arity.field-0.0 in
    let variables = c.variables.new.scope.variables in
    let number : number_at s ≡ Ok (arity, s1) = search (rules, ints, to_z-of_z) in
    let r : c.unsigned_abs.result ≡ unsigned_abs arity = search (rules, ints, to_z-of_z) in
    let scope = rw c.clear.ensures at c.in_ok-variables.ensures.gives in
    let scope = rw c.requires.sizes at scope in
    let scope : scope_from P.sizes [] (unsigned_abs arity) s1 ≡ Ok (variables, s2) = rw r at scope in
    let sizes : c.variables.new.scope.sizes ≡ P.sizes = c.in_ok-variables.ensures.sizes ∙ ap (λ s. s.sizes) c.clear.ensures ∙ c.requires.sizes in
    let all : c.cells_so_far.result + c.from.result ≡ all_cells P + cells (dims P.sizes variables) = omega (arith, c.cells_so_far.ensures, c.from.ensures, c.cells.ensures, ap (λ s. cells (dims s variables)) sizes) in
    let Q = c.table.new.builder in
    let after = state c.table.new.words in
    let table : table_onto P T arity variables c.in_ok-default.default s3 ≡ Ok (Q, after) = search (rules, ints, to_z-of_z) in
    let read = function_read P T s s1 s2 s3 arity variables (c.cells_so_far.result + c.from.result) c.in_ok-default.default Q after number scope all c.in_ok-default.ensures.gives table in
    let plus : int_lt arity (pos 0) ≡ false = search (rules, ints, to_z-of_z) in
    tables_kept P c.args.shared.now.items arity s Q after c.requires.shared read plus
