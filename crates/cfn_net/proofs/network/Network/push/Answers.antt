use Rattle.std.proofs.Common.{◌++◌, ◌∷◌, [], List, refl, ap, ◌∙◌, arith}
use Rattle.cfn_model.specs.Network.{Function, Network}
use Rattle.cfn_net.specs.declared.kept.Kept.{Kept}
use Rattle.cfn_net.specs.declared.table.Table.{Table}
use Rattle.cfn_net.specs.Building.{function, with_function}
use Rattle.cfn_net.proofs.Keeping.{IsKept-push, pushed_functions}
use Rattle.cfn_net.proofs.network.Network.push.Goals as goal

pub invariant_of-self-2 : goal.invariant_of-self-2
invariant_of-self-2 c =
    let inside = c.self.inside in
    let k : Kept = record { scope = c.in_ok-scope.scope; default = c.args.default; table = c.len-number.result } in
    IsKept-push inside.name.items inside.sizes.items inside.upper inside.tables.items c.push_reserved.new.self.items inside.functions.items c.push_reserved-2.new.self.items c.in_ok-table.table k c.args.scope.now c.args.entries.now.items c.args.default c.args.self.now c.self.invariant c.self.view_is (c.push_reserved.ensures.items ∙ ap (λ (ts : List Table). ts ++ c.in_ok-table.table ∷ []) c.reserve-2.ensures.items) (c.push_reserved-2.ensures.items ∙ ap (λ (ks : List Kept). ks ++ k ∷ []) c.reserve.ensures.items) c.in_ok-scope.ensures.ok refl (omega (arith, c.len-number.ensures, c.reserve-2.ensures.len)) c.in_ok-table.ensures.ok c.requires.room c.requires.function

pub returns-clause-ok : goal.returns-clause-ok
returns-clause-ok c =
    let inside = c.self.inside in
    let k : Kept = record { scope = c.in_ok-scope.scope; default = c.args.default; table = c.len-number.result } in
    let with_functions : List Function → Network = λ fs. record { name = inside.name.items; sizes = inside.sizes.items; upper = inside.upper; functions = fs } in
    ap with_functions (pushed_functions inside.tables.items c.push_reserved.new.self.items inside.functions.items c.push_reserved-2.new.self.items c.in_ok-table.table k c.args.scope.now c.args.entries.now.items c.args.default c.self.invariant.0 (c.push_reserved.ensures.items ∙ ap (λ (ts : List Table). ts ++ c.in_ok-table.table ∷ []) c.reserve-2.ensures.items) (c.push_reserved-2.ensures.items ∙ ap (λ (ks : List Kept). ks ++ k ∷ []) c.reserve.ensures.items) c.in_ok-scope.ensures.ok refl (omega (arith, c.len-number.ensures, c.reserve-2.ensures.len)) c.in_ok-table.ensures.ok) ∙ ap (λ (R : Network). with_function R (function c.args.scope.now c.args.default c.args.entries.now.items)) c.self.view_is
