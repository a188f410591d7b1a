use Rattle.std.proofs.Common.{◌≡◌, ◌+◌, ◌≤◌, ◌∷◌, drop, length, map, subst, arith}
use Rattle.std.specs.Prelude.{string_bytes}
use Rattle.cfn_app.specs.Runs.Merging.{NotAllTaken}
use Rattle.cfn_app.proofs.Merges.{IsMerging, name_here, none_behind, one_taken, next_taken, all_taken, not_first, not_next, not_at_end}
use Rattle.cfn_app.proofs.Pairing.{passed_on}
use Rattle.cfn_app.proofs.commands.merging.take_all.Goals as goal

pub returns-in_err-found-clause-untaken : goal.returns-in_err-found-clause-untaken
returns-in_err-found-clause-untaken g c =
    let names = map (λ name. string_bytes name) c.args.names.now in
    let name = c.as_str.result.now in
    let is : names ≡ name ∷ drop 1 names = name_here (λ name. string_bytes name) c.args.names.now 0 c.index-names-0.result name c.requires.some c.index-names-0.is c.as_str.ensures.value in
    passed_on _ c.in_err-found.field-0.0 (NotAllTaken c.args.network.now names (g.D.Desk.outside c.args.desk.now) _) c.from_residual.ensures.1
    (not_first c.args.network.now names (g.D.Desk.outside c.args.desk.now) c.law_limits.ensures name (drop 1 names) _ _ is c.in_err-found.ensures.untaken)

pub loop-i-init : goal.loop-i-init
loop-i-init g c =
    let names = map (λ name. string_bytes name) c.args.names.now in
    let name = c.as_str.result.now in
    let is : names ≡ name ∷ drop 1 names = name_here (λ name. string_bytes name) c.args.names.now 0 c.index-names-0.result name c.requires.some c.index-names-0.is c.as_str.ensures.value in
    one_taken c.args.network.now names (g.D.Desk.outside c.args.desk.now) c.law_limits.ensures name (drop 1 names) c.in_ok-found.found _ is c.in_ok-found.ensures.taken

pub returns-in_err-found-2-clause-untaken : goal.returns-in_err-found-2-clause-untaken
returns-in_err-found-2-clause-untaken g c =
    let P = c.args.network.now in
    let old = g.D.Desk.outside c.args.desk.now in
    let names = map (λ name. string_bytes name) c.args.names.now in
    let name = c.as_str-in-loop-i.result.now in
    let i = c.loop-i.i in
    let is : drop i names ≡ name ∷ drop (i + 1) names = name_here (λ name. string_bytes name) c.args.names.now i c.index-names-i.result name (omega (arith, c.loop-i-test.true)) c.index-names-i.is c.as_str-in-loop-i.ensures.value in
    let m = subst (λ rest. IsMerging P names old i rest c.loop-i.found (g.D.Desk.outside c.loop-i.desk)) is c.loop-i.invariant in
    passed_on _ c.in_err-found-2.field-0.0 (NotAllTaken P names old _) c.from_residual-in_err-found-2.ensures.1
    (not_next P names old c.law_limits.ensures i (i + 1) name (drop (i + 1) names) c.loop-i.found (g.D.Desk.outside c.loop-i.desk) _ _ m (omega arith) c.in_err-found-2.ensures.untaken)

pub loop-i-preserved : goal.loop-i-preserved
loop-i-preserved g c =
    let P = c.args.network.now in
    let old = g.D.Desk.outside c.args.desk.now in
    let names = map (λ name. string_bytes name) c.args.names.now in
    let name = c.as_str-in-loop-i.result.now in
    let i = c.loop-i.i in
    let is : drop i names ≡ name ∷ drop (i + 1) names = name_here (λ name. string_bytes name) c.args.names.now i c.index-names-i.result name (omega (arith, c.loop-i-test.true)) c.index-names-i.is c.as_str-in-loop-i.ensures.value in
    let m = subst (λ rest. IsMerging P names old i rest c.loop-i.found (g.D.Desk.outside c.loop-i.desk)) is c.loop-i.invariant in
    next_taken P names old c.law_limits.ensures i name (drop (i + 1) names) c.loop-i.found c.in_ok-found-2.found (g.D.Desk.outside c.loop-i.desk) _ m c.in_ok-found-2.ensures.joined

pub returns-in-Ok-clause-taken : goal.returns-in-Ok-clause-taken
returns-in-Ok-clause-taken g c =
    let names = map (λ name. string_bytes name) c.args.names.now in
    let i = c.loop-i.i in
    let past : length c.args.names.now ≤ i = omega (arith, c.loop-i-test.false) in
    all_taken c.args.network.now names (g.D.Desk.outside c.args.desk.now) c.law_limits.ensures i (drop i names) c.loop-i.found (g.D.Desk.outside c.loop-i.desk) _
    (none_behind (λ name. string_bytes name) c.args.names.now i past) c.loop-i.invariant c.in-Ok.ensures

pub returns-in-Err-clause-untaken : goal.returns-in-Err-clause-untaken
returns-in-Err-clause-untaken g c =
    let names = map (λ name. string_bytes name) c.args.names.now in
    let i = c.loop-i.i in
    let past : length c.args.names.now ≤ i = omega (arith, c.loop-i-test.false) in
    not_at_end c.args.network.now names (g.D.Desk.outside c.args.desk.now) c.law_limits.ensures i (drop i names) c.loop-i.found (g.D.Desk.outside c.loop-i.desk) (g.D.Desk.outside c.write_memory_fault.new.desk)
    c.write_memory_fault.result c.ending.result (none_behind (λ name. string_bytes name) c.args.names.now i past) c.loop-i.invariant c.write_memory_fault.ensures c.ending.ensures
