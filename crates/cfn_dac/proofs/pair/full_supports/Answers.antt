use Rattle.std.specs.Prelude.{slice_index}
use Rattle.cfn_gain.proofs.CallerLemmas.{does_then}
use Rattle.cfn_dac.specs.Full.{first_of, second_of}
use Rattle.cfn_dac.proofs.Places.{first_within_of}
use Rattle.cfn_dac.proofs.Grouped.{nothing_through, filled_through, filled_lacks, held_filled, moved_shifts, moved_through, moved_closed, moved_full, moved_lacks, on_err}
use Rattle.cfn_dac.proofs.pair.full_supports.Goals as goal

pub returns-clause-does : goal.returns-clause-does
returns-clause-does c = does_then c.args.store.now c.spread.new.store c.collect.new.store c.args.limits c.collect.result c.in_ok-spread.ensures.does c.collect.ensures.does

pub returns-then-not-plan-clause-through : goal.returns-then-not-plan-clause-through
returns-then-not-plan-clause-through c = nothing_through c.args.store.now c.args.pair

pub returns-in_err-spread-clause-through : goal.returns-in_err-spread-clause-through
returns-in_err-spread-clause-through c =
    let s = c.args.store.now in
    filled_through s c.spread.new.store c.args.limits.threshold c.args.pair c.plan.new.moves (slice_index s.network.sizes (second_of s.network c.args.pair)) c.in_err-spread.ensures.fills

pub returns-in_err-spread-clause-lacks : goal.returns-in_err-spread-clause-lacks
returns-in_err-spread-clause-lacks c =
    let s = c.args.store.now in let plan = c.plan.ensures in
    on_err c.from_residual.result c.in_err-spread.field-0.0 c.from_residual.ensures.1
    (filled_lacks s c.spread.new.store c.args.limits.threshold c.args.alpha c.args.pair c.plan.new.moves 0 (slice_index s.network.sizes (second_of s.network c.args.pair)) c.in_err-spread.ensures.fills plan.held plan.within (plan.some c.if-not-plan.false))

pub collect-requires-clause-held : goal.collect-requires-clause-held
collect-requires-clause-held c =
    let s = c.args.store.now in let spread = c.in_ok-spread.ensures in
    held_filled s c.spread.new.store c.args.limits.threshold c.args.pair c.plan.new.moves 0 (slice_index s.network.sizes (second_of s.network c.args.pair)) spread.does.adds.network spread.fills c.plan.ensures.held

pub returns-clause-shifts : goal.returns-clause-shifts
returns-clause-shifts c =
    let s = c.args.store.now in let t = c.spread.new.store in let pair = c.args.pair in let spread = c.in_ok-spread.ensures in
    moved_shifts s t c.collect.new.store c.args.limits.threshold pair c.plan.new.moves (slice_index s.network.sizes (second_of s.network pair)) (slice_index t.network.sizes (first_of t.network pair)) c.collect.result spread.does.adds.network spread.fills c.collect.ensures.gathers c.collect.ensures.stalls

pub returns-clause-through : goal.returns-clause-through
returns-clause-through c =
    let s = c.args.store.now in let t = c.spread.new.store in let pair = c.args.pair in let spread = c.in_ok-spread.ensures in
    moved_through s t c.collect.new.store c.args.limits.threshold pair c.plan.new.moves (slice_index s.network.sizes (second_of s.network pair)) (slice_index t.network.sizes (first_of t.network pair)) c.collect.result spread.does.adds.network spread.fills c.collect.ensures.gathers c.collect.ensures.stalls

pub returns-clause-closed : goal.returns-clause-closed
returns-clause-closed c =
    let s = c.args.store.now in let t = c.spread.new.store in let pair = c.args.pair in let spread = c.in_ok-spread.ensures in let plan = c.plan.ensures in
    moved_closed s t c.collect.new.store c.args.limits.threshold c.args.alpha pair c.plan.new.moves (slice_index s.network.sizes (second_of s.network pair)) (slice_index t.network.sizes (first_of t.network pair)) c.collect.result spread.does.adds.network c.requires.alpha plan.held plan.reached spread.fills c.collect.ensures.gathers c.collect.ensures.grows

pub returns-clause-supported : goal.returns-clause-supported
returns-clause-supported c =
    let s = c.args.store.now in let t = c.spread.new.store in let pair = c.args.pair in let spread = c.in_ok-spread.ensures in let plan = c.plan.ensures in
    moved_full s t c.collect.new.store c.args.limits.threshold c.args.alpha pair c.plan.new.moves (slice_index s.network.sizes (second_of s.network pair)) (slice_index t.network.sizes (first_of t.network pair)) c.collect.result spread.does.adds.network
    (first_within_of s t pair spread.does.adds.network) c.requires.alpha plan.reached spread.fills c.collect.ensures.gathers

pub returns-clause-lacks : goal.returns-clause-lacks
returns-clause-lacks c = moved_lacks c.args.store.now c.spread.new.store c.collect.new.store c.args.limits.threshold c.args.pair c.plan.new.moves c.collect.result c.in_ok-spread.ensures.does.adds.network c.collect.ensures.stalls
