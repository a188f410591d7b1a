use Rattle.std.proofs.Common.{rules, arith, ◌≡◌, ◌<◌, Bor, List, ℕ, [], length}
use Rattle.cfn_cli.proofs.Values.{reads_more, reads_none, values_none, values_read, values_refused}
use Rattle.cfn_cli.proofs.commands.cost.values_in.Goals as goal

-- What `texts` has past its end.
abbrev nothing : Bor (List ℕ)
nothing = record { ref_ptr = (0, 0); now = [] }

pub loop-text-init : goal.loop-text-init
loop-text-init c = rw c.in_ok-values.ensures.items reads_none

pub loop-text-preserved : goal.loop-text-preserved
loop-text-preserved c =
    rw c.in_ok-push.ensures.items
    (reads_more c.args.texts.now c.loop-text.text-index nothing _ _ (omega arith) c.loop-text.invariant c.in-Some.ensures.number
    (omega (arith, c.in-Some.ensures.within.1)))

pub returns-then-is_empty-clause-usage : goal.returns-then-is_empty-clause-usage
returns-then-is_empty-clause-usage c =
    let none : length c.args.texts.now ≡ 0 = search rules in
    λ _. values_none c.args.texts.now none

pub returns-in_default-clause-usage : goal.returns-in_default-clause-usage
returns-in_default-clause-usage c =
    λ _. values_refused c.args.texts.now c.loop-text.text-index nothing (omega arith) c.in_default.ensures.number

pub returns-clause-values : goal.returns-clause-values
returns-clause-values c =
    let some : 0 < length c.args.texts.now = search rules in
    values_read c.args.texts.now c.loop-text.text-index _ some (omega arith) c.loop-text.invariant
