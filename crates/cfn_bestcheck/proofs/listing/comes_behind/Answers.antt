use Rattle.cfn_bestcheck.proofs.Entries.{behind_last}
use Rattle.cfn_bestcheck.proofs.listing.comes_behind.Goals as goal

pub returns-in-Some : goal.returns-in-Some
returns-in-Some c =
    let both = behind_last c.args.list.now c.in-Some.last.now (record { cost = c.args.cost; values = c.args.values.now }) c.in-Some.ensures.value in
    (λ yes. both.0 (c.is_before.ensures.0 yes), λ behind. c.is_before.ensures.1 (both.1 behind))
