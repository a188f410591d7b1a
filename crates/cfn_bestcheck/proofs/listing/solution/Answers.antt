use Rattle.std.proofs.Common.{List, length, sym, ap, subst, ◌∙◌}
use Rattle.std.specs.Prelude.{Some}
use Rattle.cfn_model.specs.Certificate.{Solution}
use Rattle.cfn_model.proofs.CallerLemmas.{fits_length}
use Rattle.cfn_certtext.specs.Stages.{values_of}
use Rattle.cfn_best.specs.Lines.{AtList, with_solution}
use Rattle.cfn_best.specs.Fault.{IsNext}
use Rattle.cfn_bestcheck.specs.Said.{line_in}
use Rattle.cfn_bestcheck.specs.Position.{At}
use Rattle.cfn_bestcheck.specs.Listing.{solutions_of, IsPriced}
use Rattle.cfn_bestcheck.proofs.Telling.{values_stop, values_right, values_wrong}
use Rattle.cfn_bestcheck.proofs.listing.solution.Goals as goal

pub returns-in_default-clause-stop : goal.returns-in_default-clause-stop
returns-in_default-clause-stop c = rw (c.grammar_fault.ensures, c.due-line.ensures) (λ claim left list at. values_stop c.args.network.now c.args.lines.now c.next-said.new.self (line_in c.next-said.result) c.next-said.ensures.tells claim left at c.in_default.ensures)

abbrev told : (c : goal.In-Some-2) → Solution
told c = record { cost = c.in-Some.cost; values = values_of c.in-Some.values }

priced : (c : goal.In-Some-2) → IsPriced c.args.network.now (solutions_of c.args.list.now) (told c) (Some c.in-Some-2.entry)
priced c = subst (IsPriced c.args.network.now (solutions_of c.args.list.now) (told c)) c.in-Some-2.is c.in_ok-entry.ensures

pub returns-in-Some-2-clause-right : goal.returns-in-Some-2-clause-right
returns-in-Some-2-clause-right c = λ claim left list at.
    let next : IsNext c.args.network.now claim.list (told c) = subst (λ (xs : List Solution). IsNext c.args.network.now xs (told c)) (sym list) (priced c).0 in
    subst (λ (s : Solution). At c.args.network.now c.next-said.new.self (AtList (with_solution s claim) left)) (sym (priced c).1)
    (values_right c.args.network.now c.args.lines.now c.next-said.new.self (line_in c.next-said.result) c.next-said.ensures.tells claim left c.in-Some.cost (values_of c.in-Some.values) at c.in-Some.ensures next)

pub returns-in-Some-2-clause-long : goal.returns-in-Some-2-clause-long
returns-in-Some-2-clause-long c = ap (λ (s : Solution). length s.values) (priced c).1 ∙ fits_length c.args.network.now.sizes (values_of c.in-Some.values) (priced c).0.solution.fits

pub returns-in-None-clause-stop : goal.returns-in-None-clause-stop
returns-in-None-clause-stop c =
    let s : Solution = record { cost = c.in-Some.cost; values = values_of c.in-Some.values } in
    let none : IsNext c.args.network.now (solutions_of c.args.list.now) s → ⊥ = subst (IsPriced c.args.network.now (solutions_of c.args.list.now) s) c.in-None.is c.in_ok-entry.ensures in
    rw c.due-line.ensures (λ claim left list at. values_wrong c.args.network.now c.args.lines.now c.next-said.new.self (line_in c.next-said.result) c.next-said.ensures.tells claim left c.in-Some.cost (values_of c.in-Some.values) at c.in-Some.ensures (subst (λ (xs : List Solution). IsNext c.args.network.now xs s → ⊥) (sym list) none))
