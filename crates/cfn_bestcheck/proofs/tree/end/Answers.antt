use Rattle.std.proofs.Common.{ℕ, List, ◌+◌, sym, subst, ◌∙◌}
use Rattle.std.proofs.lemmas.Bool.{iff_false}
use Rattle.cfn_fault.specs.declared.kind.FaultKind.TheVariants as kinds
use Rattle.cfn_best.specs.declared.kind.ListFault.TheVariants.{Certificate}
use Rattle.cfn_best.specs.Fault.{Fault}
use Rattle.cfn_bestcheck.specs.Said.{line_in}
use Rattle.cfn_bestcheck.proofs.Passing.{behind_end}
use Rattle.cfn_bestcheck.proofs.Telling.{end_stops, end_right}
use Rattle.cfn_bestcheck.proofs.tree.end.Goals as goal

pub returns-then-not-is_end-clause-stop : goal.returns-then-not-is_end-clause-stop
returns-then-not-is_end-clause-stop c = rw (c.grammar_fault.ensures, c.due-line.ensures) (λ claim least at. end_stops c.args.network.now c.args.lines.now c.next-said.new.self (line_in c.next-said.result) c.next-said.ensures.tells claim least at (sym c.is_end.ensures ∙ c.if-not-is_end.true))

pub returns-then-not-is_over-clause-stop : goal.returns-then-not-is_over-clause-stop
returns-then-not-is_over-clause-stop c =
    rw (c.grammar_fault-then-not-is_over.ensures, c.due.ensures) (λ claim least at.
    let over = end_right c.args.network.now c.args.lines.now c.next-said.new.self (line_in c.next-said.result) c.next-said.ensures.tells claim least at (sym c.is_end.ensures ∙ c.if-not-is_end.false) in
    subst (λ (x : List ℕ). Fault c.args.network.now x (c.next-said.new.self.count + 1) (Certificate kinds.Text)) c.next-said.ensures.text (behind_end c.args.network.now c.next-said.new.self claim least over (iff_false c.is_over.ensures c.if-not-is_over.true)))

pub returns-clause-right : goal.returns-clause-right
returns-clause-right c = λ claim least at. end_right c.args.network.now c.args.lines.now c.next-said.new.self (line_in c.next-said.result) c.next-said.ensures.tells claim least at (sym c.is_end.ensures ∙ c.if-not-is_end.false)
