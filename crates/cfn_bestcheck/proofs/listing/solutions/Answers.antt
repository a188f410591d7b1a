use Rattle.std.proofs.Common.{◌≡◌, ℕ, suc, ◌-◌, List, sym, ap, subst, ◌∙◌, arith}
use Rattle.std.proofs.lemmas.Result.{err_from_is_err_and}
use Rattle.cfn_model.specs.Certificate.{Solution}
use Rattle.cfn_best.specs.Lines.{AtList}
use Rattle.cfn_bestcheck.specs.Position.{At}
use Rattle.cfn_bestcheck.specs.Listing.{AreLong, solutions_of}
use Rattle.cfn_bestcheck.specs.Checking.{claim_of}
use Rattle.cfn_bestcheck.specs.declared.entry.Entry.{Entry}
use Rattle.cfn_bestcheck.proofs.Entries.{long_more, one_more}
use Rattle.cfn_bestcheck.proofs.listing.solutions.Goals as goal

pub returns-in_err-entry-clause-stop : goal.returns-in_err-entry-clause-stop
returns-in_err-entry-clause-stop c =
    let p = err_from_is_err_and c.from_residual.result c.from_residual.ensures.1 in
    let claim = claim_of c.args.opening c.loop-left.list.items in
    let n : c.loop-left.left ≡ suc (c.loop-left.left - 1) = omega (arith, c.loop-left-test.true) in
    let at = subst (λ (k : ℕ). At c.args.network.now c.loop-left.lines (AtList claim k)) n c.loop-left.invariant.at in
    rw (p.1, p.2) (rw c.loop-left.invariant.text at (c.in_err-entry.ensures.stop claim (c.loop-left.left - 1) (sym (ap solutions_of c.deref.ensures.value)) at))

pub loop-left-preserved : goal.loop-left-preserved
loop-left-preserved c =
    let claim = claim_of c.args.opening c.loop-left.list.items in
    let entry = c.in_ok-entry.entry in
    let n : c.loop-left.left ≡ suc (c.loop-left.left - 1) = omega (arith, c.loop-left-test.true) in
    let at = subst (λ (k : ℕ). At c.args.network.now c.loop-left.lines (AtList claim k)) n c.loop-left.invariant.at in
    let behind = c.in_ok-entry.ensures.right claim (c.loop-left.left - 1) (sym (ap solutions_of c.deref.ensures.value)) at in
    let list = ap solutions_of c.in_ok-push.ensures.items ∙ one_more c.loop-left.list.items entry in
    record {
      text = c.in_ok-entry.ensures.text ∙ c.loop-left.invariant.text;
      at = subst (λ (xs : List Solution). At c.args.network.now c.solution.new.lines (AtList (record { count = c.args.opening.count; lower = c.args.opening.lower; list = xs }) (c.loop-left.left - 1))) (sym list) behind;
      long = subst (λ (es : List Entry). AreLong c.args.network.now es) (sym c.in_ok-push.ensures.items) (long_more c.args.network.now c.loop-left.list.items entry c.loop-left.invariant.long c.in_ok-entry.ensures.long);
    }
