use Rattle.std.proofs.Common.{◌∙◌, sym, ap, take, subst}
use Rattle.cfn_proof.specs.Packing.{IsPacked, Adds, numbers_of}
use Rattle.cfn_proof.proofs.Packed.{cut_back, of_err, of_ok, on_ok, packed_then, unpacked_then}
use Rattle.cfn_proof.proofs.block.push_whole.Goals as goal

pub returns-then-is_err-clause-packed : goal.returns-then-is_err-clause-packed
returns-then-is_err-clause-packed c =
    let on = of_err _ _ (sym c.is_err.ensures.value ∙ c.if-is_err.true) c.push_step-pushed.ensures.err in
    let back = cut_back _ _ _ on (c.truncate.ensures.items ∙ ap (λ n. take n c.push_step-pushed.new.bytes.items) (c.len-len.ensures ∙ c.args.bytes.now.ok.0)) in
    subst (λ l. IsPacked l) (sym back) c.requires.packed

-- the bytes of the step stand behind those of the others
added : (c : goal.Else-is_err) → Adds c.args.bytes.now.items c.push_step-pushed.new.bytes.items (numbers_of c.args.step)
added c = of_ok _ _ (sym c.is_err.ensures.value ∙ c.if-is_err.false) c.push_step-pushed.ensures.ok

pub returns-else-is_err-clause-packed : goal.returns-else-is_err-clause-packed
returns-else-is_err-clause-packed c = packed_then _ _ c.args.step c.requires.packed (added c) c.push_step-pushed.ensures.small

pub returns-else-is_err-clause-ok : goal.returns-else-is_err-clause-ok
returns-else-is_err-clause-ok c =
    on_ok c.push_step-pushed.result _ (unpacked_then _ _ c.args.step c.requires.packed (added c))
