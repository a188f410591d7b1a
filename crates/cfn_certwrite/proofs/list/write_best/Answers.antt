use Rattle.std.proofs.Common.{refl}
use Rattle.cfn_ranking.specs.Certificates.{list_certificate_of}
use Rattle.cfn_line.proofs.CallerLemmas.{then, stop, respell}
use Rattle.cfn_certwrite.proofs.ListLines.{spelling_parts}
use Rattle.cfn_certwrite.proofs.list.write_best.Goals as goal

pub returns-in_err-put_head : goal.returns-in_err-put_head
returns-in_err-put_head g c = let b = c.args.certificate.now in
    respell _ (spelling_parts (list_certificate_of b) b.list.items refl) (stop _ c.from_residual.ensures.0 _ c.in_err-put_head.ensures)

pub returns-in_err-put_list : goal.returns-in_err-put_list
returns-in_err-put_list g c = let b = c.args.certificate.now in
    respell _ (spelling_parts (list_certificate_of b) b.list.items refl) (then c.in_ok-put_head.ensures (stop _ c.from_residual-in_err-put_list.ensures.0 _ (rw c.deref.ensures.value at c.in_err-put_list.ensures)))

pub returns-in_err-write_line : goal.returns-in_err-write_line
returns-in_err-write_line g c = let b = c.args.certificate.now in
    respell _ (spelling_parts (list_certificate_of b) b.list.items refl) (then c.in_ok-put_head.ensures (then (rw c.deref.ensures.value at c.in_ok-put_list.ensures) (stop _ c.from_residual-in_err-write_line.ensures.0 _ c.in_err-write_line.ensures)))

pub returns-in_err-put_tree : goal.returns-in_err-put_tree
returns-in_err-put_tree g c = let b = c.args.certificate.now in
    respell _ (spelling_parts (list_certificate_of b) b.list.items refl) (then c.in_ok-put_head.ensures (then (rw c.deref.ensures.value at c.in_ok-put_list.ensures) (then c.in_ok-write_line.ensures (stop _ c.from_residual-in_err-put_tree.ensures.0 _ (rw c.deref-2.ensures.value at c.in_err-put_tree.ensures)))))

pub returns : goal.returns
returns g c = let b = c.args.certificate.now in
    respell _ (spelling_parts (list_certificate_of b) b.list.items refl) (then c.in_ok-put_head.ensures (then (rw c.deref.ensures.value at c.in_ok-put_list.ensures) (then c.in_ok-write_line.ensures (then (rw c.deref-2.ensures.value at c.in_ok-put_tree.ensures) c.write_line-2.ensures))))
