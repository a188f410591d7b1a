use Rattle.std.proofs.Common.{◌≡◌, List, Some, None, refl, codes}
use Rattle.clap.specs.Words.{Row, Text, all_of, first_of}
use Rattle.cfn_cli.specs.Arguments.{format_of}
use Rattle.cfn_cli.specs.Request.Merging.{merge_in, names_of}
use Rattle.cfn_cli.proofs.Asking.{nothing_asked, passed_on}
use Rattle.cfn_cli.proofs.Rows.{all_rows}
use Rattle.cfn_cli.proofs.commands.merge.arguments.Goals as goal

merge_made : (rows : List Row) (file out : Text) (texts names : List Text) → first_of (codes "file") rows ≡ Some file → first_of (codes "out") rows ≡ Some out
    → all_of (codes "certificates") rows ≡ Some texts → names_of texts ≡ Some names
    → merge_in rows ≡ Some (record { file = file; out = out; certificates = names; format = format_of rows })
unfolding merge_in
merge_made rows file out texts names e1 e2 e3 e4 = rw (e1, e2, e3, e4) refl

merge_without_file : (rows : List Row) → first_of (codes "file") rows ≡ None → merge_in rows ≡ None
unfolding merge_in
merge_without_file rows e1 = rw e1 refl

merge_without_out : (rows : List Row) (file : Text) → first_of (codes "file") rows ≡ Some file → first_of (codes "out") rows ≡ None → merge_in rows ≡ None
unfolding merge_in
merge_without_out rows file e1 e2 = rw (e1, e2) refl

merge_without_texts : (rows : List Row) (file out : Text) → first_of (codes "file") rows ≡ Some file → first_of (codes "out") rows ≡ Some out
    → all_of (codes "certificates") rows ≡ None → merge_in rows ≡ None
unfolding merge_in
merge_without_texts rows file out e1 e2 e3 = rw (e1, e2, e3) refl

merge_without_names : (rows : List Row) (file out : Text) (texts : List Text) → first_of (codes "file") rows ≡ Some file → first_of (codes "out") rows ≡ Some out
    → all_of (codes "certificates") rows ≡ Some texts → names_of texts ≡ None → merge_in rows ≡ None
unfolding merge_in
merge_without_names rows file out texts e1 e2 e3 e4 = rw (e1, e2, e3, e4) refl

pub returns-in_err-file-clause-usage : goal.returns-in_err-file-clause-usage
returns-in_err-file-clause-usage c = nothing_asked _ _ (merge_without_file _ c.in_err-file.ensures.missing)

pub returns-in_err-first-clause-usage : goal.returns-in_err-first-clause-usage
returns-in_err-first-clause-usage c = nothing_asked _ _ (merge_without_out _ _ c.in_ok-file.ensures.text c.in_err-first.ensures.missing)

pub returns-in_default-clause-usage : goal.returns-in_default-clause-usage
returns-in_default-clause-usage c =
    λ _. merge_without_texts _ _ _ c.in_ok-file.ensures.text c.in_ok-first.ensures.text (all_rows c.args.found.now (codes "certificates") None c.in_default.ensures)

pub returns-in_err-certificates-clause-usage : goal.returns-in_err-certificates-clause-usage
returns-in_err-certificates-clause-usage c =
    passed_on _ _ _ c.from_residual-in_err-certificates.ensures.1
    (λ is. merge_without_names _ _ _ _ c.in_ok-file.ensures.text c.in_ok-first.ensures.text (all_rows c.args.found.now (codes "certificates") _ c.in-Some.ensures)
    (c.in_err-certificates.ensures.usage is))

pub returns-clause-arguments : goal.returns-clause-arguments
returns-clause-arguments c =
    rw (c.in_ok-from_str.ensures.ok, c.in_ok-from_str-2.ensures.ok, c.format.ensures)
    (merge_made _ _ _ _ _ c.in_ok-file.ensures.text c.in_ok-first.ensures.text (all_rows c.args.found.now (codes "certificates") _ c.in-Some.ensures) c.in_ok-certificates.ensures.names)
