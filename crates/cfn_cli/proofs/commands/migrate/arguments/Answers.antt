use Rattle.std.proofs.Common.{◌≡◌, List, Some, None, refl, codes}
use Rattle.clap.specs.Words.{Row, Text, first_of}
use Rattle.cfn_cli.specs.Request.Migrating.{migrate_in}
use Rattle.cfn_cli.proofs.Asking.{nothing_asked}
use Rattle.cfn_cli.proofs.commands.migrate.arguments.Goals as goal

migrate_made : (rows : List Row) (file certificate out : Text) → first_of (codes "file") rows ≡ Some file
    → first_of (codes "certificate") rows ≡ Some certificate → first_of (codes "out") rows ≡ Some out
    → migrate_in rows ≡ Some (record { file = file; certificate = certificate; out = out })
unfolding migrate_in
migrate_made rows file certificate out e1 e2 e3 = rw (e1, e2, e3) refl

migrate_without_file : (rows : List Row) → first_of (codes "file") rows ≡ None → migrate_in rows ≡ None
unfolding migrate_in
migrate_without_file rows e1 = rw e1 refl

migrate_without_certificate : (rows : List Row) (file : Text) → first_of (codes "file") rows ≡ Some file
    → first_of (codes "certificate") rows ≡ None → migrate_in rows ≡ None
unfolding migrate_in
migrate_without_certificate rows file e1 e2 = rw (e1, e2) refl

migrate_without_out : (rows : List Row) (file certificate : Text) → first_of (codes "file") rows ≡ Some file
    → first_of (codes "certificate") rows ≡ Some certificate → first_of (codes "out") rows ≡ None → migrate_in rows ≡ None
unfolding migrate_in
migrate_without_out rows file certificate e1 e2 e3 = rw (e1, e2, e3) refl

pub returns-in_err-file-clause-usage : goal.returns-in_err-file-clause-usage
returns-in_err-file-clause-usage c = nothing_asked _ _ (migrate_without_file _ c.in_err-file.ensures.missing)

pub returns-in_err-first-clause-usage : goal.returns-in_err-first-clause-usage
returns-in_err-first-clause-usage c =
    nothing_asked _ _ (migrate_without_certificate _ _ c.in_ok-file.ensures.text c.in_err-first.ensures.missing)

pub returns-in_err-out-clause-usage : goal.returns-in_err-out-clause-usage
returns-in_err-out-clause-usage c =
    nothing_asked _ _ (migrate_without_out _ _ _ c.in_ok-file.ensures.text c.in_ok-first.ensures.text c.in_err-out.ensures.missing)

pub returns-clause-arguments : goal.returns-clause-arguments
returns-clause-arguments c =
    rw (c.in_ok-from_str.ensures.ok, c.in_ok-from_str-2.ensures.ok, c.in_ok-from_str-3.ensures.ok)
    (migrate_made _ _ _ _ c.in_ok-file.ensures.text c.in_ok-first.ensures.text c.in_ok-out.ensures.text)
