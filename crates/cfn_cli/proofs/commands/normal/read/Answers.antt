use Rattle.std.proofs.Common.{◌≡◌, List, Some, None, refl, codes}
use Rattle.clap.specs.Words.{Row, Text, first_of}
use Rattle.cfn_cli.specs.Arguments.{format_of}
use Rattle.cfn_cli.specs.Request.Normalizing.{normal_of}
use Rattle.cfn_cli.proofs.Asking.{nothing_asked}
use Rattle.cfn_cli.proofs.commands.normal.read.Goals as goal

normal_made : (rows : List Row) (file : Text) → first_of (codes "file") rows ≡ Some file → normal_of rows ≡ Some (record { file = file; format = format_of rows })
unfolding normal_of
normal_made rows file e1 = rw e1 refl

normal_without_file : (rows : List Row) → first_of (codes "file") rows ≡ None → normal_of rows ≡ None
unfolding normal_of
normal_without_file rows e1 = rw e1 refl

pub returns-in_err-file-clause-usage : goal.returns-in_err-file-clause-usage
returns-in_err-file-clause-usage c = nothing_asked _ _ (normal_without_file _ c.in_err-file.ensures.missing)

pub returns-clause-arguments : goal.returns-clause-arguments
returns-clause-arguments c = rw (c.in_ok-from_str.ensures.ok, c.format.ensures) (normal_made _ _ c.in_ok-file.ensures.text)
