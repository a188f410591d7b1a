use Rattle.std.proofs.Common.{◌≡◌, List, Some, None, refl, codes}
use Rattle.clap.specs.Words.{Row, Text, first_of}
use Rattle.cfn_cli.specs.Arguments.{format_of}
use Rattle.cfn_cli.specs.Request.Replaying.{replay_in}
use Rattle.cfn_cli.proofs.Asking.{nothing_asked}
use Rattle.cfn_cli.proofs.commands.replay.arguments.Goals as goal

replay_made : (rows : List Row) (file recording certificate : Text) → first_of (codes "file") rows ≡ Some file
    → first_of (codes "recording") rows ≡ Some recording → first_of (codes "certificate") rows ≡ Some certificate
    → replay_in rows ≡ Some (record { file = file; recording = recording; certificate = certificate; format = format_of rows })
unfolding replay_in
replay_made rows file recording certificate e1 e2 e3 = rw (e1, e2, e3) refl

replay_without_file : (rows : List Row) → first_of (codes "file") rows ≡ None → replay_in rows ≡ None
unfolding replay_in
replay_without_file rows e1 = rw e1 refl

replay_without_recording : (rows : List Row) (file : Text) → first_of (codes "file") rows ≡ Some file
    → first_of (codes "recording") rows ≡ None → replay_in rows ≡ None
unfolding replay_in
replay_without_recording rows file e1 e2 = rw (e1, e2) refl

replay_without_certificate : (rows : List Row) (file recording : Text) → first_of (codes "file") rows ≡ Some file
    → first_of (codes "recording") rows ≡ Some recording → first_of (codes "certificate") rows ≡ None → replay_in rows ≡ None
unfolding replay_in
replay_without_certificate rows file recording e1 e2 e3 = rw (e1, e2, e3) refl

pub returns-in_err-file-clause-usage : goal.returns-in_err-file-clause-usage
returns-in_err-file-clause-usage c = nothing_asked _ _ (replay_without_file _ c.in_err-file.ensures.missing)

pub returns-in_err-recording-clause-usage : goal.returns-in_err-recording-clause-usage
returns-in_err-recording-clause-usage c =
    nothing_asked _ _ (replay_without_recording _ _ c.in_ok-file.ensures.text c.in_err-recording.ensures.missing)

pub returns-in_err-certificate-clause-usage : goal.returns-in_err-certificate-clause-usage
returns-in_err-certificate-clause-usage c =
    nothing_asked _ _ (replay_without_certificate _ _ _ c.in_ok-file.ensures.text c.in_ok-recording.ensures.text c.in_err-certificate.ensures.missing)

pub returns-clause-arguments : goal.returns-clause-arguments
returns-clause-arguments c =
    rw (c.in_ok-from_str.ensures.ok, c.in_ok-from_str-2.ensures.ok, c.in_ok-from_str-3.ensures.ok, c.format.ensures)
    (replay_made _ _ _ _ c.in_ok-file.ensures.text c.in_ok-recording.ensures.text c.in_ok-certificate.ensures.text)
