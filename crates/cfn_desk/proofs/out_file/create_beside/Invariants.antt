-- No new file stands yet, and the named files are as they were.
use Rattle.std.proofs.Common.{◌≡◌, None}
use Rattle.cfn_desk.proofs.out_file.create_beside.Given as goal

abbrev pub invariant-loop-suffix : goal.invariant-loop-suffix
invariant-loop-suffix g l =
    (g.S.Storage.new_file l.storage ≡ None) × (g.S.Storage.files l.storage ≡ g.S.Storage.files l.initial.storage)
