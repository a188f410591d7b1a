-- The files copied so far are the first of those given.
use Rattle.std.proofs.Common.{◌≡◌, map, take}
use Rattle.cfn_desk.specs.NamedFiles.{kept_files}
use Rattle.cfn_desk.proofs.named.copy_files.Given as goal

abbrev pub invariant-loop-name : goal.invariant-loop-name
invariant-loop-name l = kept_files l.kept.items ≡ map (λ file. (file.0.now, file.1.now)) (take l.name-index l.files)
