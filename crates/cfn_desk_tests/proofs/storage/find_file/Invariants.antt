-- No file so far has the name, so it is looked for among the rest.
use Rattle.std.proofs.Common.{◌≡◌, drop, map}
use Rattle.cfn_desk.specs.NamedFiles.{file_named}
use Rattle.cfn_desk_tests.proofs.storage.find_file.Given as goal

abbrev pub invariant-loop-file : goal.invariant-loop-file
invariant-loop-file l = file_named (map (λ file. (file.name.items, file.bytes.items)) (drop l.file-index l.files)) l.name ≡ file_named (map (λ file. (file.name.items, file.bytes.items)) l.files) l.name
