-- No file so far has the name, so it is looked for among the rest.
use Rattle.std.proofs.Common.{◌≡◌, drop}
use Rattle.cfn_desk.specs.NamedFiles.{file_named, kept_files}
use Rattle.cfn_desk.proofs.named.find_file.Given as goal

abbrev pub invariant-loop-file : goal.invariant-loop-file
invariant-loop-file l = file_named (kept_files (drop l.file-index l.files)) l.name ≡ file_named (kept_files l.files) l.name
