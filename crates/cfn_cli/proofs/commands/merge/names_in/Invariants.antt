use Rattle.std.proofs.Common.{◌≡◌, map, take}
use Rattle.std.specs.Prelude.{string_bytes}
use Rattle.cfn_cli.proofs.commands.merge.names_in.Given as goal

abbrev pub invariant-loop-text : goal.invariant-loop-text
invariant-loop-text l = map (λ name. string_bytes name) l.names.items ≡ map (λ t. t.now) (take l.text-index l.texts)
