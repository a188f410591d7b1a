use Rattle.std.proofs.Common.{◌≡◌, [], ◌∷◌, ◌∙◌}
use Rattle.std.proofs.lemmas.Result.{err_from_is_err_and}
use Rattle.cfn_fault.specs.Lines.{Version, Numbers, AtVersion, AtNumbers, AtLower}
use Rattle.cfn_certread.proofs.Telling.{version_goes, numbers_go, numbers_are, lower_goes, lower_is}
use Rattle.cfn_certread.proofs.head.head.Goals as goal

pub returns-in_err-_version-clause-stop : goal.returns-in_err-_version-clause-stop
returns-in_err-_version-clause-stop c =
    let p = err_from_is_err_and c.from_residual.result c.from_residual.ensures.1 in
    rw (p.1, p.2) (c.in_err-_version.ensures.stop [] AtVersion c.requires.read)

pub returns-in_err-numbers-clause-stop : goal.returns-in_err-numbers-clause-stop
returns-in_err-numbers-clause-stop c =
    let p = err_from_is_err_and c.from_residual-in_err-numbers.result c.from_residual-in_err-numbers.ensures.1 in
    let v = version_goes c.args.reader.now c.next.new.reader _ c.requires (c.in_ok-_version.ensures.event [] AtVersion c.requires.read) in
    rw (p.1, p.2) (rw c.in_ok-_version.ensures.text at (c.in_err-numbers.ensures.stop (Version v.0 ∷ []) (AtNumbers v.0) v.1.read))

pub unreachable-requires : goal.unreachable-requires
unreachable-requires c =
    let v = version_goes c.args.reader.now c.next.new.reader _ c.requires (c.in_ok-_version.ensures.event [] AtVersion c.requires.read) in
    let t = numbers_go c.next.new.reader c.next-2.new.reader (Version v.0 ∷ []) v.0 _ v.1 (c.in_ok-numbers.ensures.event (Version v.0 ∷ []) (AtNumbers v.0) v.1.read) in
    c.in_default.not-Network t.0 t.1 t.2 t.3

pub returns-in_err-bound-clause-stop : goal.returns-in_err-bound-clause-stop
returns-in_err-bound-clause-stop c =
    let p = err_from_is_err_and c.from_residual-in_err-bound.result c.from_residual-in_err-bound.ensures.1 in
    let it = c.in-Network in
    let v = version_goes c.args.reader.now c.next.new.reader _ c.requires (c.in_ok-_version.ensures.event [] AtVersion c.requires.read) in
    let n = numbers_are c.next.new.reader c.next-2.new.reader (Version v.0 ∷ []) v.0 _ it.variables it.functions it.upper it.is v.1 (c.in_ok-numbers.ensures.event (Version v.0 ∷ []) (AtNumbers v.0) v.1.read) in
    let text : c.next-2.new.reader.text ≡ c.args.reader.now.text = c.in_ok-numbers.ensures.text ∙ c.in_ok-_version.ensures.text in
    rw (p.1, p.2) (rw text at (c.in_err-bound.ensures.stop (Version v.0 ∷ Numbers it.variables it.functions it.upper ∷ []) (AtLower v.0) n.read))

pub unreachable-requires-in_default-item : goal.unreachable-requires-in_default-item
unreachable-requires-in_default-item c =
    let it = c.in-Network in
    let v = version_goes c.args.reader.now c.next.new.reader _ c.requires (c.in_ok-_version.ensures.event [] AtVersion c.requires.read) in
    let n = numbers_are c.next.new.reader c.next-2.new.reader (Version v.0 ∷ []) v.0 _ it.variables it.functions it.upper it.is v.1 (c.in_ok-numbers.ensures.event (Version v.0 ∷ []) (AtNumbers v.0) v.1.read) in
    let ls = Version v.0 ∷ Numbers it.variables it.functions it.upper ∷ [] in
    let t = lower_goes c.next-2.new.reader c.next-3.new.reader ls v.0 _ n (c.in_ok-bound.ensures.event ls (AtLower v.0) n.read) in
    c.in_default-item.not-Lower t.0 t.1

pub returns-clause-read : goal.returns-clause-read
returns-clause-read c =
    let it = c.in-Network in
    let v = version_goes c.args.reader.now c.next.new.reader _ c.requires (c.in_ok-_version.ensures.event [] AtVersion c.requires.read) in
    let n = numbers_are c.next.new.reader c.next-2.new.reader (Version v.0 ∷ []) v.0 _ it.variables it.functions it.upper it.is v.1 (c.in_ok-numbers.ensures.event (Version v.0 ∷ []) (AtNumbers v.0) v.1.read) in
    let ls = Version v.0 ∷ Numbers it.variables it.functions it.upper ∷ [] in
    (v.0, lower_is c.next-2.new.reader c.next-3.new.reader ls v.0 _ c.in-Lower.lower c.in-Lower.is n (c.in_ok-bound.ensures.event ls (AtLower v.0) n.read))
