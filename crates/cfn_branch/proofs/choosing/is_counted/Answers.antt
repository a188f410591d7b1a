use Rattle.std.proofs.Common.{◌∙◌, inl, inr, sym, ap, arith}
use Rattle.std.proofs.lemmas.Bool.{cases_eq}
use Rattle.std.specs.Prelude.{nat_le}
use Rattle.cfn_model.specs.Network.{arity}
use Rattle.cfn_branch.specs.Choosing.{choices}
use Rattle.cfn_branch.proofs.Counting.{two_tell, one_and, open_before}
use Rattle.cfn_branch.proofs.choosing.is_counted.Goals as goal

pub returns-else-place-x : goal.returns-else-place-x
returns-else-place-x c =
    let s = c.args.store.now in let f = c.args.place.function in let i = c.args.place.place in
    elim (cases_eq (arity s.network f) 2) [
      | inl two ↦
          (let tell = two_tell s f i c.args.x c.args.place.other (omega (arith, two, c.requires.stands.place)) (sym c.requires.stands.is) (c.requires.stands.other two) c.requires.open.undecided in
          ap (nat_le 2) c.count.ensures ∙ one_and (nat_le 2 (choices s c.args.place.other)) ∙ ap (nat_le 2) (sym (ap (open_before s f) two ∙ tell)))
      | inr other ↦ absurd (c.if-place-x.false (c.requires.stands.alone other))
    ]
