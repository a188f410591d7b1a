use Rattle.std.proofs.Common.{◌∙◌, [], ap, sym, length, true≢false, eq-eqb, eqb-true}
use Rattle.std.proofs.lemmas.List.{nil_from_length}
use Rattle.cfn_proof.specs.Legs.{path_of}
use Rattle.cfn_proof.proofs.Parting.{none_of}
use Rattle.cfn_proof.proofs.path.Path.is_empty.Goals as goal

pub returns-then-is_empty : goal.returns-then-is_empty
returns-then-is_empty c =
    let root = c.self.inside.root in
    let legs = c.self.inside.legs.items in
    let none = nil_from_length legs (sym c.self.inside.legs.ok.0 ∙ eqb-true _ _ (sym c.is_empty.ensures ∙ c.if-is_empty.true)) in (
      λ yes. sym c.self.view_is ∙ ap (path_of root) none ∙ ap (λ block. path_of block []) (c.is_empty-then-is_empty.ensures.0 yes),
      λ no. c.is_empty-then-is_empty.ensures.1 (none_of root legs (c.self.view_is ∙ no)).0,
    )

pub returns-else-is_empty : goal.returns-else-is_empty
returns-else-is_empty c = (
  λ yes. absurd (true≢false (sym yes ∙ c.if-is_empty.false)),
  λ no. c.is_empty.ensures ∙ eq-eqb _ _ (c.self.inside.legs.ok.0 ∙ ap length (none_of c.self.inside.root c.self.inside.legs.items (c.self.view_is ∙ no)).1),
)
