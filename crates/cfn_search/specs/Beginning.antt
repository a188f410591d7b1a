-- What a search begins with that goes on from an earlier one.
use Rattle.std.specs.Prelude.{◌≡◌, ◌<◌, ◌^◌, [], None, IfSome, IsTrue}
use Rattle.cfn_model.specs.Network.{Network}
use Rattle.cfn_model.specs.Tree.{Open, count}
use Rattle.cfn_proof.specs.Nodes.{tree_of}
use Rattle.cfn_low.specs.Outcome.{Start}
use Rattle.cfn_machine.specs.Parts.{IsPart, others_of}
use Rattle.cfn_machine.specs.Pool.{IsKept, price, row_of}
use Rattle.cfn_pool.specs.Views.{values_of}
use Rattle.cfn_search.specs.declared.begin.Begin.{Begin}

-- The tree has so many splits and closed leaves, the first row of bounds is that of the tree at the price of what is known, and
-- these open leaves are left to others.
abbrev pub start_of : Network → Begin → Start
start_of P begin = record {
  begun = count (tree_of begin.tree);
  first = row_of P (tree_of begin.tree) (price P (values_of begin.best.held));
  aside = others_of begin.part (tree_of begin.tree);
}

-- One open leaf with an empty block, nothing known, and no part.
pub record IsFresh (begin : Begin) : Type 0 where
  pub tree : tree_of begin.tree ≡ Open []
  pub none : begin.best.held ≡ None
  pub whole : begin.part ≡ None

-- A search may go on from a tree that is valid, strict and has small costs at that price, and from an assignment of the network
-- below its upper bound; the part that it is, if it is one, is one of its parts. One that is recorded begins with nothing else than one
-- open leaf.
pub record MayBegin (P : Network) (begin : Begin) : Type 0 where
  pub own : begin.best.network ≡ P
  pub below : IfSome begin.best.held (λ best. best.cost < P.upper)
  pub kept : IsKept P (tree_of begin.tree) (values_of begin.best.held)
  pub few : count (tree_of begin.tree) < 2 ^ 64
  pub part : IfSome begin.part IsPart
  pub fresh : IsTrue begin.recorded → IsFresh begin
