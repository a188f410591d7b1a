-- The network that the tables of a store are of.
use Rattle.cfn_model.specs.Network.{Network}
use Rattle.cfn_store.specs.declared.shelf.Shelf.{Shelf}
use Rattle.cfn_store.specs.declared.shelf.Shelf.TheVariants.{Own, Lent}

abbrev pub on_shelf : Shelf → Network
on_shelf (Own tables) = tables
on_shelf (Lent tables) = tables.now
