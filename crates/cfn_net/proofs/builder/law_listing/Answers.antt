use Rattle.cfn_net.proofs.Listings.{the_listing_law}
use Rattle.cfn_net.proofs.builder.law_listing.Goals as goal

pub returns : goal.returns
returns c = the_listing_law
