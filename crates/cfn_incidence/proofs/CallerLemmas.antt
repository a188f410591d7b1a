-- What the crates above cite of the proofs here.
pub use Rattle.cfn_incidence.proofs.Listing.{is_function, stands_in, place_found, two_there}
