-- What callers cite.
pub use Rattle.cfn_search.proofs.Keeping.{goes_back, goes_taken}
