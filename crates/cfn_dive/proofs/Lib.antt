pub mod Rounds
pub mod Alive
pub mod Strict
pub mod Sides
pub mod Leaves
mod Grouping
mod Both
pub mod Stacks
pub mod Going
pub mod Trees
pub mod States
pub mod Falling
pub mod Onwards
pub mod Makings
pub mod Splitting
pub mod Naming
pub mod Blaming
pub mod Crossing
pub mod CallerLemmas
