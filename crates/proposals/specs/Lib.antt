pub mod Calls
pub mod Kinds
pub mod Orders
pub mod Pieces
pub mod ProposalLemmas
pub use Rattle.base.specs.Limits
pub use Rattle.base.specs.declared.refusal.Refusal
