pub mod MedleyLemmas
pub mod Medleys
pub mod Tunes
pub use Rattle.base.specs.Limits
pub use Rattle.base.specs.declared.refusal.Refusal
pub use Rattle.proposals.specs.Kinds
