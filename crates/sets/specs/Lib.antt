pub mod Companies
pub mod Masks
pub mod SetLaws
pub mod SetTexts
pub use Rattle.base.specs.Counts
pub use Rattle.base.specs.Limits
