pub mod NumberLaws
pub mod Numbers
pub use Rattle.base.specs.Buffers
pub use Rattle.base.specs.Limits
pub use Rattle.base.specs.Refusals
pub use Rattle.base.specs.declared.refusal.Refusal
