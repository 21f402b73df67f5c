pub mod Groups
pub mod NumberRoundTrip
pub mod ReadingStep
pub mod SeveralWritten
