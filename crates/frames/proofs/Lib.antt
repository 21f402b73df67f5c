pub mod FrameRoundTrip
pub mod ProposalReading
