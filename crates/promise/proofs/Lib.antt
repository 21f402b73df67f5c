mod AcceptedByHistory
pub mod BlowsBesideHistory
pub mod CallAnswers
pub mod CallKeepsLog
mod FallAccepted
mod FirstState
mod KeptFromCallToCall
pub mod ListAfterList
mod OneRingProof
mod OrdersOnceProof
mod RoundAccepted
pub mod SamePast
pub mod StateByPlace
mod ToldByLog
