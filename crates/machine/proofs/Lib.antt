pub mod BlowsDoNotCount
pub mod CheckedRow
mod PlaceDetermined
pub mod RoundNotRefused
mod RowCheckMeans
