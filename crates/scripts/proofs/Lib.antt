pub mod BytesBehindFault
pub mod EntriesFit
pub mod HeadLimits
pub mod ScriptRoundTrip
pub mod ScriptSteps
pub mod ScriptsComputed
pub mod SeveralRead
