pub mod LineLengths
pub mod ReportRefusals
