pub mod Forgotten
pub mod OutputTokens
mod Sums
pub mod Totals
