mod Drifted
mod Gathered
mod LastDrifts
mod Lists
mod Placing
mod Trimmed
mod TrimmedDetails
