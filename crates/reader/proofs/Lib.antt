pub mod Digits
pub mod Letters
pub mod NamesScanned
pub mod Runs
