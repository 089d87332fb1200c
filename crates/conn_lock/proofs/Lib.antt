pub mod Totals
pub mod Changes
pub mod TurnSteps
pub mod NumberSteps
pub mod Closing
