pub mod Runs
pub mod WordLookup
pub mod DelimiterLookup
pub mod StringBody
pub mod Judged
pub mod Again
pub mod Cuts
pub mod OneAnswer
