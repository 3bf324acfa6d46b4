pub mod Emission
pub mod EmittedCalls
pub mod EmittedParts
pub mod EmittedStorage
pub mod EmittedTexts
pub mod EmittedValues
pub mod Walked
