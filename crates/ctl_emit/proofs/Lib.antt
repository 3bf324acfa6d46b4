pub mod EmittedArms
pub mod EmittedBodies
pub mod EmittedDefaults
pub mod EmittedHandlers
pub mod EmittedLoops
pub mod EmittedStatements
