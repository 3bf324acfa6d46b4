pub mod StackSteps
