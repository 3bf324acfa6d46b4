pub mod Each
pub mod Places
pub mod ExpressionParts
pub mod ExpressionDepths
pub mod StatementParts
pub mod BodyParts
pub mod StatementDepths
