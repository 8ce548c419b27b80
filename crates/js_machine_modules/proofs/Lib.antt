pub mod Requested
pub mod Required
pub mod Evaluates
pub mod Outside_laws
