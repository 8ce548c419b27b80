pub mod ExpressionForms
pub mod Forms
pub mod Modules
pub mod Trees
