mod Comes
mod Load_laws
mod Policy_laws
mod One
