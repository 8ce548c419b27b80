mod Fault_laws
mod Inside_laws
mod Path_laws
