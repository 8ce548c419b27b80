mod Flat_laws
mod Left_laws
mod Many_laws
mod Native_laws
mod Place_laws
mod Trace_laws
