mod Module_laws
mod Source_laws
