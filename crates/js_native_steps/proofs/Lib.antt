mod Array_laws
