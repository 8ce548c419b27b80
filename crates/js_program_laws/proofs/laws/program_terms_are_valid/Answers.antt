use Rattle.js_program_laws.proofs.laws.program_terms_are_valid.Goals as goal

pub returns : goal.returns
returns c = λ kind source m is. c.source_templates_are_valid.ensures m (c.programs_are_sound.ensures kind source m is)
