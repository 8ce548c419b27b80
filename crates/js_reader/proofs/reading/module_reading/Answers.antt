use Rattle.js_grammar.specs.Laws.{from_flat}
use Rattle.js_reader.specs.Steps.{source_course}
use Rattle.js_reader.proofs.Reading_laws.{means}
use Rattle.js_reader.proofs.Clauses_laws.{start_taken, start_quiet, gives_tree, gives_within, only_tree, gives_cause, only_refusal}
use Rattle.js_reader.proofs.reading.module_reading.Goals as goal

pub returns-clause-tree : goal.returns-clause-tree
returns-clause-tree c =
    gives_tree c.flatly.ensures.same c.exactly.ensures.good c.exactly.ensures.exact c.exactly.ensures.ended c.prefixes.ensures.kept c.prefixes.ensures.back c.semicolons.ensures.begun c.semicolons.ensures.refused c.semicolons.ensures.same c.semicolons.ensures.read c.semicolons.ensures.whole c.limits.ensures.deep c.limits.ensures.forms
    c.args.source.now c.args.tokens.now c.args.end (source_course c.args.source.now from_flat c.args.tokens.now c.args.end) c.reading_of.result
    (means c.flatly.ensures.same c.exactly.ensures.good c.exactly.ensures.exact c.prefixes.ensures.kept c.prefixes.ensures.back c.semicolons.ensures.begun c.semicolons.ensures.refused c.semicolons.ensures.same c.semicolons.ensures.read c.limits.ensures.deep c.limits.ensures.forms c.args.source.now c.args.tokens.now c.args.end _ start_taken start_quiet)
    c.reading_of.ensures

pub returns-clause-within : goal.returns-clause-within
returns-clause-within c =
    gives_within c.flatly.ensures.same c.exactly.ensures.good c.exactly.ensures.exact c.exactly.ensures.ended c.prefixes.ensures.kept c.prefixes.ensures.back c.semicolons.ensures.begun c.semicolons.ensures.refused c.semicolons.ensures.same c.semicolons.ensures.read c.semicolons.ensures.whole c.limits.ensures.deep c.limits.ensures.forms
    c.args.source.now c.args.tokens.now c.args.end (source_course c.args.source.now from_flat c.args.tokens.now c.args.end) c.reading_of.result
    (means c.flatly.ensures.same c.exactly.ensures.good c.exactly.ensures.exact c.prefixes.ensures.kept c.prefixes.ensures.back c.semicolons.ensures.begun c.semicolons.ensures.refused c.semicolons.ensures.same c.semicolons.ensures.read c.limits.ensures.deep c.limits.ensures.forms c.args.source.now c.args.tokens.now c.args.end _ start_taken start_quiet)
    c.reading_of.ensures

pub returns-clause-only : goal.returns-clause-only
returns-clause-only c =
    only_tree c.flatly.ensures.same c.exactly.ensures.good c.exactly.ensures.exact c.exactly.ensures.ended c.prefixes.ensures.kept c.prefixes.ensures.back c.semicolons.ensures.begun c.semicolons.ensures.refused c.semicolons.ensures.same c.semicolons.ensures.read c.semicolons.ensures.whole c.limits.ensures.deep c.limits.ensures.forms
    c.args.source.now c.args.tokens.now c.args.end (source_course c.args.source.now from_flat c.args.tokens.now c.args.end) c.reading_of.result
    (means c.flatly.ensures.same c.exactly.ensures.good c.exactly.ensures.exact c.prefixes.ensures.kept c.prefixes.ensures.back c.semicolons.ensures.begun c.semicolons.ensures.refused c.semicolons.ensures.same c.semicolons.ensures.read c.limits.ensures.deep c.limits.ensures.forms c.args.source.now c.args.tokens.now c.args.end _ start_taken start_quiet)
    c.reading_of.ensures

pub returns-clause-cause : goal.returns-clause-cause
returns-clause-cause c =
    gives_cause c.flatly.ensures.same c.exactly.ensures.good c.exactly.ensures.exact c.exactly.ensures.ended c.prefixes.ensures.kept c.prefixes.ensures.back c.semicolons.ensures.begun c.semicolons.ensures.refused c.semicolons.ensures.same c.semicolons.ensures.read c.semicolons.ensures.whole c.limits.ensures.deep c.limits.ensures.forms
    c.args.source.now c.args.tokens.now c.args.end (source_course c.args.source.now from_flat c.args.tokens.now c.args.end) c.reading_of.result
    (means c.flatly.ensures.same c.exactly.ensures.good c.exactly.ensures.exact c.prefixes.ensures.kept c.prefixes.ensures.back c.semicolons.ensures.begun c.semicolons.ensures.refused c.semicolons.ensures.same c.semicolons.ensures.read c.limits.ensures.deep c.limits.ensures.forms c.args.source.now c.args.tokens.now c.args.end _ start_taken start_quiet)
    c.reading_of.ensures

pub returns-clause-refused : goal.returns-clause-refused
returns-clause-refused c =
    only_refusal c.flatly.ensures.same c.exactly.ensures.good c.exactly.ensures.exact c.exactly.ensures.ended c.prefixes.ensures.kept c.prefixes.ensures.back c.semicolons.ensures.begun c.semicolons.ensures.refused c.semicolons.ensures.same c.semicolons.ensures.read c.semicolons.ensures.whole c.limits.ensures.deep c.limits.ensures.forms
    c.args.source.now c.args.tokens.now c.args.end (source_course c.args.source.now from_flat c.args.tokens.now c.args.end) c.reading_of.result
    (means c.flatly.ensures.same c.exactly.ensures.good c.exactly.ensures.exact c.prefixes.ensures.kept c.prefixes.ensures.back c.semicolons.ensures.begun c.semicolons.ensures.refused c.semicolons.ensures.same c.semicolons.ensures.read c.limits.ensures.deep c.limits.ensures.forms c.args.source.now c.args.tokens.now c.args.end _ start_taken start_quiet)
    c.reading_of.ensures
