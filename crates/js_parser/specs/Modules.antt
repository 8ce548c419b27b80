-- Modules.
use Rattle.js_phrase.specs.declared.phrase.Phrase.{Phrase}
use Rattle.js_phrase.specs.Phrases.{statements_of}
use Rattle.js_tree.specs.declared.tree.Module.{Module}
use Rattle.js_tree.specs.declared.tree.SourceKind.{SourceKind}

-- ECMA-262 Module
abbrev pub module_from : SourceKind → Phrase → Module
module_from k p = record { kind = k; body = statements_of p }
