-- How deep what stands is and which form that is left out stands in it, by what is to be known of the parts.
use Rattle.std.specs.Prelude.{ℕ, ◌+◌, max, Bool, true, false, not, ◌&&◌, ◌||◌, cond, nat_le, Option, Some, None}
use Rattle.js_grammar.specs.declared.left_out.LeftOut.{LeftOut}
use Rattle.js_grammar.specs.declared.left_out.LeftOut.TheVariants.{Proto, Super}
use Rattle.js_grammar.specs.declared.nesting.TheConstants.{MAX_LEVELS}
use Rattle.js_grammar.specs.declared.nesting.Nesting.{Nesting}
use Rattle.js_grammar.specs.declared.summary.Summary.{Summary}
use Rattle.js_grammar.specs.declared.symbols.Production.{Production}
use Rattle.js_grammar.specs.declared.symbols.Production.TheVariants as production
use Rattle.js_grammar.specs.Table.{levels_of, lead_levels_of, form_of}

-- levels, and one more than a tree may have for all that are too many
abbrev pub bounded : ℕ → ℕ
bounded n = cond (nat_le n MAX_LEVELS) n (MAX_LEVELS + 1)

-- how many levels a tree is by itself
abbrev pub height_of : Production → Summary → ℕ
height_of f m = bounded (max (levels_of f + m.height) (lead_levels_of f + m.first_height))

-- how many levels the next part stands below what the production stands in
abbrev pub step_by : Production → Summary → ℕ
step_by f m = cond m.has_part (levels_of f) (lead_levels_of f)

abbrev pub first_form : Option LeftOut → Option LeftOut → Option LeftOut
first_form None b = b
first_form (Some x) b = Some x

-- what changes the value of its first part
unfoldable pub is_update : Production → Bool
is_update production.Assignment = true
is_update production.AssignmentNoIn = true
is_update production.OperatorAssignment = true
is_update production.OperatorAssignmentNoIn = true
is_update production.PostfixUpdate = true
is_update production.PrefixUpdate = true
is_update production.ForOf = true
is_update production.ForIn = true
is_update _ = false

-- what may have a literal as its first part that is an assignment pattern
unfoldable pub takes_pattern : Production → Bool
takes_pattern production.Assignment = true
takes_pattern production.AssignmentNoIn = true
takes_pattern production.ForOf = true
takes_pattern production.ForIn = true
takes_pattern _ = false

-- what has parameters as its first part
unfoldable pub takes_parameters : Production → Bool
takes_parameters production.ArrowFunction = true
takes_parameters production.ArrowFunctionNoIn = true
takes_parameters _ = false

-- what may yet be a pattern, and its parts with it
unfoldable pub is_undecided : Production → Bool
is_undecided production.ArrayLiteral = true
is_undecided production.CommaElement = true
is_undecided production.SpreadElement = true
is_undecided production.SpreadProperty = true
is_undecided production.ObjectLiteral = true
is_undecided production.NamedProperty = true
is_undecided production.KeyedProperty = true
is_undecided production.PropertyValue = true
is_undecided production.CoverParenthesized = true
is_undecided production.CoverComma = true
is_undecided _ = false

-- a part with `__proto__: v` stands as a value
abbrev pub has_proto_value : Production → Summary → Bool
has_proto_value f m = not (is_undecided f) && (m.proto_rest || cond (takes_pattern f) m.proto_value (not (takes_parameters f) && m.proto_first))

abbrev pub when : Bool → LeftOut → Option LeftOut
when true x = Some x
when false x = None

-- the form that is left out and that a production with these parts is
abbrev pub left_out_by : Production → Summary → Option LeftOut
left_out_by f m = first_form (form_of f) (first_form (when (is_update f && m.super_first) Super) (when (has_proto_value f m) Proto))

-- a form that is left out, in a production or in its parts
abbrev pub forms_in : Production → Summary → Option LeftOut
forms_in f m = first_form m.left_out (left_out_by f m)

abbrev pub outermost : Nesting
outermost = record { level = 0; left_out = None }

-- what is to be known around the next part of a production
abbrev pub nested : Production → Summary → Nesting → Nesting
nested f m b = record { level = cond (nat_le (b.level + height_of f m) MAX_LEVELS) (bounded (b.level + step_by f m)) (MAX_LEVELS + 1); left_out = first_form b.left_out (forms_in f m) }
