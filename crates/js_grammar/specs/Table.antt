-- What the table says, read from the data of the program.
use Rattle.std.specs.Prelude.{zero, suc, ℕ, Bool, true, false, not, ◌&&◌, ◌||◌, nat_eq, nat_le, cond, get_or, List, [], ◌∷◌, Option, Some, None}
use denote.Enum.Declared.{tag_of}
use Rattle.js_grammar.specs.contracts.symbols.Production.{the_type as the_productions}
use Rattle.js_grammar.specs.contracts.symbols.Nonterminal.{the_type as the_nonterminals}
use Rattle.js_grammar.specs.contracts.symbols.Terminal.{the_type as the_terminals}
use Rattle.js_grammar.specs.declared.left_out.LeftOut.{LeftOut}
use Rattle.js_grammar.specs.declared.symbols.Terminal.{Terminal}
use Rattle.js_grammar.specs.declared.symbols.Terminal.TheVariants as terminal
use Rattle.js_grammar.specs.declared.symbols.Nonterminal.{Nonterminal}
use Rattle.js_grammar.specs.declared.symbols.Production.{Production}
use Rattle.js_grammar.specs.declared.symbols.Production.TheVariants as production
use Rattle.js_grammar.specs.declared.constituents.Terminals.{Terminals}
use Rattle.js_grammar.specs.declared.constituents.Terminals.TheVariants.{Is, Between, Either}
use Rattle.js_grammar.specs.declared.constituents.Constituent.{Constituent}
use Rattle.js_grammar.specs.declared.constituents.Constituent.TheVariants.{Part}
use Rattle.js_grammar.specs.declared.constituents.Productions.{Productions}
use Rattle.js_grammar.specs.declared.constituents.Productions.TheVariants.{Run, Runs}
use Rattle.js_grammar.specs.declared.constituents.Lookahead.{Lookahead}
use Rattle.js_grammar.specs.declared.constituents.Lookahead.TheVariants.{Any, NotBrace, NotDeclaration, SameLine}
use Rattle.js_grammar.specs.declared.constituents.NonterminalRow.{NonterminalRow}
use Rattle.js_grammar.specs.declared.rules.Opening.{Opening}
use Rattle.js_grammar.specs.declared.rules.Opening.TheVariants.{Nothing, One, Both}
use Rattle.js_grammar.specs.declared.table.TheConstants.{RULES, LEVELS, LEFT_OUT, NONTERMINALS, LAST}
use Rattle.js_grammar.specs.declared.heads.TheConstants.{HEADS}

-- the places of productions, nonterminals and terminals among all
abbrev pub place_of : Production → ℕ
place_of f = tag_of the_productions f

abbrev pub index_of : Nonterminal → ℕ
index_of c = tag_of the_nonterminals c

abbrev pub number_of : Terminal → ℕ
number_of k = tag_of the_terminals k

-- the parts of a production
abbrev pub parts_at : List (Production × record { now : List Constituent }) → ℕ → List Constituent
parts_at [] n = []
parts_at (x ∷ xs) zero = x.1.now
parts_at (x ∷ xs) (suc n) = parts_at xs n

-- ECMA-262 Grammar Summary
unfoldable pub rule_of : Production → List Constituent
rule_of f = parts_at RULES (place_of f)

-- how many levels a production is by itself
-- own: nesting is limited, and ECMA-262 has no limit
unfoldable pub levels_of : Production → ℕ
levels_of f = get_or LEVELS (place_of f) 0

-- the form that a production is, of those that the language leaves out of ECMA-262
-- own: what the language leaves out is named where it stands
unfoldable pub form_of : Production → Option LeftOut
form_of f = get_or LEFT_OUT (place_of f) None

-- how many levels its first part stands below what the production stands in: with an `else` an `if` is still one statement, and with
-- arguments a `new` is still one operator
unfoldable pub lead_levels_of : Production → ℕ
lead_levels_of production.IfElseStatement = 0
lead_levels_of production.NewWithArguments = 0
lead_levels_of f = levels_of f

abbrev pub between : ℕ → ℕ → ℕ → Bool
between a b n = nat_le a n && nat_le n b

unfoldable pub stands_of : Terminals → Terminal → Bool
stands_of (Is k) x = nat_eq (number_of k) (number_of x)
stands_of (Between a b) x = between (number_of a) (number_of b) (number_of x)
stands_of (Either a b c d) x = between (number_of a) (number_of b) (number_of x) || between (number_of c) (number_of d) (number_of x)

-- the terminal of a token without regard to the next one
unfoldable pub plain_of : Terminal → Terminal
plain_of terminal.Get = terminal.Name
plain_of terminal.Set = terminal.Name
plain_of terminal.AsyncOf = terminal.Name
plain_of terminal.NameColon = terminal.Name
plain_of terminal.ProtoColon = terminal.Name
plain_of terminal.OfColon = terminal.Of
plain_of terminal.TargetColon = terminal.Target
plain_of terminal.NewDot = terminal.New
plain_of terminal.StaticKey = terminal.Static
plain_of terminal.ProtoString = terminal.String
plain_of terminal.CommaRest = terminal.Comma
plain_of k = k

unfoldable pub members_of : Productions → Production → Bool
members_of (Run a b) f = between (place_of a) (place_of b) (place_of f)
members_of (Runs a b c d) f = between (place_of a) (place_of b) (place_of f) || between (place_of c) (place_of d) (place_of f)

-- a list is over after one of these
unfoldable pub ends_of : Production → Bool
ends_of f = members_of LAST f

-- what the first token of a part may be
-- ECMA-262 Lookahead Restrictions
unfoldable pub guards : Lookahead → Terminal → Bool → Bool
guards Any k l = true
guards NotBrace terminal.LeftBrace l = false
guards NotBrace _ l = true
guards NotDeclaration terminal.LeftBrace l = false
guards NotDeclaration terminal.Function l = false
guards NotDeclaration terminal.Class l = false
guards NotDeclaration terminal.OfColon l = false
guards NotDeclaration terminal.NameColon l = false
guards NotDeclaration terminal.ProtoColon l = false
guards NotDeclaration terminal.TargetColon l = false
guards NotDeclaration _ l = true
guards SameLine k l = not l

-- a nonterminal's productions, those that a partial tree of it may have, how it may begin, and which of its productions begins by a part
abbrev pub no_form : Productions
no_form = Run production.Source production.NewMemberName

abbrev pub may_at : List NonterminalRow → ℕ → Productions
may_at [] n = no_form
may_at (x ∷ xs) zero = x.may
may_at (x ∷ xs) (suc n) = may_at xs n

abbrev pub has_at : List NonterminalRow → ℕ → Productions
has_at [] n = no_form
has_at (x ∷ xs) zero = x.has
has_at (x ∷ xs) (suc n) = has_at xs n

abbrev pub guard_at : List NonterminalRow → ℕ → Lookahead
guard_at [] n = Any
guard_at (x ∷ xs) zero = x.lookahead
guard_at (x ∷ xs) (suc n) = guard_at xs n

abbrev pub through_at : List NonterminalRow → ℕ → Option Production
through_at [] n = None
through_at (x ∷ xs) zero = x.through
through_at (x ∷ xs) (suc n) = through_at xs n

unfoldable pub may_members : Nonterminal → Productions
may_members c = may_at NONTERMINALS (index_of c)

unfoldable pub has_members : Nonterminal → Productions
has_members c = has_at NONTERMINALS (index_of c)

unfoldable pub guard_at_start : Nonterminal → Lookahead
guard_at_start c = guard_at NONTERMINALS (index_of c)

abbrev pub may_of : Nonterminal → Production → Bool
may_of c f = members_of (may_members c) f

abbrev pub has_of : Nonterminal → Production → Bool
has_of c f = members_of (has_members c) f

abbrev pub guard_of : Nonterminal → Terminal → Bool → Bool
guard_of c k l = guards (guard_at_start c) k l

unfoldable pub inner_of : Nonterminal → Option Production
inner_of c = through_at NONTERMINALS (index_of c)

-- the productions that begin by a terminal, and those that go on by it behind their first part
abbrev pub heads_at : List (Terminal × record { now : List Production } × record { now : List Production }) → ℕ → List Production
heads_at [] n = []
heads_at (x ∷ xs) zero = x.1.now
heads_at (x ∷ xs) (suc n) = heads_at xs n

abbrev pub goes_on_at : List (Terminal × record { now : List Production } × record { now : List Production }) → ℕ → List Production
goes_on_at [] n = []
goes_on_at (x ∷ xs) zero = x.2.now
goes_on_at (x ∷ xs) (suc n) = goes_on_at xs n

unfoldable pub heads_of : Terminal → List Production
heads_of k = heads_at HEADS (number_of k)

unfoldable pub operators_at : Terminal → List Production
operators_at k = goes_on_at HEADS (number_of k)

-- which operator a tree goes on as
abbrev pub firsts_of : List Constituent → Production → Bool
firsts_of (Part d ∷ ps) h = has_of d h
firsts_of _ h = false

abbrev pub chosen : Bool → Production → Option Production → Option Production
chosen true f o = Some f
chosen false f o = o

abbrev pub pick : Nonterminal → Production → List Production → Option Production
pick c h [] = None
pick c h (f ∷ fs) = chosen (may_of c f && firsts_of (rule_of f) h) f (pick c h fs)

unfoldable pub wrap_of : Nonterminal → Production → Terminal → Option Production
wrap_of c h k = pick c h (operators_at k)

-- which productions a lexeme opens where a nonterminal is wanted, the outermost first
abbrev pub first_in : Nonterminal → List Production → Option Production
first_in c [] = None
first_in c (f ∷ fs) = chosen (may_of c f) f (first_in c fs)

abbrev pub one_of : Option Production → List Production
one_of None = []
one_of (Some f) = f ∷ []

abbrev pub behind_form : Production → List Production → List Production
behind_form f [] = []
behind_form f (h ∷ hs) = f ∷ h ∷ hs

abbrev pub opened_by : Production → List Constituent → Terminal → Bool → List Production
opened_by f (Part d ∷ ps) k l = cond (guard_of d k l) (behind_form f (one_of (first_in d (heads_of k)))) []
opened_by f _ k l = []

abbrev pub opened_in : Option Production → Terminal → Bool → List Production
opened_in None k l = []
opened_in (Some f) k l = opened_by f (rule_of f) k l

abbrev pub opens_with : Option Production → Nonterminal → Terminal → Bool → List Production
opens_with None c k l = opened_in (inner_of c) k l
opens_with (Some f) c k l = f ∷ []

unfoldable pub opens_of : Nonterminal → Terminal → Bool → List Production
opens_of c k l = opens_with (first_in c (heads_of k)) c k l

unfoldable pub start_of : Nonterminal → Terminal → Bool → List Production
start_of c k l = cond (guard_of c k l) (opens_of c k l) []

abbrev pub forms_of : Opening → List Production
forms_of Nothing = []
forms_of (One f) = f ∷ []
forms_of (Both f h) = f ∷ h ∷ []
