-- A stack of terms that are being made, the last one first, and the forms that take their operands from it.
use Rattle.std.specs.Prelude.{List, [], ◌∷◌, ◌++◌, Option, Some, None}
use Rattle.js_term.specs.declared.term.Arguments.{Arguments}
use Rattle.js_term.specs.declared.term.Arguments.TheVariants as args
use Rattle.js_term.specs.declared.term.Part.{Part}
use Rattle.js_term.specs.declared.term.Part.TheVariants as part
use Rattle.js_term.specs.declared.term.Template.{Template}
use Rattle.js_term.specs.declared.term.Term.{Term}
use Rattle.js_term.specs.declared.term.Term.TheVariants as term
use Rattle.js_term_stack.specs.declared.pending.Pending.{Pending}
use Rattle.js_term_stack.specs.declared.pending.Pending.TheVariants as pending
use Rattle.js_term_stack.specs.declared.piece.Piece.{Piece}
use Rattle.js_term_stack.specs.declared.piece.Piece.TheVariants as piece

abbrev pub Stack : Type 0
Stack = List Piece

abbrev pub swapped : Stack → Stack
swapped (a ∷ b ∷ r) = b ∷ a ∷ r
swapped s = []

-- WHAT IS TAKEN: a form whose operands do not stand there makes nothing

abbrev pub taken : (Term → Stack → Stack) → Stack → Stack
taken f (piece.OneTerm t ∷ r) = f t r
taken f s = []

abbrev pub taken_maybe : (Option Term → Stack → Stack) → Stack → Stack
taken_maybe f (piece.MaybeTerm t ∷ r) = f t r
taken_maybe f s = []

abbrev pub taken_list : (List Term → Stack → Stack) → Stack → Stack
taken_list f (piece.TermList l ∷ r) = f l r
taken_list f s = []

abbrev pub taken_parts : (List Part → Stack → Stack) → Stack → Stack
taken_parts f (piece.PartList l ∷ r) = f l r
taken_parts f s = []

abbrev pub taken_arguments : (Arguments → Stack → Stack) → Stack → Stack
taken_arguments f (piece.ArgumentList a ∷ r) = f a r
taken_arguments f s = []

abbrev pub taken_template : (Template → Stack → Stack) → Stack → Stack
taken_template f (piece.OneTemplate t ∷ r) = f t r
taken_template f s = []

abbrev pub taken_maybe_template : (Option Template → Stack → Stack) → Stack → Stack
taken_maybe_template f (piece.MaybeTemplate t ∷ r) = f t r
taken_maybe_template f s = []

abbrev pub taken_pending : (Pending → Stack → Stack) → Stack → Stack
taken_pending f (piece.OnePending c ∷ r) = f c r
taken_pending f s = []

-- TERMS

abbrev pub on_one : (Term → Term) → Stack → Stack
on_one f s = taken (λ a r. piece.OneTerm (f a) ∷ r) s

abbrev pub on_two : (Term → Term → Term) → Stack → Stack
on_two f s = taken (λ b. on_one (λ a. f a b)) s

abbrev pub on_three : (Term → Term → Term → Term) → Stack → Stack
on_three f s = taken (λ c. on_two (λ a b. f a b c)) s

-- an assignment whose value is made before its object and key
abbrev pub put_first : Stack → Stack
put_first s = taken (λ k. taken (λ o. on_one (λ v. term.Put o k v))) s

abbrev pub some_term : Stack → Stack
some_term s = taken (λ t r. piece.MaybeTerm (Some t) ∷ r) s

abbrev pub on_maybe : (Option Term → Term) → Stack → Stack
on_maybe f s = taken_maybe (λ a r. piece.OneTerm (f a) ∷ r) s

abbrev pub chosen : Stack → Stack
chosen s = taken_maybe (λ c. on_two (λ a b. term.If a b c)) s

abbrev pub tried : Stack → Stack
tried s = taken_maybe (λ f. taken_maybe (λ h. on_one (λ b. term.Try b h f))) s

abbrev pub looped : (Term → Option Term → Term → Term) → Stack → Stack
looped f s = taken (λ b. taken_maybe (λ u. on_one (λ t. f t u b))) s

-- LISTS OF TERMS

-- more terms at the end of the list that stands last
abbrev pub extended : List Term → Stack → Stack
extended ts (piece.TermList l ∷ r) = piece.TermList (l ++ ts) ∷ r
extended ts s = s

abbrev pub appended : Stack → Stack
appended s = taken (λ t. extended (t ∷ [])) s

abbrev pub on_list : (List Term → Term) → Stack → Stack
on_list f s = taken_list (λ l r. piece.OneTerm (f l) ∷ r) s

abbrev pub listed_two : Stack → Stack
listed_two s = taken (λ b. taken (λ a r. piece.TermList (a ∷ b ∷ []) ∷ r)) s

abbrev pub listed_three : Stack → Stack
listed_three s = taken (λ c. taken (λ b. taken (λ a r. piece.TermList (a ∷ b ∷ c ∷ []) ∷ r))) s

-- PARTS

-- more parts at the end of the list that stands last
abbrev pub extended_parts : List Part → Stack → Stack
extended_parts ps (piece.PartList l ∷ r) = piece.PartList (l ++ ps) ∷ r
extended_parts ps s = s

abbrev pub term_part : (Term → Part) → Stack → Stack
term_part f s = taken (λ t. extended_parts (f t ∷ [])) s

abbrev pub data_part : Stack → Stack
data_part s = taken (λ v. taken (λ k. extended_parts (part.Data k v ∷ []))) s

abbrev pub function_part : (Term → Template → Part) → Stack → Stack
function_part f s = taken_template (λ t. taken (λ k. extended_parts (f k t ∷ []))) s

abbrev pub defined : Stack → Stack
defined s = taken_parts (λ l. on_one (λ o. term.Define o l)) s

-- CALLS

abbrev pub listed : Stack → Stack
listed s = taken_list (λ l r. piece.ArgumentList (args.Listed l) ∷ r) s

abbrev pub spread_out : Stack → Stack
spread_out s = taken (λ t r. piece.ArgumentList (args.Of t) ∷ r) s

abbrev pub on_arguments : (Arguments → Term) → Stack → Stack
on_arguments f s = taken_arguments (λ a r. piece.OneTerm (f a) ∷ r) s

abbrev pub called : (Term → Arguments → Term) → Stack → Stack
called f s = taken_arguments (λ a. on_one (λ t. f t a)) s

abbrev pub called_on : Stack → Stack
called_on s = taken_arguments (λ a. on_two (λ o k. term.CallOn o k a)) s

-- FUNCTIONS AND CLASSES

abbrev pub on_template : (Template → Term) → Stack → Stack
on_template f s = taken_template (λ t r. piece.OneTerm (f t) ∷ r) s

abbrev pub some_template : Stack → Stack
some_template s = taken_template (λ t r. piece.MaybeTemplate (Some t) ∷ r) s

abbrev pub classed : (Option Term → Option Template → List Part → Term) → Stack → Stack
classed f s = taken_parts (λ l. taken_maybe_template (λ c. taken_maybe (λ p r. piece.OneTerm (f p c l) ∷ r))) s

-- CHAINS

abbrev pub referenced : Stack → Stack
referenced s = taken (λ k. taken (λ o r. piece.OnePending (pending.Reference o k) ∷ r)) s

abbrev pub super_referenced : Stack → Stack
super_referenced s = taken (λ k r. piece.OnePending (pending.SuperReference k) ∷ r) s

abbrev pub settled_chain : Stack → Stack
settled_chain s = taken (λ t r. piece.OnePending (pending.Settled t) ∷ r) s
