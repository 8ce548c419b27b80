-- What matches give, by their rows; and when clap takes the words of this command.
use Rattle.std.specs.Prelude.{◌≡◌, ◌≢◌, true, Some, None, List, [], ◌∷◌, refl}
use Rattle.std.proofs.Common.{sym, ap, ◌∙◌, subst, inl, inr}
use Rattle.clap.specs.Words.{App, HasMatchesOf, HasKind, Kinds, Row, Text, fault_of, first_of, first_value, found_of, is_simple_and_free, kind_of, matches_of, rows_of}
use Rattle.clap.specs.declared.error.Error.{Error}
use Rattle.clap.specs.declared.error.kind.ErrorKind.TheVariants as kind
use Rattle.clap.specs.declared.parser.matches.ArgMatches.{ArgMatches}
use Rattle.clap.specs.declared.parser.matches.Found.{Found}
use Rattle.clap.proofs.WalkLemmas.{first_value-rows}
use Rattle.lava_words.specs.Parsing.{Given, given, given_by, given_or, words_app}

pub first_value_rows : (f : Found) (id : Text) → first_value f id ≡ first_of id (rows_of f)
first_value_rows f id = first_value-rows f id

taken_as : (ws : List Text) (k : Kinds) (rows more : List Row) → k ≡ [] → rows ≡ more → Some (given_by rows) ≡ given_or k more
taken_as ws k rows more none same = ap (λ r. Some (given_by r)) same ∙ ap (λ x. given_or x more) (sym none)

-- clap took the words, so they give what its matches hold
pub taken : (a : App) (ws : List Text) (m : ArgMatches) (g : Given) → a ≡ words_app → (is_simple_and_free a ≡ true → fault_of a ws ≡ []) → HasMatchesOf a ws m → g ≡ given_by (rows_of (found_of m)) → Some g ≡ given ws
unfolding given
taken a ws m g is faultless matches by =
    ap Some by ∙ taken_as ws (fault_of words_app ws) (rows_of (found_of m)) (matches_of words_app ws)
    (subst (λ (a : App). (is_simple_and_free a ≡ true → fault_of a ws ≡ [])) is faultless refl)
    ((subst (λ (a : App). HasMatchesOf a ws m) is matches refl).0)

refused_by : (k : Kinds) (rows : List Row) (e : Error) → kind_of e ≢ kind.OutOfMemory → HasKind k e → None ≡ given_or k rows
refused_by [] rows e not_memory (inl memory) = absurd (not_memory memory)
refused_by [] rows e not_memory (inr among) = absurd among
refused_by (k ∷ ks) rows e not_memory has = refl

-- clap refused the words, and not for want of memory
pub refused : (a : App) (ws : List Text) (e : Error) → a ≡ words_app → kind_of e ≢ kind.OutOfMemory → (is_simple_and_free a ≡ true → HasKind (fault_of a ws) e) → None ≡ given ws
unfolding given
refused a ws e is not_memory has =
    refused_by (fault_of words_app ws) (matches_of words_app ws) e not_memory (subst (λ (a : App). (is_simple_and_free a ≡ true → HasKind (fault_of a ws) e)) is has refl)
