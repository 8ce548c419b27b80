-- The reading of the packages that wait, one after the other.
use Rattle.std.proofs.Common.{◌≡◌, ℕ, zero, suc, List, [], ◌∷◌, length, Result, Ok, Err, refl, sym, ap, ◌∙◌, subst}
use Rattle.pkg_graph.specs.Worlds.{World}
use Rattle.pkg_graph.specs.Faults.{Leaves}
use Rattle.pkg_graph.specs.Reading.{Reading, links_from, with_links, then_on, read_on}
use Rattle.pkg_graph.specs.declared.link.Link.{Link}
use Rattle.pkg_graph.specs.declared.waiting.Waiting.{Waiting}
use Rattle.pkg_graph.specs.declared.fault.GraphFault.{GraphFault}
use Rattle.pkg_graph.specs.declared.fault.GraphFault.TheVariants.{Manifest, Folder, TooMany, OutOfMemory}

-- no package waits
pub read_on_ends : (world : World) (n : ℕ) (r : Reading) → r.waiting ≡ [] → read_on world n r ≡ Ok (r, tt)
unfolding read_on
read_on_ends world zero r none = refl
read_on_ends world (suc n) r none = rw none refl

pub read_on_zero : (world : World) (n : ℕ) (r : Reading) → n ≡ 0 → read_on world n r ≡ Ok (r, tt)
unfolding read_on
read_on_zero world n r is = rw is refl

-- the first that waits, and then the others
pub read_on_then : (world : World) (n k : ℕ) (r taken : Reading) (next : Waiting) (waiting : List Waiting) → n ≡ suc k → r.waiting ≡ next ∷ waiting → taken ≡ record r { waiting = waiting } → read_on world n r ≡ then_on (links_from world (length taken.links) next.dir taken [] next.names) (λ s. read_on world k (with_links s.0 s.1))
unfolding read_on
read_on_then world n k r taken next waiting count is others =
    let here : read_on world n r ≡ then_on (links_from world (length r.links) next.dir (record r { waiting = waiting }) [] next.names) (λ s. read_on world k (with_links s.0 s.1)) = rw (count, is) refl in
    here ∙ ap (λ (t : Reading). then_on (links_from world (length t.links) next.dir t [] next.names) (λ s. read_on world k (with_links s.0 s.1))) (sym others)

pub then_on_ok : {S T : Type 0} (r : Result S GraphFault) (s : S) (on : S → Result T GraphFault) → r ≡ Ok s → then_on r on ≡ on s
then_on_ok r s on is = rw is refl

-- what fails first is what is answered
pub then_on_err : {S T U : Type 0} (expected : Result (S × T) GraphFault) (on : S × T → Result (S × U) GraphFault) (after last : S) (fault : GraphFault) → Leaves {S = S} {T = T} expected after (Err fault) → Leaves {S = S} {T = U} (then_on expected on) last (Err fault)
then_on_err expected on after last (Manifest dir field) h = rw h refl
then_on_err expected on after last Folder h = tt
then_on_err expected on after last (TooMany what count) h = rw h refl
then_on_err expected on after last OutOfMemory h = tt

-- the first that waits has its links, and the others go on
pub read_on_goes : (world : World) (n k : ℕ) (r taken after last : Reading) (next : Waiting) (waiting : List Waiting) (at : ℕ) (links : List Link) (x : Result (Reading × Unit {0}) GraphFault) → n ≡ suc k → r.waiting ≡ next ∷ waiting → taken ≡ record r { waiting = waiting } → at ≡ length taken.links → x ≡ read_on world n r → links_from world at next.dir taken [] next.names ≡ Ok (after, links) → last ≡ with_links after links → x ≡ read_on world k last
read_on_goes world n k r taken after last next waiting at links x count is others place so_far gives more =
    let on : Reading × List Link → Result (Reading × Unit {0}) GraphFault = λ s. read_on world k (with_links s.0 s.1) in
    let there = ap (λ (m : ℕ). links_from world m next.dir taken [] next.names) (sym place) ∙ gives in
    so_far ∙ read_on_then world n k r taken next waiting count is others ∙ then_on_ok _ (after, links) on there ∙ ap (read_on world k) (sym more)

-- the links of the first that waits fail, and so do all
pub read_on_fails : (world : World) (n k : ℕ) (r taken after : Reading) (next : Waiting) (waiting : List Waiting) (at : ℕ) (fault : GraphFault) (x : Result (Reading × Unit {0}) GraphFault) (answer : Result (Unit {0}) GraphFault) → n ≡ suc k → r.waiting ≡ next ∷ waiting → taken ≡ record r { waiting = waiting } → at ≡ length taken.links → x ≡ read_on world n r → answer ≡ Err fault → Leaves {S = Reading} {T = List Link} (links_from world at next.dir taken [] next.names) after (Err fault) → Leaves x after answer
read_on_fails world n k r taken after next waiting at fault x answer count is others place so_far says fails =
    let on : Reading × List Link → Result (Reading × Unit {0}) GraphFault = λ s. read_on world k (with_links s.0 s.1) in
    let there = subst (λ (m : ℕ). Leaves {S = Reading} {T = List Link} (links_from world m next.dir taken [] next.names) after (Err fault)) place fails in
    let e = so_far ∙ read_on_then world n k r taken next waiting count is others in
    let last = then_on_err (links_from world (length taken.links) next.dir taken [] next.names) on after after fault there in
    subst (λ (y : Result (Reading × Unit {0}) GraphFault). Leaves y after answer) (sym e)
    (subst (λ (a : Result (Unit {0}) GraphFault). Leaves (then_on (links_from world (length taken.links) next.dir taken [] next.names) on) after a) (sym says) last)
