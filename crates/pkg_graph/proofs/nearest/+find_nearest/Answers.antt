use Rattle.std.proofs.Common.{◌≡◌, position, map, string_bytes, bytes_eq, ℕ, List, sym, ◌∙◌, ap, subst, false}
use Rattle.std.specs.Result.{IfOk}
use Rattle.std.specs.List.{list_any}
use Rattle.pkg_graph.specs.Worlds.{package_dir, standing_at, world_of, directories_above}
use Rattle.pkg_graph.specs.declared.nearest.Nearest.{Nearest}
use Rattle.pkg_graph.specs.declared.nearest.Nearest.TheVariants.{New}
use Rattle.pkg_graph.proofs.ReadingLemmas.{list_any-texts}
use Rattle.pkg_graph.proofs.NearestLemmas.{position-texts, nearest_known, nearest_is_new, nearest_is_above, nearest_ends}
use Rattle.pkg_graph.proofs.nearest.+find_nearest.Goals as goal

pub returns-in-Some-clause-gives : goal.returns-in-Some-clause-gives
returns-in-Some-clause-gives g t c = λ files told.
    let p = package_dir c.args.under.now c.args.name.now in
    let keys = c.args.dirs.now.keys in
    let dir : c.as_str.result.now ≡ p = c.as_str.ensures.value ∙ c.in_ok-dir.ensures in
    let is = sym (position-texts (bytes_eq p) keys) ∙ ap (λ (t : List ℕ). position (λ k. bytes_eq t (string_bytes k)) keys) (sym dir) ∙ sym c.get_index_of.ensures.index ∙ c.in-Some.is in
    nearest_known (world_of files c.args.root.now) (map string_bytes keys) c.args.under.now c.args.name.now c.in-Some.place is

pub returns-in-Some-standing-clause-gives : goal.returns-in-Some-standing-clause-gives
returns-in-Some-standing-clause-gives g t c = λ files told.
    let p = package_dir c.args.under.now c.args.name.now in
    let keys = c.args.dirs.now.keys in
    let dir : c.as_str.result.now ≡ p = c.as_str.ensures.value ∙ c.in_ok-dir.ensures in
    let new = sym (position-texts (bytes_eq p) keys) ∙ ap (λ (t : List ℕ). position (λ k. bytes_eq t (string_bytes k)) keys) (sym dir) ∙ sym c.get_index_of.ensures.index ∙ c.in-None.is in
    let again : c.as_str-in-None.result.now ≡ p = c.as_str-in-None.ensures.value ∙ c.in_ok-dir.ensures in
    let is = ap (standing_at files c.args.root.now) (sym again) ∙ sym (c.in_ok-standing-in-None.ensures.gives files told) ∙ c.in-Some-standing.is in
    let named : c.in_ok-of-in-Some-standing.field-0 ≡ p = c.in_ok-of-in-Some-standing.ensures ∙ c.as_str-in-Some-standing.ensures.value ∙ c.in_ok-dir.ensures in
    ap (λ (d : List ℕ). New d c.in-Some-standing.standing) named
    ∙ nearest_is_new (world_of files c.args.root.now) (map string_bytes keys) c.args.under.now c.args.name.now c.in-Some-standing.standing new is

pub returns-in-Some-standing-clause-placed : goal.returns-in-Some-standing-clause-placed
returns-in-Some-standing-clause-placed g t c =
    let p = package_dir c.args.under.now c.args.name.now in
    let keys = c.args.dirs.now.keys in
    let dir : c.as_str.result.now ≡ p = c.as_str.ensures.value ∙ c.in_ok-dir.ensures in
    let named : c.in_ok-of-in-Some-standing.field-0 ≡ p = c.in_ok-of-in-Some-standing.ensures ∙ c.as_str-in-Some-standing.ensures.value ∙ c.in_ok-dir.ensures in
    let absent : list_any (λ k. bytes_eq c.as_str.result.now (string_bytes k)) keys ≡ false = sym c.in-None.ensures.found in
    ap (λ (t : List ℕ). list_any (bytes_eq t) (map string_bytes keys)) (named ∙ sym dir) ∙ sym (list_any-texts (bytes_eq c.as_str.result.now) keys) ∙ absent

pub returns-in-None-above-clause-gives : goal.returns-in-None-above-clause-gives
returns-in-None-above-clause-gives g t c = λ files told.
    let p = package_dir c.args.under.now c.args.name.now in
    let keys = c.args.dirs.now.keys in
    let dir : c.as_str.result.now ≡ p = c.as_str.ensures.value ∙ c.in_ok-dir.ensures in
    let new = sym (position-texts (bytes_eq p) keys) ∙ ap (λ (t : List ℕ). position (λ k. bytes_eq t (string_bytes k)) keys) (sym dir) ∙ sym c.get_index_of.ensures.index ∙ c.in-None.is in
    let again : c.as_str-in-None.result.now ≡ p = c.as_str-in-None.ensures.value ∙ c.in_ok-dir.ensures in
    let none = ap (standing_at files c.args.root.now) (sym again) ∙ sym (c.in_ok-standing-in-None.ensures.gives files told) ∙ c.in-None-standing.is in
    nearest_ends (world_of files c.args.root.now) (map string_bytes keys) c.args.under.now c.args.name.now c.in-None-above.ensures.above new none

pub returns-clause-gives : goal.returns-clause-gives
returns-clause-gives g t c = λ files told.
    let p = package_dir c.args.under.now c.args.name.now in
    let keys = c.args.dirs.now.keys in
    let dir : c.as_str.result.now ≡ p = c.as_str.ensures.value ∙ c.in_ok-dir.ensures in
    let new = sym (position-texts (bytes_eq p) keys) ∙ ap (λ (t : List ℕ). position (λ k. bytes_eq t (string_bytes k)) keys) (sym dir) ∙ sym c.get_index_of.ensures.index ∙ c.in-None.is in
    let again : c.as_str-in-None.result.now ≡ p = c.as_str-in-None.ensures.value ∙ c.in_ok-dir.ensures in
    let none = ap (standing_at files c.args.root.now) (sym again) ∙ sym (c.in_ok-standing-in-None.ensures.gives files told) ∙ c.in-None-standing.is in
    let e = nearest_is_above (world_of files c.args.root.now) (map string_bytes keys) c.args.under.now c.args.name.now (directories_above c.in-Some-above.up.now) c.in-Some-above.ensures.above new none in
    subst (λ (r : Nearest). IfOk c.find_nearest.result (λ n. n ≡ r)) (sym e) (c.find_nearest.ensures.gives files (c.in_ok-standing-in-None.ensures.tells ∙ told))
