-- A name among the natives that are left.
use Rattle.std.proofs.Common.{◌≡◌, ℕ, ◌+◌, ◌<◌, ◌≤◌, true, false, cond, List, length, drop, get_or, ap, ◌∙◌}
use Rattle.std.proofs.Math.ListN.{drop_of_length-le}
use Rattle.std.proofs.lemmas.List.{drop_more}
use Rattle.js_text.specs.Natives.{native_name}
use Rattle.js_text.specs.Texts.{same_units}
use Rattle.js_text.specs.declared.native.Native.{Native}
use Rattle.lava_trace.specs.Asks.{native_from}

-- the native at a place has the name
pub native_here : (other : Native) (w : List ℕ) (ns : List Native) (n : ℕ) → n < length ns → same_units w (native_name (get_or ns n other)) ≡ true
    → native_from other w (drop n ns) ≡ get_or ns n other
unfolding native_from
native_here other w ns n h e =
    ap (native_from other w) (drop_more ns n other h) ∙ ap (λ b. cond b (get_or ns n other) (native_from other w (drop (n + 1) ns))) e

-- it has not
pub native_more : (other : Native) (w : List ℕ) (ns : List Native) (n : ℕ) → n < length ns → same_units w (native_name (get_or ns n other)) ≡ false
    → native_from other w (drop n ns) ≡ native_from other w (drop (n + 1) ns)
unfolding native_from
native_more other w ns n h e =
    ap (native_from other w) (drop_more ns n other h) ∙ ap (λ b. cond b (get_or ns n other) (native_from other w (drop (n + 1) ns))) e

-- none is left
pub native_none : (other : Native) (w : List ℕ) (ns : List Native) (n : ℕ) → length ns ≤ n → native_from other w (drop n ns) ≡ other
unfolding native_from
native_none other w ns n h = ap (native_from other w) (drop_of_length-le ns h)
