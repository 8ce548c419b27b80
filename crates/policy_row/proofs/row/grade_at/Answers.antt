-- The first entry of the name is the one that is found.
use Rattle.std.proofs.Common.{◌≡◌, ◌∙◌, sym, ap, bytes_eq, true, false, subst, ◌<◌, length, get_or}
use Rattle.policy_row.proofs.Entries_laws.{found_at, passed_at}
use Rattle.policy_row.proofs.row.grade_at.Goals as goal

pub returns-then-eq : goal.returns-then-eq
returns-then-eq c =
    let es = c.args.entries.now in
    let name = c.args.name.now in
    let i = c.loop-other.other-index in
    let e = c.loop-other-item.result in
    let slice : c.as_slice-other-items.result.now ≡ es = c.as_slice-other-items.ensures in
    let here : e ≡ get_or es i e = c.loop-other-item.is ∙ ap (λ xs. get_or xs i e) slice in
    let lt : i < length es = subst (λ xs. i < length xs) slice c.loop-other-test.true in
    let same : bytes_eq name e.0 ≡ true = sym (ap (λ x. bytes_eq name x) c.as_str.ensures) ∙ sym c.eq.ensures ∙ c.if-eq.true in
    sym (found_at name es i e lt here same) ∙ c.loop-other.invariant

pub loop-other-preserved : goal.loop-other-preserved
loop-other-preserved c =
    let es = c.args.entries.now in
    let name = c.args.name.now in
    let i = c.loop-other.other-index in
    let e = c.loop-other-item.result in
    let slice : c.as_slice-other-items.result.now ≡ es = c.as_slice-other-items.ensures in
    let here : e ≡ get_or es i e = c.loop-other-item.is ∙ ap (λ xs. get_or xs i e) slice in
    let lt : i < length es = subst (λ xs. i < length xs) slice c.loop-other-test.true in
    let other : bytes_eq name e.0 ≡ false = sym (ap (λ x. bytes_eq name x) c.as_str.ensures) ∙ sym c.eq.ensures ∙ c.if-eq.false in
    passed_at name es i e lt here other ∙ c.loop-other.invariant
