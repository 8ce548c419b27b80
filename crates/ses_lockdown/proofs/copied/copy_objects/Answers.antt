use Rattle.std.proofs.Common.{◌≡◌, ◌++◌, [], ◌∷◌, map, arith, ap, ◌∙◌, sym}
use Rattle.std.specs.List.{range_with_len}
use Rattle.std.proofs.lemmas.List.FromFn.{map-range_with_len_more}
use Rattle.ses_lockdown.specs.Intrinsics.{copied, copied_object}
use Rattle.ses_lockdown.specs.Permits.{count}
use Rattle.ses_lockdown.proofs.copied.copy_objects.Goals as goal

pub copy_object-requires : goal.copy_object-requires
unfolding count
copy_object-requires c = omega (arith, c.requires)

pub loop-place-preserved : goal.loop-place-preserved
loop-place-preserved c =
    let f = copied_object c.args.common.now in
    c.in_ok-copy_object.ensures ∙ ap (λ xs. xs ++ f c.loop-place.place ∷ []) c.loop-place.invariant ∙ sym (map-range_with_len_more f 0 c.loop-place.place c.loop-place.place (omega arith))

pub returns : goal.returns
unfolding copied count
returns c =
    let e : c.loop-place.place ≡ 222 = omega arith in
    c.loop-place.invariant ∙ ap (λ n. map (copied_object c.args.common.now) (range_with_len 0 n)) e
