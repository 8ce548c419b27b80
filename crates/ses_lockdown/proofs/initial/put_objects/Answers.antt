use Rattle.std.proofs.Common.{◌≡◌, ◌++◌, [], ◌∷◌, map, arith, ap, ◌∙◌, sym}
use Rattle.std.specs.List.{range_with_len}
use Rattle.std.proofs.lemmas.List.FromFn.{map-range_with_len_more}
use Rattle.ses_lockdown.specs.Intrinsics.{initial_object, initial_objects}
use Rattle.ses_lockdown.specs.Permits.{count}
use Rattle.ses_lockdown.proofs.initial.put_objects.Goals as goal

pub loop-at-preserved : goal.loop-at-preserved
loop-at-preserved c = c.in_ok-put_object.ensures ∙ ap (λ xs. xs ++ initial_object c.loop-at.at ∷ []) c.loop-at.invariant ∙ sym (map-range_with_len_more initial_object 0 c.loop-at.at c.loop-at.at (omega arith))

pub returns : goal.returns
unfolding initial_objects count
returns c =
    let e : c.loop-at.at ≡ 222 = omega arith in
    c.loop-at.invariant ∙ ap (λ n. map initial_object (range_with_len 0 n)) e
