-- What is left behind one field after the other.
use Rattle.std.proofs.Common.{codes, ap, ◌∙◌}
use Rattle.lava_trace.specs.Left.{Left, skipped}
use Rattle.lava_trace.specs.Items.{fields_at, flag_at, function_at, value_field_at}
use Rattle.lava_trace.proofs.left.LineReader.fields.Goals as goal

pub returns-clause-left : goal.returns-clause-left
unfolding fields_at
returns-clause-left c =
    c.skip-2.ensures
    ∙ ap (λ (s : Left). skipped 1 s)
    (c.flag-configurable.ensures.left ∙ ap (λ (s : Left). (flag_at (codes "configurable=") s).1)
    (c.flag-enumerable.ensures.left ∙ ap (λ (s : Left). (flag_at (codes "enumerable=") s).1)
    (c.flag-writable.ensures.left ∙ ap (λ (s : Left). (flag_at (codes "writable=") s).1)
    (c.in_ok-set.ensures.left ∙ ap (λ (s : Left). (function_at (codes "set=") s).1)
    (c.in_ok-get.ensures.left ∙ ap (λ (s : Left). (function_at (codes "get=") s).1)
    (c.in_ok-value.ensures.left ∙ ap (λ (s : Left). (value_field_at s).1) c.skip.ensures))))))
