use Rattle.std.proofs.Common.{◌≡◌, ◌+◌, ◌-◌, ◌*◌, min, get_or, drop, arith, ◌∙◌, ap}
use Rattle.script_model.specs.Script.{digits_value}
use Rattle.script_model.proofs.Numbers.{capped_step}
use Rattle.script_spelling.specs.Capped.{most_size}
use Rattle.script_spelling.proofs.numbers.capped_value.Goals as goal

pub loop-digit-preserved : goal.loop-digit-preserved
loop-digit-preserved c =
    let text = c.args.text.now in
    let i = c.loop-digit.digit-index in
    let v = c.loop-digit.value in
    let e : c.with_digit-value.result ≡ min most_size (10 * v + (get_or text i 0 - 48)) = cc in (
      omega (arith, e),
      ap (λ n. min most_size (digits_value n (drop (i + 1) text))) e
          ∙ (capped_step most_size v i text (omega arith) ∙ c.loop-digit.invariant.1),
    )
