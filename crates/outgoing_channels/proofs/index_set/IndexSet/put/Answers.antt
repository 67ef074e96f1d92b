use Rattle.std.proofs.Common.{◌/◌, ◌==◌, ◌∙◌, ap, refl, arith, rules, ◌-◌, ◌^◌, if◌then◌else◌}
use Rattle.std.proofs.lemmas.List.{length-set, get_or_read}
use Rattle.reliable_window.specs.Bits.{bit_in}
use Rattle.outgoing_channels.proofs.Sets.{bit_written, follows, if_not}
use Rattle.outgoing_channels.proofs.index_set.IndexSet.put.Goals as goal

pub invariant_of-self : goal.invariant_of-self
invariant_of-self c =
    let words = c.self.inside.words.items in
    let place = c.args.index / 64 in
    let word = c.with_bit-word.result in (
      length-set words place word ∙ c.self.invariant.0,
      follows words c.self.inside.filled place _ word 0 c.with_bit.result (omega arith) c.self.invariant.0 (search rules) c.self.invariant.1 refl
          (c.with_bit.ensures.here ∙ if_not (word == 0)) c.with_bit.ensures.others,
      follows words c.self.inside.gaps place _ word (2 ^ 64 - 1) c.with_bit-2.result (omega arith) c.self.invariant.0 (search rules) c.self.invariant.2 refl
          (c.with_bit-2.ensures.here ∙ if_not (word == 2 ^ 64 - 1)) c.with_bit-2.ensures.others,
    )

pub returns : goal.returns
returns c = λ i.
    let words = c.self.inside.words.items in
    bit_written words c.args.index i c.index.result.now c.with_bit-word.result (if c.args.is_in then 1 else 0) (omega (arith, c.self.invariant.0))
    (get_or_read words (c.args.index / 64) c.index.result.now (omega (arith, c.self.invariant.0)) c.index.ensures 0)
    c.with_bit-word.ensures.here c.with_bit-word.ensures.others
    ∙ ap (λ (xs : _). if i == c.args.index then if c.args.is_in then 1 else 0 else bit_in xs i) c.self.view_is
