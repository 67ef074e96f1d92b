use Rattle.std.proofs.Common.{◌≡◌, ℕ, suc, ◌≤◌, ◌+◌, ◌-◌, ◌*◌, ◌/◌, ◌%◌, ◌^◌, ◌++◌, refl, subst, arith}
use Rattle.protocol_model.specs.Bits.{digits, packed_in, packed_bits}
use Rattle.bit_io.proofs.PackedWords.{word_more, word_last, few_groups, rest_below, word_below, word_fits}
use Rattle.bit_io.proofs.numbers.packed_word.Goals as goal

pub loop-rest-init : goal.loop-rest-init
unfolding digits
loop-rest-init c = record { spelling = refl; below = omega arith; whole = refl; bound = omega arith; rest = omega arith }

pub loop-rest-preserved : goal.loop-rest-preserved
loop-rest-preserved c =
    let i = c.loop-rest.invariant in
    let width = c.loop-rest.width in
    let word = c.loop-rest.word in
    let rest = c.loop-rest.rest in
    let group = 2 * (rest % 128) + 1 in
    let three : width / 8 ≤ 3 = few_groups (width / 8) rest (omega (arith, i.bound)) (omega arith) i.rest in
    let fits = word_fits width word group i.bound i.below (omega arith) in
    let whole : group * 2 ^ width % 18446744073709551616 ≡ group * 2 ^ width = omega (arith, fits) in
    let next : (width + 8) / 8 ≡ width / 8 + 1 = omega arith in
    let some : 5 - width / 8 ≡ suc (5 - (width + 8) / 8) = omega (arith, three) in
    record {
      spelling = rw whole (word_more width word rest (5 - (width + 8) / 8) _ i.below (omega arith) (subst (λ (m : ℕ). digits width word ++ packed_in m rest ≡ packed_bits c.args.value) some i.spelling));
      below = rw whole (word_below width word group i.below (omega arith));
      whole = omega (arith, i.whole);
      bound = omega (arith, three, i.whole);
      rest = rw next (rest_below (width / 8) rest three i.rest);
    }

pub overflow_add-word-2 : goal.overflow_add-word-2
overflow_add-word-2 c =
    let i = c.loop-rest.invariant in
    let fits = word_fits c.loop-rest.width c.loop-rest.word (2 * c.loop-rest.rest) i.bound i.below (omega arith) in
    omega (arith, fits)

pub returns-clause-below : goal.returns-clause-below
returns-clause-below c =
    let i = c.loop-rest.invariant in
    let group = 2 * c.loop-rest.rest in
    let fits = word_fits c.loop-rest.width c.loop-rest.word group i.bound i.below (omega arith) in
    let whole : group * 2 ^ c.loop-rest.width % 18446744073709551616 ≡ group * 2 ^ c.loop-rest.width = omega (arith, fits) in
    rw whole (word_below c.loop-rest.width c.loop-rest.word group i.below (omega arith))

pub returns-clause-spelling : goal.returns-clause-spelling
returns-clause-spelling c =
    let i = c.loop-rest.invariant in
    let width = c.loop-rest.width in
    let rest = c.loop-rest.rest in
    let group = 2 * rest in
    let fits = word_fits width c.loop-rest.word group i.bound i.below (omega arith) in
    let whole : group * 2 ^ width % 18446744073709551616 ≡ group * 2 ^ width = omega (arith, fits) in
    let some : 5 - width / 8 ≡ suc (4 - width / 8) = omega (arith, i.bound) in
    rw whole (word_last width c.loop-rest.word rest (4 - width / 8) _ i.below (omega arith) (subst (λ (m : ℕ). digits width c.loop-rest.word ++ packed_in m rest ≡ packed_bits c.args.value) some i.spelling))
