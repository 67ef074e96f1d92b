use Rattle.std.proofs.Common.{◌≡◌, refl, length, take, drop, ap, ◌∙◌, arith}
use Rattle.protocol_laws.specs.Packed.{number_of_bytes}
use Rattle.bit_io.proofs.EightBytes.{sum_fits, put_back, word_added}
use Rattle.bit_io.proofs.words.add_word.Goals as goal

pub overflow_add-sum : goal.overflow_add-sum
overflow_add-sum c =
    let items = c.args.bytes.now.items in
    let part : c.word_at.result ≡ number_of_bytes (take 8 (drop c.args.first items)) = c.word_at.ensures.part ∙ ap (λ xs. number_of_bytes (take 8 (drop c.args.first xs))) c.as_slice.ensures.value in
    let fits = sum_fits items c.args.first c.word_at.result c.args.word c.requires.within part c.requires.fits in
    omega (arith, fits)

pub returns-clause-number : goal.returns-clause-number
returns-clause-number c =
    let items = c.args.bytes.now.items in
    let part : c.word_at.result ≡ number_of_bytes (take 8 (drop c.args.first items)) = c.word_at.ensures.part ∙ ap (λ xs. number_of_bytes (take 8 (drop c.args.first xs))) c.as_slice.ensures.value in
    let fits = sum_fits items c.args.first c.word_at.result c.args.word c.requires.within part c.requires.fits in
    let new : c.copy_from_slice.new.self ≡ c.to_le_bytes.result = c.copy_from_slice.ensures.after in
    let size : length c.copy_from_slice.new.self ≡ 8 = ap length (new ∙ c.to_le_bytes.ensures) in
    ap number_of_bytes (put_back items c.deref_mut.result.now c.copy_from_slice.new.self c.args.first _ c.args.bytes.now.len c.deref_mut.ensures.value (omega arith) size c.requires.within c.args.bytes.now.ok.0)
    ∙ word_added items c.copy_from_slice.new.self c.args.first c.word_at.result c.args.word _ c.requires.within part refl (new ∙ c.to_le_bytes.ensures) fits
