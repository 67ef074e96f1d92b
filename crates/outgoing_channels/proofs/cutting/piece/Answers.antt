use Rattle.std.proofs.Common.{◌≡◌, ◌∙◌, ℕ, ◌*◌, ◌+◌, ◌-◌, length, min, ap, subst, drop, Some}
use Rattle.protocol_model.specs.Numbers.{leading_bits}
use Rattle.bit_io.specs.Lent.{bits_left, slice_bits}
use Rattle.outgoing_channels.proofs.Pieces.{taken, piece_taken, kept_as}
use Rattle.outgoing_channels.proofs.cutting.piece.Goals as goal

pub returns : goal.returns
returns c =
    let p = c.cut-place.ensures in
    let start : c.cut-place.result.start ≡ 7000 * c.args.i = ap (λ (q : _). q.start) p in
    let end : c.cut-place.result.end ≡ min (length c.args.payload.now) (7000 * c.args.i + 7000) =
    ap (λ (q : _). q.end) p ∙ ap (λ (k : ℕ). min k (7000 * c.args.i + 7000)) c.len.ensures in
    let whole = c.reader-reader.ensures.left ∙ c.lend.ensures in
    let rest : bits_left c.take.new.self ≡ drop (7000 * c.args.i) c.args.payload.now =
    (taken c.cut-place.result.start _ _ _ c.in-Ok.ensures.exact).1 ∙ ap (λ (k : ℕ). drop k (bits_left c.reader-reader.result)) start ∙ ap (drop (7000 * c.args.i)) whole in
    let count : c.cut-place.result.end - c.cut-place.result.start ≡ min (length c.args.payload.now) (7000 * c.args.i + 7000) - 7000 * c.args.i =
    ap (λ (k : ℕ). k - c.cut-place.result.start) end ∙ ap (λ (k : ℕ). min (length c.args.payload.now) (7000 * c.args.i + 7000) - k) start in
    kept_as c.keep.result (slice_bits c.in-Ok-take.bits) _
    (piece_taken c.args.payload.now (bits_left c.take.new.self) (slice_bits c.in-Ok-take.bits) (bits_left c.take-2.new.self) c.args.i rest
    (subst (λ (k : ℕ). leading_bits k (bits_left c.take.new.self) ≡ Some (slice_bits c.in-Ok-take.bits, bits_left c.take-2.new.self)) count c.in-Ok-take.ensures.exact))
    c.keep.ensures
