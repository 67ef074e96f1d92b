use Rattle.std.proofs.Common.{◌≡◌, ℕ, None, Err, length, sym, ap, ◌∙◌, subst}
use Rattle.protocol_model.specs.declared.NumRefusal.{NumRefusal}
use Rattle.protocol_model.specs.declared.Kind.{Kind}
use Rattle.protocol_model.specs.Reading.{Broken}
use Rattle.connection_model.specs.PayloadReading.{value_at}
use Rattle.value_codec.specs.Values.{whole_of}
use Rattle.value_codec.specs.declared.value.Value.{Value}
use Rattle.bit_io.specs.declared.lent.BitReader.{BitReader}
use Rattle.bit_io.specs.Lent.{bits_left}
use Rattle.payload_reading.specs.Reads.{Follows, stop_of}
use Rattle.payload_reading.specs.declared.stop.Stop.{Stop}
use Rattle.value_laws.specs.Alike.{as_payload}
use Rattle.value_laws.proofs.Values.{value_as}
use Rattle.payload_reading.proofs.fields.value.Goals as goal

stopped : (kind : Kind) (old new : BitReader) (left : ℕ) (why : NumRefusal) → left ≡ length (bits_left old)
    → value_at kind (bits_left old) ≡ as_payload (length (bits_left old)) (Err why)
    → Follows {A = Value} whole_of (value_at kind) old new (Err (stop_of left why))
stopped kind old new left NumRefusal.Short l e = e
stopped kind old new left NumRefusal.Padded l e = e ∙ ap (λ (n : ℕ). Err (Broken n None)) (sym l)

pub returns-in-Ok : goal.returns-in-Ok
returns-in-Ok c =
    value_as c.args.kind (bits_left c.args.reader.now) c.requires
    ∙ ap (as_payload (length (bits_left c.args.reader.now))) c.in-Ok.ensures.exact

pub returns-in-Err : goal.returns-in-Err
returns-in-Err c =
    let count = c.left-left.ensures.count in
    subst (λ (s : Stop). Follows whole_of (value_at c.args.kind) c.args.reader.now c.get_value.new.r (Err s))
    (sym c.stop.ensures)
    (stopped c.args.kind c.args.reader.now c.get_value.new.r c.left-left.result c.in-Err.why count
    (value_as c.args.kind (bits_left c.args.reader.now) c.requires ∙ ap
    (as_payload (length (bits_left c.args.reader.now))) c.in-Err.ensures.exact))
