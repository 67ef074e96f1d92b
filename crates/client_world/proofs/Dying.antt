-- Of which datagrams an end dies, and what a dead one does: nothing.
use Rattle.std.proofs.Common.{◌≡◌, ◌∙◌, ℕ, ◌-◌, ◌+◌, List, [], ◌∷◌, length, take, reverse, Bool, true, false, cond, Option, Some, None, Result, Ok, Err, inl, inr, refl, sym, ap, arith}
use Rattle.std.specs.Prelude.{unsigned_abs, not, ◌&&◌}
use Rattle.std.proofs.lemmas.Bool.{cases_Bool}
use Rattle.std.proofs.Math.Seq.{drop-length}
use Rattle.protocol_model.specs.Packet.{Packet}
use Rattle.protocol_model.specs.PacketReading.{packet_of}
use Rattle.protocol_model.specs.declared.Cause.{Cause}
use Rattle.protocol_model.specs.declared.Verdict.TheVariants.{Dead}
use Rattle.protocol_model.specs.declared.Why.{Why}
use Rattle.protocol_model.specs.Side.{Side}
use Rattle.protocol_model.specs.Value.{Arg}
use Rattle.protocol_model.specs.declared.CallAnswer.TheVariants as CallAnswer
use Rattle.connection_model.specs.CallAnswers.{answer_of, answer_for, after_answer, after_call, call_channel, call_of}
use Rattle.connection_model.specs.Copies.{delivered_of}
use Rattle.connection_model.specs.Fates.{number_near, is_new}
use Rattle.connection_model.specs.Feed.{End, Past, Took, Ended, ByCause, Entry, Delivered, has_ended}
use Rattle.connection_model.specs.Handed.{client_verdict}
use Rattle.connection_model.specs.Pack.{after_tick}
use Rattle.connection_model.specs.Past.{sent_bytes}
use Rattle.connection_model.specs.Verdict.{with_told, with_handed, entry_result, after_entries, entries_in, after_reading, after_got, verdict_after, verdict_on, verdict_of}
use Rattle.connection_laws.proofs.Hearing.{entry_runs}
use Rattle.connection_laws.proofs.Moves.{told_keeps, handed_keeps}
use Rattle.handovers.specs.Handovers.{handovers}
use Rattle.link_end.specs.Answers.{numbered, new_packets}
use Rattle.client_world.specs.Played.{handovers_in, closes}

-- ---- an end that is alive dies of a datagram exactly where the verdict tells so

-- whether the end is dead is told by the verdict
abbrev Tells : (number : ℕ) → Past → Type 0
Tells n past = has_ended past ≡ closes (verdict_after past n)

told_alive : (entry : Entry) (past : Past) → has_ended past ≡ false → has_ended (with_told entry past) ≡ false
told_alive entry past h = told_keeps (λ (q : Past). has_ended q ≡ false) entry past h (λ n es ds before s. s)

handed_alive : (d : Delivered) (past : Past) → has_ended past ≡ false → has_ended (with_handed d past) ≡ false
handed_alive d past h = handed_keeps (λ (q : Past). has_ended q ≡ false) d past h (λ n es ds before s. s)

alive_goes : (past : Past) (n : ℕ) → has_ended past ≡ false → closes (verdict_after past n) ≡ false
alive_goes [] n h = refl
alive_goes (Ended ending ∷ past) n h = absurd (cc)
alive_goes (deed ∷ past) n h = refl

entries_tell : (end : End) (n : ℕ) (past : Past) (entries : List Entry) → has_ended past ≡ false
    → Tells n (after_entries end past entries)
entries_tell end n past [] h = h ∙ sym (alive_goes past n h)
entries_tell end n past (entry ∷ more) h =
    by (entry_result end past entry).cause
    (entries_tell end n (with_told entry (entry_result end past entry).past) more
    (told_alive entry (entry_result end past entry).past
    (entry_runs end (λ (q : Past). has_ended q ≡ false) handed_alive past entry h)))
  where
    by : (c : Option Cause)
        → Tells n (after_entries end (with_told entry (entry_result end past entry).past) more)
        → Tells n (let later : Past = elim c [
          | None ↦ after_entries end (with_told entry (entry_result end past entry).past) more
          | Some cause ↦ Ended (ByCause cause) ∷ (entry_result end past entry).past
        ] in later)
    by None next = next
    by (Some cause) next = refl

reading_tells : (end : End) (past : Past) (r : Result Packet (ℕ × Why)) → has_ended past ≡ false
    → has_ended (after_reading end past r) ≡ closes (verdict_on end past r)
reading_tells end past (Err bad) alive = alive
reading_tells end past (Ok p) alive = elim (cases_Bool (is_new past p.number)) [
  | inl e ↦ rw e (entries_tell end (unsigned_abs (number_near past p.number))
      (Took (unsigned_abs (number_near past p.number)) [] [] ∷ past) (entries_in end.version p) alive)
  | inr e ↦ rw e alive
]

after_alive : (end : End) (past : Past) (bytes : List ℕ) → has_ended past ≡ false
    → after_got end past bytes ≡ after_reading end past (packet_of end.version bytes)
after_alive end past bytes alive =
    ap (λ (b : Bool). cond b past (after_reading end past (packet_of end.version bytes))) alive

verdict_alive : (end : End) (past : Past) (bytes : List ℕ) → has_ended past ≡ false
    → verdict_of end past bytes ≡ verdict_on end past (packet_of end.version bytes)
verdict_alive end past bytes alive =
    ap (λ (b : Bool). cond b Dead (verdict_on end past (packet_of end.version bytes))) alive

pub got_tells : (end : End) (past : Past) (bytes : List ℕ) → has_ended past ≡ false
    → closes (verdict_of end past bytes) ≡ has_ended (after_got end past bytes)
got_tells end past bytes alive =
    ap closes (verdict_alive end past bytes alive)
    ∙ sym (reading_tells end past (packet_of end.version bytes) alive)
    ∙ sym (ap has_ended (after_alive end past bytes alive))

-- ---- a dead end

pub dead_got : (end : End) (past : Past) (bytes : List ℕ) → has_ended past ≡ true → after_got end past bytes ≡ past
dead_got end past bytes dead =
    ap (λ (b : Bool). cond b past (after_reading end past (packet_of end.version bytes))) dead

pub dead_verdict : (end : End) (past : Past) (bytes : List ℕ) → has_ended past ≡ true
    → Dead ≡ verdict_of end past bytes
dead_verdict end past bytes dead =
    sym (ap (λ (b : Bool). cond b Dead (verdict_on end past (packet_of end.version bytes))) dead)

-- nothing is handed over where the past stays
none_over : (end : End) (past : Past) (bytes : List ℕ) → after_got end past bytes ≡ past
    → [] ≡ handovers_in end past bytes
none_over end past bytes e =
    sym (ap (λ (q : Past). handovers (λ actor held. client_verdict held)
    (reverse (take (length (delivered_of q) - length (delivered_of past)) (delivered_of q)))) e
    ∙ ap (λ (n : ℕ). handovers (λ actor held. client_verdict held)
    (reverse (take n (delivered_of past)))) none)
  where
    none : length (delivered_of past) - length (delivered_of past) ≡ 0
    none = omega arith

pub dead_over : (end : End) (past : Past) (bytes : List ℕ) → has_ended past ≡ true → [] ≡ handovers_in end past bytes
dead_over end past bytes dead = none_over end past bytes (dead_got end past bytes dead)

pub dead_answer : (side : Side) (past : Past) (a n : ℕ) (args : List Arg) → has_ended past ≡ true
    → CallAnswer.Dead ≡ answer_of side past a n args
dead_answer side past a n args dead =
    sym (ap (λ (b : Bool). cond b CallAnswer.Dead
    (answer_for side past a n args (call_channel side past a) (call_of side past a n args))) dead)

pub dead_call : (side : Side) (past : Past) (a n : ℕ) (args : List Arg) → has_ended past ≡ true
    → after_call side past a n args ≡ past
dead_call side past a n args dead = ap (after_answer side past a n args) (sym (dead_answer side past a n args dead))

pub dead_tick : (end : End) (past : Past) → has_ended past ≡ true → after_tick end past [] ≡ past
dead_tick end past dead = rw dead refl

-- nothing is sent where the past stays
pub dead_sent : (end : End) (past : Past) → has_ended past ≡ true
    → [] ≡ new_packets end past (after_tick end past [])
dead_sent end past dead =
    sym (ap (new_packets end past) (dead_tick end past dead)
    ∙ ap (numbered (length (sent_bytes end past) + 1)) (drop-length (sent_bytes end past)))

pub dead_stalled : (end : End) (past : Past) → has_ended past ≡ true
    → false ≡ (not (has_ended past) && has_ended (after_tick end past []))
dead_stalled end past dead = ap (λ (b : Bool). not b && has_ended (after_tick end past [])) (sym dead)

pub alive_stalled : (end : End) (past : Past) (stalled : Bool) → has_ended past ≡ false
    → stalled ≡ has_ended (after_tick end past [])
    → stalled ≡ (not (has_ended past) && has_ended (after_tick end past []))
alive_stalled end past stalled alive e =
    e ∙ ap (λ (b : Bool). not b && has_ended (after_tick end past [])) (sym alive)
