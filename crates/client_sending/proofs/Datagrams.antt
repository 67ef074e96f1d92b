-- A datagram that is taken leaves what a client may rest on when it sends.
use Rattle.std.proofs.Common.{◌≡◌, ◌∙◌, ℕ, ◌≤◌, List, [], ◌∷◌, Option, Some, None, Result, Ok, Err, inl, inr, refl, arith}
use Rattle.std.specs.Prelude.{unsigned_abs, filter_map}
use Rattle.std.proofs.lemmas.Bool.{cases_Bool}
use Rattle.protocol_model.specs.Packet.{Packet}
use Rattle.protocol_model.specs.PacketReading.{packet_of}
use Rattle.protocol_model.specs.declared.Cause.{Cause}
use Rattle.protocol_model.specs.declared.Version.{Version}
use Rattle.protocol_model.specs.declared.Why.{Why}
use Rattle.connection_model.specs.Bunches.{made_count}
use Rattle.connection_model.specs.CallAnswers.{waiting_of}
use Rattle.connection_model.specs.Fates.{number_near, is_new, last_sent, high_of}
use Rattle.connection_model.specs.Feed.{End, Past, Took, Ended, Ending, ByCause, Entry, Delivered, has_ended}
use Rattle.connection_model.specs.State.{opened_in}
use Rattle.connection_model.specs.Verdict.{with_told, with_handed, entry_result, after_entries, entries_in, after_reading, after_got}
use Rattle.connection_laws.proofs.Fates.{high_told}
use Rattle.connection_laws.proofs.Hearing.{entry_runs}
use Rattle.connection_laws.proofs.Moves.{told_keeps, handed_keeps}
use Rattle.client_sending.specs.Stands.{MaySend}
use Rattle.client_sending.proofs.Making.{waits_as}

-- what each step of a datagram keeps the datagram keeps
module _ (P : Past → Type 0) (told : (entry : Entry) (q : Past) → P q → P (with_told entry q))
    (handed : (d : Delivered) (q : Past) → P q → P (with_handed d q))
    (began : (n : ℕ) (q : Past) → P q → P (Took n [] [] ∷ q))
    (ended : (g : Ending) (q : Past) → P q → P (Ended g ∷ q)) where
  entries_keep : (end : End) (past : Past) (entries : List Entry) → P past → P (after_entries end past entries)
  entries_keep end past [] h = h
  entries_keep end past (entry ∷ more) h =
      by (entry_result end past entry).cause (entry_runs end P handed past entry h)
      (λ q. entries_keep end (with_told entry (entry_result end past entry).past) more q)
    where
      by : (c : Option Cause) → P (entry_result end past entry).past
          → (P (with_told entry (entry_result end past entry).past)
          → P (after_entries end (with_told entry (entry_result end past entry).past) more))
          → P (let later : Past = elim c [
            | None ↦ after_entries end (with_told entry (entry_result end past entry).past) more
            | Some cause ↦ Ended (ByCause cause) ∷ (entry_result end past entry).past
          ] in later)
      by None e next = next (told entry (entry_result end past entry).past e)
      by (Some cause) e next = ended (ByCause cause) (entry_result end past entry).past e

  reading_keeps : (end : End) (past : Past) (r : Result Packet (ℕ × Why)) → P past → P (after_reading end past r)
  reading_keeps end past (Err bad) h = h
  reading_keeps end past (Ok p) h = elim (cases_Bool (is_new past p.number)) [
    | inl e ↦ rw e (entries_keep end (Took (unsigned_abs (number_near past p.number)) [] [] ∷ past)
        (entries_in end.version p) (began (unsigned_abs (number_near past p.number)) past h))
    | inr e ↦ rw e h
  ]

  got_keeps : (end : End) (past : Past) (bytes : List ℕ) → P past → P (after_got end past bytes)
  got_keeps end past bytes h = elim (cases_Bool (has_ended past)) [
    | inl e ↦ rw e h
    | inr e ↦ rw e (reading_keeps end past (packet_of end.version bytes) h)
  ]

-- nothing more was made, opened, let wait or sent, and no fewer packets moved
record SentSame (past later : Past) : Type 0 where
  pub made : (ch : ℕ) → made_count later ch ≡ made_count past ch
  pub opens : filter_map opened_in later ≡ filter_map opened_in past
  pub waits : waiting_of later ≡ waiting_of past
  pub sent : last_sent later ≡ last_sent past

record Grown (past later : Past) : Type 0 where
  pub same : SentSame past later
  pub high : high_of past ≤ high_of later

told_same : (past : Past) (entry : Entry) (q : Past) → SentSame past q → SentSame past (with_told entry q)
told_same past entry q h =
    told_keeps (SentSame past) entry q h
    (λ n es ds before s. record { made = s.made; opens = s.opens; waits = s.waits; sent = s.sent })

handed_grown : (past : Past) (d : Delivered) (q : Past) → Grown past q → Grown past (with_handed d q)
handed_grown past d q h =
    handed_keeps (Grown past) d q h
    (λ n es ds before s. record {
      same = record { made = s.same.made; opens = s.same.opens; waits = s.same.waits; sent = s.same.sent };
      high = s.high;
    })

got_grown : (end : End) (past : Past) (bytes : List ℕ) → Grown past (after_got end past bytes)
got_grown end past bytes =
    got_keeps (Grown past)
    (λ entry q h. record {
      same = told_same past entry q h.same;
      high = (let more = high_told entry q in omega (arith, h.high, more));
    })
    (λ d q h. handed_grown past d q h)
    (λ n q h. record {
      same = record { made = h.same.made; opens = h.same.opens; waits = h.same.waits; sent = h.same.sent };
      high = h.high;
    })
    (λ g q h. record {
      same = record { made = h.same.made; opens = h.same.opens; waits = h.same.waits; sent = h.same.sent };
      high = h.high;
    })
    end past bytes
    (record {
      same = record { made = λ ch. refl; opens = refl; waits = refl; sent = refl };
      high = omega arith;
    })

pub may_send_got : (version : Version) (end : End) (past : Past) (bytes : List ℕ) → MaySend version past
    → MaySend version (after_got end past bytes)
may_send_got version end past bytes h =
    let g = got_grown end past bytes in record {
      few = omega (arith, h.few, g.same.sent, g.high);
      low = λ ch le. g.same.made ch ∙ h.low ch le;
      opens = g.same.opens ∙ h.opens;
      waits = waits_as past (after_got end past bytes) g.same.waits h.waits;
    }
