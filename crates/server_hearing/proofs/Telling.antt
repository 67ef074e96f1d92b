-- What is answered of a datagram, clause by clause.
use Rattle.std.proofs.Common.{◌≡◌, ℕ, ◌-◌, List, [], ◌∷◌, map, length, reverse, Bool, true, false, Option, Some, None, option_map, Result, Ok, Err, IfOk, OnOk, IsErr, refl, sym, ap, ◌∙◌, subst, arith}
use Rattle.std.specs.Prelude.{take, ℤ}
use Rattle.std.proofs.lemmas.Bool.{false≢true}
use Rattle.std.proofs.lemmas.Option.{none-some, same_Some}
use Rattle.protocol_model.specs.Packet.{Packet}
use Rattle.protocol_model.specs.PacketReading.{packet_of}
use Rattle.protocol_model.specs.Search.{or_else}
use Rattle.protocol_model.specs.Side.{AtServer}
use Rattle.protocol_model.specs.World.{Edits}
use Rattle.protocol_model.specs.declared.Cause.{Cause}
use Rattle.protocol_model.specs.declared.Verdict.{Verdict}
use Rattle.protocol_model.specs.declared.Verdict.TheVariants.{Taken, Malformed, Old, Closed}
use Rattle.protocol_model.specs.declared.Why.{Why}
use Rattle.connection_model.specs.Feed.{End, Past, Took, Ended, ByCause, Entry, Delivered, has_ended}
use Rattle.connection_model.specs.Copies.{delivered_of}
use Rattle.connection_model.specs.Fates.{top_of}
use Rattle.connection_model.specs.Handed.{handed_by}
use Rattle.connection_model.specs.Verdict.{after_entries, entries_in, verdict_of, after_got}
use Rattle.channel_laws.proofs.Alike.{alike_taken}
use Rattle.bit_io.specs.declared.Memory.{Memory}
use Rattle.class_layout.specs.Tables.{Layout}
use Rattle.world_table.specs.Kept.{Kept}
use Rattle.value_codec.specs.declared.handed.Handed.{Handed}
use Rattle.link_end.specs.Answers.{cause_value, IsTake, IsArrival}
use Rattle.link_end.specs.Link.{Link}
use Rattle.link_end.specs.Rests.{Rests}
use Rattle.link_end.specs.declared.arrival.Arrival.{Arrival}
use Rattle.link_end.specs.declared.arrival.TakeRefusal.{TakeRefusal}
use Rattle.link_end.specs.declared.arrival.TakeRefusal.TheVariants as refusal
use Rattle.hearing_laws.specs.Courses.{Taking, during, handed_since}
use Rattle.channel_table.specs.Channels.{Channels}
use Rattle.channel_table.specs.Keeps.{Keeps as KeepsTable}
use Rattle.channel_table.proofs.Kept.{keeps_unseen, keeps_news}
use Rattle.shadow_changes.specs.Samples.{Samples}
use Rattle.sender_steps.specs.Sender.{Sender}
use Rattle.sender_steps.specs.Stands.{Stands}
use Rattle.sender_steps.proofs.Unseen.{alike_keeps}
use Rattle.server_hearing.specs.Payloads.{IsHearing, handed_values, calls_of}
use Rattle.server_hearing.specs.Entries.{GoesOn}
use Rattle.server_hearing.specs.Datagrams.{MayHear, IsRefused, unheard, heard_as}
use Rattle.server_hearing.specs.declared.datagrams.Heard.{Heard}
use Rattle.server_hearing.proofs.Going.{Unseen, no_cause}
use Rattle.server_hearing.proofs.Taking.{Arrives, taken, final_of, begins, after_is, verdict_is, top_taken, Ends, ends_of, StandsOn, stands_on, answer_is, ended_is}

-- ---- the parts that a step leaves

pub if_each : {A E : Type 0} {P Q : A → Type 0} (r : Result A E) → ((x : A) → P x → Q x) → IfOk r P → IfOk r Q
if_each (Ok x) f p = f x p
if_each (Err e) f p = tt

pub on_each : {A E : Type 0} {P Q : Type 0} (r : Result A E) → (P → Q) → OnOk r P → OnOk r Q
on_each (Ok x) f p = f p
on_each (Err e) f p = tt

pub unseen : (s : Sender) (t : Channels) → Unseen s t
unseen s t = record {
  sender = λ one other samples alike keeps. alike_keeps s one other samples alike keeps;
  table = λ one other same keeps. keeps_news t AtServer one other same keeps;
}

pub table_taken : (t : Channels) (past : Past) (n : ℕ) → KeepsTable t AtServer past
    → KeepsTable t AtServer (Took n [] [] ∷ past)
table_taken t past n keeps = keeps_unseen t AtServer past (Took n [] [] ∷ past) (alike_taken n [] past)
    (record { received = λ ch. refl; channels = refl; handed = refl }) keeps

-- what is answered is right, and so is what is kept then
pub record Tells (w : Kept) (new : Sender) (later : Link) (after : Channels) (end : End) (edits : Edits)
    (player : ℕ) (past : Past) (samples : Samples) (bytes : List ℕ) (h : Heard) : Type 0 where
  pub verdict : h.outcome.verdict ≡ verdict_of end past bytes
  pub handed : handed_values w.layout h.outcome.handed ≡ calls_of edits player (handed_by end past bytes)
  pub stands : h.closed ≡ None → Stands new later after end (after_got end past bytes) samples
  pub alive : h.closed ≡ None → has_ended (after_got end past bytes) ≡ false
  pub closed : (top : ℕ) → h.closed ≡ Some top → has_ended (after_got end past bytes) ≡ true
  pub top : (top : ℕ) → h.closed ≡ Some top → top ≡ top_of (after_got end past bytes)

-- for each past for which the parts stand
abbrev pub AllTell : Kept → (s new : Sender) → (l later : Link) → (t after : Channels) → (player : ℕ)
    → List ℕ → Heard → Type 0
AllTell w s new l later t after player bytes h =
    (end : End) (edits : Edits) (past : Past) (samples : Samples) → MayHear w s l t end edits past samples
    → Tells w new later after end edits player past samples bytes h

-- ---- a datagram that isn't taken

-- it adds nothing to the past
pub record Passes (end : End) (past : Past) (bytes : List ℕ) (verdict : Verdict) : Type 0 where
  pub says : verdict ≡ verdict_of end past bytes
  pub same : after_got end past bytes ≡ past

none_since : (past : Past) → [] ≡ handed_since past past
none_since past =
    let n : ℕ = length (delivered_of past) in
    ap (λ (m : ℕ). reverse (take m (delivered_of past))) (let z : 0 ≡ n - n = omega arith in z)

passes_tells : (w : Kept) (s : Sender) (l later : Link) (t : Channels) (end : End) (edits : Edits)
    (player : ℕ) (past : Past) (samples : Samples) (bytes : List ℕ) (verdict : Verdict) → later ≡ l
    → MayHear w s l t end edits past samples → Passes end past bytes verdict
    → Tells w s later t end edits player past samples bytes (unheard verdict)
passes_tells w s l later t end edits player past samples bytes verdict e h p = record {
  verdict = p.says;
  handed = ap (calls_of edits player) (none_since past
      ∙ ap (λ (after : Past). handed_since past after) (sym p.same));
  stands = λ none. subst (λ (after : Past). Stands s later t end after samples) (sym p.same)
      (subst (λ (l : Link). Stands s l t end past samples) (sym e) h.stands);
  alive = λ none. ap has_ended p.same ∙ h.alive;
  closed = λ top is. absurd (none-some top is);
  top = λ top is. absurd (none-some top is);
}

malformed_passes : (end : End) (past : Past) (bytes : List ℕ) (at : ℕ) (why : Why) → has_ended past ≡ false
    → packet_of end.version bytes ≡ Err (at, why) → Passes end past bytes (Malformed at why)
malformed_passes end past bytes at why alive read = record {
  says = rw (alive, read) refl;
  same = rw (alive, read) refl;
}

old_passes : (end : End) (past : Past) (bytes : List ℕ) (number : ℤ) (last : ℕ) → has_ended past ≡ false
    → IsTake end past bytes (Err (refusal.Old number last)) → Passes end past bytes (Old number last)
old_passes end past bytes number last alive (p, read, old, is, top) = record {
  says = rw (alive, read, old, is, top) refl;
  same = rw (alive, read, old) refl;
}

pub refused_tells : (w : Kept) (s : Sender) (l later : Link) (t : Channels) (player : ℕ) (bytes : List ℕ)
    (why : TakeRefusal) (result : Result Heard Memory) → IsRefused why result
    → ((end : End) (past : Past) → Rests l end past → IsTake end past bytes (Err why))
    → ((at : ℕ) (what : Why) → why ≡ refusal.Malformed at what → later ≡ l)
    → ((number : ℤ) (last : ℕ) → why ≡ refusal.Old number last → later ≡ l)
    → IfOk result (AllTell w s s l later t t player bytes)
refused_tells w s l later t player bytes (refusal.Malformed at why) result is answer bad old =
    subst (λ (r : Result Heard Memory). IfOk r (AllTell w s s l later t t player bytes)) (sym is)
    (λ end edits past samples h. passes_tells w s l later t end edits player past samples bytes (Malformed at why)
    (bad at why refl) h (malformed_passes end past bytes at why h.alive (answer end past h.stands.link)))
refused_tells w s l later t player bytes (refusal.Old number last) result is answer bad old =
    subst (λ (r : Result Heard Memory). IfOk r (AllTell w s s l later t t player bytes)) (sym is)
    (λ end edits past samples h. passes_tells w s l later t end edits player past samples bytes (Old number last)
    (old number last refl) h (old_passes end past bytes number last h.alive (answer end past h.stands.link)))
refused_tells w s l later t player bytes refusal.Memory (Ok h) is answer bad old = absurd (false≢true is)
refused_tells w s l later t player bytes refusal.Memory (Err e) is answer bad old = tt

-- ---- a packet

none_mapped : {A B : Type 0} (f : A → B) (o : Option A) → option_map f o ≡ None → o ≡ None
none_mapped f None e = refl
none_mapped f (Some x) e = absurd (none-some (f x) (sym e))

-- the packet that was taken, by what the link promises
pub arrives : (end : End) (past : Past) (bytes : List ℕ) (a : Arrival) → IsTake end past bytes (Ok a)
    → Arrives end past bytes a
arrives end past bytes a (p, read, new, is) = record { packet = p; read = read; new = new; is = is }

-- how the packet went on
pub record Goes (w : Kept) (new : Sender) (later : Link) (after : Channels) (end : End) (edits : Edits)
    (player : ℕ) (past : Past) (samples : Samples) (bytes : List ℕ) (a : Arrival) (handed : List Handed)
    (broken : Option Cause) : Type 0 where
  pub came : Arrives end past bytes a
  pub goes : GoesOn w new after (taken end past a came.packet) edits player samples handed []
      (option_map cause_value a.bad) (final_of end past a came.packet) broken
  pub alive : has_ended past ≡ false
  pub link : (payloads : List Delivered) → a.bad ≡ None
      → Rests later end (Took a.number (reverse (entries_in end.version came.packet)) payloads ∷ past)

pub packet_tells : (w : Kept) (new : Sender) (later : Link) (after : Channels) (end : End) (edits : Edits)
    (player : ℕ) (past : Past) (samples : Samples) (bytes : List ℕ) (a : Arrival) (handed : List Handed)
    (broken : Option Cause) (h : Heard)
    → Goes w new later after end edits player past samples bytes a handed broken
    → h ≡ heard_as a.number handed (or_else broken (option_map cause_value a.bad))
    → Tells w new later after end edits player past samples bytes h
packet_tells w new later after end edits player past samples bytes a handed broken h g is =
    by (or_else broken bad) refl is (ends_of w new after k edits player samples handed bad broken final g.goes)
  where
    bad : Option Cause
    bad = option_map cause_value a.bad

    k : Taking
    k = taken end past a g.came.packet

    final : Past
    final = final_of end past a g.came.packet

    is_final : after_got end past bytes ≡ final
    is_final = after_is end past bytes a g.came g.alive

    calls : (cause : Option Cause) → h ≡ heard_as a.number handed cause
        → Ends end past final w.layout edits player a.number handed cause
        → handed_values w.layout handed ≡ calls_of edits player (handed_by end past bytes)
    calls cause e ends = ends.calls ∙ ap (λ (p : Past). calls_of edits player (handed_since past p)) (sym is_final)

    by : (cause : Option Cause) → or_else broken bad ≡ cause → h ≡ heard_as a.number handed cause
        → Ends end past final w.layout edits player a.number handed cause
        → Tells w new later after end edits player past samples bytes h
    by None none e ends =
        let on = stands_on w new after k edits player samples handed bad broken final (unseen new after) none g.goes in
        let clear = no_cause broken bad none in
        record {
          verdict = ap (λ (h : Heard). h.outcome.verdict) e
              ∙ sym (answer_is end past final w.layout edits player a.number handed None ends)
              ∙ sym (verdict_is end past bytes a g.came g.alive);
          handed = ap (λ (h : Heard). handed_values w.layout h.outcome.handed) e ∙ calls None e ends;
          stands = λ none. subst (λ (p : Past). Stands new later after end p samples) (sym is_final) (record {
            sender = on.both.sender;
            link = subst (λ (p : Past). Rests later end p) (sym on.final_is) (g.link on.payloads (none_mapped cause_value a.bad clear.1));
            table = on.both.table;
          });
          alive = λ none. ap has_ended is_final ∙ ap has_ended ends.final_is ∙ g.alive;
          closed = λ top q. absurd (none-some top (sym (ap (λ (h : Heard). h.closed) e) ∙ q));
          top = λ top q. absurd (none-some top (sym (ap (λ (h : Heard). h.closed) e) ∙ q));
        }
    by (Some cause) some e ends = record {
      verdict = ap (λ (h : Heard). h.outcome.verdict) e
          ∙ sym (answer_is end past final w.layout edits player a.number handed (Some cause) ends)
          ∙ sym (verdict_is end past bytes a g.came g.alive);
      handed = ap (λ (h : Heard). handed_values w.layout h.outcome.handed) e ∙ calls (Some cause) e ends;
      stands = λ none. absurd (none-some a.number (sym none ∙ ap (λ (h : Heard). h.closed) e));
      alive = λ none. absurd (none-some a.number (sym none ∙ ap (λ (h : Heard). h.closed) e));
      closed = λ top q. ap has_ended is_final
          ∙ ended_is end past final w.layout edits player a.number handed cause ends;
      top = λ top q. sym (same_Some a.number top (sym (ap (λ (h : Heard). h.closed) e) ∙ q))
          ∙ top_taken end past bytes a g.came ends.entries ends.payloads
          ∙ sym (ap top_of (is_final ∙ ends.final_is));
    }
