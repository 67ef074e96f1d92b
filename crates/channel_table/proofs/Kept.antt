-- The table goes on to stand where one of its parts does.
use Rattle.std.proofs.Common.{◌≡◌, ◌⊎◌, inl, inr, ℕ, List, ◌∷◌, ◌++◌, true, false, ◌==◌, Result, Ok, Err, OnOk, Option, Some, None, unwrap_or, is_some, if◌then◌else◌, refl, sym, ap, subst, ◌∙◌, arith}
use Rattle.std.proofs.lemmas.Bool.{false≢true}
use Rattle.std.proofs.lemmas.Bool.Decides.{nat_tests}
use Rattle.protocol_model.specs.Side.{Side}
use Rattle.protocol_model.specs.Packet.{Bunch}
use Rattle.protocol_model.specs.Payload.{Message}
use Rattle.protocol_model.specs.Search.{newest_of}
use Rattle.connection_model.specs.Feed.{Past, Sent, Took, Item, Entry, Heard, Delivered}
use Rattle.connection_model.specs.Bunches.{after_making}
use Rattle.channel_laws.specs.Moves.{IsMove, SameNews}
use Rattle.channel_laws.specs.Alike.{Alike, SameHeard}
use Rattle.channel_laws.specs.Sendings.{are_sendings}
use Rattle.channel_laws.proofs.Hearing.{heard_fates, heard_made, heard_sent, held_same}
use Rattle.channel_laws.proofs.Moves.{news_alike}
use Rattle.channel_laws.proofs.Alike.{same_high, alike_heard}
use Rattle.channel_laws.proofs.Sendings.{making_below}
use Rattle.outgoing_channels.specs.Made.{Made}
use Rattle.outgoing_channels.specs.Keeps.{KeepsMade}
use Rattle.outgoing_channels.proofs.Pushed.{keeps_alike}
use Rattle.incoming_channels.specs.Channels.{Got, Incoming, in_at}
use Rattle.incoming_channels.specs.Keeps.{KeepsGot, KeepsIn, KeepsBunches}
use Rattle.receiving_laws.specs.Holders.{holder_said}
use Rattle.channel_table.specs.Channels.{Channels, WaitingCall}
use Rattle.channel_table.specs.Keeps.{Keeps, IsSpent}

-- the fields as they show
abbrev pub shown : Made → Got → List (ℕ × ℕ) → List WaitingCall → Channels
shown made got bound waiting = record { made = made; got = got; bound = bound; waiting = waiting; high = made.high }

pub as_shown : (v w : Channels) (side : Side) (past : Past) → v ≡ w → Keeps w side past → Keeps v side past
as_shown v w side past e h = rw e h

-- a table that keeps isn't spent
pub not_spent : {A : Type 0} (t : Channels) → t.got.spent ≡ false → IsSpent t ⊎ A → A
not_spent t e (inl s) = absurd (false≢true (sym e ∙ s))
not_spent t e (inr a) = a

in_alike : (one other : Past) (ch : ℕ) (i : Incoming) → SameHeard one other → KeepsIn one ch i
    → KeepsIn other ch i
in_alike one other ch i h k = record {
  bunches = subst (λ got. KeepsBunches got i) (sym (h.received ch)) k.bunches;
  copied = k.copied ∙ ap (λ ds. unwrap_or (newest_of (holder_said ch) ds) false) (sym h.handed);
}

pub got_alike : (g : Got) (side : Side) (one other : Past) → SameHeard one other → KeepsGot g side one
    → KeepsGot g side other
got_alike g side one other h k = record {
  server = k.server;
  received = λ ch. in_alike one other ch (in_at g.incoming ch) h (k.received ch);
  held = k.held ∙ sym (held_same one other h);
  few_held = k.few_held;
  kept = k.kept;
}

-- ---- the deeds of the outgoing side

pub keeps_making : (t : Channels) (made : Made) (side : Side) (sent past : Past) (ch : ℕ) (m : Message)
    → Keeps t side (sent ++ past) → are_sendings sent ≡ true
    → KeepsMade made (after_making (sent ++ past) ch m)
    → Keeps (record t { made = made; high = made.high }) side (sent ++ after_making past ch m)
keeps_making t made side sent past ch m h s k =
    let now : KeepsMade made (sent ++ after_making past ch m) = keeps_alike made
    (after_making (sent ++ past) ch m) (sent ++ after_making past ch m) (making_below sent past s ch m) k in
    record {
      made = now;
      got =
          got_alike t.got side (sent ++ past) (sent ++ after_making past ch m) (heard_made sent past s ch m)
          h.got;
      high = now.high;
    }

pub keeps_carrying : (t : Channels) (made : Made) (side : Side) (past : Past) (packet time : ℕ)
    (items more : List Item)
    → Keeps t side (Sent packet time items ∷ past)
    → KeepsMade made (Sent packet time more ∷ past)
    → Keeps (record t { made = made; high = made.high }) side (Sent packet time more ∷ past)
keeps_carrying t made side past packet time items more h k = record {
  made = k;
  got =
      got_alike t.got side (Sent packet time items ∷ past) (Sent packet time more ∷ past)
      (heard_sent packet time items more past) h.got;
  high = k.high;
}

pub keeps_moving : (t : Channels) (made : Made) (side : Side) (past after : Past) (from to : ℕ)
    → Keeps t side past → IsMove from to past after → KeepsMade made after
    → Keeps (record t { made = made; high = made.high }) side after
keeps_moving t made side past after from to h m k = record {
  made = k;
  got = got_alike t.got side past after (heard_fates past after m.rest) h.got;
  high = k.high;
}

-- ---- a bunch is received

pub keeps_heard : (t : Channels) (got : Got) (side : Side) (past : Past) (m : ℕ) (entries : List Entry)
    (handed after : List Delivered) (b : Bunch)
    → Keeps t side (Took m entries handed ∷ past)
    → KeepsGot got side (Took m (Heard b ∷ entries) after ∷ past)
    → Keeps (record t { got = got }) side (Took m (Heard b ∷ entries) after ∷ past)
keeps_heard t got side past m entries handed after b h k = record {
  made =
      keeps_alike t.made (Took m entries handed ∷ past) (Took m (Heard b ∷ entries) after ∷ past)
      (alike_heard m entries handed after b past) h.made;
  got = k;
  high = h.high;
}

-- what follows from success
pub on_ok : {A E : Type 0} (r : Result A E) (P Q : Type 0) → (P → Q) → OnOk r P → OnOk r Q
on_ok (Ok x) P Q f h = f h
on_ok (Err e) P Q f h = h

-- ---- what the table doesn't see

pub keeps_unseen : (t : Channels) (side : Side) (one other : Past) → Alike one other → SameHeard one other
    → Keeps t side one → Keeps t side other
keeps_unseen t side one other a s h = record {
  made = keeps_alike t.made one other a h.made;
  got = got_alike t.got side one other s h.got;
  high = h.high ∙ sym (same_high one other a);
}

-- acknowledgements that were spelled otherwise
pub keeps_news : (t : Channels) (side : Side) (one other : Past) → SameNews one other → Keeps t side one
    → Keeps t side other
keeps_news t side one other n h =
    keeps_unseen t side one other (news_alike one other n) (heard_fates one other n.rest) h

-- ---- free indexes

pub span_zero : (n b : ℕ) → b ≡ (if n == 0 then 0 else 1) → b ≡ 0 → n ≡ 0
span_zero n b e z = grind (arith, nat_tests)

pub none_held : (o : Option ℕ) (b : ℕ) → b ≡ (if is_some o then 1 else 0) → b ≡ 0 → o ≡ None
none_held None b e z = refl
none_held (Some a) b e z = absurd (omega (arith, e, z))
