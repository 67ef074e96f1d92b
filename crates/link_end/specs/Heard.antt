-- What comes of entries that are heard one after another.
use Rattle.std.specs.Prelude.{◌≡◌, ℕ, Bool, true, false, List, [], ◌∷◌, ◌++◌, map, reverse, Option, None, option_map}
use Rattle.protocol_model.specs.Packet.{Packet}
use Rattle.protocol_model.specs.declared.Version.{Version}
use Rattle.protocol_model.specs.declared.Version.TheVariants.{One, Two}
use Rattle.connection_model.specs.Feed.{Past, Took, Entry, Delivered}
use Rattle.connection_model.specs.Verdict.{entry_of, entries_in}
use Rattle.packet_codec.specs.Values.{rec_of}
use Rattle.packet_codec.specs.declared.packet.Rec.{Rec as RecValue}
use Rattle.ack_book.specs.Book.{Book}
use Rattle.ack_book.specs.Keeps.{Keeps}
use Rattle.ack_book.specs.declared.answer.BadAck.{BadAck as BadAckValue}
use Rattle.link_end.specs.News.{News, news_of, bad_of}
use Rattle.link_end.specs.Answers.{cause_value, news_value}
use Rattle.link_end.specs.declared.arrival.Entry.{Entry as EntryValue}

-- the entries that values stand for
abbrev pub entries_of : List RecValue → List Entry
entries_of recs = map (λ rec. entry_of (rec_of rec)) recs

-- they tell this news behind that of before, up to the first bad one; where there is none the book stands for the
-- past that has them all
pub record Hears (book : Book) (before after : List News) (v : Version) (past : Past) (m : ℕ) (told : List Entry)
    (handed : List Delivered) (entries : List Entry) (bad : Option BadAckValue) : Type 0 where
  pub news : after ≡ before ++ news_of (Took m told handed ∷ past) entries
  pub cause : option_map cause_value bad ≡ bad_of (Took m told handed ∷ past) entries
  pub stands : bad ≡ None → Keeps book v (Took m (reverse entries ++ told) handed ∷ past)

-- whatever the packet under way told before, these entries are heard behind the news of before
abbrev pub HearsAll : (old new : Book) (before after : List EntryValue) → List Entry → Option BadAckValue → Type 0
HearsAll old new before after entries bad =
    (v : Version) (past : Past) (m : ℕ) (told : List Entry) (handed : List Delivered)
    → Keeps old v (Took m told handed ∷ past)
    → Hears new (map news_value before) (map news_value after) v past m told handed entries bad

-- the packet under way told nothing before, and the entries of a packet are heard
abbrev pub HearsPacket : (old new : Book) (before after : List EntryValue) → Packet → Option BadAckValue → Type 0
HearsPacket old new before after p bad =
    (v : Version) (past : Past) (m : ℕ) (handed : List Delivered) → Keeps old v (Took m [] handed ∷ past)
    → Hears new (map news_value before) (map news_value after) v past m [] handed (entries_in v p) bad

-- in version Two a packet taken is answered
abbrev pub is_answered : Version → Bool
is_answered One = false
is_answered Two = true
