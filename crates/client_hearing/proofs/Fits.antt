-- The bunches of a packet that was decoded are fit, and so are those of its news.
use Rattle.std.proofs.Common.{◌≡◌, ℕ, ◌-◌, ◌*◌, ◌<◌, ◌==◌, List, [], ◌∷◌, ◌++◌, length, Bool, true, false, cond, not, ◌&&◌, nat_lt, is_some, Option, Result, Ok, Err, refl, map, reverse, filter_map}
use Rattle.std.specs.Prelude.{slice_index_or}
use Rattle.std.specs.List.{list_all, AllByRecursion}
use Rattle.std.proofs.lemmas.Bool.{ltb-true}
use Rattle.protocol_model.specs.declared.Cause.{Cause}
use Rattle.protocol_model.specs.declared.Version.{Version}
use Rattle.protocol_model.specs.declared.Version.TheVariants.{One, Two}
use Rattle.protocol_model.specs.declared.Why.{Why}
use Rattle.protocol_model.specs.declared.Why.TheVariants.{Empty, TooLong, NoEnd}
use Rattle.protocol_model.specs.Reading.{Fault, place_of}
use Rattle.protocol_model.specs.Packet.{Bunch, Rec, Ack, Sends, Packet, is_bunch, is_rec, channel_limit}
use Rattle.protocol_model.specs.PacketReading.{packet_of, packet_at, content_read, content_of, Refusal, why_of}
use Rattle.connection_model.specs.Feed.{Past, Entry, Told, Acked, Heard}
use Rattle.connection_model.specs.Fates.{high_of, named_by, number_above}
use Rattle.connection_model.specs.Verdict.{entry_of, entries_in, ack_cause, with_told}
use Rattle.protocol_laws.proofs.PacketSpelled.{content_spelled}
use Rattle.client_laws.specs.Holding.{IsProper}
use Rattle.client_laws.proofs.Proper.{IsProperIn, entries_are_proper}
use Rattle.link_end.specs.News.{News, Moves, Hears, moves_from, news_in, news_of}
use Rattle.client_hearing.specs.Moments.{IsFit}
use Rattle.client_hearing.specs.Hearing.{IsFitEntry, IsFitNews}

left_of : (x y : Bool) → (x && y) ≡ true → x ≡ true
left_of true y h = refl
left_of false y h = cc

right_of : (x y : Bool) → (x && y) ≡ true → y ≡ true
right_of true y h = h
right_of false y h = cc

-- ---- channels

-- the channel of an entry's bunch has a spelling
abbrev IsLowIn : Version → Entry → Type 0
IsLowIn version (Heard b) = b.channel < channel_limit version
IsLowIn version (Told head) = Unit {0}
IsLowIn version (Acked number) = Unit {0}

bunch_low : (version : Version) (b : Bunch) → is_bunch version b ≡ true → b.channel < channel_limit version
bunch_low version b h =
    let four = left_of _ _ (left_of _ _ (left_of _ _ (left_of _ _ h))) in
    ltb-true b.channel (channel_limit version) (right_of _ _ four)

rec_low : (version : Version) (rec : Rec) → is_rec version rec ≡ true → IsLowIn version (entry_of rec)
rec_low version (Ack number) h = tt
rec_low One (Sends b) h = bunch_low One b h
rec_low Two (Sends b) h = bunch_low Two b h

recs_low : (version : Version) (recs : List Rec) → list_all (λ rec. is_rec version rec) recs ≡ true
    → AllByRecursion (IsLowIn version) (map entry_of recs)
recs_low version [] h = tt
recs_low version (rec ∷ recs) h =
    (rec_low version rec (left_of _ _ h), recs_low version recs (right_of _ _ h))

entries_by : (version : Version) (p : Packet) → list_all (λ rec. is_rec version rec) p.recs ≡ true
    → AllByRecursion (IsLowIn version) (entries_in version p)
entries_by One p h = recs_low One p.recs h
entries_by Two p h = (tt, recs_low Two p.recs h)

read_recs : (version : Version) (content : List Bool) (p : Packet) → content_read version content ≡ Ok p
    → list_all (λ rec. is_rec version rec) p.recs ≡ true
read_recs version content p h = by (packet_at version content) refl h
  where
    same : (p q : Packet) → ◌≡◌ {A = Result Packet Refusal} (Ok p) (Ok q) → p ≡ q
    same p q e = cc

    by : (got : Result (Packet × List Bool) (Fault Why)) → packet_at version content ≡ got
        → ◌≡◌ {A = Result Packet Refusal}
        (elim got [ Ok got ↦ Ok got.0 | Err fault ↦ Err (place_of (length content) fault, why_of fault) ])
        (Ok p)
        → list_all (λ rec. is_rec version rec) p.recs ≡ true
    by (Ok got) e h = rw (← same got.0 p h) (content_spelled version content got.0 got.1 e).recs
    by (Err fault) e h = absurd (cc)

of_bytes : (version : Version) (bytes : List ℕ) (p : Packet) (a b c : Bool) (x y z : Refusal)
    → cond a (Err x) (cond b (Err y) (cond c (Err z) (content_read version (content_of bytes)))) ≡ Ok p
    → content_read version (content_of bytes) ≡ Ok p
of_bytes version bytes p true b c x y z h = absurd (cc)
of_bytes version bytes p false true c x y z h = absurd (cc)
of_bytes version bytes p false false true x y z h = absurd (cc)
of_bytes version bytes p false false false x y z h = h

entries_are_low : (version : Version) (bytes : List ℕ) (p : Packet) → packet_of version bytes ≡ Ok p
    → AllByRecursion (IsLowIn version) (entries_in version p)
entries_are_low version bytes p h =
    entries_by version p (read_recs version (content_of bytes) p (of_bytes version bytes p (length bytes == 0)
    (nat_lt 1024 (length bytes)) (slice_index_or bytes (length bytes - 1) 0 == 0) (0, Empty) (8192, TooLong)
    (8 * (length bytes - 1), NoEnd) h))

-- ---- both

both : (version : Version) (entry : Entry) → IsProperIn entry → IsLowIn version entry
    → IsFitEntry version entry
both version (Heard b) proper low = record { proper = proper; low = low }
both version (Told head) proper low = tt
both version (Acked number) proper low = tt

all_both : (version : Version) (entries : List Entry) → AllByRecursion IsProperIn entries
    → AllByRecursion (IsLowIn version) entries → AllByRecursion (IsFitEntry version) entries
all_both version [] proper low = tt
all_both version (entry ∷ entries) proper low =
    (both version entry proper.0 low.0, all_both version entries proper.1 low.1)

-- each bunch of a packet that was read is fit
pub entries_are_fit : (version : Version) (bytes : List ℕ) (p : Packet) → packet_of version bytes ≡ Ok p
    → AllByRecursion (IsFitEntry version) (entries_in version p)
entries_are_fit version bytes p h =
    all_both version (entries_in version p) (entries_are_proper version bytes p h)
    (entries_are_low version bytes p h)

-- ---- news

moves_fit : (version : Version) (high : ℕ) (ns : List ℕ)
    → AllByRecursion (IsFitNews version) (moves_from high ns)
moves_fit version high [] = tt
moves_fit version high (n ∷ ns) = (tt, moves_fit version n ns)

entry_news : (version : Version) (high : ℕ) (entry : Entry) → IsFitEntry version entry
    → AllByRecursion (IsFitNews version) (news_in high entry)
entry_news version high (Heard b) fit = (fit, tt)
entry_news version high (Told head) fit =
    moves_fit version high (reverse (filter_map (number_above high) (named_by (Told head) high)))
entry_news version high (Acked number) fit =
    moves_fit version high (reverse (filter_map (number_above high) (named_by (Acked number) high)))

fit_behind : (version : Version) (xs ys : List News) → AllByRecursion (IsFitNews version) xs
    → AllByRecursion (IsFitNews version) ys → AllByRecursion (IsFitNews version) (xs ++ ys)
fit_behind version [] ys h k = k
fit_behind version (x ∷ xs) ys h k = (h.0, fit_behind version xs ys h.1 k)

pub news_are_fit : (version : Version) (past : Past) (entries : List Entry)
    → AllByRecursion (IsFitEntry version) entries
    → AllByRecursion (IsFitNews version) (news_of past entries)
news_are_fit version past [] fit = tt
news_are_fit version past (entry ∷ more) fit =
    by (is_some (ack_cause past entry))
    (fit_behind version (news_in (high_of past) entry) (news_of (with_told entry past) more)
    (entry_news version (high_of past) entry fit.0)
    (news_are_fit version (with_told entry past) more fit.1))
  where
    by : (b : Bool) → AllByRecursion (IsFitNews version)
        (news_in (high_of past) entry ++ news_of (with_told entry past) more)
        → AllByRecursion (IsFitNews version)
        (cond b [] (news_in (high_of past) entry ++ news_of (with_told entry past) more))
    by true h = tt
    by false h = h
