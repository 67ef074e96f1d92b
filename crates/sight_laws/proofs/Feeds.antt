-- Packets, and whole feeds.
use Rattle.std.proofs.Common.{◌≡◌, ℕ, List, [], ◌∷◌, ◌++◌, refl, sym, ap, ◌∙◌}
use Rattle.protocol_model.specs.Packet.{Head, spelling_of}
use Rattle.connection_model.specs.Feed.{End, Event, Past, Ticked, Made, Waits, Sent, Took, Ended}
use Rattle.connection_model.specs.Pack.{packet_carrying}
use Rattle.connection_model.specs.Past.{past_of, sent_bytes, out_of}
use Rattle.sight_laws.specs.Differing.{but_sights, SameButSights, HandsLess}
use Rattle.sight_laws.specs.Differing.HandsLess.{none, ticks, gets, calls}
use Rattle.sight_laws.proofs.Unsighted.{header_same}
use Rattle.sight_laws.proofs.Sending.{tick_same}
use Rattle.sight_laws.proofs.Datagrams.{got_keeps}
use Rattle.sight_laws.proofs.Calling.{call_keeps}

-- ---- packets

twice : (past : Past) → but_sights (but_sights past) ≡ but_sights past
twice [] = refl
twice (Ticked t s ∷ past) = ap (λ (p : Past). Ticked t [] ∷ p) (twice past)
twice (Made c n m i ∷ past) = ap (λ (p : Past). Made c n m i ∷ p) (twice past)
twice (Waits m ∷ past) = ap (λ (p : Past). Waits m ∷ p) (twice past)
twice (Sent n t items ∷ past) = ap (λ (p : Past). Sent n t items ∷ p) (twice past)
twice (Took n es ds ∷ past) = ap (λ (p : Past). Took n es ds ∷ p) (twice past)
twice (Ended g ∷ past) = ap (λ (p : Past). Ended g ∷ p) (twice past)

bytes_own : (end : End) (past : Past) → sent_bytes end (but_sights past) ≡ sent_bytes end past
bytes_own end [] = refl
bytes_own end (Ticked t s ∷ past) = bytes_own end past
bytes_own end (Made c n m i ∷ past) = bytes_own end past
bytes_own end (Waits m ∷ past) = bytes_own end past
bytes_own end (Sent n t items ∷ past) =
    ap (λ (sent : List (List ℕ)). sent ++ spelling_of end.version (packet_carrying end (but_sights past) n items) ∷
    []) (bytes_own end past)
    ∙ ap (λ (head : Head). sent_bytes end past ++ spelling_of end.version
    (record (packet_carrying end past n items) { head = head }) ∷ [])
    (header_same past (but_sights past) (twice past) end.version)
bytes_own end (Took n es ds ∷ past) = bytes_own end past
bytes_own end (Ended g ∷ past) = bytes_own end past

-- pasts that are the same but for their sights sent the same
pub bytes_same : (end : End) (past other : Past) → SameButSights past other → sent_bytes end other ≡ sent_bytes end past
bytes_same end past other h = sym (bytes_own end other) ∙ ap (sent_bytes end) h.done ∙ bytes_own end past

-- ---- feeds

pub same_self : (past : Past) → SameButSights past past
same_self past = record { done = refl; relevance = λ a. refl; flush = λ a. refl; owned = λ a. refl }

pub same_sym : (past other : Past) → SameButSights past other → SameButSights other past
same_sym past other h = record {
  done = sym h.done;
  relevance = λ a. sym (h.relevance a);
  flush = λ a. sym (h.flush a);
  owned = λ a. sym (h.owned a);
}

pub feeds_same : (end : End) {feed other : List Event} → HandsLess end feed other
    → SameButSights (past_of end feed) (past_of end other)
feeds_same end none = same_self []
feeds_same end (ticks {feed = feed} {other = other} {sight = shown} {given = given} h order s) =
    tick_same end (past_of end feed) (past_of end other) shown given (feeds_same end h) order s
feeds_same end (gets {feed = feed} {other = other} {bytes = bytes} h) =
    got_keeps end (past_of end feed) (past_of end other) bytes (feeds_same end h)
feeds_same end (calls {feed = feed} {other = other} {actor = a} {number = n} {args = args} h) =
    call_keeps end.side (past_of end feed) (past_of end other) (feeds_same end h) a n args

-- the packets of both feeds are the same
pub out_same : (end : End) {feed other : List Event} → HandsLess end feed other → out_of end other ≡ out_of end feed
out_same end {feed} {other} h = bytes_same end (past_of end feed) (past_of end other) (feeds_same end h)
