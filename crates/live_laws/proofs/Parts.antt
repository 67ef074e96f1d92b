-- Which parts of what is heard are a turn's.
use Rattle.std.proofs.Common.{◌≡◌, ℕ, zero, suc, ◌<◌, ◌≤◌, List, [], ◌∷◌, ◌++◌, length, refl, ap, sym, ◌∙◌, append-nil, arith}
use Rattle.std.proofs.Math.Seq.{drop-append_seam}
use Rattle.live_model.specs.Outside.{Peer, Heard, Datagram, Quiet, part_within, turn_part, after_part}
use Rattle.live_laws.specs.Stepwise.{AreDatagrams, IsWhole}

-- datagrams, and no more of them than a turn hears, are heard whole
pub few_are_heard : (most : ℕ) (part : List Heard) → AreDatagrams part → length part ≤ most
    → part_within most part ≡ part
few_are_heard zero [] are few = refl
few_are_heard zero (h ∷ part) are few = absurd (omega arith)
few_are_heard (suc most) [] are few = refl
few_are_heard (suc most) (Quiet ∷ part) are few = absurd are
few_are_heard (suc most) (Datagram from bytes ∷ part) are few =
    ap (λ (l : List Heard). Datagram from bytes ∷ l) (few_are_heard most part are (omega arith))

-- a Quiet behind fewer ends the part
pub quiet_ends : (most : ℕ) (part more : List Heard) → AreDatagrams part → length part < most
    → part_within most ((part ++ Quiet ∷ []) ++ more) ≡ part ++ Quiet ∷ []
quiet_ends zero part more are few = absurd (omega arith)
quiet_ends (suc most) [] more are few = refl
quiet_ends (suc most) (Quiet ∷ part) more are few = absurd are
quiet_ends (suc most) (Datagram from bytes ∷ part) more are few =
    ap (λ (l : List Heard). Datagram from bytes ∷ l) (quiet_ends most part more are (omega arith))

-- as many as a turn hears are a part
pub enough_end : (most : ℕ) (part more : List Heard) → AreDatagrams part → length part ≡ most
    → part_within most (part ++ more) ≡ part
enough_end zero [] more are all = refl
enough_end zero (h ∷ part) more are all = absurd (omega arith)
enough_end (suc most) [] more are all = absurd (omega arith)
enough_end (suc most) (Quiet ∷ part) more are all = absurd are
enough_end (suc most) (Datagram from bytes ∷ part) more are all =
    ap (λ (l : List Heard). Datagram from bytes ∷ l) (enough_end most part more are (omega arith))

-- one datagram more
pub one_more_datagram : (part : List Heard) (from : Peer) (bytes : List ℕ) → AreDatagrams part
    → AreDatagrams (part ++ Datagram from bytes ∷ [])
one_more_datagram [] from bytes are = tt
one_more_datagram (Quiet ∷ part) from bytes are = absurd are
one_more_datagram (Datagram by sent ∷ part) from bytes are = one_more_datagram part from bytes are

-- datagrams behind datagrams
pub all_datagrams : (part more : List Heard) → AreDatagrams part → AreDatagrams more → AreDatagrams (part ++ more)
all_datagrams [] more is are = are
all_datagrams (Quiet ∷ part) more is are = absurd is
all_datagrams (Datagram from bytes ∷ part) more is are = all_datagrams part more is are

pub one_longer : (part : List Heard) (h : Heard) → length (part ++ h ∷ []) ≡ suc (length part)
one_longer [] h = refl
one_longer (x ∷ part) h = ap suc (one_longer part h)

-- what follows a part is left
pub more_left : (part more : List Heard) → after_part part (part ++ more) ≡ more
more_left part more = drop-append_seam part more

pub none_left : (part : List Heard) → after_part part part ≡ []
none_left part = ap (after_part part) (sym (append-nil part)) ∙ drop-append_seam part []

-- where nothing follows, a whole part is all
pub whole_alone : (part : List Heard) → IsWhole part → turn_part part ≡ part
whole_alone part is = ap turn_part (sym (append-nil part)) ∙ is []
