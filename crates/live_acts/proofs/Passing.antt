-- What acts leave outside, one after another.
use Rattle.std.proofs.Common.{◌≡◌, Bool, true, false, ℕ, zero, suc, ◌<◌, ◌==◌, List, [], ◌∷◌, ◌++◌, length, take, drop, Option, Some, None, option_map, refl, ap, sym, ◌∙◌, subst, append_assoc, append-nil, take-append-drop, arith}
use Rattle.std.proofs.lemmas.Bool.Decides.{nat_tests}
use Rattle.std.specs.Bool.{then_some}
use Rattle.std.specs.List.{cons_option}
use Rattle.std.specs.Io.KnownBytes.{Appends}
use Rattle.net_core.specs.Taken.{AppendsPrefix}
use Rattle.replication_model.specs.Headline.{IsPrefix}
use Rattle.live_model.specs.Outside.{Peer, Heard, Act, Sends, Writes, text_in, text_of, sent_on}
use Rattle.live_links.specs.Told.{EndTold, Told, at_end, hears, sends, heard_at, sent_at, TellsEach}
use Rattle.live_links.proofs.Ends.{length_at_end}
use Rattle.live_acts.specs.Performed.{UseOpen, HeardParts, nothing_heard, heard_on, both_parts, LinkPasses, Passes, LinkPassesPart, PassesPart}

-- ---- lists of acts

-- what is sent by acts and then by others
pub sent_both : (end : ℕ) (some others : List Act) → sent_on end (some ++ others) ≡ sent_on end some ++ sent_on end others
sent_both end [] others = refl
sent_both end (Writes text ∷ some) others = sent_both end some others
sent_both end (Sends by to bytes ∷ some) others = more (by == end) (sent_both end some others)
  where
    more : (here : Bool) → sent_on end (some ++ others) ≡ sent_on end some ++ sent_on end others
        → cons_option (then_some here (to, bytes)) (sent_on end (some ++ others))
        ≡ cons_option (then_some here (to, bytes)) (sent_on end some) ++ sent_on end others
    more true e = ap (λ (l : List (Peer × List ℕ)). (to, bytes) ∷ l) e
    more false e = e

-- and what they write
pub text_both : (some others : List Act) → text_of (some ++ others) ≡ text_of some ++ text_of others
text_both [] others = refl
text_both (act ∷ some) others =
    ap (λ (l : List ℕ). text_in act ++ l) (text_both some others)
    ∙ sym (append_assoc (text_in act) (text_of some) (text_of others))

-- acts on open ends, in a row
pub open_both : (count : ℕ) (some others : List Act) → UseOpen count some → UseOpen count others
    → UseOpen count (some ++ others)
open_both count [] others is are = are
open_both count (act ∷ some) others is are = (is.0, open_both count some others is.1 are)

-- ---- a sink

pub takes_nothing : (taken : Option (List ℕ)) → Appends taken taken []
takes_nothing None = tt
takes_nothing (Some xs) = sym (append-nil xs)

pub takes_both : (taken mid now : Option (List ℕ)) (one two : List ℕ) → Appends taken mid one → Appends mid now two
    → Appends taken now (one ++ two)
takes_both None mid now one two a b = tt
takes_both (Some xs) None now one two a b = absurd a
takes_both (Some xs) (Some ys) None one two a b = absurd b
takes_both (Some xs) (Some ys) (Some zs) one two a b =
    b ∙ ap (λ (l : List ℕ). l ++ two) a ∙ append_assoc xs one two

-- ---- fronts

pub all_front : {A : Type 0} → (xs : List A) → IsPrefix xs xs
all_front xs = ([], sym (append-nil xs))

pub none_front : {A : Type 0} → (xs : List A) → IsPrefix [] xs
none_front xs = (xs, refl)

-- a front of the second behind all of the first
pub front_behind : {A : Type 0} → (some front all : List A) → IsPrefix front all → IsPrefix (some ++ front) (some ++ all)
front_behind some front all is =
    (is.0, ap (λ l. some ++ l) is.1 ∙ sym (append_assoc some front is.0))

-- a front of a list is one of a longer list
pub front_longer : {A : Type 0} → (front all more : List A) → IsPrefix front all → IsPrefix front (all ++ more)
front_longer front all more is =
    (is.0 ++ more, ap (λ l. l ++ more) is.1 ∙ append_assoc front is.0 more)

-- ---- ends

first_apart : (m : ℕ) → (0 == suc m) ≡ false
first_apart m = grind (arith, nat_tests)

later_apart : (n : ℕ) → (suc n == 0) ≡ false
later_apart n = grind (arith, nat_tests)

one_up : (n m : ℕ) → (suc n == suc m) ≡ (n == m)
one_up n m = grind (arith, nat_tests)

-- what is sent on an end is heard by none
heard_stays : (to : Peer) (bytes : List ℕ) (n m : ℕ) (ends : List EndTold)
    → heard_at (at_end (sends to bytes) n ends) m ≡ heard_at ends m ++ []
heard_stays to bytes n m [] = refl
heard_stays to bytes zero zero (e ∷ ends) = sym (append-nil e.heard)
heard_stays to bytes zero (suc m) (e ∷ ends) = sym (append-nil (heard_at ends m))
heard_stays to bytes (suc n) zero (e ∷ ends) = sym (append-nil e.heard)
heard_stays to bytes (suc n) (suc m) (e ∷ ends) = heard_stays to bytes n m ends

-- and told there alone
sent_there : (to : Peer) (bytes : List ℕ) (n m : ℕ) (ends : List EndTold) → n < length ends
    → sent_at (at_end (sends to bytes) n ends) m ≡ sent_at ends m ++ sent_on m (Sends n to bytes ∷ [])
sent_there to bytes n m [] h = absurd (omega arith)
sent_there to bytes zero zero (e ∷ ends) h = refl
sent_there to bytes zero (suc m) (e ∷ ends) h = rw (first_apart m) (sym (append-nil (sent_at ends m)))
sent_there to bytes (suc n) zero (e ∷ ends) h = rw (later_apart n) (sym (append-nil e.sent))
sent_there to bytes (suc n) (suc m) (e ∷ ends) h = rw (one_up n m) (sent_there to bytes n m ends (omega arith))

-- what an end hears is told there alone
heard_there : (h : Heard) (n m : ℕ) (ends : List EndTold) → n < length ends
    → heard_at (at_end (hears h) n ends) m ≡ heard_at ends m ++ heard_on n h m
heard_there h n m [] l = absurd (omega arith)
heard_there h zero zero (e ∷ ends) l = refl
heard_there h zero (suc m) (e ∷ ends) l = rw (later_apart m) (sym (append-nil (heard_at ends m)))
heard_there h (suc n) zero (e ∷ ends) l = rw (first_apart n) (sym (append-nil e.heard))
heard_there h (suc n) (suc m) (e ∷ ends) l = rw (one_up m n) (heard_there h n m ends (omega arith))

-- and sends nothing
sent_stays : (h : Heard) (n m : ℕ) (ends : List EndTold)
    → sent_at (at_end (hears h) n ends) m ≡ sent_at ends m ++ []
sent_stays h n m [] = refl
sent_stays h zero zero (e ∷ ends) = sym (append-nil e.sent)
sent_stays h zero (suc m) (e ∷ ends) = sym (append-nil (sent_at ends m))
sent_stays h (suc n) zero (e ∷ ends) = sym (append-nil e.sent)
sent_stays h (suc n) (suc m) (e ∷ ends) = sent_stays h n m ends

-- ---- links

some_is : {A : Type 0} → (one two : A) → Some one ≡ Some two → one ≡ two
some_is one two h = cc

-- a link that stays
pub link_stays : (told : Told) → LinkPasses nothing_heard [] told told
link_stays told ends is = (
  ends,
  is,
  record {
    size = refl;
    hears = λ n. sym (append-nil (heard_at ends n));
    sends = λ n. sym (append-nil (sent_at ends n));
  },
)

-- a datagram was sent
pub link_sends : (end : ℕ) (to : Peer) (bytes : List ℕ) (count : ℕ) (told now : Told) → end < count
    → TellsEach told count → now ≡ option_map (at_end (sends to bytes) end) told
    → LinkPasses nothing_heard (Sends end to bytes ∷ []) told now
link_sends end to bytes count told now is are sent ends e =
    let is_open : end < length ends = (let size = subst (λ (t : Told). TellsEach t count) e are in omega arith) in (
      at_end (sends to bytes) end ends,
      sent ∙ ap (option_map (at_end (sends to bytes) end)) e,
      record {
        size = length_at_end (sends to bytes) end ends;
        hears = λ m. heard_stays to bytes end m ends;
        sends = λ m. sent_there to bytes end m ends is_open;
      },
    )

-- something was heard
pub link_hears : (end : ℕ) (h : Heard) (count : ℕ) (told now : Told) → end < count → TellsEach told count
    → now ≡ option_map (at_end (hears h) end) told → LinkPasses (heard_on end h) [] told now
link_hears end h count told now is are heard ends e =
    let is_open : end < length ends = (let size = subst (λ (t : Told). TellsEach t count) e are in omega arith) in (
      at_end (hears h) end ends,
      heard ∙ ap (option_map (at_end (hears h) end)) e,
      record {
        size = length_at_end (hears h) end ends;
        hears = λ m. heard_there h end m ends is_open;
        sends = λ m. sent_stays h end m ends;
      },
    )

-- ---- one after the other

link_both : (one two : HeardParts) (some others : List Act) (told mid now : Told) → LinkPasses one some told mid
    → LinkPasses two others mid now → LinkPasses (both_parts one two) (some ++ others) told now
link_both one two some others told mid now a b ends e =
    let first = a ends e in
    let second = b first.0 first.1 in
    let p = first.2 in
    let q = second.2 in (
      second.0,
      second.1,
      record {
        size = q.size ∙ p.size;
        hears = λ n. q.hears n ∙ ap (λ (l : List Heard). l ++ two n) (p.hears n)
            ∙ append_assoc (heard_at ends n) (one n) (two n);
        sends = λ n. q.sends n ∙ ap (λ (l : List (Peer × List ℕ)). l ++ sent_on n others) (p.sends n)
            ∙ append_assoc (sent_at ends n) (sent_on n some) (sent_on n others)
            ∙ ap (λ (l : List (Peer × List ℕ)). sent_at ends n ++ l) (sym (sent_both n some others));
      },
    )

link_then_part : (one two : HeardParts) (some others : List Act) (told mid now : Told) → LinkPasses one some told mid
    → LinkPassesPart two others mid now → LinkPassesPart (both_parts one two) (some ++ others) told now
link_then_part one two some others told mid now a b ends e =
    let first = a ends e in
    let second = b first.0 first.1 in
    let p = first.2 in
    let q = second.2 in (
      second.0,
      second.1,
      record {
        size = q.size ∙ p.size;
        hears = λ n. q.hears n ∙ ap (λ (l : List Heard). l ++ two n) (p.hears n)
            ∙ append_assoc (heard_at ends n) (one n) (two n);
        sends = λ n. (let s = q.sends n in (
          sent_on n some ++ s.0,
          subst (λ (l : List (Peer × List ℕ)). IsPrefix (sent_on n some ++ s.0) l) (sym (sent_both n some others))
              (front_behind (sent_on n some) s.0 (sent_on n others) s.1),
          s.2 ∙ ap (λ (l : List (Peer × List ℕ)). l ++ s.0) (p.sends n)
              ∙ append_assoc (sent_at ends n) (sent_on n some) s.0,
        ));
      },
    )

-- all of it is a part
pub part_of : (heard : HeardParts) (acts : List Act) (told now : Told) (taken taken_now : Option (List ℕ))
    → Passes heard acts told taken now taken_now → PassesPart heard acts told taken now taken_now
part_of heard acts told now taken taken_now p = record {
  link = λ ends e. (let l = p.link ends e in (
    l.0,
    l.1,
    record {
      size = l.2.size;
      hears = l.2.hears;
      sends = λ n. (sent_on n acts, all_front (sent_on n acts), l.2.sends n);
    },
  ));
  sink = (text_of acts, all_front (text_of acts), p.sink);
}

-- nothing is done
pub passes_none : (told : Told) (taken : Option (List ℕ)) → Passes nothing_heard [] told taken told taken
passes_none told taken = record { link = link_stays told; sink = takes_nothing taken }

-- these, and then those
pub passes_both : (one two : HeardParts) (some others : List Act) (told mid now : Told)
    (taken taken_mid taken_now : Option (List ℕ))
    → Passes one some told taken mid taken_mid → Passes two others mid taken_mid now taken_now
    → Passes (both_parts one two) (some ++ others) told taken now taken_now
passes_both one two some others told mid now taken taken_mid taken_now a b = record {
  link = link_both one two some others told mid now a.link b.link;
  sink = subst (Appends taken taken_now) (sym (text_both some others))
      (takes_both taken taken_mid taken_now (text_of some) (text_of others) a.sink b.sink);
}

-- these, and then a part of those
pub passes_then_part : (one two : HeardParts) (some others : List Act) (told mid now : Told)
    (taken taken_mid taken_now : Option (List ℕ))
    → Passes one some told taken mid taken_mid → PassesPart two others mid taken_mid now taken_now
    → PassesPart (both_parts one two) (some ++ others) told taken now taken_now
passes_then_part one two some others told mid now taken taken_mid taken_now a b = record {
  link = link_then_part one two some others told mid now a.link b.link;
  sink = (
    text_of some ++ b.sink.0,
    subst (λ (l : List ℕ). IsPrefix (text_of some ++ b.sink.0) l) (sym (text_both some others))
        (front_behind (text_of some) b.sink.0 (text_of others) b.sink.1),
    takes_both taken taken_mid taken_now (text_of some) b.sink.0 a.sink b.sink.2,
  );
}

-- a part of these is a part of more
pub part_longer : (heard : HeardParts) (some others : List Act) (told now : Told)
    (taken taken_now : Option (List ℕ)) → PassesPart heard some told taken now taken_now
    → PassesPart heard (some ++ others) told taken now taken_now
part_longer heard some others told now taken taken_now p = record {
  link = λ ends e. (let l = p.link ends e in (
    l.0,
    l.1,
    record {
      size = l.2.size;
      hears = l.2.hears;
      sends = λ n. (let s = l.2.sends n in (
        s.0,
        subst (λ (all : List (Peer × List ℕ)). IsPrefix s.0 all) (sym (sent_both n some others))
            (front_longer s.0 (sent_on n some) (sent_on n others) s.1),
        s.2,
      ));
    },
  ));
  sink = (
    p.sink.0,
    subst (λ (all : List ℕ). IsPrefix p.sink.0 all) (sym (text_both some others))
        (front_longer p.sink.0 (text_of some) (text_of others) p.sink.1),
    p.sink.2,
  );
}

-- ---- what is heard alike

-- parts that are alike at each end
pub same_heard : (one two : HeardParts) (acts : List Act) (told now : Told) (taken taken_now : Option (List ℕ))
    → ((end : ℕ) → one end ≡ two end) → Passes one acts told taken now taken_now
    → Passes two acts told taken now taken_now
same_heard one two acts told now taken taken_now same p = record {
  link = λ ends e. (let l = p.link ends e in (
    l.0,
    l.1,
    record {
      size = l.2.size;
      hears = λ n. l.2.hears n ∙ ap (λ (h : List Heard). heard_at ends n ++ h) (same n);
      sends = l.2.sends;
    },
  ));
  sink = p.sink;
}

pub same_heard_part : (one two : HeardParts) (acts : List Act) (told now : Told) (taken taken_now : Option (List ℕ))
    → ((end : ℕ) → one end ≡ two end) → PassesPart one acts told taken now taken_now
    → PassesPart two acts told taken now taken_now
same_heard_part one two acts told now taken taken_now same p = record {
  link = λ ends e. (let l = p.link ends e in (
    l.0,
    l.1,
    record {
      size = l.2.size;
      hears = λ n. l.2.hears n ∙ ap (λ (h : List Heard). heard_at ends n ++ h) (same n);
      sends = l.2.sends;
    },
  ));
  sink = p.sink;
}

-- these, and then others while nothing is heard
pub passes_on : (one : HeardParts) (some others : List Act) (told mid now : Told)
    (taken taken_mid taken_now : Option (List ℕ))
    → Passes one some told taken mid taken_mid → Passes nothing_heard others mid taken_mid now taken_now
    → Passes one (some ++ others) told taken now taken_now
passes_on one some others told mid now taken taken_mid taken_now a b =
    same_heard (both_parts one nothing_heard) one (some ++ others) told now taken taken_now
    (λ n. append-nil (one n))
    (passes_both one nothing_heard some others told mid now taken taken_mid taken_now a b)

-- these, and then a part of others
pub passes_on_part : (one : HeardParts) (some others : List Act) (told mid now : Told)
    (taken taken_mid taken_now : Option (List ℕ))
    → Passes one some told taken mid taken_mid → PassesPart nothing_heard others mid taken_mid now taken_now
    → PassesPart one (some ++ others) told taken now taken_now
passes_on_part one some others told mid now taken taken_mid taken_now a b =
    same_heard_part (both_parts one nothing_heard) one (some ++ others) told now taken taken_now
    (λ n. append-nil (one n))
    (passes_then_part one nothing_heard some others told mid now taken taken_mid taken_now a b)

-- something was heard
pub heard_passes : (end : ℕ) (h : Heard) (count : ℕ) (told now : Told) (taken : Option (List ℕ)) → end < count
    → TellsEach told count → now ≡ option_map (at_end (hears h) end) told
    → Passes (heard_on end h) [] told taken now taken
heard_passes end h count told now taken is are heard =
    record { link = link_hears end h count told now is are heard; sink = takes_nothing taken }

-- ---- one act

-- a text was written
pub text_passes : (text : List ℕ) (told : Told) (taken taken_now : Option (List ℕ)) → Appends taken taken_now text
    → Passes nothing_heard (Writes text ∷ []) told taken told taken_now
text_passes text told taken taken_now took = record {
  link = λ ends is. (
    ends,
    is,
    record {
      size = refl;
      hears = λ n. sym (append-nil (heard_at ends n));
      sends = λ n. sym (append-nil (sent_at ends n));
    },
  );
  sink = subst (Appends taken taken_now) (sym (append-nil text)) took;
}

-- a front of it was
pub text_passes_part : (text : List ℕ) (told : Told) (taken taken_now : Option (List ℕ))
    → AppendsPrefix taken taken_now text → PassesPart nothing_heard (Writes text ∷ []) told taken told taken_now
text_passes_part text told taken taken_now took = record {
  link = λ ends is. (
    ends,
    is,
    record {
      size = refl;
      hears = λ n. sym (append-nil (heard_at ends n));
      sends = λ n. ([], none_front [], sym (append-nil (sent_at ends n)));
    },
  );
  sink = (
    take took.0 text,
    (drop took.0 text, append-nil text ∙ sym (take-append-drop took.0 text)),
    took.2,
  );
}

-- a datagram was sent
pub datagram_passes : (end : ℕ) (to : Peer) (bytes : List ℕ) (count : ℕ) (told now : Told) (taken : Option (List ℕ))
    → end < count → TellsEach told count → now ≡ option_map (at_end (sends to bytes) end) told
    → Passes nothing_heard (Sends end to bytes ∷ []) told taken now taken
datagram_passes end to bytes count told now taken is are sent =
    record { link = link_sends end to bytes count told now is are sent; sink = takes_nothing taken }

-- nothing was
pub none_part : (acts : List Act) (told now : Told) (taken : Option (List ℕ)) → now ≡ told
    → PassesPart nothing_heard acts told taken now taken
none_part acts told now taken same = record {
  link = λ ends is. (
    ends,
    same ∙ is,
    record {
      size = refl;
      hears = λ n. sym (append-nil (heard_at ends n));
      sends = λ n. ([], none_front (sent_on n acts), sym (append-nil (sent_at ends n)));
    },
  );
  sink = ([], none_front (text_of acts), takes_nothing taken);
}
