-- What a client's turn hears: up to a Failure while it isn't welcomed.
use Rattle.std.proofs.Common.{inl, inr, ◌≡◌, ℕ, zero, suc, ◌<◌, ◌≤◌, List, [], ◌∷◌, ◌++◌, Bool, true, false, not, ◌&&◌, ◌||◌, Option, Some, None, option_map, unwrap_or, length, cond, refl, ap, sym, ◌∙◌, subst, arith}
use Rattle.std.specs.Prelude.{find, is_some, if◌then◌else◌}
use Rattle.std.proofs.lemmas.Bool.{cases_Bool}
use Rattle.protocol_model.specs.Side.{AtClient}
use Rattle.protocol_model.specs.Value.{Table}
use Rattle.live_model.specs.Outside.{Peer, same_peer, Heard, Datagram, Quiet, part_within, up_to}
use Rattle.live_model.specs.Handshake.{ends_in_zero}
use Rattle.live_model.specs.Server.{after_hearing}
use Rattle.live_model.specs.Caller.{Caller, Called, refusal_in, welcomes, is_answer, is_refused_by, caller_part, after_answer, after_datagram, after_heard}
use Rattle.live_laws.specs.Answered.{after_part_of, Goes, WasWelcomed, Unanswered, IsWelcomed}
use Rattle.live_laws.specs.Stepwise.{caller_still, AreDatagrams, IsWhole, IsWholeFor, caller_hears}
use Rattle.live_laws.proofs.Parts.{few_are_heard, one_more_datagram, one_longer}
use Rattle.live_laws.proofs.CallerTurns.{caller_hears_one}

-- a turn begins so
pub goes_first : (table : Table) (c : Caller) → c.refused ≡ None → Goes table c []
goes_first table c none = elim (cases_Bool c.welcomed) [
  | inl is ↦ WasWelcomed is is none
  | inr not_yet ↦ Unanswered not_yet none refl refl
]

-- ---- lists

found_longer : (test : Heard → Bool) (part more : List Heard) (a : Heard) → find test part ≡ Some a
    → find test (part ++ more) ≡ Some a
found_longer test [] more a is = absurd (cc)
found_longer test (x ∷ part) more a is = one (test x) is (found_longer test part more a)
  where
    one : (here : Bool) → cond here (Some x) (find test part) ≡ Some a
        → (find test part ≡ Some a → find test (part ++ more) ≡ Some a)
        → cond here (Some x) (find test (part ++ more)) ≡ Some a
    one true e next = e
    one false e next = next e

found_last : (test : Heard → Bool) (part more : List Heard) → find test part ≡ None
    → find test (part ++ more) ≡ find test more
found_last test [] more is = refl
found_last test (x ∷ part) more is = one (test x) is (found_last test part more)
  where
    one : (here : Bool) → cond here (Some x) (find test part) ≡ None
        → (find test part ≡ None → find test (part ++ more) ≡ find test more)
        → cond here (Some x) (find test (part ++ more)) ≡ find test more
    one true e next = absurd (cc)
    one false e next = next e

up_to_last : (test : Heard → Bool) (part more : List Heard) (h : Heard) → find test part ≡ None → test h ≡ true
    → up_to test ((part ++ h ∷ []) ++ more) ≡ part ++ h ∷ []
up_to_last test [] more h none is = ap (λ (t : Bool). if t then h ∷ [] else h ∷ up_to test more) is
up_to_last test (x ∷ part) more h none is = one (test x) none (λ e. up_to_last test part more h e is)
  where
    one : (here : Bool) → cond here (Some x) (find test part) ≡ None
        → (find test part ≡ None → up_to test ((part ++ h ∷ []) ++ more) ≡ part ++ h ∷ [])
        → (if here then x ∷ [] else x ∷ up_to test ((part ++ h ∷ []) ++ more)) ≡ x ∷ (part ++ h ∷ [])
    one true e next = absurd (cc)
    one false e next = ap (λ (l : List Heard). x ∷ l) (next e)

-- a turn's part of datagrams, and of what follows
part_goes_on : (most : ℕ) (part more : List Heard) → AreDatagrams part → length part ≤ most
    → (rest : List Heard) × (part_within most (part ++ more) ≡ part ++ rest)
part_goes_on most [] more are few = (part_within most more, refl)
part_goes_on most (Quiet ∷ part) more are few = absurd are
part_goes_on zero (Datagram from bytes ∷ part) more are few = absurd (omega arith)
part_goes_on (suc most) (Datagram from bytes ∷ part) more are few =
    let next = part_goes_on most part more are (omega arith) in
    (next.0, ap (λ (l : List Heard). Datagram from bytes ∷ l) next.1)

-- ---- whole parts

-- a part without a Failure is whole where the link's is
not_cut : (table : Table) (c : Caller) (part : List Heard) → Goes table c part
    → (not c.welcomed && is_refused_by c part) ≡ false
not_cut table c part (WasWelcomed was is none) = ap (λ (w : Bool). not w && is_refused_by c part) was
not_cut table c part (Unanswered was none nobody same) =
    ap (λ (w : Bool). not w && is_refused_by c part) was
    ∙ ap (λ (o : Option Heard). unwrap_or (option_map (λ h. not (welcomes c h)) o) false) nobody
not_cut table c part (IsWelcomed was a found is now none) =
    ap (λ (w : Bool). not w && is_refused_by c part) was
    ∙ ap (λ (o : Option Heard). unwrap_or (option_map (λ h. not (welcomes c h)) o) false) found
    ∙ ap not is

pub goes_whole : (table : Table) (c : Caller) (part : List Heard) → Goes table c part → IsWhole part
    → IsWholeFor c part
goes_whole table c part goes is more =
    ap (λ (p : List Heard). if not c.welcomed && is_refused_by c p then up_to (is_answer c) p else p) (is more)
    ∙ ap (λ (cut : Bool). if cut then up_to (is_answer c) part else part) (not_cut table c part goes)

-- and where nothing follows
pub goes_alone : (table : Table) (c : Caller) (part : List Heard) → Goes table c part → AreDatagrams part
    → length part ≤ 1024 → caller_part (caller_still part c) ≡ part
goes_alone table c part goes are few =
    ap (λ (p : List Heard). if not c.welcomed && is_refused_by c p then up_to (is_answer c) p else p)
    (few_are_heard 1024 part are few)
    ∙ ap (λ (cut : Bool). if cut then up_to (is_answer c) part else part) (not_cut table c part goes)

-- ---- one thing more

after_one : (table : Table) (c : Caller) (part : List Heard) (h : Heard)
    → after_part_of table c (part ++ h ∷ []) ≡ (after_heard table (after_part_of table c part) h).0
after_one table c part h = ap (λ (called : Called). called.0) (caller_hears_one table (caller_still [] c, []) part h)

-- a client that stays as it was, but for what it heard
abbrev heard_by : Table → (bytes : List ℕ) → Caller → (ignored : Bool) → Called
heard_by table bytes c ignored =
    if ignored then (c, [])
    else let next = after_hearing table [] AtClient bytes c.player in (record c { player = next.0 }, next.1)

stays_by : (table : Table) (bytes : List ℕ) (c : Caller) (ignored : Bool) → c.welcomed ≡ true → c.refused ≡ None
    → ((heard_by table bytes c ignored).0.welcomed ≡ true) × ((heard_by table bytes c ignored).0.refused ≡ None)
stays_by table bytes c true is none = (is, none)
stays_by table bytes c false is none = (is, none)

-- a welcomed client stays so
stays_welcomed : (table : Table) (c : Caller) (h : Heard) → c.welcomed ≡ true → c.refused ≡ None
    → ((after_heard table c h).0.welcomed ≡ true) × ((after_heard table c h).0.refused ≡ None)
stays_welcomed table c Quiet is none = (is, none)
stays_welcomed table c (Datagram from bytes) is none =
    let ignored = not (same_peer from c.server) || ends_in_zero bytes in
    subst (λ (called : Called). (called.0.welcomed ≡ true) × (called.0.refused ≡ None))
    (sym (ap (λ (w : Bool). if w then heard_by table bytes c ignored else after_answer c (Datagram from bytes)) is))
    (stays_by table bytes c ignored is none)

-- what a client that isn't welcomed makes of a datagram
answers : (table : Table) (c : Caller) (from : Peer) (bytes : List ℕ) → c.welcomed ≡ false
    → after_heard table c (Datagram from bytes) ≡ after_answer c (Datagram from bytes)
answers table c from bytes is =
    ap (λ (w : Bool). if w then after_datagram table from bytes c else after_answer c (Datagram from bytes)) is

-- the answer to a client that nobody answered before
first_answer : (table : Table) (c : Caller) (part : List Heard) (from : Peer) (bytes : List ℕ) → c.welcomed ≡ false
    → after_part_of table c part ≡ caller_still [] c
    → after_part_of table c (part ++ Datagram from bytes ∷ [])
    ≡ (after_answer (caller_still [] c) (Datagram from bytes)).0
first_answer table c part from bytes was same =
    after_one table c part (Datagram from bytes)
    ∙ ap (λ (now : Caller). (after_heard table now (Datagram from bytes)).0) same
    ∙ ap (λ (called : Called). called.0) (answers table (caller_still [] c) from bytes was)

abbrev answer_by : (c : Caller) (from : Peer) (bytes : List ℕ) → (is_welcome : Bool) → Called
answer_by c from bytes w =
    if w then (record (caller_still [] c) { welcomed = true }, [])
    else (record (caller_still [] c) { refused = refusal_in c (Datagram from bytes) }, [])

-- a Welcome
welcomed_now : (c : Caller) (from : Peer) (bytes : List ℕ) → welcomes c (Datagram from bytes) ≡ true
    → (after_answer (caller_still [] c) (Datagram from bytes)).0 ≡ record (caller_still [] c) { welcomed = true }
welcomed_now c from bytes is =
    ap (λ (w : Bool). (answer_by c from bytes w).0) is

-- anything else
refused_now : (c : Caller) (from : Peer) (bytes : List ℕ) → welcomes c (Datagram from bytes) ≡ false
    → (after_answer (caller_still [] c) (Datagram from bytes)).0
    ≡ record (caller_still [] c) { refused = refusal_in c (Datagram from bytes) }
refused_now c from bytes is =
    ap (λ (w : Bool). (answer_by c from bytes w).0) is

found_now : (c : Caller) (part : List Heard) (h : Heard) → find (is_answer c) part ≡ None → is_answer c h ≡ true
    → find (is_answer c) (part ++ h ∷ []) ≡ Some h
found_now c part h nobody is =
    found_last (is_answer c) part (h ∷ []) nobody ∙ ap (λ (t : Bool). cond t (Some h) None) is

-- a turn goes on where the client isn't refused
pub next_goes : (table : Table) (c : Caller) (part : List Heard) (from : Peer) (bytes : List ℕ) → Goes table c part
    → is_some (after_part_of table c (part ++ Datagram from bytes ∷ [])).refused ≡ false
    → Goes table c (part ++ Datagram from bytes ∷ [])
next_goes table c part from bytes (WasWelcomed was is none) going =
    let s = stays_welcomed table (after_part_of table c part) (Datagram from bytes) is none in
    let e = after_one table c part (Datagram from bytes) in
    WasWelcomed was (ap (λ (now : Caller). now.welcomed) e ∙ s.0) (ap (λ (now : Caller). now.refused) e ∙ s.1)
next_goes table c part from bytes (IsWelcomed was a found by is none) going =
    let s = stays_welcomed table (after_part_of table c part) (Datagram from bytes) is none in
    let e = after_one table c part (Datagram from bytes) in
    IsWelcomed was a (found_longer (is_answer c) part (Datagram from bytes ∷ []) a found) by
    (ap (λ (now : Caller). now.welcomed) e ∙ s.0) (ap (λ (now : Caller). now.refused) e ∙ s.1)
next_goes table c part from bytes (Unanswered was none nobody same) going =
    let d = Datagram from bytes in
    let e = first_answer table c part from bytes was same in
    elim (cases_Bool (welcomes c d)) [
      | inl is ↦ (let now = e ∙ welcomed_now c from bytes is in
          IsWelcomed was d (found_now c part d nobody (ap (λ (w : Bool). w || is_some (refusal_in c d)) is)) is
          (ap (λ (c2 : Caller). c2.welcomed) now) (ap (λ (c2 : Caller). c2.refused) now ∙ none))
      | inr isnt ↦ (let now = e ∙ refused_now c from bytes isnt in
          let nothing = ap (λ (c2 : Caller). is_some c2.refused) (sym now) ∙ going in
          Unanswered was none
          (found_last (is_answer c) part (d ∷ []) nobody
          ∙ ap (λ (t : Bool). cond t (Some d) None) (ap (λ (w : Bool). w || is_some (refusal_in c d)) isnt ∙ nothing))
          (now ∙ ap (λ (r : Option ℕ). record (caller_still [] c) { refused = r })
          (no_code (refusal_in c d) nothing ∙ sym none)))
    ]
  where
    no_code : (o : Option ℕ) → is_some o ≡ false → o ≡ None
    no_code None h = refl
    no_code (Some code) h = absurd (cc)

-- the first Failure ends the part
pub failure_ends : (c : Caller) (part : List Heard) (from : Peer) (bytes : List ℕ) → c.welcomed ≡ false
    → AreDatagrams part → length part < 1024 → find (is_answer c) part ≡ None
    → is_answer c (Datagram from bytes) ≡ true → welcomes c (Datagram from bytes) ≡ false
    → IsWholeFor c (part ++ Datagram from bytes ∷ [])
failure_ends c part from bytes was are few nobody answer isnt more =
    let d = Datagram from bytes in
    let long : length (part ++ d ∷ []) ≤ 1024 = (let l = one_longer part d in omega arith) in
    let goes = part_goes_on 1024 (part ++ d ∷ []) more (one_more_datagram part from bytes are) long in
    let all = (part ++ d ∷ []) ++ goes.0 in
    let found = found_longer (is_answer c) (part ++ d ∷ []) goes.0 d (found_now c part d nobody answer) in
    let refused : is_refused_by c all ≡ true =
    ap (λ (o : Option Heard). unwrap_or (option_map (λ h. not (welcomes c h)) o) false) found ∙ ap not isnt in
    ap (λ (p : List Heard). if not c.welcomed && is_refused_by c p then up_to (is_answer c) p else p) goes.1
    ∙ ap (λ (w : Bool). if not w && is_refused_by c all then up_to (is_answer c) all else all) was
    ∙ ap (λ (r : Bool). if r then up_to (is_answer c) all else all) refused
    ∙ up_to_last (is_answer c) part goes.0 d nobody answer

none_ends : (o : Option ℕ) → o ≡ None → is_some o ≡ true → ⊥
none_ends o h e = absurd (cc)

-- and ends where it is: its part ends with the Failure
pub next_ends : (table : Table) (c : Caller) (part : List Heard) (from : Peer) (bytes : List ℕ) → Goes table c part
    → AreDatagrams part → length part < 1024
    → is_some (after_part_of table c (part ++ Datagram from bytes ∷ [])).refused ≡ true
    → IsWholeFor c (part ++ Datagram from bytes ∷ [])
next_ends table c part from bytes (WasWelcomed was is none) are few ended =
    let s = stays_welcomed table (after_part_of table c part) (Datagram from bytes) is none in
    absurd (none_ends _ (ap (λ (now : Caller). now.refused) (after_one table c part (Datagram from bytes)) ∙ s.1) ended)
next_ends table c part from bytes (IsWelcomed was a found by is none) are few ended =
    let s = stays_welcomed table (after_part_of table c part) (Datagram from bytes) is none in
    absurd (none_ends _ (ap (λ (now : Caller). now.refused) (after_one table c part (Datagram from bytes)) ∙ s.1) ended)
next_ends table c part from bytes (Unanswered was none nobody same) are few ended =
    let d = Datagram from bytes in
    let e = first_answer table c part from bytes was same in
    elim (cases_Bool (welcomes c d)) [
      | inl is ↦ absurd (none_ends _ (ap (λ (c2 : Caller). c2.refused) (e ∙ welcomed_now c from bytes is) ∙ none) ended)
      | inr isnt ↦ (let code = ap (λ (c2 : Caller). is_some c2.refused) (sym (e ∙ refused_now c from bytes isnt)) ∙ ended in
          failure_ends c part from bytes was are few nobody
          (ap (λ (w : Bool). w || is_some (refusal_in c d)) isnt ∙ code) isnt)
    ]

-- Quiet changes nothing
pub quiet_goes : (table : Table) (c : Caller) (part : List Heard) → Goes table c part
    → Goes table c (part ++ Quiet ∷ [])
quiet_goes table c part (WasWelcomed was is none) =
    let e = after_one table c part Quiet in
    WasWelcomed was (ap (λ (now : Caller). now.welcomed) e ∙ is) (ap (λ (now : Caller). now.refused) e ∙ none)
quiet_goes table c part (Unanswered was none nobody same) =
    Unanswered was none (found_last (is_answer c) part (Quiet ∷ []) nobody) (after_one table c part Quiet ∙ same)
quiet_goes table c part (IsWelcomed was a found by is none) =
    let e = after_one table c part Quiet in
    IsWelcomed was a (found_longer (is_answer c) part (Quiet ∷ []) a found) by
    (ap (λ (now : Caller). now.welcomed) e ∙ is) (ap (λ (now : Caller). now.refused) e ∙ none)

-- a client whose turn goes on isn't refused
pub not_refused : (table : Table) (c : Caller) (part : List Heard) → Goes table c part
    → (after_part_of table c part).refused ≡ None
not_refused table c part (WasWelcomed was is none) = none
not_refused table c part (Unanswered was none nobody same) = ap (λ (now : Caller). now.refused) same ∙ none
not_refused table c part (IsWelcomed was a found by is none) = none
