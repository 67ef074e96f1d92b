-- A client's turn, step by step.
use Rattle.std.proofs.Common.{◌≡◌, ℕ, suc, List, [], ◌∷◌, ◌++◌, Bool, true, false, not, ◌||◌, refl, ap, sym, ◌∙◌, append_assoc, append-nil}
use Rattle.std.specs.Prelude.{is_some, if◌then◌else◌}
use Rattle.std.proofs.lemmas.List.Sums.{fold-append}
use Rattle.protocol_model.specs.Side.{AtClient}
use Rattle.protocol_model.specs.Value.{Table}
use Rattle.live_model.specs.Outside.{same_peer, Heard, Datagram, Quiet, Act, after_part}
use Rattle.live_model.specs.Handshake.{ends_in_zero}
use Rattle.live_model.specs.Server.{after_hearing, after_live_tick}
use Rattle.live_model.specs.Caller.{Caller, Called, refusal_in, welcomes, caller_part, after_answer, after_datagram, after_heard, also_heard, after_tick, asks, after_caller_turn}
use Rattle.live_model.specs.Runs.{after_caller_turns}
use Rattle.live_laws.specs.Stepwise.{caller_still, called_still, IsWholeFor, caller_hears, rest_of_caller_turn}
use Rattle.live_laws.proofs.Parts.{more_left, none_left}

-- ---- what is left to be heard is left alone

choice : (heard : List Heard) (test : Bool) (one other : Called)
    → (if test then called_still heard one else called_still heard other)
    ≡ called_still heard (if test then one else other)
choice heard true one other = refl
choice heard false one other = refl

both_ways : (test : Bool) (one other one2 other2 : Called) → one ≡ one2 → other ≡ other2
    → (if test then one else other) ≡ (if test then one2 else other2)
both_ways true one other one2 other2 e f = e
both_ways false one other one2 other2 e f = f

hearing_leaves : (table : Table) (heard : List Heard) (c : Caller) (h : Heard)
    → after_heard table (caller_still heard c) h ≡ called_still heard (after_heard table c h)
hearing_leaves table heard c Quiet = refl
hearing_leaves table heard c (Datagram from bytes) =
    let next = after_hearing table [] AtClient bytes c.player in
    both_ways c.welcomed _ _ _ _
    (choice heard (not (same_peer from c.server) || ends_in_zero bytes) (c, [])
    (record c { player = next.0 }, next.1))
    (choice heard (welcomes c (Datagram from bytes)) (record c { welcomed = true }, [])
    (record c { refused = refusal_in c (Datagram from bytes) }, []))
    ∙ choice heard c.welcomed (after_datagram table from bytes c) (after_answer c (Datagram from bytes))

hears_leaves : (table : Table) (heard : List Heard) (called : Called) (part : List Heard)
    → caller_hears table (called_still heard called) part ≡ called_still heard (caller_hears table called part)
hears_leaves table heard called [] = refl
hears_leaves table heard called (h ∷ part) =
    ap (λ (next : Called). caller_hears table (next.0, called.1 ++ next.1) part) (hearing_leaves table heard called.0 h)
    ∙ hears_leaves table heard ((after_heard table called.0 h).0, called.1 ++ (after_heard table called.0 h).1) part

tick_leaves : (table : Table) (heard : List Heard) (c : Caller)
    → after_tick table (caller_still heard c) ≡ called_still heard (after_tick table c)
tick_leaves table heard c =
    let next = after_live_tick table [] AtClient c.end c.server c.player in
    choice heard (not c.welcomed) (c, []) (record c { player = next.0 }, next.1)

rest_leaves : (table : Table) (digest : List ℕ) (c : Caller) (heard : List Heard) (called : Called)
    → rest_of_caller_turn table digest c (called_still heard called)
    ≡ called_still heard (rest_of_caller_turn table digest c called)
rest_leaves table digest c heard called =
    ap (λ (ticked : Called). (ticked.0, asks digest c ++ called.1 ++ ticked.1)) (tick_leaves table heard called.0)

-- one thing more is heard
pub caller_hears_one : (table : Table) (called : Called) (part : List Heard) (h : Heard)
    → caller_hears table called (part ++ h ∷ []) ≡ also_heard table (caller_hears table called part) h
caller_hears_one table called part h = fold-append (also_heard table) called part (h ∷ [])

-- ---- a turn

-- a turn whose part this is asks, hears it, and then ticks
pub caller_turn_of_part : (table : Table) (digest : List ℕ) (part more : List Heard) (c : Caller)
    → caller_part (caller_still (part ++ more) c) ≡ part
    → after_caller_turn table digest (caller_still (part ++ more) c)
    ≡ rest_of_caller_turn table digest c (caller_hears table (caller_still more c, []) part)
caller_turn_of_part table digest part more c is =
    ap (λ (p : List Heard). rest_of_caller_turn table digest c
    (caller_hears table (caller_still (after_part p (part ++ more)) c, []) p)) is
    ∙ ap (λ (left : List Heard). rest_of_caller_turn table digest c (caller_hears table (caller_still left c, []) part))
    (more_left part more)

-- the same where nothing follows
pub caller_turn_of_all : (table : Table) (digest : List ℕ) (part : List Heard) (c : Caller)
    → caller_part (caller_still part c) ≡ part
    → after_caller_turn table digest (caller_still part c)
    ≡ rest_of_caller_turn table digest c (caller_hears table (caller_still [] c, []) part)
caller_turn_of_all table digest part c is =
    ap (λ (p : List Heard). rest_of_caller_turn table digest c
    (caller_hears table (caller_still (after_part p part) c, []) p)) is
    ∙ ap (λ (left : List Heard). rest_of_caller_turn table digest c (caller_hears table (caller_still left c, []) part))
    (none_left part)

whole_alone : (c : Caller) (part : List Heard) → IsWholeFor c part → caller_part (caller_still part c) ≡ part
whole_alone c part is = ap (λ (heard : List Heard). caller_part (caller_still heard c)) (sym (append-nil part)) ∙ is []

-- what follows a whole part is left for the next turn
pub caller_turn_leaves : (table : Table) (digest : List ℕ) (part more : List Heard) (c : Caller) → IsWholeFor c part
    → after_caller_turn table digest (caller_still (part ++ more) c)
    ≡ called_still more (after_caller_turn table digest (caller_still part c))
caller_turn_leaves table digest part more c is =
    let alone = caller_turn_of_all table digest part c (whole_alone c part is) in
    caller_turn_of_part table digest part more c (is more)
    ∙ ap (rest_of_caller_turn table digest c) (hears_leaves table more (caller_still [] c, []) part)
    ∙ rest_leaves table digest c more (caller_hears table (caller_still [] c, []) part)
    ∙ ap (called_still more) (sym alone)

-- and so with the turns after it
pub caller_turns_leave : (table : Table) (digest : List ℕ) (turns : ℕ) (part more : List Heard) (c : Caller)
    (acts : List Act) → is_some c.refused ≡ false → IsWholeFor c part
    → after_caller_turns table digest (suc turns) (caller_still (part ++ more) c, acts)
    ≡ after_caller_turns table digest turns (
      caller_still more (after_caller_turn table digest (caller_still part c)).0,
      acts ++ (after_caller_turn table digest (caller_still part c)).1,
    )
caller_turns_leave table digest turns part more c acts goes is =
    let next = after_caller_turn table digest (caller_still (part ++ more) c) in
    ap (λ (ended : Bool). if ended then (caller_still (part ++ more) c, acts)
    else after_caller_turns table digest turns (next.0, acts ++ next.1)) goes
    ∙ ap (λ (called : Called). after_caller_turns table digest turns (called.0, acts ++ called.1))
    (caller_turn_leaves table digest part more c is)

-- ---- what was done before

-- what was done before stands in front
in_front : (table : Table) (called : Called) (xs : List Heard)
    → caller_hears table called xs
    ≡ ((caller_hears table (called.0, []) xs).0, called.1 ++ (caller_hears table (called.0, []) xs).1)
in_front table called [] = ap (λ (acts : List Act). (called.0, acts)) (sym (append-nil called.1))
in_front table called (x ∷ xs) =
    let next = after_heard table called.0 x in
    let rest = caller_hears table (next.0, []) xs in
    in_front table (next.0, called.1 ++ next.1) xs
    ∙ ap (λ (acts : List Act). (rest.0, acts)) (append_assoc called.1 next.1 rest.1)
    ∙ ap (λ (on : Called). (on.0, called.1 ++ on.1)) (sym (in_front table (next.0, next.1) xs))

-- what is heard after a part comes of the client after it
pub caller_hears_both : (table : Table) (c : Caller) (part more : List Heard)
    → caller_hears table (caller_still [] c, []) (part ++ more)
    ≡ (
      (caller_hears table (caller_still [] (caller_hears table (caller_still [] c, []) part).0, []) more).0,
      (caller_hears table (caller_still [] c, []) part).1
          ++ (caller_hears table (caller_still [] (caller_hears table (caller_still [] c, []) part).0, []) more).1,
    )
caller_hears_both table c part more =
    let first = caller_hears table (caller_still [] c, []) part in
    let same : first ≡ called_still [] first = hears_leaves table [] (caller_still [] c, []) part in
    fold-append (also_heard table) (caller_still [] c, []) part more
    ∙ in_front table first more
    ∙ ap (λ (c2 : Caller). ((caller_hears table (c2, []) more).0, first.1 ++ (caller_hears table (c2, []) more).1))
    (ap (λ (called : Called). called.0) same)
