-- What stands after a bunch whose payloads were all read.
use Rattle.std.proofs.Common.{◌≡◌, ℕ, ◌-◌, ◌==◌, ◌<◌, List, [], ◌∷◌, ◌++◌, Bool, true, false, cond, ◌&&◌, Option, Some, None, refl, ap, sym, ◌∙◌, subst, ℤ}
use Rattle.std.specs.List.{AllByRecursion}
use Rattle.std.proofs.lemmas.Bool.{cond_both, and_parts, eqb-true}
use Rattle.protocol_model.specs.Side.{AtClient}
use Rattle.protocol_model.specs.Packet.{Bunch}
use Rattle.protocol_model.specs.declared.PartWhy.{PartWhy}
use Rattle.protocol_model.specs.declared.Cause.{Cause}
use Rattle.connection_model.specs.Feed.{Past, Entry, Heard, Delivered}
use Rattle.connection_model.specs.Windows.{Received, received_on, Offer, Repeat, Ready, Held, offer_of, number_as, with_offer, with_bunch, ready_bunches, applied_of, kept_of, next_of, run_of, part_fault, ends_payload, first_of}
use Rattle.connection_model.specs.Verdict.{is_misplaced}
use Rattle.receiving_laws.specs.Holders.{is_copied_on}
use Rattle.receiving_laws.specs.Receiving.{Raws, is_astray, copied_after, raws_of, raws_heard, reliable_raws}
use Rattle.connection_laws.proofs.Applied.{kept_after, kept_is, applied_held, applied_ready, offer_cases, run_on}
use Rattle.connection_laws.proofs.Receiving.{has}
use Rattle.client_laws.specs.Holding.{Holds, IsProper, IsSound, Begun, AllCame}
use Rattle.receiving_laws.specs.Receiving.{copied_through}
use Rattle.client_laws.proofs.Payloads.{taking}
use Rattle.client_laws.proofs.Parts.{IsOf}
use Rattle.client_laws.proofs.Raws.{Come, come, raws_astray, raws_faulty, raws_more, raws_last}
use Rattle.client_laws.proofs.Heard.{is_sound, received_are_of, offered_of, kept_of_are}

never : {B : Type 0} (cause : Cause) → Some cause ≡ None → B
never cause e = absurd (cc)

-- ---- what is kept then

kept_split : (xs ys kept : List Bunch) → kept_after kept (xs ++ ys) ≡ kept_after (kept_after kept xs) ys
kept_split [] ys kept = refl
kept_split (x ∷ xs) ys kept = by (ends_payload x) (kept_split xs ys []) (kept_split xs ys (x ∷ kept))
  where
    by : (b : Bool) → kept_after [] (xs ++ ys) ≡ kept_after (kept_after [] xs) ys
        → kept_after (x ∷ kept) (xs ++ ys) ≡ kept_after (kept_after (x ∷ kept) xs) ys
        → cond b (kept_after [] (xs ++ ys)) (kept_after (x ∷ kept) (xs ++ ys)) ≡ kept_after
        (cond b (kept_after [] xs) (kept_after (x ∷ kept) xs)) ys
    by true h g = h
    by false h g = g

kept_more : (xs ys : List Bunch) → kept_of (xs ++ ys) ≡ kept_after (kept_of xs) ys
kept_more xs ys =
    kept_is (xs ++ ys) ∙ kept_split xs ys [] ∙ ap (λ (k : List Bunch). kept_after k ys) (sym (kept_is xs))

-- ---- a reliable bunch

-- what a reliable bunch leaves on its channel
abbrev pub Left : (copied : Bool) → List Received → Raws → Type 0
Left copied got raws = raws.cause ≡ None → Begun (copied_through copied raws.whole) (kept_of (applied_of got))

-- the bunches that come ready with an offer
abbrev pub ready_by : List Received → Bunch → Offer → List Bunch
ready_by got b o = run_of (with_offer got b o) (next_of got) (next_of (with_offer got b o) - next_of got)

reliable_left : (past : Past) (b : Bunch) (got : List Received) (z : ℤ) → number_as got b ≡ z
    → Begun (is_copied_on past b.channel) (kept_of (applied_of got))
    → Come b.channel (is_copied_on past b.channel) (kept_of (applied_of got)) (ready_bunches got b)
    (raws_of AtClient (is_copied_on past b.channel) (kept_of (applied_of got)) (ready_bunches got b))
    → Left (is_copied_on past b.channel) (with_bunch got b)
    (reliable_raws AtClient past b got (offer_of got (number_as got b)))
reliable_left past b got z e begun come =
    by (offer_of got (number_as got b)) refl
    (offer_cases got (number_as got b) Fresh tt tt (λ n above new. (above, new)))
  where
    copied : Bool
    copied = is_copied_on past b.channel

    Fresh : Offer → Type 0
    Fresh Repeat = Unit {0}
    Fresh Ready = Unit {0}
    Fresh (Held n) = (next_of got < n) × (has got n ≡ false)

    ready : offer_of got (number_as got b) ≡ Ready
        → kept_of (applied_of (with_bunch got b)) ≡ kept_after (kept_of (applied_of got))
        (ready_bunches got b)
    ready is =
        let with_it : with_bunch got b ≡ (next_of got, b) ∷ got = ap (with_offer got b) is in
        ap (λ (g : List Received). kept_of (applied_of g)) with_it ∙ ap kept_of (applied_ready got b)
        ∙ kept_more (applied_of got) _
        ∙ ap (λ (g : List Received). kept_after (kept_of (applied_of got))
        (run_of g (next_of got) (next_of g - next_of got))) (sym with_it)

    by : (o : Offer) → offer_of got (number_as got b) ≡ o → Fresh o
        → Left copied (with_bunch got b) (reliable_raws AtClient past b got o)
    by Repeat is fresh c =
        subst (λ (g : List Received). Begun copied (kept_of (applied_of g))) (sym (ap (with_offer got b) is))
        begun
    by (Held n) is fresh c =
        subst (λ (g : List Received). Begun copied (kept_of (applied_of g))) (sym (ap (with_offer got b) is))
        (subst (λ (l : List Bunch). Begun copied (kept_of l)) (sym (applied_held got b n fresh.0 fresh.1))
        begun)
    by Ready is fresh c =
        subst (Begun (copied_through copied
        (raws_of AtClient copied (kept_of (applied_of got)) (ready_bunches got b)).whole)) (sym (ready is))
        (come.begun c)

-- ---- an unreliable bunch

loose_after : (copied : Bool) (kept : List Bunch) (b : Bunch) → b.reliable ≡ false → IsProper b
    → Begun copied kept → Begun (copied_after copied b) kept
loose_after copied kept b u p begun = by b.opens refl
  where
    closed : (c copied : Bool) → copied ≡ false → cond c false copied ≡ false
    closed true copied e = refl
    closed false copied e = e

    by : (o : Bool) → b.opens ≡ o → Begun (cond o true (cond b.closes false copied)) kept
    by true o = let no : false ≡ true = sym u ∙ p.reliable o in absurd (cc)
    by false o = record { opens = λ e. closed b.closes copied (begun.opens e); closes = begun.closes }

loose_left : (copied : Bool) (kept : List Bunch) (b : Bunch) → b.reliable ≡ false → IsProper b
    → Begun copied kept
    → (raws_of AtClient copied kept (b ∷ [])).cause ≡ None
    → Begun (copied_through copied (raws_of AtClient copied kept (b ∷ [])).whole) kept
loose_left copied kept b u p begun c = by_astray (is_astray AtClient copied kept b) refl
  where
    Goal : Type 0
    Goal = Begun (copied_through copied (raws_of AtClient copied kept (b ∷ [])).whole) kept

    alone : (r : Bool) → b.reliable ≡ r → r ≡ false → first_of (cond r kept []) b ≡ b
    alone true e f = let no : true ≡ false = f in absurd (cc)
    alone false e f = refl

    by_end : (e : Bool) → ends_payload b ≡ e → is_astray AtClient copied kept b ≡ false
        → part_fault kept b b.part ≡ None → Goal
    by_end true e a f =
        subst (λ (raws : Raws). Begun (copied_through copied raws.whole) kept)
        (sym (raws_last copied kept b [] a f e))
        (subst (λ (first : Bunch). Begun (copied_after copied first) kept) (sym (alone b.reliable refl u))
        (loose_after copied kept b u p begun))
    by_end false e a f =
        subst (λ (raws : Raws). Begun (copied_through copied raws.whole) kept)
        (sym (raws_more copied kept b [] a f e)) begun

    by_fault : (o : Option PartWhy) → part_fault kept b b.part ≡ o → is_astray AtClient copied kept b ≡ false
        → Goal
    by_fault (Some why) f a =
        never _ (sym (ap (λ (raws : Raws). raws.cause) (raws_faulty copied kept b [] why a f)) ∙ c)
    by_fault None f a = by_end (ends_payload b) refl a f

    by_astray : (t : Bool) → is_astray AtClient copied kept b ≡ t → Goal
    by_astray true a = never _ (sym (ap (λ (raws : Raws). raws.cause) (raws_astray copied kept b [] a)) ∙ c)
    by_astray false a = by_fault (part_fault kept b b.part) refl a

-- ---- the past with the entry told

sound_offered : (got : List Received) (b : Bunch) (o : Offer) → IsSound b
    → AllByRecursion (λ (r : Received). IsSound r.1) got
    → AllByRecursion (λ (r : Received). IsSound r.1) (with_offer got b o)
sound_offered got b Repeat p h = h
sound_offered got b Ready p h = (p, h)
sound_offered got b (Held n) p h = (p, h)

misplaced_fails : (past : Past) (b : Bunch) (m : Bool) → is_misplaced AtClient b ≡ m
    → (raws_heard AtClient past b).cause ≡ None → m ≡ false
misplaced_fails past b false e c = refl
misplaced_fails past b true e c = never _ (rw e at c)

heard_reliable : (past : Past) (b : Bunch) → is_misplaced AtClient b ≡ false → b.reliable ≡ true
    → raws_heard AtClient past b ≡ reliable_raws AtClient past b (received_on past b.channel)
    (offer_of (received_on past b.channel) (number_as (received_on past b.channel) b))
heard_reliable past b e r = rw (e, r) refl

heard_loose : (past : Past) (b : Bunch) → is_misplaced AtClient b ≡ false → b.reliable ≡ false
    → raws_heard AtClient past b ≡ raws_of AtClient (is_copied_on past b.channel)
    (kept_of (applied_of (received_on past b.channel))) (b ∷ [])
heard_loose past b e r = rw (e, r) refl

-- where no rule is broken all stands again once the entry is told
pub holds_after : (m : ℕ) (entries : List Entry) (handed after : List Delivered) (before : Past) (b : Bunch)
    → Holds (taking m entries handed before) → IsProper b
    → (raws_heard AtClient (taking m entries handed before) b).cause ≡ None
    → AllCame (taking m entries handed before) (taking m entries after before) b.channel
    (raws_heard AtClient (taking m entries handed before) b).whole
    → Holds (taking m (Heard b ∷ entries) after before)
holds_after m entries handed after before b h proper c came = record {
  agrees = record { holder = came.agrees.holder; apart = came.agrees.apart };
  begun =
      λ ch. cond_both (b.reliable && b.channel == ch) (with_bunch (received_on past ch) b)
      (received_on past ch)
      (λ (got : List Received). Begun (is_copied_on later ch) (kept_of (applied_of got)))
      (λ e. (let q = and_parts b.reliable (b.channel == ch) e in reliable ch q.0 (eqb-true b.channel ch q.1)))
      (λ e. others ch (b.channel == ch) refl e);
  sound =
      λ ch. cond_both (b.reliable && b.channel == ch) (with_bunch (received_on past ch) b)
      (received_on past ch) (AllByRecursion (λ (r : Received). IsSound r.1))
      (λ e. sound_offered (received_on past ch) b _ sound (h.sound ch)) (λ e. h.sound ch);
}
  where
    past : Past
    past = taking m entries handed before

    later : Past
    later = taking m entries after before

    placed : is_misplaced AtClient b ≡ false
    placed = misplaced_fails past b (is_misplaced AtClient b) refl c

    sound : IsSound b
    sound = is_sound b proper placed

    got : List Received
    got = received_on past b.channel

    here_reliable : b.reliable ≡ true
        → Begun (is_copied_on later b.channel) (kept_of (applied_of (with_bunch got b)))
    here_reliable r =
        let of = received_are_of past b.channel h in
        let bunches = come b.channel (is_copied_on past b.channel) (kept_of (applied_of got))
        (ready_bunches got b) (kept_of_are b.channel got of)
        (run_on (IsOf b.channel) (with_bunch got b) _ _ (offered_of b.channel got b
        (offer_of got (number_as got b)) (record { channel = refl; sound = sound }) of)) (h.begun b.channel)
        in
        let is = heard_reliable past b placed r in
        subst (λ (copied : Bool). Begun copied (kept_of (applied_of (with_bunch got b)))) (sym came.here)
        (subst (λ (raws : Raws). Left (is_copied_on past b.channel) (with_bunch got b) raws) (sym is)
        (reliable_left past b got (number_as got b) refl (h.begun b.channel) bunches) c)

    here_loose : b.reliable ≡ false → Begun (is_copied_on later b.channel) (kept_of (applied_of got))
    here_loose r =
        let is = heard_loose past b placed r in
        subst (λ (copied : Bool). Begun copied (kept_of (applied_of got))) (sym came.here)
        (subst (λ (raws : Raws). raws.cause ≡ None → Begun
        (copied_through (is_copied_on past b.channel) raws.whole) (kept_of (applied_of got))) (sym is)
        (loose_left (is_copied_on past b.channel) (kept_of (applied_of got)) b r proper (h.begun b.channel))
        c)

    reliable : (ch : ℕ) → b.reliable ≡ true → b.channel ≡ ch
        → Begun (is_copied_on later ch) (kept_of (applied_of (with_bunch (received_on past ch) b)))
    reliable ch r at =
        subst (λ (ch : ℕ). Begun (is_copied_on later ch)
        (kept_of (applied_of (with_bunch (received_on past ch) b)))) at (here_reliable r)

    not_reliable : (r : Bool) → b.reliable ≡ r → (r && true) ≡ false → r ≡ false
    not_reliable true e f = f
    not_reliable false e f = refl

    others : (ch : ℕ) (t : Bool) → (b.channel == ch) ≡ t → (b.reliable && t) ≡ false
        → Begun (is_copied_on later ch) (kept_of (applied_of (received_on past ch)))
    others ch false o e =
        subst (λ (copied : Bool). Begun copied (kept_of (applied_of (received_on past ch))))
        (sym (came.others ch o)) (h.begun ch)
    others ch true o e =
        subst (λ (ch : ℕ). Begun (is_copied_on later ch) (kept_of (applied_of (received_on past ch))))
        (eqb-true b.channel ch o) (here_loose (not_reliable b.reliable refl e))
