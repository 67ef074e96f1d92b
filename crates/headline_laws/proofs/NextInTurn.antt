-- The next message of a server's channel finds its copy at the client, or none where it opens one.
use Rattle.std.proofs.Common.{◌≡◌, ℕ, ◌==◌, ◌&&◌, List, [], ◌∷◌, ◌++◌, map, reverse, filter, Bool, true, false, cond, not, nat_lt, refl, sym, ap, ◌∙◌, subst, Option, Some, None, append_assoc}
use Rattle.std.specs.Prelude.{is_some, is_none}
use Rattle.std.specs.List.{filter_map, cons_option}
use Rattle.std.specs.Bool.{then_some}
use Rattle.std.proofs.lemmas.Bool.{false≢true}
use Rattle.std.proofs.lemmas.List.{reverse-append, reverse-reverse, map-append}
use Rattle.protocol_model.specs.Payload.{Message, Opens, Closes, Updates, Calls, Gone}
use Rattle.protocol_model.specs.Side.{AtServer, AtClient}
use Rattle.connection_model.specs.Feed.{End, Past, Delivered}
use Rattle.connection_model.specs.Bunches.{made_bunch}
use Rattle.connection_model.specs.Copies.{delivered_of, copy_on}
use Rattle.connection_model.specs.Verdict.{lacks_copy}
use Rattle.connection_laws.specs.Run.{IsRun}
use Rattle.connection_laws.specs.Delivered.{Numbered, numbered_in, messages_on, handed_reliably}
use Rattle.connection_laws.specs.InTurn.{user_said, user_of, FitsUse, Brackets}
use Rattle.connection_laws.proofs.InTurn.{brackets_fit}
use Rattle.payload_laws.specs.Passing.{is_gone}
use Rattle.headline_laws.specs.Agree.{applied_in, user_at, CopiesAgree, ComesInTurn}
use Rattle.headline_laws.specs.Turns.{ComesNext, FindsNoChannel}
use Rattle.headline_laws.proofs.CopiesGoOn.{holder_is_user}

-- ---- the next message fits those before it

-- a message stands in its actor's use
bracket_at : (newer : List Numbered) (made : Numbered) (older : List Numbered) → Brackets (newer ++ made ∷ older) → FitsUse older made.1
bracket_at [] made older h = h.0
bracket_at (x ∷ newer) made older h = bracket_at newer made older h.1

-- the next message of a channel stands in its actor's use
pub next_fits : (end : End) (past : Past) → end.side ≡ AtServer → IsRun end past → (ch : ℕ) (done : List Numbered) (made : Numbered) (later : List Numbered) → messages_on past ch ≡ done ++ made ∷ later → FitsUse (reverse done) made.1
next_fits end past s run ch done made later e =
    let all : filter_map (numbered_in ch) past ≡ reverse later ++ made ∷ reverse done =
    sym (reverse-reverse (filter_map (numbered_in ch) past)) ∙ ap reverse e ∙ reverse-append done (made ∷ later)
    ∙ ap (λ (l : List Numbered). l ++ reverse done) (reverse-append (made ∷ []) later) ∙ append_assoc (reverse later) (made ∷ []) (reverse done) in
    bracket_at (reverse later) made (reverse done) (subst Brackets all (brackets_fit end s past run ch))

-- ---- the user by the messages alone

-- the user after these messages
abbrev user_in : List Message → Option ℕ
user_in [] = None
user_in (m ∷ ms) = elim (user_said m) [ Some user ↦ user | None ↦ user_in ms ]

user_by : (ms : List Numbered) → user_of ms ≡ user_in (map (λ (x : Numbered). x.1) ms)
user_by [] = refl
user_by (made ∷ ms) = by (user_said made.1) (user_by ms)
  where
    by : (o : Option (Option ℕ)) → user_of ms ≡ user_in (map (λ (x : Numbered). x.1) ms)
        → (let x : Option ℕ = elim o [ Some user ↦ user | None ↦ user_of ms ] in x) ≡ (let x : Option ℕ = elim o [ Some user ↦ user | None ↦ user_in (map (λ (x : Numbered). x.1) ms) ] in x)
    by None e = e
    by (Some user) e = refl

-- what was applied is what was handed on reliably
applied_messages : (ch : ℕ) (ds : List Delivered) → map (λ (x : Numbered). x.1) (filter_map (applied_in ch) ds) ≡ map (λ (d : Delivered). d.message) (filter (λ (d : Delivered). d.channel == ch && d.reliable) ds)
applied_messages ch [] = refl
applied_messages ch (d ∷ ds) = by (d.channel == ch && d.reliable) (applied_messages ch ds)
  where
    by : (b : Bool) → map (λ (x : Numbered). x.1) (filter_map (applied_in ch) ds) ≡ map (λ (d : Delivered). d.message) (filter (λ (d : Delivered). d.channel == ch && d.reliable) ds)
        → map (λ (x : Numbered). x.1) (cons_option (then_some b (let x : Numbered = (0, d.message) in x)) (filter_map (applied_in ch) ds))
        ≡ map (λ (d : Delivered). d.message) (cond b (d ∷ filter (λ (d : Delivered). d.channel == ch && d.reliable) ds) (filter (λ (d : Delivered). d.channel == ch && d.reliable) ds))
    by true e = ap (λ (l : List Message). d.message ∷ l) e
    by false e = e

-- mapping a list reversed
pub map_reverse : {A B : Type 0} (f : A → B) (xs : List A) → map f (reverse xs) ≡ reverse (map f xs)
map_reverse f [] = refl
map_reverse {A} {B} f (x ∷ xs) =
    ap (map f) (reverse-append (x ∷ []) xs) ∙ map-append f (reverse xs) (x ∷ []) ∙ ap (λ (l : List B). l ++ f x ∷ []) (map_reverse f xs) ∙ sym (reverse-append (f x ∷ []) (map f xs))

-- the user at the client is that of the messages that were handed on
pub user_done : (client : Past) (ch : ℕ) (done : List Numbered) → map (λ (d : Delivered). d.message) (handed_reliably client ch) ≡ map (λ (x : Numbered). x.1) done → user_at client ch ≡ user_of (reverse done)
user_done client ch done e =
    user_by (filter_map (applied_in ch) (delivered_of client))
    ∙ ap user_in (applied_messages ch (delivered_of client) ∙ sym (reverse-reverse (map (λ (d : Delivered). d.message) (filter (λ (d : Delivered). d.channel == ch && d.reliable) (delivered_of client))))
    ∙ ap reverse (sym (map_reverse (λ (d : Delivered). d.message) (filter (λ (d : Delivered). d.channel == ch && d.reliable) (delivered_of client))) ∙ e)
    ∙ sym (map_reverse (λ (x : Numbered). x.1) done))
    ∙ sym (user_by (reverse done))

-- ---- the next message finds its copy

-- a Gone needs no copy
gone_free : (b x : Bool) → b ≡ true → (not b && x) ≡ false
gone_free true x e = refl
gone_free false x e = absurd (false≢true e)

-- nor does one that finds it
and_none : (b x : Bool) → x ≡ false → (not b && x) ≡ false
and_none true x e = refl
and_none false x e = e

-- the next message finds its copy
copy_there : (client : Past) (ch n : ℕ) (m : Message) (o : Option ℕ) → copy_on client ch ≡ o → (ch == 0) ≡ is_gone m → (before : List Numbered) → user_of before ≡ o → FitsUse before m → lacks_copy AtClient client [] (made_bunch ch n m 0) ≡ false
copy_there client ch n (Opens exports a class values) o e g before u f = and_none (ch == 0) (is_some (copy_on client ch)) (ap (λ (x : Option ℕ). is_some x) (e ∙ sym u ∙ f))
copy_there client ch n (Closes a sleeps) o e g before u f = and_none (ch == 0) (is_none (copy_on client ch) && not (true && nat_lt 0 0)) (ap (λ (x : Option ℕ). is_none x && not (true && nat_lt 0 0)) (e ∙ sym u ∙ f))
copy_there client ch n (Calls a k call args) o e g before u f = and_none (ch == 0) (is_none (copy_on client ch) && not (true && nat_lt 0 0)) (ap (λ (x : Option ℕ). is_none x && not (true && nat_lt 0 0)) (e ∙ sym u ∙ f))
copy_there client ch n (Updates a class values) o e g before u f = absurd f
copy_there client ch n (Gone a) o e g before u f = gone_free (ch == 0) (is_none (copy_on client ch) && not (true && nat_lt 0 0)) g

-- the next message finds its copy
pub next_has_copy : (end : End) (server client : Past) → end.side ≡ AtServer → IsRun end server → CopiesAgree client → (ch : ℕ) (done : List Numbered) (made : Numbered) → (ch == 0) ≡ is_gone made.1 → ComesNext server client ch done made
    → lacks_copy AtClient client [] (made_bunch ch made.0 made.1 0) ≡ false
next_has_copy end server client s run agree ch done made g next =
    copy_there client ch made.0 made.1 (user_at client ch) (holder_is_user client agree ch) g (reverse done) (sym (user_done client ch done next.same))
    (next_fits end server s run ch done made next.later next.split)

-- and a copy that its message is for
pub next_is_user : (end : End) (server client : Past) → end.side ≡ AtServer → IsRun end server → (ch : ℕ) (done : List Numbered) (made : Numbered) → ComesNext server client ch done made → (user_at client ch ≡ user_of (reverse done)) × FitsUse (reverse done) made.1
next_is_user end server client s run ch done made next = (user_done client ch done next.same, next_fits end server s run ch done made next.later next.split)

-- it comes in turn
turn_by : (client : Past) (d : Delivered) (ch : ℕ) (before : List Numbered) → d.channel ≡ ch → d.reliable ≡ true → user_at client ch ≡ user_of before → (m : Message) → FitsUse before m → FindsNoChannel client m → ComesInTurn client d m
turn_by client d ch before c r u (Opens exports a class values) f n = (r, ap (user_at client) c ∙ u ∙ f, n.opens refl)
turn_by client d ch before c r u (Closes a sleeps) f n = (r, ap (user_at client) c ∙ u ∙ f)
turn_by client d ch before c r u (Updates a class values) f n = tt
turn_by client d ch before c r u (Calls a k call args) f n = tt
turn_by client d ch before c r u (Gone a) f n = n.gone refl

-- the next message comes in turn
pub next_in_turn : (end : End) (server client : Past) → end.side ≡ AtServer → IsRun end server → (ch : ℕ) (done : List Numbered) (made : Numbered) (d : Delivered) → ComesNext server client ch done made → d.channel ≡ ch → d.reliable ≡ true → d.message ≡ made.1
    → FindsNoChannel client made.1 → ComesInTurn client d d.message
next_in_turn end server client s run ch done made d next c r m n =
    subst (ComesInTurn client d) (sym m)
    (turn_by client d ch (reverse done) c r (user_done client ch done next.same) made.1 (next_fits end server s run ch done made next.later next.split) n)
