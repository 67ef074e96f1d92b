-- A packet goes by its news: moves, bunches, and the bad acknowledgement at its end.
use Rattle.std.proofs.Common.{◌≡◌, ℕ, List, [], ◌∷◌, ◌++◌, reverse, false, Option, Some, None, refl, sym, ap, ◌∙◌, subst, append_assoc}
use Rattle.std.proofs.lemmas.List.{reverse-append}
use Rattle.protocol_model.specs.Search.{greatest_of}
use Rattle.protocol_model.specs.Packet.{Bunch}
use Rattle.protocol_model.specs.declared.Cause.{Cause}
use Rattle.connection_model.specs.Feed.{Past, Ended, ByCause, Entry, Told, Acked, Heard, Delivered}
use Rattle.connection_model.specs.Fates.{high_of}
use Rattle.connection_model.specs.Verdict.{ack_cause, entry_result, after_entries, with_told, with_handed}
use Rattle.channel_laws.specs.Moves.{IsMove, SameNews, is_heard}
use Rattle.connection_laws.proofs.Hearing.{heard_runs}
use Rattle.link_end.specs.News.{News, Moves, Hears, news_in, news_of, bad_of}
use Rattle.hearing_laws.specs.Chains.{Chain}
use Rattle.hearing_laws.specs.Chains.Chain.{same, moves}
use Rattle.hearing_laws.specs.Courses.{Taking, during, heard_then, Onward, Leads}
use Rattle.hearing_laws.proofs.Leading.{entry_leads}
use Rattle.hearing_laws.proofs.Nearness.{moved_near}

-- ---- a bunch hands on

-- the packet under way has more payloads than these
abbrev HasMore : Taking → List Entry → List Delivered → Past → Type 0
HasMore k entries handed past = (more : List Delivered) × (past ≡ during k entries (more ++ handed))

pub hands_on : (k : Taking) (entries : List Entry) (handed : List Delivered) (b : Bunch)
    → HasMore k entries handed (heard_then k entries handed b).past
hands_on k entries handed b =
    heard_runs k.end (HasMore k entries handed)
    (λ d past h. (d ∷ h.0, ap (with_handed d) h.1))
    (during k entries handed) b ([], refl)

-- ---- pasts with the same news

same_twice : (one two three : Past) → SameNews one two → SameNews two three → SameNews one three
same_twice one two three h g = record { moved = g.moved ∙ h.moved; rest = g.rest ∙ h.rest }

moves_same : (from to : ℕ) (one two after : Past) → SameNews one two → IsMove from to two after
    → IsMove from to one after
moves_same from to one two after h m = record {
  high = ap greatest_of (sym h.moved) ∙ m.high;
  above = m.above;
  moved = m.moved ∙ ap (λ (ms : List ℕ). to ∷ ms) h.moved;
  rest = m.rest ∙ h.rest;
}

leads_same : (k : Taking) (news : List News) (bad : Option Cause) (one two final : Past) → SameNews one two
    → Leads k news bad two final → Leads k news bad one final
leads_same k [] None one two final h (handed, is, g) = (handed, is, same_twice one two final h g)
leads_same k [] (Some cause) one two final h (entries, handed, is, g) =
    (entries, handed, is, same_twice one two (during k entries handed) h g)
leads_same k (Moves from to ∷ news) bad one two final h (mid, m, l) = (mid, moves_same from to one two mid h m, l)
leads_same k (Hears b ∷ news) bad one two final h (entries, handed, g, l) =
    (entries, handed, same_twice one two (during k entries handed) h g, l)

-- moves in a row, and then more
chained : (k : Taking) (news more : List News) (bad : Option Cause) (past mid final : Past) → Chain news past mid
    → Leads k more bad mid final → Leads k (news ++ more) bad past final
chained k [] more bad past mid final (same h) l = leads_same k more bad past mid final h l
chained k (Moves from to ∷ news) more bad past mid final (moves {mid = next} f t m c) l =
    (next, m, chained k news more bad next mid final c l)
chained k (Hears b ∷ news) more bad past mid final c l = elim c [ ]

-- ---- entries

-- where an acknowledgement is bad, the packet ends; else its moves come first
acknowledged : (k : Taking) (entry : Entry) (more : List Entry) (es : List Entry) (hs : List Delivered)
    → is_heard entry ≡ false
    → entry_result k.end (during k es hs) entry ≡ record {
      past = during k es hs;
      cause =
          ack_cause (during k es []) entry;
    }
    → Leads k (news_of (during k (entry ∷ es) []) more) (bad_of (during k (entry ∷ es) []) more)
    (during k (entry ∷ es) hs) (after_entries k.end (during k (entry ∷ es) hs) more)
    → Leads k (news_of (during k es []) (entry ∷ more)) (bad_of (during k es []) (entry ∷ more)) (during k es hs)
    (after_entries k.end (during k es hs) (entry ∷ more))
acknowledged k entry more es hs heard result next = by (ack_cause (during k es []) entry) refl
  where
    by : (c : Option Cause) → ack_cause (during k es []) entry ≡ c
        → Leads k (news_of (during k es []) (entry ∷ more)) (bad_of (during k es []) (entry ∷ more)) (during k es hs)
        (after_entries k.end (during k es hs) (entry ∷ more))
    by None e = rw (after_entries, result, e)
        (chained k (news_in (high_of (during k es hs)) entry) (news_of (during k (entry ∷ es) []) more)
        (bad_of (during k (entry ∷ es) []) more) (during k es hs) (during k (entry ∷ es) hs)
        (after_entries k.end (during k (entry ∷ es) hs) more)
        (entry_leads k.number es hs k.before entry heard (moved_near (during k es hs) entry)) next)
    by (Some cause) e = rw (after_entries, result, e)
        (es, hs, refl, record { moved = refl; rest = refl })

-- a bunch, which may break a rule
bunched : (k : Taking) (b : Bunch) (more : List Entry) (es : List Entry) (hs : List Delivered)
    → ((later : List Delivered) → Leads k (news_of (during k (Heard b ∷ es) []) more)
    (bad_of (during k (Heard b ∷ es) []) more)
    (during k (Heard b ∷ es) later) (after_entries k.end (during k (Heard b ∷ es) later) more))
    → Leads k (news_of (during k es []) (Heard b ∷ more)) (bad_of (during k es []) (Heard b ∷ more)) (during k es hs)
    (after_entries k.end (during k es hs) (Heard b ∷ more))
bunched k b more es hs next = (
  es,
  hs,
  record { moved = refl; rest = refl },
  by (heard_then k es hs b).cause,
)
  where
    onward : Leads k (news_of (during k (Heard b ∷ es) []) more) (bad_of (during k (Heard b ∷ es) []) more)
        (with_told (Heard b) (heard_then k es hs b).past)
        (after_entries k.end (with_told (Heard b) (heard_then k es hs b).past) more)
    onward =
        let on = hands_on k es hs b in
        subst (λ (past : Past). Leads k (news_of (during k (Heard b ∷ es) []) more)
        (bad_of (during k (Heard b ∷ es) []) more) (with_told (Heard b) past)
        (after_entries k.end (with_told (Heard b) past) more))
        (sym on.1) (next (on.0 ++ hs))

    by : (c : Option Cause) → Onward c
        (Leads k (news_of (during k (Heard b ∷ es) []) more) (bad_of (during k (Heard b ∷ es) []) more)
        (with_told (Heard b) (heard_then k es hs b).past)
        (let later : Past = elim c [
          | None ↦ after_entries k.end (with_told (Heard b) (heard_then k es hs b).past) more
          | Some cause ↦ Ended (ByCause cause) ∷ (heard_then k es hs b).past
        ] in later))
        (λ cause. (let later : Past = elim c [
          | None ↦ after_entries k.end (with_told (Heard b) (heard_then k es hs b).past) more
          | Some cause ↦ Ended (ByCause cause) ∷ (heard_then k es hs b).past
        ] in later) ≡ Ended (ByCause cause) ∷ (heard_then k es hs b).past)
    by None = onward
    by (Some cause) = refl

-- all entries told, where some were before
all_told : (k : Taking) (entry : Entry) (more es : List Entry) → k.told ≡ reverse (entry ∷ more) ++ es
    → k.told ≡ reverse more ++ entry ∷ es
all_told k entry more es e =
    e ∙ ap (λ (xs : List Entry). xs ++ es) (reverse-append (entry ∷ []) more)
    ∙ append_assoc (reverse more) (entry ∷ []) es

lead_from : (k : Taking) (entries es : List Entry) (hs : List Delivered) → k.told ≡ reverse entries ++ es
    → Leads k (news_of (during k es []) entries) (bad_of (during k es []) entries) (during k es hs)
    (after_entries k.end (during k es hs) entries)
lead_from k [] es hs e =
    (hs, ap (λ (told : List Entry). during k told hs) (sym e), record { moved = refl; rest = refl })
lead_from k (Heard b ∷ more) es hs e =
    bunched k b more es hs (λ later. lead_from k more (Heard b ∷ es) later (all_told k (Heard b) more es e))
lead_from k (Acked n ∷ more) es hs e =
    acknowledged k (Acked n) more es hs refl refl (lead_from k more (Acked n ∷ es) hs (all_told k (Acked n) more es e))
lead_from k (Told head ∷ more) es hs e =
    acknowledged k (Told head) more es hs refl refl
    (lead_from k more (Told head ∷ es) hs (all_told k (Told head) more es e))

append_none : {A : Type 0} (xs : List A) → xs ≡ xs ++ []
append_none [] = refl
append_none (x ∷ xs) = ap (λ zs. x ∷ zs) (append_none xs)

pub lead_all : (k : Taking) (entries : List Entry) → k.told ≡ reverse entries
    → Leads k (news_of (during k [] []) entries) (bad_of (during k [] []) entries) (during k [] [])
    (after_entries k.end (during k [] []) entries)
lead_all k entries e = lead_from k entries [] [] (e ∙ append_none (reverse entries))
