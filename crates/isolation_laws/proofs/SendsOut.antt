-- What the ticks of a feed send is all that its end sends.
use Rattle.std.proofs.Common.{◌≡◌, ℕ, ◌+◌, ◌==◌, List, [], ◌∷◌, ◌++◌, length, drop, Bool, true, false, refl, sym, ap, ◌∙◌, arith, Option, Some, None, option_map, unwrap_or, append-nil}
use Rattle.std.specs.List.{cons_option}
use Rattle.std.proofs.lemmas.Bool.{eq-eqb}
use Rattle.std.proofs.lemmas.List.Elements.{filter_map-append}
use Rattle.protocol_model.specs.Side.{AtServer}
use Rattle.connection_model.specs.Feed.{End, Event, Tick, Got, Call}
use Rattle.connection_model.specs.Past.{past_of, out_of}
use Rattle.replication_model.specs.Story.{numbered_from, sent_reports, stalled_report, story_of}
use Rattle.connection_laws.proofs.SentStays.{sends_more, got_sends, call_sends}
use Rattle.isolation_laws.specs.Isolation.{sent_to, numbered, SendsOut, heard_by}
use Rattle.isolation_laws.proofs.OnePlayer.{mine}
use Rattle.isolation_laws.proofs.SentByFeed.{shown_of, sends_of, stalled_none, sent_by_feed, as_heard, heard_sends}

-- packets numbered in two parts
numbered_append : (k : ℕ) (xs ys : List (List ℕ)) → numbered k (xs ++ ys) ≡ numbered k xs ++ numbered (length xs + k) ys
numbered_append k [] ys = let e : k ≡ 0 + k = omega arith in ap (λ n. numbered n ys) e
numbered_append k (x ∷ xs) ys =
    let e : length xs + (k + 1) ≡ length (x ∷ xs) + k = omega arith in
    ap (λ (l : List (ℕ × List ℕ)). (k, x) ∷ l) (numbered_append (k + 1) xs ys ∙ ap (λ n. numbered (k + 1) xs ++ numbered n ys) e)

-- what is left behind a prefix
drop_left : (xs ys : List (List ℕ)) → drop (length xs) (xs ++ ys) ≡ ys
drop_left [] ys = refl
drop_left (x ∷ xs) ys = drop_left xs ys

-- the reports of sent packets show them with their numbers
shown_numbered : (n k : ℕ) (packets : List (List ℕ)) → shown_of n (numbered_from AtServer n k packets) ≡ numbered k packets
shown_numbered n k [] = refl
shown_numbered n k (bytes ∷ packets) =
    by (n == n) (eq-eqb n n refl) (shown_of n (numbered_from AtServer n (k + 1) packets)) ∙ ap (λ (l : List (ℕ × List ℕ)). (k, bytes) ∷ l) (shown_numbered n (k + 1) packets)
  where
    by : (b : Bool) → b ≡ true → (xs : List (ℕ × List ℕ)) → cons_option (let o : Option (ℕ × List ℕ) = elim b [ true ↦ Some (k, bytes) | false ↦ None ] in o) xs ≡ (k, bytes) ∷ xs
    by true e xs = refl
    by false e xs = absurd (cc)

-- what the ticks of a feed send is all that its end sends
sends_out : (n : ℕ) (end : End) (feed : List Event) → sends_of n end feed ≡ numbered 1 (out_of end feed)
sends_out n end [] = refl
sends_out n end (Got bytes ∷ feed) = sends_out n end feed ∙ ap (numbered 1) (sym (got_sends end (past_of end feed) bytes))
sends_out n end (Call a m args ∷ feed) = sends_out n end feed ∙ ap (numbered 1) (sym (call_sends end (past_of end feed) a m args))
sends_out n end (Tick s ∷ feed) =
    let more = sends_more end feed (Tick s) in
    ap (λ l. l ++ shown_of n (sent_reports AtServer n (length (out_of end feed)) (out_of end (Tick s ∷ feed)) ++ stalled_report AtServer n (past_of end feed) (past_of end (Tick s ∷ feed)))) (sends_out n end feed)
    ∙ ap (λ l. numbered 1 (out_of end feed) ++ l)
    (filter_map-append (sent_to n) (sent_reports AtServer n (length (out_of end feed)) (out_of end (Tick s ∷ feed))) (stalled_report AtServer n (past_of end feed) (past_of end (Tick s ∷ feed)))
    ∙ ap (λ l. shown_of n (sent_reports AtServer n (length (out_of end feed)) (out_of end (Tick s ∷ feed))) ++ l) (stalled_none n AtServer n (past_of end feed) (past_of end (Tick s ∷ feed)))
    ∙ append-nil (shown_of n (sent_reports AtServer n (length (out_of end feed)) (out_of end (Tick s ∷ feed))))
    ∙ shown_numbered n (length (out_of end feed) + 1) (drop (length (out_of end feed)) (out_of end (Tick s ∷ feed)))
    ∙ ap (λ (l : List (List ℕ)). numbered (length (out_of end feed) + 1) (drop (length (out_of end feed)) l)) more.1
    ∙ ap (numbered (length (out_of end feed) + 1)) (drop_left (out_of end feed) more.0))
    ∙ sym (numbered_append 1 (out_of end feed) more.0) ∙ ap (numbered 1) (sym more.1)

-- the packets of the end that the player has, or none
by_heard : (n : ℕ) (o : Option (End × List Event)) → heard_sends n o ≡ unwrap_or (option_map (λ (heard : End × List Event). numbered 1 (out_of heard.0 heard.1)) o) []
by_heard n None = refl
by_heard n (Some heard) = sends_out n heard.0 heard.1

-- the packets are those of the player's own feed
pub lines_are_out : SendsOut
lines_are_out table n lines once = sent_by_feed n table lines once ∙ as_heard n table (mine n (story_of table lines).0.players) ∙ by_heard n (heard_by table lines AtServer n)
