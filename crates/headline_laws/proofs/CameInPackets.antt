-- What was received came in packets that were taken, and so was made before the last of them was sent.
use Rattle.std.proofs.Common.{◌≡◌, inl, inr, ℕ, ◌+◌, ◌<◌, ◌≤◌, List, [], ◌∷◌, ◌++◌, true, refl, sym, ap, ◌∙◌, subst, arith, Option, Some, None}
use Rattle.std.specs.List.{filter_map, cons_option}
use Rattle.std.proofs.lemmas.Bool.{false≢true, cases_eq}
use Rattle.std.proofs.lemmas.List.Elements.{filter_map-append}
use Rattle.protocol_model.specs.declared.Version.{Version}
use Rattle.protocol_model.specs.Packet.{Bunch}
use Rattle.protocol_model.specs.Search.{is_among, greatest_of, newest_of}
use Rattle.connection_model.specs.Feed.{End, Past, Deed, Ticked, Made, Waits, Sent, Took, Ended, Entry, Delivered, Item, Owed, Carries, Loose, Heard}
use Rattle.connection_model.specs.Fates.{taken_of, taken_in, top_of, entries_in, sent_in, last_sent}
use Rattle.connection_model.specs.Bunches.{made_count, made_on, after_making}
use Rattle.connection_model.specs.Items.{made_as}
use Rattle.connection_model.specs.Windows.{Received, received_on, received_by, numbers_of, with_bunch, with_entry}
use Rattle.connection_model.specs.Verdict.{with_told, with_handed}
use Rattle.connection_laws.specs.Run.{Move, Ticks, Makes, Defers, Sends, Takes, Hears, Hands, Ends, after_move, MaySend, IsRun}
use Rattle.connection_laws.specs.Deeds.{FitsBefore, EachDeed}
use Rattle.connection_laws.specs.Link.{Said, SaysHead, SaysItem, entry_said, said_by, IsNext, IsLink, IsFaithful}
use Rattle.connection_laws.specs.Link.IsLink.{start, left_does, right_does}
use Rattle.connection_laws.proofs.Transfer.{Transfers, good, in_span_of}
use Rattle.connection_laws.proofs.Deeds.{deeds_fit, each_at}
use Rattle.connection_laws.proofs.HandingOn.{entry_here, entry_elsewhere, entry_loose}
use Rattle.connection_laws.proofs.LinkedEnds.{both, left_run, right_run}
use Rattle.connection_laws.proofs.Moves.{made_ignored_all, handed_ignored_all, handed_ignored}
use Rattle.connection_laws.proofs.Receiving.{has, MadeFacts, made_facts, seq_read, with_cases}
use Rattle.connection_laws.proofs.PacketsSay.{IsIn, in_middle, all_at, CarriedFacts, carried_facts, loose_unreliable}
use Rattle.connection_laws.proofs.Searches.{among_cons, among_here, among_there, among_most}
use Rattle.connection_laws.proofs.TalksLink.{stays_on}
use Rattle.connection_laws.proofs.AcksInOrder.{taken_made}
use Rattle.headline_laws.proofs.PastGrows.{SaidAt, said_at}
use Rattle.headline_laws.proofs.PlaceByNumber.{Places, places, one, first_later, second_later}
use Rattle.protocol_laws.proofs.Greatest.{greatest_of-append, greatest_of-cons}

-- the bunch came in a packet that was taken
pub record CameIn (v : Version) (from to : Past) (ch n : ℕ) : Type 0 where
  pub packet : ℕ
  pub taken : is_among packet (taken_of to) ≡ true
  pub bunch : Bunch
  pub said : IsIn (SaysItem (Carries ch n bunch)) (said_by v from packet)

-- each bunch received came in a packet that was taken
abbrev pub CameFrom : Version → (from to : Past) → Type 0
CameFrom v from to = (ch n : ℕ) → has (received_on to ch) n ≡ true → CameIn v from to ch n

-- it stays so where the same is received and taken
came_like : (v : Version) (from to later : Past) → ((ch : ℕ) → received_on later ch ≡ received_on to ch) → taken_of later ≡ taken_of to → CameFrom v from to → CameFrom v from later
came_like v from to later r t h ch n q =
    let c = h ch n (ap (λ (got : List Received). has got n) (sym (r ch)) ∙ q) in
    record { packet = c.packet; taken = ap (is_among c.packet) t ∙ c.taken; bunch = c.bunch; said = c.said }

module _ (v : Version) (left right : End) (lv : left.version ≡ v) (rv : right.version ≡ v) where
  -- one more entry
  came_hears : (l : Past) (k : ℕ) (es : List Entry) (ds : List Delivered) (past : Past) (entry : Entry) → IsLink left right l (Took k es ds ∷ past) → IsNext v l (Took k es ds ∷ past) entry → CameFrom v l (Took k es ds ∷ past) → CameFrom v l (Took k (entry ∷ es) ds ∷ past)
  came_hears l k es ds past entry link next h ch n q =
      again (by next.1 (subst (IsIn next.1) (sym next.3) (in_middle next.1 next.0 next.2)) (ap (λ (e : Entry). has (with_entry (received_on (Took k es ds ∷ past) ch) ch e) n) (sym next.5) ∙ q))
    where
      core : Transfers v l (Took k es ds ∷ past)
      core = (both v left right lv rv l (Took k es ds ∷ past) link).out

      run : IsRun left l
      run = left_run left right l (Took k es ds ∷ past) link

      fresh : top_of past < k
      fresh = (deeds_fit right (Took k es ds ∷ past) (right_run left right l (Took k es ds ∷ past) link)).0

      again : CameIn v l (Took k es ds ∷ past) ch n → CameIn v l (Took k (entry ∷ es) ds ∷ past) ch n
      again c = record { packet = c.packet; taken = c.taken; bunch = c.bunch; said = c.said }

      carried : (c i : ℕ) (b : Bunch) → IsIn (SaysItem (Carries c i b)) (said_by v l k) → has (with_entry (received_on (Took k es ds ∷ past) ch) ch (Heard b)) n ≡ true → CameIn v l (Took k es ds ∷ past) ch n
      carried c i b said q =
          let f : CarriedFacts l c i k b = carried_facts left v l (deeds_fit left l run) c i k b said in
          let m : MadeFacts c i b = made_facts c i l b f.made in
          elim (cases_eq c ch) [
            | inl e ↦ here i b (subst (λ (x : ℕ). IsIn (SaysItem (Carries x i b)) (said_by v l k)) e said) (subst (λ (x : ℕ). MadeFacts x i b) e m) f.low (ap (λ (got : List Received). has got n) (sym (entry_here (received_on (Took k es ds ∷ past) ch) ch b m.reliable (m.channel ∙ e))) ∙ q)
            | inr ne ↦ h ch n (ap (λ (got : List Received). has got n) (sym (entry_elsewhere (received_on (Took k es ds ∷ past) ch) ch b (λ r. ne (sym m.channel ∙ r)))) ∙ q)
          ]
        where
          here : (i : ℕ) (b : Bunch) → IsIn (SaysItem (Carries ch i b)) (said_by v l k) → MadeFacts ch i b → 1 ≤ i → has (with_bunch (received_on (Took k es ds ∷ past) ch) b) n ≡ true → CameIn v l (Took k es ds ∷ past) ch n
          here i b said m low q =
              elim (with_cases (received_on (Took k es ds ∷ past) ch) b i low
              (seq_read (λ j. newest_of (made_as ch j) l) (made_count l ch) (received_on (Took k es ds ∷ past) ch) b i (good v left l (Took k es ds ∷ past) run core ch)
              (in_span_of v left l (Took k es ds ∷ past) run core k (λ x d. (let le : x ≤ top_of past = among_most (taken_of past) x d in omega (arith, le, fresh))) ch i b said) m.seq)) [
                | inl w ↦ h ch n (ap (λ (got : List Received). has got n) (sym w.0) ∙ q)
                | inr w ↦ elim (among_cons i (numbers_of (received_on (Took k es ds ∷ past) ch)) n (ap (λ (got : List Received). has got n) (sym w.0) ∙ q)) [
                  | inl e ↦ record { packet = k; taken = among_here k (taken_of past) k refl; bunch = b; said = subst (λ (x : ℕ). IsIn (SaysItem (Carries ch x b)) (said_by v l k)) e said }
                  | inr t ↦ h ch n t
                ]
              ]

      by : (s : Said) → IsIn s (said_by v l k) → has (with_entry (received_on (Took k es ds ∷ past) ch) ch (entry_said s)) n ≡ true → CameIn v l (Took k es ds ∷ past) ch n
      by (SaysHead head) said q = h ch n q
      by (SaysItem (Owed x)) said q = h ch n q
      by (SaysItem (Loose m b)) said q = h ch n (ap (λ (got : List Received). has got n) (sym (entry_loose (received_on (Took k es ds ∷ past) ch) ch b (loose_unreliable left v l (deeds_fit left l run) m b k said))) ∙ q)
      by (SaysItem (Carries c i b)) said q = carried c i b said q

  told_step : (l b : Past) (entry : Entry) → IsLink left right l b → IsNext v l b entry → CameFrom v l b → CameFrom v l (with_told entry b)
  told_step l (Took k es ds ∷ past) entry link next h = came_hears l k es ds past entry link next h
  told_step l [] entry link next h = h
  told_step l (Ticked t s ∷ past) entry link next h = h
  told_step l (Made c n m i ∷ past) entry link next h = h
  told_step l (Waits m ∷ past) entry link next h = h
  told_step l (Sent n t items ∷ past) entry link next h = h
  told_step l (Ended g ∷ past) entry link next h = h

  right_step : (l b : Past) (move : Move) → IsLink left right l b → IsFaithful right.version l b move → CameFrom v l b → CameFrom v l (after_move b move)
  right_step l b (Ticks sight) link honest h = came_like v l b (after_move b (Ticks sight)) (λ ch. refl) refl h
  right_step l b (Makes c m) link honest h = came_like v l b (after_making b c m) (λ ch. ap (λ (es : List Entry). received_by es ch) (made_ignored_all entries_in (λ c n m i. refl) b c m)) (taken_made b c m) h
  right_step l b (Defers m) link honest h = came_like v l b (after_move b (Defers m)) (λ ch. refl) refl h
  right_step l b (Sends items) link honest h = came_like v l b (after_move b (Sends items)) (λ ch. refl) refl h
  right_step l b (Takes k) link honest h = λ ch n q. (let c = h ch n q in record { packet = c.packet; taken = among_there k (taken_of b) c.packet c.taken; bunch = c.bunch; said = c.said })
  right_step l b (Hears entry) link honest h = told_step l b entry link (subst (λ (w : Version). IsNext w l b entry) rv honest) h
  right_step l b (Hands d) link honest h =
      came_like v l b (with_handed d b) (λ ch. ap (λ (es : List Entry). received_by es ch) (handed_ignored_all entries_in (λ n es d ds. refl) d b)) (handed_ignored taken_in (λ n es d ds. refl) d b) h
  right_step l b (Ends g) link honest h = came_like v l b (after_move b (Ends g)) (λ ch. refl) refl h

  pub came : (l r : Past) → IsLink left right l r → CameFrom v l r
  came l r start = λ ch n q. absurd (false≢true q)
  came l r (left_does {l = a} {r = b} move link alive may honest) = left_step a b move link (came a b link)
    where
      left_step : (a b : Past) (move : Move) → IsLink left right a b → CameFrom v a b → CameFrom v (after_move a move) b
      left_step a b move link h ch n q =
          let c = h ch n q in
          let sent = (both v left right lv rv a b link).out.sent c.packet c.taken in
          let same : said_by v (after_move a move) c.packet ≡ said_by v a c.packet = (stays_on v a a move (record { more = omega arith; same = λ k le. refl })).same c.packet sent.1 in
          record { packet = c.packet; taken = c.taken; bunch = c.bunch; said = subst (IsIn (SaysItem (Carries ch n c.bunch))) (sym same) c.said }
  came l r (right_does {l = a} {r = b} move link alive may honest) = right_step a b move link honest (came a b link)

-- ---- made before the packet was sent

-- a packet has the number after those sent before it
sent_later : (end : End) (past : Past) → IsRun end past → (later : List Deed) (k t : ℕ) (items : List Item) (s : Past) → past ≡ later ++ Sent k t items ∷ s → k ≡ last_sent s + 1
sent_later end past run later k t items s e = (each_at (FitsBefore end) later (Sent k t items) s (subst (EachDeed (FitsBefore end)) e (deeds_fit end past run))).0

-- what packet j carried was made before packet k was sent, if j isn't after it
pub made_before : (v : Version) (end : End) (past : Past) → IsRun end past → (j k ch n : ℕ) (b : Bunch) (item : Item) (at : SaidAt end past k item) → IsIn (SaysItem (Carries ch n b)) (said_by v past j) → j ≤ k → n ≤ made_count at.before ch
made_before v end past run j k ch n b item at said le =
    let c = said_at v end past run j (Carries ch n b) said in
    let waits = all_at (MaySend end c.before) (Carries ch n b) c.items c.at.may.each c.among in
    by c (places c.later (Sent j c.t c.items) c.before at.later (Sent k at.t at.items) at.before (sym c.is ∙ at.is)) waits.high
  where
    counts : (es : List Deed) (deed : Deed) (s : Past) → made_count s ch ≤ made_count (es ++ deed ∷ s) ch
    counts es deed s =
        let all : filter_map (made_on ch) (es ++ deed ∷ s) ≡ filter_map (made_on ch) es ++ filter_map (made_on ch) (deed ∷ s) = filter_map-append (made_on ch) es (deed ∷ s) in
        let more : made_count s ch ≤ made_count (deed ∷ s) ch = one_more (made_on ch deed) in
        omega (arith, ap greatest_of all, greatest_of-append (filter_map (made_on ch) es) (filter_map (made_on ch) (deed ∷ s)), more)
      where
        one_more : (o : Option ℕ) → greatest_of (filter_map (made_on ch) s) ≤ greatest_of (cons_option o (filter_map (made_on ch) s))
        one_more None = omega arith
        one_more (Some x) = omega (arith, greatest_of-cons x (filter_map (made_on ch) s))

    sent_low : (es : List Deed) (t : ℕ) (items : List Item) (s : Past) → k ≤ last_sent (es ++ Sent k t items ∷ s)
    sent_low es t items s =
        let all : filter_map sent_in (es ++ Sent k t items ∷ s) ≡ filter_map sent_in es ++ k ∷ filter_map sent_in s = filter_map-append sent_in es (Sent k t items ∷ s) in
        omega (arith, ap greatest_of all, greatest_of-append (filter_map sent_in es) (k ∷ filter_map sent_in s), greatest_of-cons k (filter_map sent_in s))

    by : (c : SaidAt end past j (Carries ch n b)) → Places c.later (Sent j c.t c.items) c.before at.later (Sent k at.t at.items) at.before → n ≤ made_count c.before ch → n ≤ made_count at.before ch
    by c (one p q r) h = subst (λ (s : Past). n ≤ made_count s ch) r h
    by c (first_later es p q) h = (let m : made_count c.before ch ≤ made_count at.before ch = subst (λ (s : Past). made_count c.before ch ≤ made_count s ch) (sym q) (counts es (Sent j c.t c.items) c.before) in omega (arith, h, m))
    by c (second_later es p q) h =
        let number : j ≡ last_sent c.before + 1 = sent_later end past run c.later j c.t c.items c.before c.is in
        let low : k ≤ last_sent c.before = subst (λ (s : Past). k ≤ last_sent s) (sym q) (sent_low es at.t at.items at.before) in
        absurd (omega (arith, number, low, le))
