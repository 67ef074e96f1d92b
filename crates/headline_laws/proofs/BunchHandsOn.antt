-- A reliable bunch that was made hands on the messages that it completes, one by one.
use Rattle.std.proofs.Common.{◌≡◌, inl, inr, ℕ, zero, suc, ◌+◌, ◌-◌, ◌<◌, ◌≤◌, ◌==◌, ◌||◌, List, [], ◌∷◌, ◌++◌, map, Bool, true, false, cond, nat_lt, nat_le, length, refl, sym, ap, ◌∙◌, subst, arith, append_assoc, append-nil, Option, Some, None, Ok, pos}
use Rattle.std.specs.List.{range_with_len, AllByRecursion}
use Rattle.std.specs.Bool.{then_some}
use Rattle.std.proofs.lemmas.Bool.{cases_lt, eqb-false, ltb-false, or_parts}
use Rattle.std.proofs.lemmas.Bool.Decides.{nat_tests}
use Rattle.std.proofs.lemmas.List.{map-append, length-map}
use Rattle.std.proofs.lemmas.List.Concat.{flat_map-append}
use Rattle.protocol_model.specs.Packet.{Bunch}
use Rattle.protocol_model.specs.Payload.{Message, parts_of, message_bits}
use Rattle.protocol_model.specs.Search.{is_among}
use Rattle.protocol_model.specs.declared.Cause.{Cause}
use Rattle.protocol_model.specs.declared.Cause.TheVariants.{BadChannel, Overrun}
use Rattle.connection_model.specs.Feed.{End, Past, Took, Entry, Delivered}
use Rattle.connection_model.specs.Bunches.{made_bunch}
use Rattle.connection_model.specs.PayloadReading.{payload_at}
use Rattle.connection_model.specs.Windows.{Received, received_on, numbers_of, next_of, number_as, offer_of, Offer, Repeat, Ready, Held, with_bunch, with_offer, applied_of, run_of, ready_bunches, kept_of, held_count, wholes_from, wholes_of, ends_payload, first_of, joined_bits}
use Rattle.connection_model.specs.Verdict.{is_misplaced, lacks_copy, delivery_of, bunches_result, overrun_cause, reliable_result, bunch_heard}
use Rattle.replication_model.specs.Headline.{IsPrefix}
use Rattle.connection_laws.specs.Delivered.{Numbered, payload_of}
use Rattle.connection_laws.proofs.Applied.{applied_held, applied_ready}
use Rattle.connection_laws.proofs.Prefixes.{range_split}
use Rattle.connection_laws.proofs.Spans.{some_parts}
use Rattle.payload_laws.specs.Parts.{bunches_from, bunches_of, kept_parts}
use Rattle.payload_laws.proofs.Handing.{handed_on}
use Rattle.payload_laws.proofs.Keeping.{parts_kept}
use Rattle.payload_laws.proofs.Pieces.{goes_on, wholes_join}
use Rattle.headline_laws.specs.Position.{all_bunches, HasBegun, kept_here, Position}
use Rattle.headline_laws.proofs.RunPosition.{first_of_range, tail_same}
use Rattle.headline_laws.proofs.WholeMessages.{longer, map_length, range_length}
use Rattle.headline_laws.proofs.PlaceByNumber.{all_mid}

-- ---- what is left of messages

-- the bunches of messages from the i-th part of the first on
abbrev pub rest_of : (ch : ℕ) → List Numbered → (i : ℕ) → List Bunch
rest_of ch [] i = []
rest_of ch (made ∷ ms) i = bunches_from ch made.0 made.1 i (parts_of made.1 - i) ++ all_bunches ch ms

-- all is left of messages of which nothing has begun
rest_zero : (ch : ℕ) (ms : List Numbered) → rest_of ch ms 0 ≡ all_bunches ch ms
rest_zero ch [] = refl
rest_zero ch (made ∷ ms) = (let e : parts_of made.1 - 0 ≡ parts_of made.1 = omega arith in ap (λ (n : ℕ). bunches_from ch made.0 made.1 0 n ++ all_bunches ch ms) e)

-- nothing has begun at first
begun_zero : (ch : ℕ) (ms : List Numbered) → HasBegun ch ms 0 []
begun_zero ch [] = refl
begun_zero ch (made ∷ ms) = (omega (arith, some_parts made.1), refl)

-- nothing is kept at first
kept_zero : (ch : ℕ) (ms : List Numbered) → kept_here ch ms 0 ≡ []
kept_zero ch [] = refl
kept_zero ch (made ∷ ms) = refl

-- the parts from one place are those up to another, and the rest
parts_split : (ch first : ℕ) (m : Message) (i n : ℕ) → bunches_from ch first m 0 (i + n) ≡ bunches_from ch first m 0 i ++ bunches_from ch first m i n
parts_split ch first m i n =
    ap (map (λ j. made_bunch ch (first + j) m j)) (range_split 0 i n) ∙ map-append (λ j. made_bunch ch (first + j) m j) (range_with_len 0 i) (range_with_len (0 + i) n)
    ∙ (let e : 0 + i ≡ i = omega arith in ap (λ (k : ℕ). bunches_from ch first m 0 i ++ bunches_from ch first m k n) e)

-- so many parts are so many bunches
from_length : (ch first : ℕ) (m : Message) (i n : ℕ) → length (bunches_from ch first m i n) ≡ n
from_length ch first m i n = map_length (λ j. made_bunch ch (first + j) m j) (range_with_len i n) ∙ range_length n i

-- the bunches after the first parts of the next message
pub rest_after : (ch : ℕ) (ms : List Numbered) (i : ℕ) (rest more : List Bunch) → HasBegun ch ms i rest → rest ++ more ≡ all_bunches ch ms → more ≡ rest_of ch ms i
rest_after ch [] i rest more b e = by rest b e
  where
    by : (rest : List Bunch) → rest ≡ [] → rest ++ more ≡ [] → more ≡ []
    by [] q e = e
    by (x ∷ rest) q e = absurd (let no : x ∷ rest ≡ [] = q in cc)
rest_after ch (made ∷ ms) i rest more b e =
    let n : i + (parts_of made.1 - i) ≡ parts_of made.1 = omega (arith, b.0) in
    tail_same (bunches_from ch made.0 made.1 0 i) more (bunches_from ch made.0 made.1 i (parts_of made.1 - i) ++ all_bunches ch ms)
    (ap (λ (l : List Bunch). l ++ more) (sym b.1) ∙ e ∙ ap (λ (k : ℕ). bunches_from ch made.0 made.1 0 k ++ all_bunches ch ms) (sym n)
    ∙ ap (λ (l : List Bunch). l ++ all_bunches ch ms) (parts_split ch made.0 made.1 i (parts_of made.1 - i))
    ∙ append_assoc (bunches_from ch made.0 made.1 0 i) (bunches_from ch made.0 made.1 i (parts_of made.1 - i)) (all_bunches ch ms))

-- ---- whole messages among bunches

-- parts before the last one make nothing whole
none_whole : (ch first : ℕ) (m : Message) (n i : ℕ) (kept : List Bunch) → i + n < parts_of m → wholes_from kept (bunches_from ch first m i n) ≡ []
none_whole ch first m zero i kept lt = refl
none_whole ch first m (suc n) i kept lt =
    let e : ends_payload (made_bunch ch (first + i) m i) ≡ false = goes_on ch (first + i) m i (omega (arith, lt)) in
    ap (λ (b : Bool). cond b ((first_of kept (made_bunch ch (first + i) m i), joined_bits kept (made_bunch ch (first + i) m i)) ∷ wholes_from [] (bunches_from ch first m (i + 1) n)) (wholes_from (made_bunch ch (first + i) m i ∷ kept) (bunches_from ch first m (i + 1) n))) e
    ∙ none_whole ch first m n (i + 1) (made_bunch ch (first + i) m i ∷ kept) (omega (arith, lt))

-- what has begun makes nothing whole
begun_whole : (ch : ℕ) (later : List Numbered) (i : ℕ) (rest : List Bunch) → HasBegun ch later i rest → wholes_from [] rest ≡ []
begun_whole ch [] i rest b = ap (wholes_from []) b
begun_whole ch (made ∷ later) i rest b = ap (wholes_from []) b.1 ∙ none_whole ch made.0 made.1 i 0 [] (omega (arith, b.0))

-- what is joined of whole messages and some parts is the messages
pub wholes_are : (ch : ℕ) (done later : List Numbered) (i : ℕ) (rest : List Bunch) → HasBegun ch later i rest → wholes_from [] (all_bunches ch done ++ rest) ≡ map (payload_of ch) done
wholes_are ch [] later i rest b = begun_whole ch later i rest b
wholes_are ch (made ∷ done) later i rest b =
    ap (wholes_from []) (append_assoc (bunches_of ch made.0 made.1) (all_bunches ch done) rest) ∙ wholes_join ch made.0 made.1 (all_bunches ch done ++ rest)
    ∙ ap (λ (ws : List (Bunch × List Bool)). payload_of ch made ∷ ws) (wholes_are ch done later i rest b)

-- two prefixes of one length are one
pub same_prefix : {A : Type 0} (xs ys us vs : List A) → xs ++ ys ≡ us ++ vs → length xs ≡ length us → xs ≡ us
same_prefix [] ys [] vs e l = refl
same_prefix [] ys (u ∷ us) vs e l = absurd (omega (arith, l))
same_prefix (x ∷ xs) ys [] vs e l = absurd (omega (arith, l))
same_prefix {A} (x ∷ xs) ys (u ∷ us) vs e l =
    ap (λ (zs : List A). x ∷ zs) (same_prefix xs ys us vs (same_tail x u (xs ++ ys) (us ++ vs) e) (omega (arith, l)))
    ∙ ap (λ (z : A). z ∷ us) (same_head x u (xs ++ ys) (us ++ vs) e)
  where
    same_head : (x y : A) (xs ys : List A) → x ∷ xs ≡ y ∷ ys → x ≡ y
    same_head x y xs ys e = cc

    same_tail : (x y : A) (xs ys : List A) → x ∷ xs ≡ y ∷ ys → xs ≡ ys
    same_tail x y xs ys e = cc

-- ---- messages handed on one after another

module _ (end : End) (k : ℕ) (es : List Entry) (past : Past) (ch : ℕ) (made_all : List Numbered) (few : AllByRecursion (λ (made : Numbered). parts_of made.1 ≤ 10) made_all) (State : List Delivered → Type 0) (done : (ds : List Delivered) → State ds → List Numbered) where
  abbrev under : List Delivered → Past
  under ds = Took k es ds ∷ past

  abbrev handing : List Delivered → Numbered → Delivered
  handing ds made = delivery_of end (Took k es ds ∷ past) (made_bunch ch made.0 made.1 0) made.1

  -- the message may be handed on, and then the state is this
  pub record Steps (ds : List Delivered) (s : State ds) (made : Numbered) : Type 0 where
    pub lacks : lacks_copy end.side (Took k es ds ∷ past) [] (made_bunch ch made.0 made.1 0) ≡ false
    pub read : payload_at end (Took k es ds ∷ past) (made_bunch ch made.0 made.1 0) (message_bits made.1) ≡ Ok (made.1, [])
    pub next : State (delivery_of end (Took k es ds ∷ past) (made_bunch ch made.0 made.1 0) made.1 ∷ ds)
    pub more : done (delivery_of end (Took k es ds ∷ past) (made_bunch ch made.0 made.1 0) made.1 ∷ ds) next ≡ done ds s ++ made ∷ []

  pub record HandsAll (ds : List Delivered) (seen kept xs : List Bunch) : Type 0 where
    pub news : List Delivered
    pub state : State news
    pub ok : bunches_result end (Took k es ds ∷ past) kept xs ≡ record { past = Took k es news ∷ past; cause = None }
    pub later : List Numbered
    pub split : made_all ≡ done news state ++ later
    pub i : ℕ
    pub rest : List Bunch
    pub begun : HasBegun ch later i rest
    pub is : seen ++ xs ≡ all_bunches ch (done news state) ++ rest

  module _ (steps : (ds : List Delivered) (s : State ds) (made : Numbered) (later : List Numbered) → made_all ≡ done ds s ++ made ∷ later → Steps ds s made) where
    pub hand_all : (ms : List Numbered) (i : ℕ) (xs ys : List Bunch) (ds : List Delivered) (s : State ds) (rest : List Bunch) → made_all ≡ done ds s ++ ms → HasBegun ch ms i rest → rest_of ch ms i ≡ xs ++ ys
        → HandsAll ds (all_bunches ch (done ds s) ++ rest) (kept_here ch ms i) xs
    hand_all [] i [] ys ds s rest split b e = record { news = ds; state = s; ok = refl; later = []; split = split; i = i; rest = rest; begun = b; is = append-nil (all_bunches ch (done ds s) ++ rest) }
    hand_all [] i (x ∷ xs) ys ds s rest split b e = absurd (let no : [] ≡ x ∷ (xs ++ ys) = e in cc)
    hand_all (made ∷ ms) i xs ys ds s rest split b e = elim (cases_lt (length xs) (parts_of made.1 - i)) [
      | inl lt ↦ within lt
      | inr le ↦ (
          let l = longer xs ys (bunches_from ch made.0 made.1 i (parts_of made.1 - i)) (all_bunches ch ms) (sym e) (omega (arith, le, from_length ch made.0 made.1 i (parts_of made.1 - i))) in
          let tail : all_bunches ch ms ≡ l.0 ++ ys = tail_same (bunches_from ch made.0 made.1 i (parts_of made.1 - i)) (all_bunches ch ms) (l.0 ++ ys)
          (e ∙ ap (λ (z : List Bunch). z ++ ys) l.1 ∙ append_assoc (bunches_from ch made.0 made.1 i (parts_of made.1 - i)) l.0 ys) in
          let st = steps ds s made ms split in
          beyond l.0 l.1 st (hand_all ms 0 l.0 ys (delivery_of end (Took k es ds ∷ past) (made_bunch ch made.0 made.1 0) made.1 ∷ ds) st.next []
          (split ∙ sym (append_assoc (done ds s) (made ∷ []) ms) ∙ ap (λ (z : List Numbered). z ++ ms) (sym st.more)) (begun_zero ch ms) (rest_zero ch ms ∙ tail)))
    ]
      where
        short : parts_of made.1 ≤ 10
        short = all_mid (λ (x : Numbered). parts_of x.1 ≤ 10) (done ds s) made ms (subst (AllByRecursion (λ (x : Numbered). parts_of x.1 ≤ 10)) split few)

        within : length xs < parts_of made.1 - i → HandsAll ds (all_bunches ch (done ds s) ++ rest) (kept_parts ch made.0 made.1 i) xs
        within lt =
            let l = longer (bunches_from ch made.0 made.1 i (parts_of made.1 - i)) (all_bunches ch ms) xs ys e (omega (arith, lt, from_length ch made.0 made.1 i (parts_of made.1 - i))) in
            let is : xs ≡ bunches_from ch made.0 made.1 i (length xs) = first_of_range (λ j. made_bunch ch (made.0 + j) made.1 j) (parts_of made.1 - i) i xs l.0 l.1 in
            let st = steps ds s made ms split in
            record {
              news = ds;
              state = s;
              ok = ap (bunches_result end (Took k es ds ∷ past) (kept_parts ch made.0 made.1 i)) is
                  ∙ parts_kept end (Took k es ds ∷ past) ch made.0 made.1 i (length xs) (omega (arith, lt)) short st.lacks;
              later = made ∷ ms;
              split = split;
              i = i + length xs;
              rest = rest ++ xs;
              begun = (omega (arith, lt), ap (λ (z : List Bunch). z ++ xs) b.1 ∙ ap (λ (z : List Bunch). bunches_from ch made.0 made.1 0 i ++ z) is ∙ sym (parts_split ch made.0 made.1 i (length xs)));
              is = append_assoc (all_bunches ch (done ds s)) rest xs;
            }

        beyond : (more : List Bunch) → xs ≡ bunches_from ch made.0 made.1 i (parts_of made.1 - i) ++ more → (st : Steps ds s made)
            → HandsAll (delivery_of end (Took k es ds ∷ past) (made_bunch ch made.0 made.1 0) made.1 ∷ ds) (all_bunches ch (done (delivery_of end (Took k es ds ∷ past) (made_bunch ch made.0 made.1 0) made.1 ∷ ds) st.next) ++ []) (kept_here ch ms 0) more
            → HandsAll ds (all_bunches ch (done ds s) ++ rest) (kept_parts ch made.0 made.1 i) xs
        beyond more is st h =
            let n : i + (parts_of made.1 - i) ≡ parts_of made.1 = omega (arith, b.0) in
            let whole : rest ++ bunches_from ch made.0 made.1 i (parts_of made.1 - i) ≡ bunches_of ch made.0 made.1 =
            ap (λ (z : List Bunch). z ++ bunches_from ch made.0 made.1 i (parts_of made.1 - i)) b.1 ∙ sym (parts_split ch made.0 made.1 i (parts_of made.1 - i)) ∙ ap (bunches_from ch made.0 made.1 0) n in
            let all : all_bunches ch (done (delivery_of end (Took k es ds ∷ past) (made_bunch ch made.0 made.1 0) made.1 ∷ ds) st.next) ≡ all_bunches ch (done ds s) ++ bunches_of ch made.0 made.1 =
            ap (all_bunches ch) st.more ∙ flat_map-append (λ (x : Numbered). bunches_of ch x.0 x.1) (done ds s) (made ∷ []) ∙ ap (λ (z : List Bunch). all_bunches ch (done ds s) ++ z) (append-nil (bunches_of ch made.0 made.1)) in
            let from : List Bunch = bunches_from ch made.0 made.1 i (parts_of made.1 - i) in
            record {
              news = h.news;
              state = h.state;
              ok = ap (bunches_result end (Took k es ds ∷ past) (kept_parts ch made.0 made.1 i)) is
                  ∙ handed_on end (Took k es ds ∷ past) ch made.0 made.1 more i (parts_of made.1 - i) n (omega (arith, b.0)) short st.lacks st.read
                  ∙ ap (λ (z : List Bunch). bunches_result end (Took k es (delivery_of end (Took k es ds ∷ past) (made_bunch ch made.0 made.1 0) made.1 ∷ ds) ∷ past) z more) (sym (kept_zero ch ms)) ∙ h.ok;
              later = h.later;
              split = h.split;
              i = h.i;
              rest = h.rest;
              begun = h.begun;
              is = ap (λ (z : List Bunch). (all_bunches ch (done ds s) ++ rest) ++ z) is ∙ append_assoc (all_bunches ch (done ds s)) rest (from ++ more)
                  ∙ ap (λ (z : List Bunch). all_bunches ch (done ds s) ++ z) (sym (append_assoc rest from more) ∙ ap (λ (z : List Bunch). z ++ more) whole)
                  ∙ sym (append_assoc (all_bunches ch (done ds s)) (bunches_of ch made.0 made.1) more)
                  ∙ ap (λ (z : List Bunch). z ++ more) (sym all ∙ sym (append-nil (all_bunches ch (done (delivery_of end (Took k es ds ∷ past) (made_bunch ch made.0 made.1 0) made.1 ∷ ds) st.next)))) ∙ h.is;
            }

    -- ---- a bunch is heard

    -- what comes of it: nothing is refused, and all that was received whole by then was handed on
    pub record CarriedHeard (ds : List Delivered) (b : Bunch) : Type 0 where
      pub news : List Delivered
      pub state : State news
      pub ok : bunch_heard end (Took k es ds ∷ past) b ≡ record { past = Took k es news ∷ past; cause = None }
      pub whole : wholes_from [] (applied_of (with_bunch (received_on (Took k es ds ∷ past) ch) b)) ≡ map (payload_of ch) (done news state)

    module _ (ds : List Delivered) (s : State ds) (b : Bunch) (n : ℕ) (placed : is_misplaced end.side b ≡ false) (reliable : b.reliable ≡ true) (on : b.channel ≡ ch)
        (number : number_as (received_on (Took k es ds ∷ past) ch) b ≡ pos n) (whole : wholes_of (Took k es ds ∷ past) ch ≡ map (payload_of ch) (done ds s))
        (position : Position ch made_all (applied_of (received_on (Took k es ds ∷ past) ch))) (split : (later : List Numbered) × (made_all ≡ done ds s ++ later))
        (applies : IsPrefix (applied_of (with_bunch (received_on (Took k es ds ∷ past) ch) b)) (all_bunches ch made_all))
        (room : next_of (received_on (Took k es ds ∷ past) ch) < n → is_among n (numbers_of (received_on (Took k es ds ∷ past) ch)) ≡ false → held_count (Took k es ds ∷ past) < 512) where
      abbrev now : Past
      now = Took k es ds ∷ past

      abbrev got : List Received
      got = received_on (Took k es ds ∷ past) ch

      -- it hears the same whatever it is called
      heard_is : (o : Offer) → offer_of got (number_as got b) ≡ o → bunch_heard end now b ≡ reliable_result end now b got o
      heard_is o e =
          ap (λ (t : Bool). cond t (record { past = Took k es ds ∷ past; cause = Some (BadChannel b.channel) }) (cond b.reliable (reliable_result end (Took k es ds ∷ past) b (received_on (Took k es ds ∷ past) b.channel) (offer_of (received_on (Took k es ds ∷ past) b.channel) (number_as (received_on (Took k es ds ∷ past) b.channel) b))) (bunches_result end (Took k es ds ∷ past) (kept_of (applied_of (received_on (Took k es ds ∷ past) b.channel))) (b ∷ [])))) placed
          ∙ ap (λ (t : Bool). cond t (reliable_result end (Took k es ds ∷ past) b (received_on (Took k es ds ∷ past) b.channel) (offer_of (received_on (Took k es ds ∷ past) b.channel) (number_as (received_on (Took k es ds ∷ past) b.channel) b))) (bunches_result end (Took k es ds ∷ past) (kept_of (applied_of (received_on (Took k es ds ∷ past) b.channel))) (b ∷ []))) reliable
          ∙ ap (λ (c : ℕ). reliable_result end (Took k es ds ∷ past) b (received_on (Took k es ds ∷ past) c) (offer_of (received_on (Took k es ds ∷ past) c) (number_as (received_on (Took k es ds ∷ past) c) b))) on
          ∙ ap (reliable_result end (Took k es ds ∷ past) b got) e

      with_is : (o : Offer) → offer_of got (number_as got b) ≡ o → with_bunch got b ≡ with_offer got b o
      with_is o e = ap (with_offer got b) e

      -- the messages that were handed on are those that were applied whole
      same_done : position.done ≡ done ds s
      same_done =
          let mapped : map (payload_of ch) position.done ≡ map (payload_of ch) (done ds s) =
          sym (wholes_are ch position.done position.later position.i position.rest position.begun) ∙ ap (wholes_from []) (sym position.is) ∙ whole in
          same_prefix position.done position.later (done ds s) split.0 (sym position.split ∙ split.1)
          (sym (length-map position.done (payload_of ch)) ∙ ap length mapped ∙ length-map (done ds s) (payload_of ch))

      nothing_new : (o : Offer) → offer_of got (number_as got b) ≡ o → reliable_result end now b got o ≡ record { past = now; cause = None } → applied_of (with_offer got b o) ≡ applied_of got → CarriedHeard ds b
      nothing_new o e r a = record {
        news = ds;
        state = s;
        ok = heard_is o e ∙ r;
        whole = ap (λ (g : List Received). wholes_from [] (applied_of g)) (with_is o e) ∙ ap (wholes_from []) a ∙ whole;
      }

      ready : offer_of got (number_as got b) ≡ Ready → CarriedHeard ds b
      ready e =
          let w : with_bunch got b ≡ (next_of got, b) ∷ got = with_is Ready e in
          let more : applied_of (with_bunch got b) ≡ applied_of got ++ ready_bunches got b =
          ap applied_of w ∙ applied_ready got b ∙ ap (λ (g : List Received). applied_of got ++ run_of g (next_of got) (next_of g - next_of got)) (sym w) in
          let all : (all_bunches ch position.done ++ position.rest) ++ (ready_bunches got b ++ applies.0) ≡ all_bunches ch position.done ++ all_bunches ch position.later =
          ap (λ (z : List Bunch). z ++ (ready_bunches got b ++ applies.0)) (sym position.is) ∙ sym (append_assoc (applied_of got) (ready_bunches got b) applies.0)
          ∙ ap (λ (z : List Bunch). z ++ applies.0) (sym more) ∙ sym applies.1 ∙ ap (all_bunches ch) position.split ∙ flat_map-append (λ (x : Numbered). bunches_of ch x.0 x.1) position.done position.later in
          let left : position.rest ++ (ready_bunches got b ++ applies.0) ≡ all_bunches ch position.later =
          tail_same (all_bunches ch position.done) (position.rest ++ (ready_bunches got b ++ applies.0)) (all_bunches ch position.later)
          (sym (append_assoc (all_bunches ch position.done) position.rest (ready_bunches got b ++ applies.0)) ∙ all) in
          let h = hand_all position.later position.i (ready_bunches got b) applies.0 ds s position.rest (position.split ∙ ap (λ (z : List Numbered). z ++ position.later) same_done) position.begun
          (sym (rest_after ch position.later position.i position.rest (ready_bunches got b ++ applies.0) position.begun left)) in
          record {
            news = h.news;
            state = h.state;
            ok = heard_is Ready e ∙ ap (λ (z : List Bunch). bunches_result end now z (ready_bunches got b)) position.kept ∙ h.ok;
            whole = ap (wholes_from []) (more ∙ ap (λ (z : List Bunch). z ++ ready_bunches got b) (position.is ∙ ap (λ (z : List Numbered). all_bunches ch z ++ position.rest) same_done) ∙ h.is)
                ∙ wholes_are ch (done h.news h.state) h.later h.i h.rest h.begun;
          }

      over : held_count (Took k es ds ∷ past) < 512 → (let o : Option Cause = overrun_cause (Took k es ds ∷ past) b.channel in o) ≡ None
      over lt = ap (λ (t : Bool). then_some t (Overrun b.channel)) (below (held_count (Took k es ds ∷ past)) lt)
        where
          below : (m : ℕ) → m < 512 → nat_le 512 m ≡ false
          below m h = grind (arith, nat_tests)

      held : (n == next_of got) ≡ false → (nat_lt n (next_of got) || is_among n (numbers_of got)) ≡ false → offer_of got (number_as got b) ≡ Held n → CarriedHeard ds b
      held x y e =
          let p = or_parts (nat_lt n (next_of got)) (is_among n (numbers_of got)) y in
          let low : next_of got ≤ n = ltb-false n (next_of got) p.0 in
          let above : next_of got < n = omega (arith, low, eqb-false n (next_of got) x) in
          nothing_new (Held n) e (ap (λ (o : Option Cause). record { past = Took k es ds ∷ past; cause = o }) (over (room above p.1))) (applied_held got b n above p.1)

      pub carried_heard : CarriedHeard ds b
      carried_heard = first (n == next_of got) refl
        where
          second : (n == next_of got) ≡ false → (y : Bool) → (nat_lt n (next_of got) || is_among n (numbers_of got)) ≡ y → CarriedHeard ds b
          second x true y = nothing_new Repeat (ap (offer_of got) number ∙ ap (λ (t : Bool). cond t Ready (cond (nat_lt n (next_of got) || is_among n (numbers_of got)) Repeat (Held n))) x ∙ ap (λ (t : Bool). cond t Repeat (Held n)) y) refl refl
          second x false y = held x y (ap (offer_of got) number ∙ ap (λ (t : Bool). cond t Ready (cond (nat_lt n (next_of got) || is_among n (numbers_of got)) Repeat (Held n))) x ∙ ap (λ (t : Bool). cond t Repeat (Held n)) y)

          first : (x : Bool) → (n == next_of got) ≡ x → CarriedHeard ds b
          first true x = ready (ap (offer_of got) number ∙ ap (λ (t : Bool). cond t Ready (cond (nat_lt n (next_of got) || is_among n (numbers_of got)) Repeat (Held n))) x)
          first false x = second x (nat_lt n (next_of got) || is_among n (numbers_of got)) refl
