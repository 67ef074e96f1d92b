-- A client goes on following its server while the server goes on, and while nothing is handed on.
use Rattle.std.proofs.Common.{◌≡◌, ℕ, ◌+◌, ◌<◌, ◌≤◌, ◌==◌, ◌&&◌, List, [], ◌∷◌, ◌++◌, map, reverse, filter, Bool, true, false, cond, refl, sym, ap, ◌∙◌, subst, arith, append_assoc, Option, Some, None, unwrap_or, slice_get}
use Rattle.std.specs.Prelude.{is_some}
use Rattle.std.specs.List.{filter_map, cons_option, AllByRecursion}
use Rattle.std.proofs.lemmas.List.{reverse-append}
use Rattle.protocol_model.specs.Payload.{Message, Opens, Closes, Updates, Calls, Gone}
use Rattle.protocol_model.specs.Search.{newest_of, items_since}
use Rattle.protocol_model.specs.Value.{Segment, Class}
use Rattle.connection_model.specs.Feed.{End, Past, Made, Delivered}
use Rattle.connection_model.specs.Bunches.{made_count, after_making}
use Rattle.connection_model.specs.Copies.{delivered_of, class_opened, copy_class, channel_said, copy_channel, has_copy, removes, actor_opened}
use Rattle.connection_model.specs.State.{Mark, mark_in, open_class_in, was_opened}
use Rattle.connection_model.specs.Verdict.{with_told, with_handed}
use Rattle.connection_laws.specs.Run.{Move, Ticks, Makes, Defers, Sends, Takes, Hears, Hands, Ends, after_move, May, IsRun}
use Rattle.connection_laws.specs.Delivered.{on_index, Numbered, messages_on, handed_reliably}
use Rattle.connection_laws.specs.InTurn.{user_of}
use Rattle.connection_laws.proofs.Moves.{making_keeps, told_ignored, handed_ignored}
use Rattle.connection_laws.proofs.Items.{all_weaker, all_append}
use Rattle.payload_laws.specs.Delivered.{ExportsStand}
use Rattle.headline_laws.specs.Agree.{applied_in, user_at, CopiesAgree}
use Rattle.headline_laws.specs.Fits.{IsSpawned}
use Rattle.headline_laws.specs.Follows.{parts_in, HandsOn, HandsOnAll, IsAhead, CopyAfter, CopyBy, MarksFollow, Follows}
use Rattle.headline_laws.specs.Marks.{marks_of}
use Rattle.headline_laws.proofs.CopiesGoOn.{agree_start}
use Rattle.headline_laws.proofs.ReceivedFirst.{parts_append}
use Rattle.headline_laws.proofs.PastGrows.{grows_by}
use Rattle.headline_laws.proofs.PlaceByNumber.{count_is}
use Rattle.headline_laws.proofs.Reopened.{marks_it, new_mark, marks_made}

-- ---- the server goes on

-- the server went on: what it had made and opened stays, and its marks
pub record More (past later : Past) : Type 0 where
  pub made : (ch : ℕ) → (ms : List Numbered) × (messages_on later ch ≡ messages_on past ch ++ ms)
  pub marks : (a : ℕ) → (ks : List Mark) × (marks_of later a ≡ ks ++ marks_of past a) × AllByRecursion (λ (mark : Mark). made_count past mark.channel < mark.number) ks
  pub opened : (a : ℕ) → was_opened past a ≡ true → was_opened later a ≡ true

-- an opened actor stays opened after a message
opened_made : (past : Past) (c : ℕ) (m : Message) (a : ℕ) → was_opened past a ≡ true → was_opened (after_making past c m) a ≡ true
opened_made past c m a h = making_keeps (λ i before. was_opened before a ≡ true) past c m h (λ i before lt q. by before (open_class_in a (Made c (made_count past c + 1 + i) m i)) q)
  where
    by : (before : Past) (o : Option Class) → was_opened before a ≡ true → is_some (slice_get (cons_option o (filter_map (open_class_in a) before)) 0) ≡ true
    by before None q = q
    by before (Some class) q = refl

-- a message adds at most a mark, with a number above those made
marks_more : (past : Past) (c : ℕ) (m : Message) (a : ℕ) → (ks : List Mark) × (marks_of (after_making past c m) a ≡ ks ++ marks_of past a) × AllByRecursion (λ (mark : Mark). made_count past mark.channel < mark.number) ks
marks_more past c m a = by (marks_it a m) (marks_made past a c m)
  where
    by : (b : Bool) → marks_of (after_making past c m) a ≡ cond b (new_mark past c m ∷ marks_of past a) (marks_of past a)
        → (ks : List Mark) × (marks_of (after_making past c m) a ≡ ks ++ marks_of past a) × AllByRecursion (λ (mark : Mark). made_count past mark.channel < mark.number) ks
    by true e = (new_mark past c m ∷ [], e, (omega arith, tt))
    by false e = ([], e, tt)

-- each move goes on
pub more_by : (end : End) (past : Past) (move : Move) → IsRun end past → May end past move → More past (after_move past move)
more_by end past move run may = record { made = λ ch. (let g = (grows_by end past move run may).made ch in (reverse g.0, ap reverse g.1 ∙ reverse-append g.0 (on_index ch past))); marks = marks move; opened = opened move }
  where
    same : (later : Past) (a : ℕ) → marks_of later a ≡ marks_of past a → (ks : List Mark) × (marks_of later a ≡ ks ++ marks_of past a) × AllByRecursion (λ (mark : Mark). made_count past mark.channel < mark.number) ks
    same later a e = ([], e, tt)

    marks : (move : Move) → (a : ℕ) → (ks : List Mark) × (marks_of (after_move past move) a ≡ ks ++ marks_of past a) × AllByRecursion (λ (mark : Mark). made_count past mark.channel < mark.number) ks
    marks (Ticks sight) a = same (after_move past (Ticks sight)) a refl
    marks (Makes c m) a = marks_more past c m a
    marks (Defers m) a = same (after_move past (Defers m)) a refl
    marks (Sends items) a = same (after_move past (Sends items)) a refl
    marks (Takes n) a = same (after_move past (Takes n)) a refl
    marks (Hears entry) a = same (with_told entry past) a (told_ignored (mark_in a) (λ n e es ds. refl) entry past)
    marks (Hands d) a = same (with_handed d past) a (handed_ignored (mark_in a) (λ n es d ds. refl) d past)
    marks (Ends g) a = same (after_move past (Ends g)) a refl

    opened : (move : Move) → (a : ℕ) → was_opened past a ≡ true → was_opened (after_move past move) a ≡ true
    opened (Ticks sight) a h = h
    opened (Makes c m) a h = opened_made past c m a h
    opened (Defers m) a h = h
    opened (Sends items) a h = h
    opened (Takes n) a h = h
    opened (Hears entry) a h = ap (λ (l : List Class). is_some (slice_get l 0)) (told_ignored (open_class_in a) (λ n e es ds. refl) entry past) ∙ h
    opened (Hands d) a h = ap (λ (l : List Class). is_some (slice_get l 0)) (handed_ignored (open_class_in a) (λ n es d ds. refl) d past) ∙ h
    opened (Ends g) a h = h

-- what was handed on of the past was of the later one
abbrev pub hands_more : (past later to : Past) → More past later → HandsOnAll past to → HandsOnAll later to
hands_more past later to more hands ch = record {
  done = (hands ch).done;
  later = (hands ch).later ++ (more.made ch).0;
  split = (more.made ch).1 ∙ ap (λ (l : List Numbered). l ++ (more.made ch).0) (hands ch).split ∙ append_assoc (hands ch).done (hands ch).later (more.made ch).0;
  same = (hands ch).same;
}

-- what was handed on was made
pub done_low : (end : End) (past to : Past) → IsRun end past → (ch : ℕ) (hands : HandsOn past to ch) → parts_in hands.done ≤ made_count past ch
done_low end past to run ch hands = omega (arith, count_is end past run ch, ap parts_in hands.split, parts_append hands.done hands.later)

-- the client still follows
pub follows_more : (segments : List Segment) (classes : ℕ → Class) (end : End) (past later client : Past) → IsRun end past → More past later → Follows segments classes past client → Follows segments classes later client
follows_more segments classes end past later client run more f = record {
  hands = hands_more past later client more f.hands;
  agree = f.agree;
  marks = marks;
  known = λ a class e. (let k = f.known a class e in (k.0, more.opened a k.1));
  exports = f.exports;
  spawned = f.spawned;
}
  where
    new_ahead : (mark : Mark) → made_count past mark.channel < mark.number → IsAhead later client (hands_more past later client more f.hands) mark
    new_ahead mark h = omega (arith, h, done_low end past client run mark.channel (f.hands mark.channel))

    marks : (a : ℕ) → MarksFollow later client (hands_more past later client more f.hands) a
    marks a =
        let m = f.marks a in
        let k = more.marks a in
        record {
          newer = k.0 ++ m.newer;
          older = m.older;
          split = k.1 ∙ ap (λ (l : List Mark). k.0 ++ l) m.split ∙ sym (append_assoc k.0 m.newer m.older);
          ahead = all_append (IsAhead later client (hands_more past later client more f.hands)) k.0 m.newer
              (all_weaker (λ (mark : Mark). made_count past mark.channel < mark.number) (IsAhead later client (hands_more past later client more f.hands)) new_ahead k.0 k.2) m.ahead;
          done = m.done;
          copy = m.copy;
        }

-- ---- nothing is handed on

module _ (past later : Past) (e : delivered_of later ≡ delivered_of past) where
  pub class_alike : (a : ℕ) → copy_class later a ≡ copy_class past a
  class_alike a = ap (λ (ds : List Delivered). newest_of (class_opened a) (items_since (removes a) ds)) e

  pub has_alike : (a : ℕ) → has_copy later a ≡ has_copy past a
  has_alike a = ap (λ (o : Option Class). is_some o) (class_alike a)

  pub channel_alike : (a : ℕ) → copy_channel later a ≡ copy_channel past a
  channel_alike a = ap (λ (ds : List Delivered). unwrap_or (newest_of (channel_said a) (items_since (removes a) ds)) None) e

  user_alike : (ch : ℕ) → user_at later ch ≡ user_at past ch
  user_alike ch = ap (λ (ds : List Delivered). user_of (filter_map (applied_in ch) ds)) e

  pub handed_alike : (ch : ℕ) → handed_reliably later ch ≡ handed_reliably past ch
  handed_alike ch = ap (λ (ds : List Delivered). reverse (filter (λ (d : Delivered). d.channel == ch && d.reliable) ds)) e

  agree_alike : CopiesAgree past → CopiesAgree later
  agree_alike h = record {
    holds = λ ch a u. (let q = h.holds ch a (sym (user_alike ch) ∙ u) in (has_alike a ∙ q.0, channel_alike a ∙ q.1));
    held = λ ch a c. user_alike ch ∙ h.held ch a (sym (channel_alike a) ∙ c);
  }

  abbrev pub hands_alike : (from : Past) → HandsOnAll from past → HandsOnAll from later
  hands_alike from hands ch = record {
    done = (hands ch).done;
    later = (hands ch).later;
    split = (hands ch).split;
    same = ap (map (λ (d : Delivered). d.message)) (handed_alike ch) ∙ (hands ch).same;
  }

-- a copy that stays as it was
pub copy_stays : (past later : Past) (a : ℕ) → has_copy later a ≡ has_copy past a → copy_channel later a ≡ copy_channel past a → (marks : List Mark) → CopyBy past a marks → CopyBy later a marks
copy_stays past later a h c [] q = (h ∙ q.0, c ∙ q.1)
copy_stays past later a h c (mark ∷ marks) q = by mark.message q
  where
    by : (m : Message) → CopyAfter past a mark.channel m → CopyAfter later a mark.channel m
    by (Opens exports actor class values) q = (h ∙ q.0, c ∙ q.1)
    by (Closes actor sleeps) q = (h ∙ q.0, c ∙ q.1)
    by (Updates actor class values) q = (h ∙ q.0, c ∙ q.1)
    by (Calls actor n call args) q = (h ∙ q.0, c ∙ q.1)
    by (Gone actor) q = (h ∙ q.0, c ∙ q.1)

-- it still follows while nothing is handed on
pub follows_alike : (segments : List Segment) (classes : ℕ → Class) (server past later : Past) → delivered_of later ≡ delivered_of past → Follows segments classes server past → Follows segments classes server later
follows_alike segments classes server past later e f = record {
  hands = hands_alike past later e server f.hands;
  agree = agree_alike past later e f.agree;
  marks = λ a. (let m = f.marks a in record { newer = m.newer; older = m.older; split = m.split; ahead = m.ahead; done = m.done; copy = copy_stays past later a (has_alike past later e a) (channel_alike past later e a) m.older m.copy });
  known = λ a class q. f.known a class (sym (class_alike past later e a) ∙ q);
  exports = subst (ExportsStand segments) (sym e) f.exports;
  spawned = subst (λ (ds : List Delivered). AllByRecursion IsSpawned (filter_map actor_opened ds)) (sym e) f.spawned;
}

-- ---- at first

-- it follows at first
pub follows_start : (segments : List Segment) (classes : ℕ → Class) → Follows segments classes [] []
follows_start segments classes = record {
  hands = λ ch. record { done = []; later = []; split = refl; same = refl };
  agree = agree_start;
  marks = λ a. record { newer = []; older = []; split = refl; ahead = tt; done = tt; copy = (refl, refl) };
  known = λ a class q. absurd (let no : (let o : Option Class = None in o) ≡ Some class = q in cc);
  exports = tt;
  spawned = tt;
}

-- ---- what was handed on stays

-- the same messages were handed on
pub alike_done : (segments : List Segment) (classes : ℕ → Class) (server past later : Past) (e : delivered_of later ≡ delivered_of past) (f : Follows segments classes server past) (ch : ℕ) → ((follows_alike segments classes server past later e f).hands ch).done ≡ (f.hands ch).done
unfolding follows_alike
alike_done segments classes server past later e f ch = refl

-- the same messages were handed on
pub more_done : (segments : List Segment) (classes : ℕ → Class) (end : End) (past later client : Past) (run : IsRun end past) (more : More past later) (f : Follows segments classes past client) (ch : ℕ) → ((follows_more segments classes end past later client run more f).hands ch).done ≡ (f.hands ch).done
unfolding follows_more
more_done segments classes end past later client run more f ch = refl

-- none were handed on at first
pub start_done : (segments : List Segment) (classes : ℕ → Class) (ch : ℕ) → ((follows_start segments classes).hands ch).done ≡ []
unfolding follows_start
start_done segments classes ch = refl
