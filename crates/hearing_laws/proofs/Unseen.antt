-- What acknowledgements leave as it was: acts, calls that wait, and the payloads handed on.
use Rattle.std.proofs.Common.{◌≡◌, ℕ, ◌-◌, List, [], ◌∷◌, ◌++◌, reverse, length, refl, sym, ap, ◌∙◌, arith}
use Rattle.std.specs.Prelude.{take}
use Rattle.std.specs.List.{filter_map, cons_option}
use Rattle.std.proofs.lemmas.List.{length-append}
use Rattle.connection_model.specs.Feed.{Past, Ticked, Made, Waits, Sent, Took, Ended, Entry, Delivered, deeds_since_tick}
use Rattle.connection_model.specs.Copies.{delivered_of}
use Rattle.connection_model.specs.CallAnswers.{waiting_of, waits_in}
use Rattle.channel_laws.specs.Moves.{IsMove, SameNews, but_fates}
use Rattle.channel_laws.proofs.Hearing.{heard_fates}
use Rattle.sender_laws.specs.Acts.{IsAlike, acts}
use Rattle.hearing_laws.specs.Courses.{Taking, during, handed_since}

acts_kept : (past : Past) → acts (but_fates past) ≡ acts past
acts_kept [] = refl
acts_kept (Ticked t s ∷ past) = ap (λ (ds : Past). Ticked t s ∷ ds) (acts_kept past)
acts_kept (Made c n m i ∷ past) = ap (λ (ds : Past). Made c n m i ∷ ds) (acts_kept past)
acts_kept (Waits m ∷ past) = acts_kept past
acts_kept (Sent n t items ∷ past) = ap (λ (ds : Past). Sent n t items ∷ ds) (acts_kept past)
acts_kept (Took n es ds ∷ past) = acts_kept past
acts_kept (Ended e ∷ past) = acts_kept past

pub same_acts : (one other : Past) → but_fates other ≡ but_fates one → acts other ≡ acts one
same_acts one other e = sym (acts_kept other) ∙ ap acts e ∙ acts_kept one

waits_kept : (past : Past) → filter_map waits_in (deeds_since_tick (but_fates past))
    ≡ filter_map waits_in (deeds_since_tick past)
waits_kept [] = refl
waits_kept (Ticked t s ∷ past) = refl
waits_kept (Made c n m i ∷ past) = waits_kept past
waits_kept (Waits m ∷ past) = ap (cons_option (waits_in (Waits m))) (waits_kept past)
waits_kept (Sent n t items ∷ past) = waits_kept past
waits_kept (Took n es ds ∷ past) = waits_kept past
waits_kept (Ended e ∷ past) = waits_kept past

same_waiting : (one other : Past) → but_fates other ≡ but_fates one → waiting_of other ≡ waiting_of one
same_waiting one other e =
    ap reverse (sym (waits_kept other) ∙ ap (λ (past : Past). filter_map waits_in (deeds_since_tick past)) e
    ∙ waits_kept one)

pub news_acts : (one other : Past) → SameNews one other → IsAlike one other
news_acts one other h = record { done = same_acts one other h.rest; moved = h.moved }

pub news_waiting : (one other : Past) → SameNews one other → waiting_of other ≡ waiting_of one
news_waiting one other h = same_waiting one other h.rest

pub news_handed : (one other : Past) → SameNews one other → delivered_of other ≡ delivered_of one
news_handed one other h = (heard_fates one other h.rest).handed

pub move_waiting : (from to : ℕ) (past after : Past) → IsMove from to past after → waiting_of after ≡ waiting_of past
move_waiting from to past after h = same_waiting past after h.rest

pub move_handed : (from to : ℕ) (past after : Past) → IsMove from to past after
    → delivered_of after ≡ delivered_of past
move_handed from to past after h = (heard_fates past after h.rest).handed

-- the front of two lists, by their lengths
front : {A : Type 0} (xs ys : List A) → take (length (xs ++ ys) - length ys) (xs ++ ys) ≡ xs
front {A} xs ys =
    let e : length (xs ++ ys) - length ys ≡ length xs = (let l = length-append xs ys in omega (l, arith)) in
    ap (λ (n : ℕ). take n (xs ++ ys)) e ∙ whole xs
  where
    whole : (xs : List A) → take (length xs) (xs ++ ys) ≡ xs
    whole [] = refl
    whole (x ∷ xs) = ap (λ (zs : List A). x ∷ zs) (whole xs)

pub handed_is : (k : Taking) (entries : List Entry) (handed : List Delivered)
    → handed_since k.before (during k entries handed) ≡ reverse handed
handed_is k entries handed = ap reverse (front handed (delivered_of k.before))
