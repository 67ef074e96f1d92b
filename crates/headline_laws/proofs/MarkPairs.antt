-- An actor's opens and closes come in pairs, each pair on one index.
use Rattle.std.proofs.Common.{◌≡◌, ℕ, ◌==◌, List, [], ◌∷◌, Bool, true, false, cond, refl, sym, ap, ◌∙◌, subst, Option, Some, None}
use Rattle.std.specs.List.{slice_get}
use Rattle.std.proofs.lemmas.Bool.{false≢true, eqb-true, and_parts}
use Rattle.protocol_model.specs.Payload.{Message, Opens, Closes, Updates, Calls, Gone, actor_of}
use Rattle.connection_model.specs.Feed.{End, Past, has_ended}
use Rattle.connection_model.specs.Bunches.{after_making, is_opening}
use Rattle.connection_model.specs.State.{Mark, is_mark, mark_in, last_mark, index_of}
use Rattle.connection_laws.specs.Run.{Move, Ticks, Makes, Defers, Sends, Takes, Hears, Hands, Ends, after_move, May, MayMake, IsRun}
use Rattle.connection_laws.proofs.Moves.{told_ignored, handed_ignored}
use Rattle.connection_laws.proofs.Deeds.{always}
use Rattle.connection_laws.proofs.InTurn.{OpenMark, open_holds_it, held_open}
use Rattle.headline_laws.specs.Marks.{marks_of, MarkFits, MarksFit}
use Rattle.headline_laws.proofs.Reopened.{marks_it, new_mark, marks_made}
use Rattle.payload_laws.proofs.WorldValues.{same_some}

-- a mark that may be made fits those before it
pub new_fits : (end : End) (past : Past) (a c : ℕ) (m : Message) → MayMake end past c m → marks_it a m ≡ true → MarkFits (new_mark past c m) (marks_of past a)
new_fits end past a c m may it = by m may it (marks_of past a) refl
  where
    actor : (w : Message) → marks_it a w ≡ true → actor_of w ≡ a
    actor w q = eqb-true (actor_of w) a (and_parts (actor_of w == a) (is_mark w) q).0

    first : (mark : Mark) (before : List Mark) → marks_of past a ≡ mark ∷ before → last_mark past a ≡ Some mark
    first mark before e = ap (λ (ks : List Mark). slice_get ks 0) e

    closes : (b : ℕ) (sleeps : Bool) → MayMake end past c (Closes b sleeps) → b ≡ a → (mark : Mark) → last_mark past a ≡ Some mark → (is_opening mark.message ≡ true) × (mark.channel ≡ c)
    closes b sleeps may same mark e =
        let o : OpenMark past b c = held_open past b c may.place.0 may.place.1 in
        let is : o.mark ≡ mark = same_some o.mark mark (sym o.last ∙ ap (last_mark past) same ∙ e) in
        (ap (λ (x : Mark). is_opening x.message) (sym is) ∙ o.opens, ap (λ (x : Mark). x.channel) (sym is) ∙ o.on)

    opens : index_of past a ≡ None → (mark : Mark) → last_mark past a ≡ Some mark → is_opening mark.message ≡ false
    opens free mark e = held (is_opening mark.message) refl
      where
        held : (t : Bool) → is_opening mark.message ≡ t → is_opening mark.message ≡ false
        held false q = q
        held true q = absurd (none_some mark.channel (sym free ∙ (open_holds_it past a mark.channel (record { mark = mark; last = e; opens = q; on = refl })).0))
          where
            none_some : (n : ℕ) → (let o : Option ℕ = None in o) ≡ Some n → ⊥
            none_some n q = cc

    by : (w : Message) → MayMake end past c w → marks_it a w ≡ true → (ks : List Mark) → marks_of past a ≡ ks → MarkFits (new_mark past c w) ks
    by (Opens exports b class values) may it [] e = refl
    by (Opens exports b class values) may it (mark ∷ before) e =
        ((λ q. absurd (false≢true q)), (λ q. opens (ap (index_of past) (sym (actor (Opens exports b class values) it)) ∙ may.place.3) mark (first mark before e)))
    by (Closes b sleeps) may it [] e =
        let o : OpenMark past b c = held_open past b c may.place.0 may.place.1 in
        absurd (never o.mark (sym (ap (λ (ks : List Mark). slice_get ks 0) e) ∙ ap (last_mark past) (sym (actor (Closes b sleeps) it)) ∙ o.last))
      where
        never : (mark : Mark) → (let o : Option Mark = None in o) ≡ Some mark → ⊥
        never mark q = cc
    by (Closes b sleeps) may it (mark ∷ before) e = ((λ q. closes b sleeps may (actor (Closes b sleeps) it) mark (first mark before e)), (λ q. absurd (false≢true q)))
    by (Gone b) may it [] e = refl
    by (Gone b) may it (mark ∷ before) e = ((λ q. absurd (false≢true q)), (λ q. absurd (false≢true q)))
    by (Updates b class values) may it [] e = refl
    by (Updates b class values) may it (mark ∷ before) e = ((λ q. absurd (false≢true q)), (λ q. absurd (false≢true q)))
    by (Calls b n call args) may it [] e = refl
    by (Calls b n call args) may it (mark ∷ before) e = ((λ q. absurd (false≢true q)), (λ q. absurd (false≢true q)))

-- marks fit after a message
fit_made : (end : End) (past : Past) (c : ℕ) (m : Message) → MayMake end past c m → ((a : ℕ) → MarksFit (marks_of past a)) → (a : ℕ) → MarksFit (marks_of (after_making past c m) a)
fit_made end past c m may h a = subst MarksFit (sym (marks_made past a c m)) (by (marks_it a m) refl)
  where
    by : (b : Bool) → marks_it a m ≡ b → MarksFit (cond b (new_mark past c m ∷ marks_of past a) (marks_of past a))
    by true e = (new_fits end past a c m may e, h a)
    by false e = h a

-- each mark does
pub marks_fit : (end : End) (past : Past) → IsRun end past → (a : ℕ) → MarksFit (marks_of past a)
marks_fit end past run = always end (λ past. (a : ℕ) → MarksFit (marks_of past a)) (λ a. tt) step past run
  where
    step : (past : Past) (move : Move) → IsRun end past → has_ended past ≡ false → May end past move → ((a : ℕ) → MarksFit (marks_of past a)) → (a : ℕ) → MarksFit (marks_of (after_move past move) a)
    step past (Ticks sight) run alive may h = h
    step past (Makes c m) run alive may h = fit_made end past c m may h
    step past (Defers m) run alive may h = h
    step past (Sends items) run alive may h = h
    step past (Takes n) run alive may h = h
    step past (Hears entry) run alive may h = λ a. subst MarksFit (sym (told_ignored (mark_in a) (λ n e es ds. refl) entry past)) (h a)
    step past (Hands d) run alive may h = λ a. subst MarksFit (sym (handed_ignored (mark_in a) (λ n es d ds. refl) d past)) (h a)
    step past (Ends g) run alive may h = h
