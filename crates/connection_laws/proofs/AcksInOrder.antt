-- What was told was taken, and in order.
use Rattle.std.proofs.Common.{◌≡◌, inl, inr, ℕ, ◌≤◌, List, [], ◌∷◌, true, false, refl, sym, ap, ◌∙◌, subst, arith}
use Rattle.std.specs.List.{AllByRecursion}
use Rattle.std.proofs.lemmas.Bool.{false≢true}
use Rattle.protocol_model.specs.Payload.{Message}
use Rattle.protocol_model.specs.Search.{is_among}
use Rattle.connection_model.specs.Feed.{End, Past, Took, Entry, Delivered, Item, Owed, Carries, Loose, has_ended, deeds_since_tick}
use Rattle.connection_model.specs.Fates.{taken_of, taken_in, top_of}
use Rattle.connection_model.specs.Bunches.{after_making}
use Rattle.connection_model.specs.Verdict.{with_told, with_handed}
use Rattle.connection_laws.specs.Run.{Move, Ticks, Makes, Defers, Sends, Takes, Hears, Hands, Ends, after_move, May, IsRun, MaySend, owed_by, acknowledged_of, acknowledged_in}
use Rattle.connection_laws.specs.Acknowledged.{AcknowledgesTaken}
use Rattle.connection_laws.proofs.Searches.{among_cons, among_append, among_there, among_most}
use Rattle.connection_laws.proofs.Moves.{making_keeps, made_ignored, made_ignored_all, told_ignored, handed_ignored, told_ignored_all, handed_ignored_all}
use Rattle.connection_laws.proofs.Deeds.{always}

-- ---- what stays

-- making a message acknowledges nothing
pub told_made : (past : Past) (ch : ℕ) (m : Message) → acknowledged_of (after_making past ch m) ≡ acknowledged_of past
told_made past ch m = made_ignored_all acknowledged_in (λ c n m i. refl) past ch m

-- making a message takes no packet
pub taken_made : (past : Past) (ch : ℕ) (m : Message) → taken_of (after_making past ch m) ≡ taken_of past
taken_made past ch m = made_ignored taken_in (λ c n m i. refl) past ch m

-- nor since the tick
pub since_made : (past : Past) (ch : ℕ) (m : Message) → taken_of (deeds_since_tick (after_making past ch m)) ≡ taken_of (deeds_since_tick past)
since_made past ch m =
    making_keeps (λ i before. taken_of (deeds_since_tick before) ≡ taken_of (deeds_since_tick past)) past ch m refl (λ i before lt e. e)

-- hearing an entry takes no packet
pub taken_told : (entry : Entry) (past : Past) → taken_of (with_told entry past) ≡ taken_of past
taken_told entry past = told_ignored taken_in (λ n e es ds. refl) entry past

-- handing a payload on takes no packet
pub taken_handed : (d : Delivered) (past : Past) → taken_of (with_handed d past) ≡ taken_of past
taken_handed d past = handed_ignored taken_in (λ n es d ds. refl) d past

-- nor does hearing an entry since the tick
since_told : (entry : Entry) (past : Past) → taken_of (deeds_since_tick (with_told entry past)) ≡ taken_of (deeds_since_tick past)
since_told entry (Took n es ds ∷ past) = refl
since_told entry past = refl

-- nor does handing a payload on
since_handed : (d : Delivered) (past : Past) → taken_of (deeds_since_tick (with_handed d past)) ≡ taken_of (deeds_since_tick past)
since_handed d (Took n es ds ∷ past) = refl
since_handed d past = refl

-- ---- the law

-- what items acknowledge was taken
owed_taken : (end : End) (past : Past) (items : List Item) → AllByRecursion (MaySend end past) items → (x : ℕ) → is_among x (owed_by items) ≡ true → is_among x (taken_of past) ≡ true
owed_taken end past [] all x h = absurd (false≢true h)
owed_taken end past (Owed n ∷ items) all x h = elim (among_cons n (owed_by items) x h) [
  | inl e ↦ subst (λ (k : ℕ). is_among k (taken_of past) ≡ true) e all.0
  | inr e ↦ owed_taken end past items all.1 x e
]
owed_taken end past (Carries c k b ∷ items) all x h = owed_taken end past items all.1 x h
owed_taken end past (Loose m b ∷ items) all x h = owed_taken end past items all.1 x h

-- it stays so where the same was taken and acknowledged
tells_like : (past later : Past) → acknowledged_of later ≡ acknowledged_of past → taken_of later ≡ taken_of past
    → taken_of (deeds_since_tick later) ≡ taken_of (deeds_since_tick past) → AcknowledgesTaken past → AcknowledgesTaken later
tells_like past later t k s h = record {
  taken = λ x e. ap (is_among x) k ∙ h.taken x (ap (is_among x) (sym t) ∙ e);
  order = λ x y e f. h.order x y (ap (is_among x) (sym t) ∙ e) (ap (is_among y) (sym s) ∙ f);
}

-- it stays so move by move
tells_taken_step : (end : End) (past : Past) (move : Move) → IsRun end past → has_ended past ≡ false → May end past move → AcknowledgesTaken past → AcknowledgesTaken (after_move past move)
tells_taken_step end past (Ticks sight) run alive may h = record { taken = h.taken; order = λ x y e f. absurd (false≢true f) }
tells_taken_step end past (Makes ch m) run alive may h =
    tells_like past (after_making past ch m) (told_made past ch m) (taken_made past ch m) (since_made past ch m) h
tells_taken_step end past (Defers m) run alive may h = record { taken = h.taken; order = h.order }
tells_taken_step end past (Sends items) run alive may h = record {
  taken = λ x e. elim (among_append (owed_by items) (acknowledged_of past) x e) [
    | inl q ↦ owed_taken end past items may.each x q
    | inr q ↦ h.taken x q
  ];
  order = λ x y e f. absurd (false≢true (ap (is_among y) (sym may.in_tick) ∙ f));
}
tells_taken_step end past (Takes n) run alive may h = record {
  taken = λ x e. among_there n (taken_of past) x (h.taken x e);
  order = λ x y e f. elim (among_cons n (taken_of (deeds_since_tick past)) y f) [
    | inl q ↦ (let le : x ≤ top_of past = among_most (taken_of past) x (h.taken x e) in omega (arith, q, may))
    | inr q ↦ h.order x y e q
  ];
}
tells_taken_step end past (Hears entry) run alive may h =
    tells_like past (with_told entry past) (told_ignored_all acknowledged_in (λ n e es ds. refl) entry past) (taken_told entry past) (since_told entry past) h
tells_taken_step end past (Hands d) run alive may h =
    tells_like past (with_handed d past) (handed_ignored_all acknowledged_in (λ n es d ds. refl) d past) (taken_handed d past) (since_handed d past) h
tells_taken_step end past (Ends ending) run alive may h = record { taken = h.taken; order = h.order }

-- what is acknowledged was taken, in order
pub tells_taken : (end : End) (past : Past) → IsRun end past → AcknowledgesTaken past
tells_taken end past run =
    always end AcknowledgesTaken (record { taken = λ x e. absurd (false≢true e); order = λ x y e f. absurd (false≢true e) }) (tells_taken_step end) past run
