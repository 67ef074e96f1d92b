-- What the packets of one end said.
use Rattle.std.proofs.Common.{◌≡◌, ◌⊎◌, inl, inr, ℕ, ◌+◌, ◌≤◌, max, List, [], ◌∷◌, ◌++◌, map, Bool, true, false, cond, eqb, ◌==◌, ◌&&◌, ◌||◌, refl, sym, ap, ◌∙◌, subst, arith, Option, Some, None}
use Rattle.std.specs.List.{filter_map, list_any, AllByRecursion}
use Rattle.std.specs.Bool.{then_some}
use Rattle.std.proofs.lemmas.Bool.{false≢true, cases_eq, and_parts, and_from, or_left, or_right, eqb-true, eq-eqb, ne_eqb}
use Rattle.protocol_model.specs.declared.Version.{Version}
use Rattle.protocol_model.specs.declared.Version.TheVariants.{One, Two}
use Rattle.protocol_model.specs.Packet.{Bunch}
use Rattle.protocol_model.specs.Payload.{Message}
use Rattle.protocol_model.specs.Search.{newest_of}
use Rattle.connection_model.specs.Feed.{End, Past, Ticked, Made, Waits, Sent, Took, Ended, Entry, Delivered, Item, Owed, Carries, Loose}
use Rattle.connection_model.specs.Fates.{last_sent, sent_in, head_of}
use Rattle.connection_model.specs.Bunches.{made_count, carrier_of, carrier_in, is_carried_as, after_making}
use Rattle.connection_model.specs.Items.{made_as}
use Rattle.connection_model.specs.Verdict.{with_told, with_handed}
use Rattle.connection_model.specs.Pack.{after_sending}
use Rattle.connection_laws.specs.Run.{MaySend, IsWaiting}
use Rattle.connection_laws.specs.Deeds.{DeedsFit}
use Rattle.connection_laws.specs.Link.{Said, SaysHead, SaysItem, all_said, said_by}
use Rattle.connection_laws.proofs.Searches.{newest_hit, newest_miss}
use Rattle.connection_laws.proofs.Moves.{making_keeps}
use Rattle.connection_laws.proofs.Counts.{made_count_same, made_count_other}
use Rattle.connection_laws.proofs.Items.{made_other}
use Rattle.protocol_laws.proofs.Greatest.{greatest_of-cons}

-- ---- items of a list

-- the item is in the list
abbrev pub IsIn : {A : Type 0} → A → List A → Type 0
IsIn x [] = ⊥
IsIn x (y ∷ ys) = (y ≡ x) ⊎ IsIn x ys

-- what is in the first is in both
pub in_left : {A : Type 0} (x : A) (ys zs : List A) → IsIn x ys → IsIn x (ys ++ zs)
in_left x [] zs h = absurd h
in_left x (y ∷ ys) zs (inl e) = inl e
in_left x (y ∷ ys) zs (inr h) = inr (in_left x ys zs h)

-- what is in the second is in both
pub in_right : {A : Type 0} (x : A) (ys zs : List A) → IsIn x zs → IsIn x (ys ++ zs)
in_right x [] zs h = h
in_right x (y ∷ ys) zs h = inr (in_right x ys zs h)

-- what is in both is in one of them
pub in_either : {A : Type 0} (x : A) (ys zs : List A) → IsIn x (ys ++ zs) → IsIn x ys ⊎ IsIn x zs
in_either x [] zs h = inr h
in_either x (y ∷ ys) zs (inl e) = inl (inl e)
in_either x (y ∷ ys) zs (inr h) = elim (in_either x ys zs h) [ inl q ↦ inl (inr q) | inr q ↦ inr q ]

-- an item is where it stands
pub in_middle : {A : Type 0} (x : A) (ys zs : List A) → IsIn x (ys ++ x ∷ zs)
in_middle x ys zs = in_right x ys (x ∷ zs) (inl refl)

-- what holds of all holds of an item
pub all_at : {A : Type 0} (P : A → Type 0) (x : A) (xs : List A) → AllByRecursion P xs → IsIn x xs → P x
all_at P x [] all h = absurd h
all_at P x (y ∷ xs) all (inl e) = subst P e all.0
all_at P x (y ∷ xs) all (inr h) = all_at P x xs all.1 h

-- ---- the items of a packet

-- an item that is said stands among the items
held_item : (x : Item) (items : List Item) → IsIn (SaysItem x) (map (λ (item : Item). SaysItem item) items) → IsIn x items
held_item x [] h = absurd h
held_item x (y ∷ items) (inl e) = inl (same e)
  where
    same : SaysItem y ≡ SaysItem x → y ≡ x
    same e = cc
held_item x (y ∷ items) (inr h) = inr (held_item x items h)

-- what a packet says besides its head is an item of it
pub said_item : (v : Version) (past : Past) (items : List Item) (x : Item) → IsIn (SaysItem x) (all_said v past items) → IsIn x items
said_item One past items x h = held_item x items h
said_item Two past items x (inl e) = absurd (no e)
  where
    no : SaysHead (head_of Two past) ≡ SaysItem x → ⊥
    no e = cc
said_item Two past items x (inr h) = held_item x items h

-- and the other way round
item_held : (x : Item) (items : List Item) → IsIn x items → IsIn (SaysItem x) (map (λ (item : Item). SaysItem item) items)
item_held x [] h = absurd h
item_held x (y ∷ items) (inl e) = inl (ap (λ (item : Item). SaysItem item) e)
item_held x (y ∷ items) (inr h) = inr (item_held x items h)

-- each item of a packet is said
pub item_said : (v : Version) (past : Past) (items : List Item) (x : Item) → IsIn x items → IsIn (SaysItem x) (all_said v past items)
item_said One past items x h = item_held x items h
item_said Two past items x h = inr (item_held x items h)

-- ---- what stays

-- making a message says nothing
pub said_made : (v : Version) (past : Past) (ch : ℕ) (m : Message) (k : ℕ) → said_by v (after_making past ch m) k ≡ said_by v past k
said_made v past ch m k = making_keeps (λ i before. said_by v before k ≡ said_by v past k) past ch m refl (λ i before lt e. e)

-- hearing an entry says nothing
pub said_told : (v : Version) (entry : Entry) (past : Past) (k : ℕ) → said_by v (with_told entry past) k ≡ said_by v past k
said_told v entry (Took n es ds ∷ past) k = refl
said_told v entry past k = refl

-- handing a payload on says nothing
pub said_handed : (v : Version) (d : Delivered) (past : Past) (k : ℕ) → said_by v (with_handed d past) k ≡ said_by v past k
said_handed v d (Took n es ds ∷ past) k = refl
said_handed v d past k = refl

-- a packet says what it said after one more is sent
pub said_old : (v : Version) (past : Past) (items : List Item) (k : ℕ) → k ≤ last_sent past → said_by v (after_sending past items) k ≡ said_by v past k
said_old v past items k le = ap (λ (b : Bool). cond b (all_said v past items) (said_by v past k)) (ne_eqb (last_sent past + 1) k (λ q. absurd (omega arith)))

-- ---- a packet that said something was sent

-- a packet that says something was sent
pub said_sent : (end : End) (v : Version) (past : Past) → DeedsFit end past → (s : Said) (k : ℕ) → IsIn s (said_by v past k) → (1 ≤ k) × (k ≤ last_sent past)
said_sent end v [] fit s k h = absurd h
said_sent end v (Ticked t x ∷ past) fit s k h = said_sent end v past fit.1 s k h
said_sent end v (Made c n m i ∷ past) fit s k h = said_sent end v past fit.1 s k h
said_sent end v (Waits m ∷ past) fit s k h = said_sent end v past fit.1 s k h
said_sent end v (Took n es ds ∷ past) fit s k h = said_sent end v past fit.1 s k h
said_sent end v (Ended g ∷ past) fit s k h = said_sent end v past fit.1 s k h
said_sent end v (Sent number t items ∷ past) fit s k h =
    by (number == k) refl h (λ q. said_sent end v past fit.1 s k q)
  where
    top : last_sent (Sent number t items ∷ past) ≡ max number (last_sent past)
    top = greatest_of-cons number (filter_map sent_in past)

    by : (b : Bool) → (number == k) ≡ b → IsIn s (cond b (all_said v past items) (said_by v past k)) → (IsIn s (said_by v past k) → (1 ≤ k) × (k ≤ last_sent past))
        → (1 ≤ k) × (k ≤ last_sent (Sent number t items ∷ past))
    by true e h ih = (let q : number ≡ k = eqb-true number k e in (omega (arith, fit.0.0, q), omega (arith, top, q)))
    by false e h ih = (let r : (1 ≤ k) × (k ≤ last_sent past) = ih h in (r.0, omega (arith, top, r.1)))

-- ---- bunches that were carried

-- a bunch that a packet carried was made, as it was carried, and the packet was sent
pub record CarriedFacts (past : Past) (ch n k : ℕ) (bunch : Bunch) : Type 0 where
  pub low : 1 ≤ n
  pub high : n ≤ made_count past ch
  pub made : newest_of (made_as ch n) past ≡ Some bunch
  pub carrier : (c : ℕ) × (carrier_of past ch n ≡ Some c) × (k ≤ c)

-- a bunch that is carried is found
carried_any : (ch n : ℕ) (b : Bunch) (items : List Item) → IsIn (Carries ch n b) items → list_any (is_carried_as ch n) items ≡ true
carried_any ch n b [] h = absurd h
carried_any ch n b (item ∷ items) (inl e) = or_left (is_carried_as ch n item) (list_any (is_carried_as ch n) items) (ap (is_carried_as ch n) e ∙ and_from (eqb ch ch) (eqb n n) (eq-eqb ch ch refl) (eq-eqb n n refl))
carried_any ch n b (item ∷ items) (inr h) = or_right (is_carried_as ch n item) (list_any (is_carried_as ch n) items) (carried_any ch n b items h)

-- this is so of each bunch that a packet says
pub carried_facts : (end : End) (v : Version) (past : Past) → DeedsFit end past → (ch n k : ℕ) (b : Bunch) → IsIn (SaysItem (Carries ch n b)) (said_by v past k) → CarriedFacts past ch n k b
carried_facts end v [] fit ch n k b h = absurd h
carried_facts end v (Ticked t x ∷ past) fit ch n k b h = (let f : CarriedFacts past ch n k b = carried_facts end v past fit.1 ch n k b h in record { low = f.low; high = f.high; made = f.made; carrier = f.carrier })
carried_facts end v (Waits m ∷ past) fit ch n k b h = (let f : CarriedFacts past ch n k b = carried_facts end v past fit.1 ch n k b h in record { low = f.low; high = f.high; made = f.made; carrier = f.carrier })
carried_facts end v (Took x es ds ∷ past) fit ch n k b h = (let f : CarriedFacts past ch n k b = carried_facts end v past fit.1 ch n k b h in record { low = f.low; high = f.high; made = f.made; carrier = f.carrier })
carried_facts end v (Ended g ∷ past) fit ch n k b h = (let f : CarriedFacts past ch n k b = carried_facts end v past fit.1 ch n k b h in record { low = f.low; high = f.high; made = f.made; carrier = f.carrier })
carried_facts end v (Made c x m i ∷ past) fit ch n k b h =
    let f : CarriedFacts past ch n k b = carried_facts end v past fit.1 ch n k b h in
    record {
      low = f.low;
      high = more f.high;
      made = made_other ch n c x m i past (λ q r. clash f.high q r) ∙ f.made;
      carrier = f.carrier;
    }
  where
    more : n ≤ made_count past ch → n ≤ made_count (Made c x m i ∷ past) ch
    more le = elim (cases_eq c ch) [
      | inl e ↦ subst (λ (y : ℕ). n ≤ made_count (Made y x m i ∷ past) ch) (sym e) (omega (arith, made_count_same ch x m i past))
      | inr e ↦ omega (arith, made_count_other ch c x m i past e)
    ]

    clash : n ≤ made_count past ch → c ≡ ch → x ≡ n → ⊥
    clash le q r = (let s : made_count past c ≡ made_count past ch = ap (made_count past) q in omega (arith, fit.0.0))
carried_facts end v (Sent number t items ∷ past) fit ch n k b h = by (number == k) refl h (λ q. carried_facts end v past fit.1 ch n k b q)
  where
    waits : IsIn (Carries ch n b) items → IsWaiting past ch n b
    waits q = all_at (MaySend end past) (Carries ch n b) items fit.0.2.each q

    again : CarriedFacts past ch n k b → k ≤ last_sent past → (c : Bool) → list_any (is_carried_as ch n) items ≡ c → (c : ℕ) × (carrier_of (Sent number t items ∷ past) ch n ≡ Some c) × (k ≤ c)
    again f le true e = (number, newest_hit (carrier_in ch n) (Sent number t items) past number (ap (λ x. then_some x number) e), omega (arith, fit.0.0))
    again f le false e = (f.carrier.0, newest_miss (carrier_in ch n) (Sent number t items) past (ap (λ x. then_some x number) e) ∙ f.carrier.1, f.carrier.2)

    by : (c : Bool) → (number == k) ≡ c → IsIn (SaysItem (Carries ch n b)) (cond c (all_said v past items) (said_by v past k)) → (IsIn (SaysItem (Carries ch n b)) (said_by v past k) → CarriedFacts past ch n k b)
        → CarriedFacts (Sent number t items ∷ past) ch n k b
    by true e h ih =
        let q : IsIn (Carries ch n b) items = said_item v past items (Carries ch n b) h in
        let w : IsWaiting past ch n b = waits q in
        record {
          low = w.low;
          high = w.high;
          made = w.made;
          carrier = (number, newest_hit (carrier_in ch n) (Sent number t items) past number (ap (λ x. then_some x number) (carried_any ch n b items q)), omega (arith, eqb-true number k e));
        }
    by false e h ih =
        let f : CarriedFacts past ch n k b = ih h in
        record { low = f.low; high = f.high; made = f.made; carrier = again f (said_sent end v past fit.1 (SaysItem (Carries ch n b)) k h).1 (list_any (is_carried_as ch n) items) refl }

-- a bunch that is found is carried
any_carried : (ch n : ℕ) (items : List Item) → list_any (is_carried_as ch n) items ≡ true → (b : Bunch) × IsIn (Carries ch n b) items
any_carried ch n [] h = absurd (false≢true h)
any_carried ch n (Owed x ∷ items) h = (let r = any_carried ch n items h in (r.0, inr r.1))
any_carried ch n (Loose m x ∷ items) h = (let r = any_carried ch n items h in (r.0, inr r.1))
any_carried ch n (Carries c x b ∷ items) h = by (eqb c ch && eqb x n) refl h (λ q. any_carried ch n items q)
  where
    by : (t : Bool) → (eqb c ch && eqb x n) ≡ t → (t || list_any (is_carried_as ch n) items) ≡ true → (list_any (is_carried_as ch n) items ≡ true → (b : Bunch) × IsIn (Carries ch n b) items)
        → (z : Bunch) × IsIn (Carries ch n z) (Carries c x b ∷ items)
    by true e h ih =
        let q : (eqb c ch ≡ true) × (eqb x n ≡ true) = and_parts (eqb c ch) (eqb x n) e in
        (b, inl (ap (λ (y : ℕ). Carries y x b) (eqb-true c ch q.0) ∙ ap (λ (y : ℕ). Carries ch y b) (eqb-true x n q.1)))
    by false e h ih = (let r = ih h in (r.0, inr r.1))

-- the carrier carried it
pub carrier_said : (end : End) (v : Version) (past : Past) → DeedsFit end past → (ch n c : ℕ) → carrier_of past ch n ≡ Some c → (b : Bunch) × IsIn (SaysItem (Carries ch n b)) (said_by v past c)
carrier_said end v [] fit ch n c e = absurd (let no : (let o : Option ℕ = None in o) ≡ Some c = e in cc)
carrier_said end v (Ticked t x ∷ past) fit ch n c e = carrier_said end v past fit.1 ch n c e
carrier_said end v (Made d x m i ∷ past) fit ch n c e = carrier_said end v past fit.1 ch n c e
carrier_said end v (Waits m ∷ past) fit ch n c e = carrier_said end v past fit.1 ch n c e
carrier_said end v (Took x es ds ∷ past) fit ch n c e = carrier_said end v past fit.1 ch n c e
carrier_said end v (Ended g ∷ past) fit ch n c e = carrier_said end v past fit.1 ch n c e
carrier_said end v (Sent number t items ∷ past) fit ch n c e = by (list_any (is_carried_as ch n) items) refl (λ q. carrier_said end v past fit.1 ch n c q)
  where
    by : (x : Bool) → list_any (is_carried_as ch n) items ≡ x → (carrier_of past ch n ≡ Some c → (b : Bunch) × IsIn (SaysItem (Carries ch n b)) (said_by v past c))
        → (b : Bunch) × IsIn (SaysItem (Carries ch n b)) (said_by v (Sent number t items ∷ past) c)
    by true q ih =
        let some : Some number ≡ Some c = sym (newest_hit (carrier_in ch n) (Sent number t items) past number (ap (λ x. then_some x number) q)) ∙ e in
        let same : number ≡ c = cc in
        let r = any_carried ch n items q in
        (r.0, subst (IsIn (SaysItem (Carries ch n r.0))) (sym (ap (λ (x : Bool). cond x (all_said v past items) (said_by v past c)) (eq-eqb number c same))) (item_said v past items (Carries ch n r.0) r.1))
    by false q ih =
        let r = ih (sym (newest_miss (carrier_in ch n) (Sent number t items) past (ap (λ x. then_some x number) q)) ∙ e) in
        let s = said_sent end v past fit.1 (SaysItem (Carries ch n r.0)) c r.1 in
        (r.0, subst (IsIn (SaysItem (Carries ch n r.0))) (sym (ap (λ (x : Bool). cond x (all_said v past items) (said_by v past c)) (ne_eqb number c (λ y. absurd (omega (arith, fit.0.0, s.1)))))) r.1)

-- ---- unreliable bunches

-- an unreliable item has an unreliable bunch
pub loose_unreliable : (end : End) (v : Version) (past : Past) → DeedsFit end past → (m : Message) (b : Bunch) (k : ℕ) → IsIn (SaysItem (Loose m b)) (said_by v past k) → b.reliable ≡ false
loose_unreliable end v [] fit m b k h = absurd h
loose_unreliable end v (Ticked t x ∷ past) fit m b k h = loose_unreliable end v past fit.1 m b k h
loose_unreliable end v (Made d x y i ∷ past) fit m b k h = loose_unreliable end v past fit.1 m b k h
loose_unreliable end v (Waits y ∷ past) fit m b k h = loose_unreliable end v past fit.1 m b k h
loose_unreliable end v (Took x es ds ∷ past) fit m b k h = loose_unreliable end v past fit.1 m b k h
loose_unreliable end v (Ended g ∷ past) fit m b k h = loose_unreliable end v past fit.1 m b k h
loose_unreliable end v (Sent number t items ∷ past) fit m b k h = by (number == k) h (λ q. loose_unreliable end v past fit.1 m b k q)
  where
    by : (c : Bool) → IsIn (SaysItem (Loose m b)) (cond c (all_said v past items) (said_by v past k)) → (IsIn (SaysItem (Loose m b)) (said_by v past k) → b.reliable ≡ false) → b.reliable ≡ false
    by true h ih = (let q = all_at (MaySend end past) (Loose m b) items fit.0.2.each (said_item v past items (Loose m b) h) in ap (λ (x : Bunch). x.reliable) q.1)
    by false h ih = ih h
