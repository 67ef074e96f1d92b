-- A packet that is under way carries one more bunch.
use Rattle.std.proofs.Common.{◌≡◌, inl, inr, ℕ, ◌+◌, ◌<◌, ◌≤◌, ◌==◌, List, [], ◌∷◌, ◌++◌, Bool, true, false, ◌&&◌, ◌||◌, refl, sym, ap, ◌∙◌, arith, Option, Some, None}
use Rattle.std.specs.Bool.{then_some}
use Rattle.std.specs.List.{list_any, filter_map, slice_get, cons_option}
use Rattle.std.proofs.lemmas.List.Folds.{list_any-append}
use Rattle.std.proofs.lemmas.Bool.{cases_eq, eq-eqb, ne_eqb}
use Rattle.protocol_model.specs.Packet.{Bunch}
use Rattle.connection_model.specs.Feed.{Past, Sent, Item, Carries}
use Rattle.connection_model.specs.Fates.{sent_in}
use Rattle.connection_model.specs.Bunches.{made_count, carrier_of, carrier_in, is_carried_as}
use Rattle.connection_laws.specs.Fates.{CarriesMade}
use Rattle.channel_laws.specs.Alike.{Alike}
use Rattle.channel_laws.specs.Sendings.{sent_with}
use Rattle.protocol_laws.proofs.Greatest.{greatest_of-cons}

or_false : (b : Bool) → (b || false) ≡ b
or_false true = refl
or_false false = refl

or_true : (b : Bool) → (b || true) ≡ true
or_true true = refl
or_true false = refl

any_more : (ch n : ℕ) (items : List Item) (item : Item)
    → list_any (is_carried_as ch n) (items ++ item ∷ []) ≡ (list_any (is_carried_as ch n) items || (is_carried_as ch n item || false))
any_more ch n items item = list_any-append (is_carried_as ch n) items (item ∷ [])

-- an item that isn't the bunch changes nothing of it
any_other : (ch n : ℕ) (items : List Item) (item : Item) → is_carried_as ch n item ≡ false
    → list_any (is_carried_as ch n) (items ++ item ∷ []) ≡ list_any (is_carried_as ch n) items
any_other ch n items item e =
    any_more ch n items item ∙ ap (λ b. list_any (is_carried_as ch n) items || (b || false)) e
    ∙ or_false (list_any (is_carried_as ch n) items)

any_this : (ch n : ℕ) (items : List Item) (item : Item) → is_carried_as ch n item ≡ true
    → list_any (is_carried_as ch n) (items ++ item ∷ []) ≡ true
any_this ch n items item e =
    any_more ch n items item ∙ ap (λ b. list_any (is_carried_as ch n) items || (b || false)) e
    ∙ or_true (list_any (is_carried_as ch n) items)

carrier_with : (packet t : ℕ) (items : List Item) (item : Item) (past : Past) (ch n : ℕ)
    → is_carried_as ch n item ≡ false
    → carrier_of (sent_with packet t items item past) ch n ≡ carrier_of (Sent packet t items ∷ past) ch n
carrier_with packet t items item past ch n e =
    ap (λ b. slice_get (cons_option (then_some b packet) (filter_map (carrier_in ch n) past)) 0) (any_other ch n items item e)

-- the packet is now its carrier
pub carrier_here : (packet t : ℕ) (items : List Item) (past : Past) (ch n : ℕ) (b : Bunch)
    → carrier_of (sent_with packet t items (Carries ch n b) past) ch n ≡ Some packet
carrier_here packet t items past ch n b =
    ap (λ b. slice_get (cons_option (then_some b packet) (filter_map (carrier_in ch n) past)) 0)
    (any_this ch n items (Carries ch n b) (ap (λ b. b && n == n) (eq-eqb ch ch refl) ∙ eq-eqb n n refl))

-- the carriers of others stay
pub carrier_number : (packet t : ℕ) (items : List Item) (past : Past) (ch n k : ℕ) (b : Bunch) → (n ≡ k → ⊥)
    → carrier_of (sent_with packet t items (Carries ch n b) past) ch k ≡ carrier_of (Sent packet t items ∷ past) ch k
carrier_number packet t items past ch n k b ne =
    carrier_with packet t items (Carries ch n b) past ch k (ap (λ x. ch == ch && x) (ne_eqb n k ne) ∙ no (ch == ch))
  where
    no : (x : Bool) → (x && false) ≡ false
    no true = refl
    no false = refl

pub carrier_channel : (packet t : ℕ) (items : List Item) (past : Past) (ch n c k : ℕ) (b : Bunch) → (ch ≡ c → ⊥)
    → carrier_of (sent_with packet t items (Carries ch n b) past) c k ≡ carrier_of (Sent packet t items ∷ past) c k
carrier_channel packet t items past ch n c k b ne =
    carrier_with packet t items (Carries ch n b) past c k (ap (λ x. x && n == k) (ne_eqb ch c ne))

-- a bunch that was made is carried
pub carries_more : (packet t : ℕ) (items : List Item) (past : Past) (ch n : ℕ) (b : Bunch)
    → CarriesMade (Sent packet t items ∷ past) → 1 ≤ n → n ≤ made_count past ch → 1 ≤ packet
    → CarriesMade (sent_with packet t items (Carries ch n b) past)
carries_more packet t items past ch n b h lo hi some = λ c k p e. elim (cases_eq ch c) [
  | inr ne ↦ h c k p (sym (carrier_channel packet t items past ch n c k b ne) ∙ e)
  | inl q ↦ elim (cases_eq n k) [
    | inr ne ↦ h c k p (sym (Rattle.std.proofs.Common.subst (λ (x : ℕ). carrier_of (sent_with packet t items (Carries ch n b) past) x k ≡ carrier_of (Sent packet t items ∷ past) x k) q (carrier_number packet t items past ch n k b ne)) ∙ e)
    | inl r ↦ (
        let same : Some packet ≡ Some p = sym (carrier_here packet t items past ch n b) ∙ ap (λ x. carrier_of (sent_with packet t items (Carries ch n b) past) x n) q ∙ ap (carrier_of (sent_with packet t items (Carries ch n b) past) c) r ∙ e in
        let is : packet ≡ p = cc in
        let top : made_count past c ≡ made_count past ch = ap (made_count past) (sym q) in
        (omega arith, omega arith, omega arith, omega (arith, greatest_of-cons packet (filter_map sent_in past))))
  ]
]

-- an item that is no bunch made, in a packet under way
pub alike_with : (packet t : ℕ) (items : List Item) (item : Item) (past : Past)
    → ((ch n : ℕ) → is_carried_as ch n item ≡ false)
    → Alike (Sent packet t items ∷ past) (sent_with packet t items item past)
alike_with packet t items item past none = record {
  made = record {
    count = λ ch. refl;
    made = λ ch n. refl;
    channels = refl;
    carriers = λ ch n. carrier_with packet t items item past ch n (none ch n);
    last = omega arith;
  };
  moved = refl;
}
