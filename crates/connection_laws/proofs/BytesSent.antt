-- The bytes of each packet that was sent.
use Rattle.std.proofs.Common.{◌≡◌, inl, inr, ℕ, zero, suc, ◌+◌, ◌<◌, ◌≤◌, max, List, [], ◌∷◌, ◌++◌, length, Bool, cond, refl, sym, ap, ◌∙◌, arith, Option, Some, None, slice_get}
use Rattle.std.specs.List.{filter_map}
use Rattle.std.proofs.lemmas.Bool.{cases_eq, cases_lt, eq-eqb, ne_eqb}
use Rattle.std.proofs.lemmas.List.{length-append}
use Rattle.protocol_model.specs.Packet.{Packet, spelling_of}
use Rattle.connection_model.specs.Feed.{End, Past, Ticked, Made, Waits, Sent, Took, Ended}
use Rattle.connection_model.specs.Fates.{last_sent, sent_in}
use Rattle.connection_model.specs.Past.{sent_bytes}
use Rattle.connection_model.specs.Pack.{packet_carrying}
use Rattle.connection_laws.specs.Deeds.{DeedsFit}
use Rattle.connection_laws.specs.Talk.{packet_at}
use Rattle.protocol_laws.proofs.Greatest.{greatest_of-cons}

-- as many packets were sent as the last one's number says
pub sent_count : (end : End) (past : Past) → DeedsFit end past → length (sent_bytes end past) ≡ last_sent past
sent_count end [] fit = refl
sent_count end (Ticked t s ∷ past) fit = sent_count end past fit.1
sent_count end (Made c n m i ∷ past) fit = sent_count end past fit.1
sent_count end (Waits m ∷ past) fit = sent_count end past fit.1
sent_count end (Took n es ds ∷ past) fit = sent_count end past fit.1
sent_count end (Ended g ∷ past) fit = sent_count end past fit.1
sent_count end (Sent number t items ∷ past) fit =
    omega (arith, length-append (sent_bytes end past) (spelling_of end.version (packet_carrying end past number items) ∷ []), sent_count end past fit.1, fit.0.0, greatest_of-cons number (filter_map sent_in past))

-- an item of the first list is in both
get_first : {A : Type 0} (xs ys : List A) (j : ℕ) → j < length xs → slice_get (xs ++ ys) j ≡ slice_get xs j
get_first [] ys j h = absurd (omega arith)
get_first (x ∷ xs) ys zero h = refl
get_first (x ∷ xs) ys (suc j) h = get_first xs ys j (omega arith)

-- the next item comes after the first list
get_after : {A : Type 0} (xs : List A) (y : A) (j : ℕ) → j ≡ length xs → slice_get (xs ++ y ∷ []) j ≡ Some y
get_after [] y j h = rw h refl
get_after (x ∷ xs) y zero h = absurd (omega arith)
get_after (x ∷ xs) y (suc j) h = get_after xs y j (omega arith)

-- nothing is behind a list
get_past : {A : Type 0} (xs : List A) (j : ℕ) → length xs ≤ j → slice_get xs j ≡ None
get_past [] j h = refl
get_past (x ∷ xs) zero h = absurd (omega arith)
get_past (x ∷ xs) (suc j) h = get_past xs j (omega arith)

-- the bytes at a place are those of the packet of that number
pub record BytesOf (end : End) (past : Past) (k : ℕ) (bytes : List ℕ) : Type 0 where
  pub last : k ≤ last_sent past
  pub packet : Packet
  pub sent : packet_at end past k ≡ Some packet
  pub spelled : bytes ≡ spelling_of end.version packet

-- the bytes of a packet stay its bytes
same_bytes : (end : End) (past later : Past) (k : ℕ) (bytes : List ℕ) → last_sent later ≡ last_sent past → packet_at end later k ≡ packet_at end past k → BytesOf end past k bytes → BytesOf end later k bytes
same_bytes end past later k bytes l s b = record { last = omega (arith, b.last, l); packet = b.packet; sent = s ∙ b.sent; spelled = b.spelled }

-- the j-th datagram sent is packet j + 1
pub bytes_of_sent : (end : End) (past : Past) → DeedsFit end past → (j : ℕ) (bytes : List ℕ) → slice_get (sent_bytes end past) j ≡ Some bytes → BytesOf end past (j + 1) bytes
bytes_of_sent end [] fit j bytes h = absurd (let never : (let o : Option (List ℕ) = None in o) ≡ Some bytes = h in cc)
bytes_of_sent end (Ticked t s ∷ past) fit j bytes h = same_bytes end past (Ticked t s ∷ past) (j + 1) bytes refl refl (bytes_of_sent end past fit.1 j bytes h)
bytes_of_sent end (Made c n m i ∷ past) fit j bytes h = same_bytes end past (Made c n m i ∷ past) (j + 1) bytes refl refl (bytes_of_sent end past fit.1 j bytes h)
bytes_of_sent end (Waits m ∷ past) fit j bytes h = same_bytes end past (Waits m ∷ past) (j + 1) bytes refl refl (bytes_of_sent end past fit.1 j bytes h)
bytes_of_sent end (Took n es ds ∷ past) fit j bytes h = same_bytes end past (Took n es ds ∷ past) (j + 1) bytes refl refl (bytes_of_sent end past fit.1 j bytes h)
bytes_of_sent end (Ended g ∷ past) fit j bytes h = same_bytes end past (Ended g ∷ past) (j + 1) bytes refl refl (bytes_of_sent end past fit.1 j bytes h)
bytes_of_sent end (Sent number t items ∷ past) fit j bytes h =
    let count : length (sent_bytes end past) ≡ last_sent past = sent_count end past fit.1 in
    elim (cases_lt j (length (sent_bytes end past))) [
      | inl lt ↦ earlier lt (bytes_of_sent end past fit.1 j bytes (sym (get_first (sent_bytes end past) (mine ∷ []) j lt) ∙ h))
      | inr ge ↦ elim (cases_eq j (length (sent_bytes end past))) [
        | inl e ↦ now e (sym (get_after (sent_bytes end past) mine j e) ∙ h)
        | inr ne ↦ absurd (never (sym (get_past (sent_bytes end past ++ mine ∷ []) j (omega (arith, length-append (sent_bytes end past) (mine ∷ []), ge, ne))) ∙ h))
      ]
    ]
  where
    mine : List ℕ
    mine = spelling_of end.version (packet_carrying end past number items)

    never : (let o : Option (List ℕ) = None in o) ≡ Some bytes → ⊥
    never q = cc

    top : last_sent (Sent number t items ∷ past) ≡ max number (last_sent past)
    top = greatest_of-cons number (filter_map sent_in past)

    earlier : j < length (sent_bytes end past) → BytesOf end past (j + 1) bytes → BytesOf end (Sent number t items ∷ past) (j + 1) bytes
    earlier lt b = record {
      last = omega (arith, b.last, top);
      packet = b.packet;
      sent = ap (λ (x : Bool). cond x (Some (packet_carrying end past number items)) (packet_at end past (j + 1))) (ne_eqb number (j + 1) (λ q. absurd (omega (arith, lt, sent_count end past fit.1, fit.0.0)))) ∙ b.sent;
      spelled = b.spelled;
    }

    now : j ≡ length (sent_bytes end past) → Some (spelling_of end.version (packet_carrying end past number items)) ≡ Some bytes → BytesOf end (Sent number t items ∷ past) (j + 1) bytes
    now e q =
        let k : number ≡ j + 1 = omega (arith, e, sent_count end past fit.1, fit.0.0) in
        record {
          last = omega (arith, k, top);
          packet = packet_carrying end past number items;
          sent = ap (λ (x : Bool). cond x (Some (packet_carrying end past number items)) (packet_at end past (j + 1))) (eq-eqb number (j + 1) k);
          spelled = same q;
        }
      where
        same : Some (spelling_of end.version (packet_carrying end past number items)) ≡ Some bytes → bytes ≡ spelling_of end.version (packet_carrying end past number items)
        same q = cc
