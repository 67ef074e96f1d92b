-- How a tick, and each of its packets, begins.
use Rattle.std.proofs.Common.{◌≡◌, ℕ, ◌+◌, ◌%◌, ◌≤◌, List, [], ◌∷◌, ◌++◌, length, Bool, false, Option, Some, None, refl, sym, ap, ◌∙◌, arith, slice_get}
use Rattle.protocol_model.specs.declared.Version.{Version}
use Rattle.protocol_model.specs.declared.Version.TheVariants.{One, Two}
use Rattle.protocol_model.specs.Packet.{Head, start_bits}
use Rattle.connection_model.specs.Feed.{Past}
use Rattle.connection_model.specs.Fates.{last_sent, head_of, owed_of}
use Rattle.ack_book.specs.Book.{Book}
use Rattle.ack_book.specs.Keeps.{Keeps}
use Rattle.packing_laws.proofs.Beginnings.{few_owed}
use Rattle.protocol_laws.proofs.FieldLengths.{power_width}
use Rattle.link_end.specs.Link.{Begun}
use Rattle.link_end.specs.Begun.{with_packet, with_bits, next_start, acks_bits, first_current, first_begun}

-- the start that the book tells is the one after the past
pub start_is : (w v : Version) (past : Past) (number : ℕ) (head : Head) → w ≡ v → number ≡ last_sent past + 1
    → head ≡ head_of v past
    → start_bits w (number % 16384) head ≡ next_start v past
start_is w v past number head a b c =
    ap (λ (w : Version). start_bits w (number % 16384) head) a
    ∙ ap (λ (n : ℕ). start_bits v (n % 16384) head) b
    ∙ ap (start_bits v ((last_sent past + 1) % 16384)) c

-- acknowledgements are owed in version One alone
pub owed_one : (book : Book) (v : Version) (past : Past) (n : ℕ) → Keeps book v past → slice_get book.owed 0 ≡ Some n
    → book.version ≡ One
owed_one book v past n h e = h.version ∙ by v (ap (λ (ns : List ℕ). slice_get ns 0) (sym h.owed) ∙ e)
  where
    by : (v : Version) → slice_get (owed_of v past) 0 ≡ Some n → v ≡ One
    by One q = refl
    by Two q = absurd (let no : (let o : Option ℕ = None in o) ≡ Some n = q in cc)

pub owed_few : (book : Book) (v : Version) (past : Past) → Keeps book v past → length book.owed ≤ 512
owed_few book v past h = omega (arith, ap length h.owed, few_owed v past)

pub start_small : (w : Version) (number : ℕ) (head : Head) → w ≡ One → length (start_bits w number head) ≤ 256
start_small w number head e =
    let one : length (start_bits w number head) ≡ 14 =
    ap (λ (w : Version). length (start_bits w number head)) e ∙ power_width 14 number (omega arith) in
    omega (arith, one)

first_some : (v : Version) (past : Past) (ns : List ℕ) (n : ℕ) → slice_get ns 0 ≡ Some n
    → first_current v past ns ≡ Some (next_start v past ++ acks_bits v ns)
first_some v past [] n e = absurd (let no : (let o : Option ℕ = None in o) ≡ Some n = e in cc)
first_some v past (m ∷ ns) n e = refl

first_none : (v : Version) (past : Past) (ns : List ℕ) → slice_get ns 0 ≡ None → first_current v past ns ≡ None
first_none v past [] e = refl
first_none v past (m ∷ ns) e = absurd (let no : Some m ≡ None = e in cc)

-- where nothing is owed there is no packet
pub first_empty : (v : Version) (past : Past) (packets : Begun) (book : Book) (first : ℕ) → Keeps book v past
    → slice_get book.owed 0 ≡ None
    → first ≡ last_sent past → packets ≡ record { first = first + 1; whole = []; current = None; full = false }
    → packets ≡ first_begun v past
first_empty v past packets book first h none last is =
    is
    ∙ ap (λ (n : ℕ). record { first = n + 1; whole = []; current = None; full = false }) last
    ∙ ap (λ (o : Option (List Bool)). record { first = last_sent past + 1; whole = []; current = o; full = false })
    (sym (first_none v past (owed_of v past) (ap (λ (ns : List ℕ). slice_get ns 0) (sym h.owed) ∙ none)))

-- and where something is, one with all of it
pub first_owed : (v : Version) (past : Past) (packets begun empty : Begun) (book : Book) (first n : ℕ)
    (start : List Bool) → Keeps book v past
    → slice_get book.owed 0 ≡ Some n → first ≡ last_sent past
    → empty ≡ record { first = first + 1; whole = []; current = None; full = false }
    → start ≡ next_start v past → begun ≡ with_packet start empty
    → packets ≡ with_bits (acks_bits One book.owed) begun → packets ≡ first_begun v past
first_owed v past packets begun empty book first n start h some last is starts begins puts =
    let one : v ≡ One = sym h.version ∙ owed_one book v past n h some in
    puts
    ∙ ap (with_bits (acks_bits One book.owed)) (begins ∙ ap (with_packet start) is)
    ∙ ap (λ (m : ℕ). record
    { first = m + 1; whole = []; current = Some (start ++ acks_bits One book.owed); full = false }) last
    ∙ ap (λ (bits : List Bool). record { first = last_sent past + 1; whole = []; current = Some bits; full = false })
    (ap (λ (l : List Bool). l ++ acks_bits One book.owed) starts
    ∙ ap (λ (w : Version). next_start v past ++ acks_bits w book.owed) (sym one)
    ∙ ap (λ (ns : List ℕ). next_start v past ++ acks_bits v ns) h.owed)
    ∙ ap (λ (o : Option (List Bool)). record { first = last_sent past + 1; whole = []; current = o; full = false })
    (sym (first_some v past (owed_of v past) n (ap (λ (ns : List ℕ). slice_get ns 0) (sym h.owed) ∙ some)))
