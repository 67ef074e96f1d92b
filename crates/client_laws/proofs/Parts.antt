-- Bunches of one channel, and the parts kept of them: what may be said of the payload that they begin.
use Rattle.std.proofs.Common.{◌≡◌, ℕ, ◌==◌, List, [], ◌∷◌, Bool, true, false, cond, not, ◌&&◌, nat_lt, length, Option, Some, None, refl, sym, ap, ◌∙◌}
use Rattle.std.specs.List.{AllByRecursion}
use Rattle.protocol_model.specs.Packet.{Bunch}
use Rattle.protocol_model.specs.declared.Part.{Part}
use Rattle.protocol_model.specs.declared.Part.TheVariants.{Whole, First, Middle, Last, Lone}
use Rattle.protocol_model.specs.declared.PartWhy.{PartWhy}
use Rattle.protocol_model.specs.declared.PartWhy.TheVariants.{Oversize, Flags}
use Rattle.protocol_model.specs.Side.{AtClient}
use Rattle.connection_model.specs.Windows.{part_fault, ends_payload, first_of}
use Rattle.receiving_laws.specs.Receiving.{is_astray}
use Rattle.client_laws.specs.Holding.{IsSound, Begun, MayCome}

-- a bunch of the channel that is sound
pub record IsOf (ch : ℕ) (b : Bunch) : Type 0 where
  pub channel : b.channel ≡ ch
  pub sound : IsSound b

differ : {B : Type 0} → true ≡ false → B
differ e = absurd (cc)

-- ---- a part that goes on doesn't close

no_flag : (x c : Bool) (rest : Option PartWhy) → cond x (Some Oversize) (cond c (Some Flags) rest) ≡ None
    → c ≡ false
no_flag true c rest h = absurd (cc)
no_flag false true rest h = absurd (cc)
no_flag false false rest h = refl

ends_as : Part → Bool
ends_as Whole = true
ends_as First = false
ends_as Middle = false
ends_as Last = true
ends_as Lone = true

part_open : (kept : List Bunch) (b : Bunch) (p : Part) → b.part ≡ p → part_fault kept b b.part ≡ None
    → ends_payload b ≡ false → b.closes ≡ false
part_open kept b Whole e f n = let no : true ≡ false = rw e at n in differ no
part_open kept b First e f n = no_flag (nat_lt 7000 (length b.payload)) b.closes _ (rw e at f)
part_open kept b Middle e f n = no_flag (nat_lt 7000 (length b.payload)) b.closes _ (rw e at f)
part_open kept b Last e f n = let no : true ≡ false = rw e at n in differ no
part_open kept b Lone e f n = let no : true ≡ false = rw e at n in differ no

pub goes_on_open : (kept : List Bunch) (b : Bunch) → part_fault kept b b.part ≡ None → ends_payload b ≡ false
    → b.closes ≡ false
goes_on_open kept b f n = part_open kept b b.part refl f n

-- ---- where a bunch may stand

opens_free : (z o copied later : Bool) → (not z && cond o copied later) ≡ false → z ≡ false → o ≡ true
    → copied ≡ false
opens_free true o copied later h n t = differ n
opens_free false false copied later h n t = differ (sym t)
opens_free false true copied later h n t = h

closes_held : (z o copied kept : Bool) → (not z && cond o copied (not copied && not kept)) ≡ false → z ≡ false
    → o ≡ false → kept ≡ false → copied ≡ true
closes_held true o copied kept h n f k = differ n
closes_held false true copied kept h n f k = differ f
closes_held false false true kept h n f k = refl
closes_held false false false true h n f k = differ k
closes_held false false false false h n f k = differ h

not_control : (b : Bunch) (z : Bool) → (b.channel == 0) ≡ z → IsSound b → b.opens ≡ true → z ≡ false
not_control b false e s o = refl
not_control b true e s o = differ (sym o ∙ (s.control e).0)

not_control_closing : (b : Bunch) (z : Bool) → (b.channel == 0) ≡ z → IsSound b → b.closes ≡ true → z ≡ false
not_control_closing b false e s c = refl
not_control_closing b true e s c = differ (sym c ∙ (s.control e).1)

-- an opening bunch that isn't astray stands on a free channel
pub opens_where_free : (copied : Bool) (kept : List Bunch) (b : Bunch) → IsSound b
    → is_astray AtClient copied kept b ≡ false → b.opens ≡ true → copied ≡ false
opens_where_free copied kept b s h o =
    opens_free (b.channel == 0) b.opens copied _ h (not_control b (b.channel == 0) refl s o) o

no_open : (b : Bunch) (o : Bool) → b.opens ≡ o → IsSound b → b.closes ≡ true → o ≡ false
no_open b false e s c = refl
no_open b true e s c = differ (sym c ∙ s.one e)

no_kept : (r : Bool) → (r && nat_lt 0 (length (let l : List Bunch = [] in l))) ≡ false
no_kept true = refl
no_kept false = refl

-- the parts that a bunch joins
abbrev pub joining : List Bunch → Bunch → List Bunch
joining kept b = cond b.reliable kept []

-- a closing bunch that joins nothing stands on a channel that a copy holds
closes_where_held : (copied : Bool) (kept : List Bunch) (b : Bunch) (r : Bool) → b.reliable ≡ r → IsSound b
    → is_astray AtClient copied kept b ≡ false → cond r kept [] ≡ [] → b.closes ≡ true → copied ≡ true
closes_where_held copied kept b true e s h j c =
    closes_held (b.channel == 0) b.opens copied (b.reliable && nat_lt 0 (length kept)) h
    (not_control_closing b (b.channel == 0) refl s c) (no_open b b.opens refl s c)
    (ap (λ (l : List Bunch). b.reliable && nat_lt 0 (length l)) j ∙ no_kept b.reliable)
closes_where_held copied kept b false e s h j c =
    closes_held (b.channel == 0) b.opens copied (b.reliable && nat_lt 0 (length kept)) h
    (not_control_closing b (b.channel == 0) refl s c) (no_open b b.opens refl s c)
    (ap (λ (t : Bool). t && nat_lt 0 (length kept)) e)

-- ---- the first of a payload

first_is_of : (ch : ℕ) (kept : List Bunch) (b : Bunch) → AllByRecursion (IsOf ch) kept → IsOf ch b
    → IsOf ch (first_of kept b)
first_is_of ch [] b k h = h
first_is_of ch (x ∷ kept) b k h = first_is_of ch kept x k.1 k.0

joined_of : (ch : ℕ) (kept : List Bunch) (r : Bool) → AllByRecursion (IsOf ch) kept
    → AllByRecursion (IsOf ch) (cond r kept [])
joined_of ch kept true k = k
joined_of ch kept false k = tt

-- a payload whose last bunch isn't astray may come
first_may : (ch : ℕ) (copied : Bool) (kept joined : List Bunch) (b : Bunch) → joining kept b ≡ joined
    → AllByRecursion (IsOf ch) joined → IsOf ch b → Begun copied joined
    → is_astray AtClient copied kept b ≡ false
    → MayCome ch copied (first_of joined b)
first_may ch copied kept [] b e k h begun astray = record {
  channel = h.channel;
  sound = h.sound;
  opens = λ o. opens_where_free copied kept b h.sound astray o;
  closes = λ c. closes_where_held copied kept b b.reliable refl h.sound astray e c;
}
first_may ch copied kept (x ∷ joined) b e k h begun astray =
    let of = first_is_of ch joined x k.1 k.0 in
    record {
      channel = of.channel;
      sound = of.sound;
      opens = begun.opens;
      closes = λ c. differ (sym c ∙ begun.closes);
    }

joined_begun : (copied : Bool) (kept : List Bunch) (r : Bool) → Begun copied kept
    → Begun copied (cond r kept [])
joined_begun copied kept true h = h
joined_begun copied kept false h = record { opens = λ e. differ (sym e); closes = refl }

pub may_come : (ch : ℕ) (copied : Bool) (kept : List Bunch) (b : Bunch) → AllByRecursion (IsOf ch) kept
    → IsOf ch b → Begun copied kept → is_astray AtClient copied kept b ≡ false
    → MayCome ch copied (first_of (joining kept b) b)
may_come ch copied kept b k h begun astray =
    first_may ch copied kept (joining kept b) b refl (joined_of ch kept b.reliable k) h
    (joined_begun copied kept b.reliable begun) astray

-- nothing is kept behind a whole payload
pub none_begun : (copied : Bool) → Begun copied []
none_begun copied = record { opens = λ e. differ (sym e); closes = refl }

-- a part that isn't astray begins a payload that may go on, or goes on with one
pub more_begun : (copied : Bool) (kept : List Bunch) (b : Bunch) → IsSound b → Begun copied kept
    → is_astray AtClient copied kept b ≡ false → b.closes ≡ false → Begun copied (b ∷ kept)
more_begun copied [] b s begun astray c = record { opens = λ o. opens_where_free copied [] b s astray o; closes = c }
more_begun copied (x ∷ kept) b s begun astray c = record { opens = begun.opens; closes = begun.closes }
