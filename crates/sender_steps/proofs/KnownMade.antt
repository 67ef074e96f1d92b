-- What is known of every later past with the same bunches made, whatever was sent.
use Rattle.std.proofs.Common.{◌≡◌, ◌∙◌, ℕ, List, [], ◌∷◌, ◌++◌, Bool, false, ◌&&◌, ◌||◌, slice_index_or, refl, ap, sym}
use Rattle.std.specs.List.{list_any, filter_map, cons_option, slice_get}
use Rattle.protocol_model.specs.Search.{is_among}
use Rattle.connection_model.specs.Feed.{Past, Ticked, Made, Waits, Sent, Took, Ended, Entry}
use Rattle.connection_model.specs.Fates.{entries_of, moved_by}
use Rattle.connection_model.specs.Bunches.{carrier_in}
use Rattle.connection_model.specs.Exports.{made_known}
use Rattle.connection_laws.proofs.ActorMarks.{Grows, SameArrivals}
use Rattle.connection_laws.proofs.Arrivals.{arrival_same}
use Rattle.sender_laws.specs.Acts.{acts}
use Rattle.sender_laws.proofs.Views.{have_alike, known_in}
use Rattle.sender_steps.specs.declared.sent.OpenSent.{OpenSent}
use Rattle.sender_steps.specs.Stands.{KnowsMade, makes, makes_known, is_known_by}

-- ---- only what was made makes known

makes_acts : (past : Past) → makes (acts past) ≡ makes past
makes_acts [] = refl
makes_acts (Ticked t s ∷ past) = makes_acts past
makes_acts (Made c n m i ∷ past) = ap (λ (deeds : Past). Made c n m i ∷ deeds) (makes_acts past)
makes_acts (Sent n t items ∷ past) = makes_acts past
makes_acts (Waits m ∷ past) = makes_acts past
makes_acts (Took n es ds ∷ past) = makes_acts past
makes_acts (Ended e ∷ past) = makes_acts past

known_own : (whole past : Past) (g : ℕ) → list_any (made_known whole g) (makes past) ≡ list_any
    (made_known whole g) past
known_own whole [] g = refl
known_own whole (Ticked t s ∷ past) g = known_own whole past g
known_own whole (Made c n m i ∷ past) g =
    ap (λ (b : Bool). made_known whole g (Made c n m i) || b) (known_own whole past g)
known_own whole (Sent n t items ∷ past) g = known_own whole past g
known_own whole (Waits m ∷ past) g = known_own whole past g
known_own whole (Took n es ds ∷ past) g = known_own whole past g
known_own whole (Ended e ∷ past) g = known_own whole past g

pub known_makes : (one other : Past) → makes one ≡ makes other → (whole : Past) (g : ℕ)
    → list_any (made_known whole g) one ≡ list_any (made_known whole g) other
known_makes one other e whole g =
    sym (known_own whole one g) ∙ ap (list_any (made_known whole g)) e ∙ known_own whole other g

-- ---- the bunches made in one list, with all else of another

abbrev together : (base later : Past) → Past
together base [] = makes base
together base (Ticked t s ∷ later) = together base later
together base (Made c n m i ∷ later) = together base later
together base (Sent n t items ∷ later) = Sent n t items ∷ together base later
together base (Waits m ∷ later) = together base later
together base (Took n es ds ∷ later) = Took n es ds ∷ together base later
together base (Ended e ∷ later) = together base later

makes_again : (past : Past) → makes (makes past) ≡ makes past
makes_again [] = refl
makes_again (Ticked t s ∷ past) = makes_again past
makes_again (Made c n m i ∷ past) = ap (λ (deeds : Past). Made c n m i ∷ deeds) (makes_again past)
makes_again (Sent n t items ∷ past) = makes_again past
makes_again (Waits m ∷ past) = makes_again past
makes_again (Took n es ds ∷ past) = makes_again past
makes_again (Ended e ∷ past) = makes_again past

makes_together : (base later : Past) → makes (together base later) ≡ makes base
makes_together base [] = makes_again base
makes_together base (Ticked t s ∷ later) = makes_together base later
makes_together base (Made c n m i ∷ later) = makes_together base later
makes_together base (Sent n t items ∷ later) = makes_together base later
makes_together base (Waits m ∷ later) = makes_together base later
makes_together base (Took n es ds ∷ later) = makes_together base later
makes_together base (Ended e ∷ later) = makes_together base later

no_entries : (past : Past) → entries_of (makes past) ≡ []
no_entries [] = refl
no_entries (Ticked t s ∷ past) = no_entries past
no_entries (Made c n m i ∷ past) = no_entries past
no_entries (Sent n t items ∷ past) = no_entries past
no_entries (Waits m ∷ past) = no_entries past
no_entries (Took n es ds ∷ past) = no_entries past
no_entries (Ended e ∷ past) = no_entries past

entries_together : (base later : Past) → entries_of (together base later) ≡ entries_of later
entries_together base [] = no_entries base
entries_together base (Ticked t s ∷ later) = entries_together base later
entries_together base (Made c n m i ∷ later) = entries_together base later
entries_together base (Sent n t items ∷ later) = entries_together base later
entries_together base (Waits m ∷ later) = entries_together base later
entries_together base (Took n es ds ∷ later) =
    ap (λ (entries : List Entry). es ++ entries) (entries_together base later)
entries_together base (Ended e ∷ later) = entries_together base later

no_carriers : (ch k : ℕ) (past : Past) → filter_map (carrier_in ch k) (makes past) ≡ []
no_carriers ch k [] = refl
no_carriers ch k (Ticked t s ∷ past) = no_carriers ch k past
no_carriers ch k (Made c n m i ∷ past) = no_carriers ch k past
no_carriers ch k (Sent n t items ∷ past) = no_carriers ch k past
no_carriers ch k (Waits m ∷ past) = no_carriers ch k past
no_carriers ch k (Took n es ds ∷ past) = no_carriers ch k past
no_carriers ch k (Ended e ∷ past) = no_carriers ch k past

carriers_together : (ch k : ℕ) (base later : Past)
    → filter_map (carrier_in ch k) (together base later) ≡ filter_map (carrier_in ch k) later
carriers_together ch k base [] = no_carriers ch k base
carriers_together ch k base (Ticked t s ∷ later) = carriers_together ch k base later
carriers_together ch k base (Made c n m i ∷ later) = carriers_together ch k base later
carriers_together ch k base (Sent n t items ∷ later) =
    ap (λ (ks : List ℕ). cons_option (carrier_in ch k (Sent n t items)) ks) (carriers_together ch k base later)
carriers_together ch k base (Waits m ∷ later) = carriers_together ch k base later
carriers_together ch k base (Took n es ds ∷ later) = carriers_together ch k base later
carriers_together ch k base (Ended e ∷ later) = carriers_together ch k base later

same_together : (base later : Past) → SameArrivals later (together base later)
same_together base later ch n =
    arrival_same later (together base later) ch n
    (ap (λ (ks : List ℕ). slice_get ks 0) (carriers_together ch n base later))
    (ap moved_by (entries_together base later))

-- ---- what is kept of them

pub opens_like : (one other : Past) → SameArrivals one other → (g : ℕ) (opens : List OpenSent)
    → list_any (makes_known other g) opens ≡ list_any (makes_known one g) opens
opens_like one other same g [] = refl
opens_like one other same g (o ∷ opens) =
    ap (λ (b : Bool). (is_among g o.guids && b) || list_any (makes_known other g) opens)
    (have_alike one other same o.channel 1 o.last)
    ∙ ap (λ (b : Bool). makes_known one g o || b) (opens_like one other same g opens)

-- the bunches of a past make known what is kept of them, by what has arrived in one that goes on from it with others
pub known_before : (past later : Past) (known : List Bool) (opens : List OpenSent) → Grows past later
    → KnowsMade past known opens
    → (g : ℕ) → list_any (made_known later g) past ≡ is_known_by later known opens g
known_before past later known opens grows knows g =
    let other : Past = together past later in
    let same : SameArrivals later other = same_together past later in
    sym (known_in later other same g past)
    ∙ known_makes past other (sym (makes_together past later)) other g
    ∙ knows other (makes_together past later) (λ c n e. same c n ∙ grows c n e) g
    ∙ ap (λ (b : Bool). slice_index_or known g false || b) (opens_like later other same g opens)

-- so it is known of a past in which more has arrived, and the bunches that were made more make no segment known
pub known_next : (past next : Past) (known : List Bool) (opens : List OpenSent)
    → ((whole : Past) (g : ℕ) → list_any (made_known whole g) next ≡ list_any (made_known whole g) past)
    → Grows past next → KnowsMade past known opens → KnowsMade next known opens
known_next past next known opens segments arrived knows later made grows g =
    known_makes later next made later g
    ∙ segments later g
    ∙ known_before past later known opens (λ c n e. grows c n (arrived c n e)) knows g

-- and of one in which the same bunches were made
pub known_sent : (past next : Past) (known : List Bool) (opens : List OpenSent) → makes next ≡ makes past
    → Grows past next → KnowsMade past known opens → KnowsMade next known opens
known_sent past next known opens same arrived knows later made grows g =
    knows later (made ∙ same) (λ ch n e. grows ch n (arrived ch n e)) g

-- where the same was done, the same bunches were made
pub makes_done : (past later : Past) → acts later ≡ acts past → makes later ≡ makes past
makes_done past later done = sym (makes_acts later) ∙ ap makes done ∙ makes_acts past
