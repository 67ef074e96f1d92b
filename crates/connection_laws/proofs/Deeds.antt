-- Each deed of a run fits those before it.
use Rattle.std.proofs.Common.{◌≡◌, ℕ, suc, ◌+◌, ◌-◌, ◌<◌, [], ◌∷◌, ◌++◌, false, refl, ◌∙◌, arith}
use Rattle.protocol_model.specs.Payload.{Message, parts_of}
use Rattle.connection_model.specs.Feed.{End, Past, Deed, Made, has_ended}
use Rattle.connection_model.specs.Bunches.{made_count, after_making}
use Rattle.connection_laws.specs.Run.{Move, Ticks, Makes, Defers, Sends, Takes, Hears, Hands, Ends, after_move, May, IsRun}
use Rattle.connection_laws.specs.Run.IsRun.{start, does}
use Rattle.connection_laws.specs.Deeds.{EachDeed, FollowsPart, DeedsFit}
use Rattle.connection_laws.proofs.Moves.{making_keeps, told_keeps, handed_keeps}
use Rattle.connection_laws.proofs.Counts.{made_count_next}

-- what holds at first and goes on with each move holds of each run
pub always : (end : End) (P : Past → Type 0) → P []
    → ((past : Past) (move : Move) → IsRun end past → has_ended past ≡ false → May end past move → P past → P (after_move past move))
    → (past : Past) → IsRun end past → P past
always end P h step past start = h
always end P h step past (does {past = before} move run alive may) =
    step before move run alive may (always end P h step before run)

-- what holds of each deed holds of one in the midst
pub each_at : (P : Past → Deed → Type 0) (later : Past) (deed : Deed) (earlier : Past) → EachDeed P (later ++ deed ∷ earlier) → P earlier deed
each_at P [] deed earlier h = h.0
each_at P (d ∷ later) deed earlier h = each_at P later deed earlier h.1

-- ---- a message, part by part

-- a past with some parts of a message fits
abbrev IsMadeUpTo : End → Past → ℕ → Message → ℕ → Past → Type 0
IsMadeUpTo end past ch m i before =
    DeedsFit end before × (made_count before ch ≡ made_count past ch + i) × FollowsPart before ch (made_count past ch + 1 + i) m i

-- a part follows the one before it
part_follows : (past : Past) (ch : ℕ) (m : Message) (i : ℕ) (before : Past) → FollowsPart (Made ch (made_count past ch + 1 + i) m i ∷ before) ch (made_count past ch + 1 + suc i) m (suc i)
part_follows past ch m i before =
    let e : made_count past ch + 1 + suc i - 1 ≡ made_count past ch + 1 + i = omega arith in
    (before, rw e refl)

-- one more part fits
one_more : (end : End) (past : Past) (ch : ℕ) (m : Message) (i : ℕ) (before : Past) → i < parts_of m → IsMadeUpTo end past ch m i before
    → IsMadeUpTo end past ch m (suc i) (Made ch (made_count past ch + 1 + i) m i ∷ before)
one_more end past ch m i before lt h =
    let n : made_count past ch + 1 + i ≡ made_count before ch + 1 = omega (arith, h.1) in (
      ((n, lt, h.2), h.0),
      made_count_next ch (made_count past ch + 1 + i) m i before n ∙ omega arith,
      part_follows past ch m i before,
    )

-- the parts of a message fit those before them
pub making_fits : (end : End) (past : Past) (ch : ℕ) (m : Message) → DeedsFit end past → DeedsFit end (after_making past ch m)
making_fits end past ch m h =
    (making_keeps (IsMadeUpTo end past ch m) past ch m (h, omega arith, tt) (λ i before lt p. one_more end past ch m i before lt p)).0

-- ---- a run

-- each move fits what was before
fits_step : (end : End) (past : Past) (move : Move) → IsRun end past → has_ended past ≡ false → May end past move → DeedsFit end past → DeedsFit end (after_move past move)
fits_step end past (Ticks sight) run alive may h = (refl, h)
fits_step end past (Makes ch m) run alive may h = making_fits end past ch m h
fits_step end past (Defers m) run alive may h = (may, h)
fits_step end past (Sends items) run alive may h = ((refl, refl, may), h)
fits_step end past (Takes n) run alive may h = (may, h)
fits_step end past (Hears entry) run alive may h = told_keeps (DeedsFit end) entry past h (λ n es ds before f. (f.0, f.1))
fits_step end past (Hands d) run alive may h = handed_keeps (DeedsFit end) d past h (λ n es ds before f. (f.0, f.1))
fits_step end past (Ends ending) run alive may h = (tt, h)

-- each deed of a run fits those before it
pub deeds_fit : (end : End) (past : Past) → IsRun end past → DeedsFit end past
deeds_fit end past run = always end (DeedsFit end) tt (fits_step end) past run
