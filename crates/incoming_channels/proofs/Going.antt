-- A run of bunches goes on.
use Rattle.std.proofs.Common.{◌≡◌, ℕ, suc, ◌+◌, ◌-◌, ◌<◌, List, [], ◌∷◌, ◌++◌, Bool, true, Option, Some, None, is_some, nat_le, if◌then◌else◌, refl, sym, ap, ◌∙◌, subst, arith}
use Rattle.std.specs.List.{AllByRecursion, cons_option}
use Rattle.std.proofs.lemmas.Bool.{false≢true, cond_above}
use Rattle.std.proofs.lemmas.Bool.Decides.{nat_tests}
use Rattle.protocol_model.specs.Packet.{Bunch}
use Rattle.protocol_model.specs.declared.Cause.{Cause}
use Rattle.connection_model.specs.Windows.{Received, next_of, run_of}
use Rattle.connection_laws.proofs.Receiving.{has, next_new}
use Rattle.connection_laws.proofs.Applied.{run_on}
use Rattle.reliable_window.specs.In.{Window, HandsOver, Stands, item_of}
use Rattle.reliable_window.proofs.Received.{among_is}
use Rattle.incoming_channels.specs.Channels.{Parts}
use Rattle.incoming_channels.specs.Keeps.{Joining}
use Rattle.receiving_laws.specs.Receiving.{Raw, Raws, with_raw, raws_of, copied_after}
use Rattle.incoming_channels.specs.Messages.{IsRaw, AreRaws}
use Rattle.incoming_channels.specs.Steps.{IsOn, AreRawsOn, AreReceivedOn, IsStep, with_raws, kept_through, Course, Goes, Ends, run_left}
use Rattle.receiving_laws.specs.Receiving.{copied_through}
use Rattle.incoming_channels.specs.declared.message.Message.{Message}
use Rattle.incoming_channels.specs.declared.parts.Step.TheVariants as step

-- ---- payloads before others

with_whole : (done : List Raw) (r : Raws) → (with_raws done r).whole ≡ done ++ r.whole
with_whole [] r = refl
with_whole (d ∷ done) r = ap (λ (l : List Raw). d ∷ l) (with_whole done r)

with_cause : (done : List Raw) (r : Raws) → (with_raws done r).cause ≡ r.cause
with_cause [] r = refl
with_cause (d ∷ done) r = with_cause done r

with_more : (done : List Raw) (raw : Raw) (r : Raws)
    → with_raws done (with_raw raw r) ≡ with_raws (done ++ raw ∷ []) r
with_more [] raw r = refl
with_more (d ∷ done) raw r = ap (with_raw d) (with_more done raw r)

add_nil : {X : Type 0} (xs : List X) → xs ++ [] ≡ xs
add_nil [] = refl
add_nil (x ∷ xs) = ap (λ (l : _). x ∷ l) (add_nil xs)

told_more : (done : List Raw) (whole : List Message) (raw : Raw) (m : Message) → AreRaws done whole
    → IsRaw raw m → AreRaws (done ++ raw ∷ []) (whole ++ m ∷ [])
told_more [] [] raw m h is = (is, tt)
told_more [] (w ∷ whole) raw m h is = absurd h
told_more (d ∷ done) [] raw m h is = absurd h
told_more (d ∷ done) (w ∷ whole) raw m h is = (h.0, told_more done whole raw m h.1 is)

begun_more : (ch : ℕ) (done : List Raw) (raw : Raw) → AreRawsOn ch done → raw.0.channel ≡ ch
    → AreRawsOn ch (done ++ raw ∷ [])
begun_more ch [] raw h e = (e, tt)
begun_more ch (d ∷ done) raw h e = (h.0, begun_more ch done raw h.1 e)

copied_more : (copied : Bool) (done : List Raw) (raw : Raw)
    → copied_through copied (done ++ raw ∷ []) ≡ copied_after (copied_through copied done) raw.0
copied_more copied [] raw = refl
copied_more copied (d ∷ done) raw = copied_more (copied_after copied d.0) done raw

-- ---- one bunch

-- it breaks a rule
pub goes_broken : (c : Course) (b : Bunch) (rest : List Bunch) (old new : Parts) (whole : List Message)
    (cause : Cause) (g : Goes c (b ∷ rest) old whole)
    → IsStep c.side g.kept b rest old new (step.Broken cause)
    → AreRaws c.all.whole whole × (c.all.cause ≡ Some cause)
goes_broken c b rest old new whole cause g is =
    let all : c.all ≡ with_raws g.done (record { whole = []; cause = Some cause }) = g.left
    ∙ ap (with_raws g.done) is in (
      subst (λ (l : List Raw). AreRaws l whole) (sym (ap (λ (r : Raws). r.whole) all ∙ with_whole g.done
          (record { whole = []; cause = Some cause }) ∙ add_nil g.done)) g.told,
      ap (λ (r : Raws). r.cause) all ∙ with_cause g.done (record { whole = []; cause = Some cause }),
    )

-- it is a part
pub goes_part : (c : Course) (b : Bunch) (rest : List Bunch) (old new : Parts) (whole : List Message)
    → IsOn c.channel b → (g : Goes c (b ∷ rest) old whole)
    → IsStep c.side g.kept b rest old new step.More → Goes c rest new whole
goes_part c b rest old new whole on g is = record {
  kept = b ∷ g.kept;
  done = g.done;
  joins = is.1;
  on = (on, g.on);
  told = g.told;
  begun = g.begun;
  copied = is.2 ∙ g.copied;
  left = g.left ∙ ap (with_raws g.done) is.0;
  last =
      g.last ∙ ap (λ (t : Bool). let l : List Bunch = if t then kept_through [] rest else kept_through
      (b ∷ g.kept) rest in l) is.3;
}

-- it ends a payload
pub goes_whole : (c : Course) (b : Bunch) (rest : List Bunch) (old new : Parts) (whole : List Message)
    (m : Message)
    → IsOn c.channel b → (g : Goes c (b ∷ rest) old whole)
    → IsStep c.side g.kept b rest old new (step.Whole m) → Goes c rest new (whole ++ m ∷ [])
goes_whole c b rest old new whole m on g is =
    let raw : Raw = is.0 in record {
      kept = [];
      done = g.done ++ raw ∷ [];
      joins = is.4;
      on = tt;
      told = told_more g.done whole raw m g.told is.1;
      begun = begun_more c.channel g.done raw g.begun (is.2 ∙ on.channel);
      copied =
          is.5 ∙ ap (λ (k : Bool). copied_after k raw.0) g.copied ∙ sym (copied_more c.copied g.done raw);
      left = g.left ∙ ap (with_raws g.done) is.3 ∙ with_more g.done raw (raws_of c.side new.copied [] rest);
      last =
          g.last ∙ ap (λ (t : Bool). let l : List Bunch = if t then kept_through [] rest else kept_through
          (b ∷ g.kept) rest in l) is.6;
    }

-- ---- a run

-- a number that was received is below the next, where none is missing below
pub below_missing : (got : List Received) (n : ℕ) (b : Bunch) → nat_le n (next_of got) ≡ true
    → item_of got n ≡ Some b → n < next_of got
below_missing got n b low some = (let apart : n ≡ next_of got → ⊥ = other in least (next_of got) low apart)
  where
    there : has got n ≡ true
    there = among_is got n ∙ ap is_some some

    other : n ≡ next_of got → ⊥
    other e = false≢true (sym (next_new got) ∙ ap (has got) (sym e) ∙ there)

    least : (k : ℕ) → nat_le n k ≡ true → (n ≡ k → ⊥) → n < k
    least k le ne = grind (arith, nat_tests)

-- the next bunch of a run is the one that is found
pub run_next : (got : List Received) (n : ℕ) (b : Bunch) → n < next_of got → item_of got n ≡ Some b
    → run_left got n ≡ b ∷ run_left got (n + 1)
run_next got n b low some =
    let count : next_of got - n ≡ suc (next_of got - (n + 1)) = omega arith in
    ap (run_of got n) count
    ∙ ap (λ (o : Option Bunch). cons_option o (run_of got (n + 1) (next_of got - (n + 1)))) some

-- what is ready was received
pub ready_found : (w : Window Bunch) (got : List Received) (b : Bunch) → HandsOver w got
    → item_of w.held w.next ≡ Some b → item_of got w.next ≡ Some b
ready_found w got b h e =
    cond_above w.next w.next None (item_of got w.next) _ (omega arith) refl ∙ sym (h.held w.next) ∙ e

-- so it is of the channel
pub found_is_on : (ch : ℕ) (got : List Received) (n : ℕ) (b : Bunch) → AreReceivedOn ch got → n < next_of got
    → item_of got n ≡ Some b → IsOn ch b
found_is_on ch got n b on low some =
    let all : AllByRecursion (IsOn ch) (b ∷ run_left got (n + 1)) = subst (AllByRecursion (IsOn ch))
    (run_next got n b low some) (run_on (IsOn ch) got n (next_of got - n) on) in all.0

-- the held bunch that is ready is the next of the run
pub held_goes : (c : Course) (got : List Received) (w : Window Bunch) (p : Parts) (whole : List Message)
    (b lent : Bunch)
    → lent ≡ b → AreReceivedOn c.channel got → HandsOver w got
    → Some b ≡ item_of w.held w.next → Goes c (run_left got w.next) p whole
    → Goes c (lent ∷ run_left got (w.next + 1)) p whole × IsOn c.channel lent
held_goes c got w p whole b lent same on h item g =
    let found : item_of got w.next ≡ Some b = ready_found w got b h (sym item) in
    let low : w.next < next_of got = below_missing got w.next b h.next found in (
      subst (λ (l : List Bunch). Goes c l p whole)
          (run_next got w.next b low found ∙ ap (λ (x : Bunch). x ∷ run_left got (w.next + 1)) (sym same)) g,
      subst (IsOn c.channel) (sym same) (found_is_on c.channel got w.next b on low found),
    )

-- nothing is left where none is ready
pub run_done : (w : Window Bunch) (got : List Received) → Stands w got → run_left got w.next ≡ []
run_done w got h =
    (let none : next_of got - w.next ≡ 0 = omega (arith, h.next) in ap (run_of got w.next) none)

-- at its end
pub goes_end : (c : Course) (got : List Received) (w : Window Bunch) (p : Parts) (whole : List Message)
    → Stands w got → Goes c (run_left got w.next) p whole → Ends c got w p whole None
goes_end c got w p whole h g =
    let nothing : run_left got w.next ≡ [] = run_done w got h in
    let all : c.all ≡ with_raws g.done (record { whole = []; cause = None }) = g.left
    ∙ ap (λ (l : List Bunch). with_raws g.done (raws_of c.side p.copied g.kept l)) nothing in
    let done : c.all.whole ≡ g.done = ap (λ (r : Raws). r.whole) all
    ∙ with_whole g.done (record { whole = []; cause = None }) ∙ add_nil g.done in
    let last : c.last ≡ g.kept = g.last ∙ ap (kept_through g.kept) nothing in (
      subst (λ (l : List Raw). AreRaws l whole) (sym done) g.told,
      ap (λ (r : Raws). r.cause) all ∙ with_cause g.done (record { whole = []; cause = None }),
      h,
      record {
        joins = subst (Joining p) (sym last) g.joins;
        begun = subst (AreRawsOn c.channel) (sym done) g.begun;
        copied = g.copied ∙ ap (copied_through c.copied) (sym done);
      },
    )
